-- The invariant: once every slot that waits has its words, the run holds the events that start before group g; past the last group no slot
-- waits. The measure is what is left of the groups. Assumes nothing.
use Prim.Native.Nat.{◌+◌, ◌-◌, ◌/◌, ◌≤◌}
use Rattle.list.specs.Listing.{group_start}
use Rattle.list.proofs.Writing.{Writing}
use Rattle.list.proofs.write_events.Given as goal

abbrev pub invariant-loop-at : goal.invariant-loop-at
invariant-loop-at l =
    let r = l.recording in
    (l.at.group ≤ r.halves / 4 + 1) × Writing r.settings r.samples.now (group_start r.settings r.samples.now l.at.group) l.at.pass l.out l.initial.out

abbrev pub decreases-loop-at : goal.decreases-loop-at
decreases-loop-at l = l.recording.halves / 4 + 1 - l.at.group
