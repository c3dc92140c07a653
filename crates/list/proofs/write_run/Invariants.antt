-- The invariant: the pass and the run are what the turns from the first half-cycle on make of them, and the step is that of k. Assumes nothing.
use Prim.Native.Nat.{◌-◌, ◌≤◌}
use mathlib.Core.Path.{◌≡◌}
use Rattle.halves.specs.Steps.{step_at}
use Rattle.list.specs.Listing.{turns, turns_out}
use Rattle.list.proofs.write_run.Given as goal

abbrev pub invariant-loop-k : goal.invariant-loop-k
invariant-loop-k l =
    let s = l.recording.settings in
    let xs = l.recording.samples.now in
    (l.pass ≡ turns s xs l.from (l.k - l.from) l.initial.pass) × (l.out ≡ turns_out s xs l.from (l.k - l.from) l.initial.pass l.initial.out) × (l.k ≤ l.recording.halves → l.step ≡ step_at s xs l.k)
