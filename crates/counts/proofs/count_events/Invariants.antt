-- The invariant: before half-cycle k the tally is that of the rules, all samples up to its first step are in range, and where there is no
-- note nothing goes on. The measure is what is left of the half-cycles. Assumes nothing.
use Rattle.std.proofs.Common.{◌≡◌, suc, ◌-◌, ◌*◌, ◌≤◌, length}
use Rattle.rules.specs.Halves.{begin, half_at}
use Rattle.checks.specs.Flags.{RangedBelow, as_read}
use Rattle.halves.specs.Steps.{step_at}
use Rattle.counts.specs.Counting.{tally_of}
use Rattle.counts.proofs.Notes.{NotedBelow}
use Rattle.counts.proofs.count_events.Given as goal

abbrev pub invariant-loop-k : goal.invariant-loop-k
invariant-loop-k l =
    let r = l.recording in
    (l.k ≤ l.halves) × (l.t ≡ tally_of r.settings (half_at r.settings (as_read r.samples.now)) l.k) × (l.step ≡ step_at r.settings r.samples.now l.k)
    × RangedBelow r.samples.now (3 * begin r.settings (suc l.k)) × NotedBelow r.settings (half_at r.settings (as_read r.samples.now)) l.notes l.k × (length l.notes ≡ 25001)

abbrev pub decreases-loop-k : goal.decreases-loop-k
decreases-loop-k l = l.halves - l.k
