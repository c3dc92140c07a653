-- The invariant: the kinds are those of the half-cycle before k, the step is that of k, and the run has the numbers of the half-cycles
-- before k over its front. Assumes nothing.
use Rattle.std.proofs.Common.{◌≡◌}
use Rattle.rules.specs.Halves.{half_at}
use Rattle.rules.specs.Refusals.{over}
use Rattle.halves.specs.Steps.{step_at}
use Rattle.kinds.specs.Machine.{inside_at}
use Rattle.trace.specs.Pass.{told_below}
use Rattle.trace.proofs.write_halves.Given as goal

abbrev pub invariant-loop-k : goal.invariant-loop-k
invariant-loop-k l =
    let s = l.recording.settings in
    let xs = l.recording.samples.now in
    (l.inside ≡ inside_at s (half_at s xs) l.k) × (l.step ≡ step_at s xs l.k) × (l.out ≡ over (told_below s xs l.k) l.initial.out)
