-- The invariant: the survey has reached half-cycle k. The measure is what is left of the half-cycles. Assumes nothing.
use Prim.Native.Nat.{◌-◌}
use Rattle.survey.specs.Pass.{Reached}
use Rattle.survey.proofs.table_of.Given as goal

abbrev pub invariant-loop-on : goal.invariant-loop-on
invariant-loop-on l = Reached l.recording l.set l.on l.cells

abbrev pub decreases-loop-on : goal.decreases-loop-on
decreases-loop-on l = l.halves - l.on.k
