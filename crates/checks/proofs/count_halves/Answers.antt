-- The code tells 2L/N apart from 0, where the definition's difference stops at 0. Assumes nothing.
use native.Mathlib.Omega.{arith}
use Rattle.rules.specs.Halves.{halves_of}
use Rattle.checks.proofs.count_halves.Goals as goal

pub returns-then-steps-eq0 : goal.returns-then-steps-eq0
unfolding halves_of
returns-then-steps-eq0 c = omega (arith, c.quotient-steps.ensures)

pub returns : goal.returns
unfolding halves_of
returns c = omega (arith, c.quotient-steps.ensures)
