-- `checks::full_of` meets its contract: the ranges of N and R keep N x R x R within 64 bits.
use native.Mathlib.Omega.{arith}
use Rattle.rules.proofs.Ranges.{good, nr_high, full-high, full_is}
use Rattle.checks.proofs.full_of.Goals as goal

pub overflow_mul-result : goal.overflow_mul-result
overflow_mul-result c = omega (arith, nr_high _ (good _ c.requires))

pub overflow_mul-result-2 : goal.overflow_mul-result-2
overflow_mul-result-2 c = omega (arith, full_is c.args.s, full-high _ (good _ c.requires))

pub returns : goal.returns
returns c = full_is _
