-- `score::in_bounds` meets its contract: good settings keep the largest extreme within 64 bits.
use native.Mathlib.Omega.{arith}
use Rattle.rules.proofs.Ranges.{good}
use Rattle.score.proofs.in_bounds.Goals as goal

pub overflow_mul-result : goal.overflow_mul-result
overflow_mul-result c = omega (arith, (good _ c.requires).n_high)
