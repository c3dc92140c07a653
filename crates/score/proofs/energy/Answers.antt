-- `score::energy` meets its contract: the divisor is at least 800,000,000, so the quotient and the rest keep within 64 bits, and the
-- whole milliseconds within 2 ^ 53.
use Prim.Native.Nat.{ℕ, ◌+◌, ◌*◌, ◌/◌, ◌%◌, ◌<◌, ◌≤◌}
use mathlib.Core.Path.{◌≡◌}
use native.Mathlib.Nat.{mod-lt}
use native.Mathlib.Omega.{arith}
use Rattle.rules.specs.Halves.{full}
use Rattle.rules.proofs.Ranges.{good}
use Rattle.score.proofs.Laws.{exact, divisor_low, divisor_high, whole-high, rest_high, millis_split, thousand}
use Rattle.score.proofs.energy.Goals.{After-full_of}
use Rattle.score.proofs.energy.Goals as goal

abbrev d : After-full_of → ℕ
d c = c.full_of.result * (2 * c.args.s.f)

low : (c : After-full_of) → 800000000 ≤ d c
low c = rw c.full_of.ensures (divisor_low _ (good _ c.requires))

high : (c : After-full_of) → d c ≤ 153600000000000
high c = rw c.full_of.ensures (divisor_high _ (good _ c.requires))

positive : (c : After-full_of) → 0 < d c
positive c = omega (arith, low c)

whole : (c : After-full_of) → c.args.shortfall / d c < 23058430093
whole c = whole-high _ _ c.ranges.shortfall.fits (low c)

rest : (c : After-full_of) → c.args.shortfall % d c * 1000 / d c < 1000
rest c = rest_high _ _ (positive c)

bounded : (c : After-full_of) → c.args.shortfall / d c * 1000 + c.args.shortfall % d c * 1000 / d c ≤ 9007199254740992
bounded c = omega (arith, whole c, rest c)

pub overflow_mul-d : goal.overflow_mul-d
overflow_mul-d c = omega (arith, (good _ c.requires).f_high)

pub overflow_mul-d-2 : goal.overflow_mul-d-2
overflow_mul-d-2 c = omega (arith, high (goal.at.overflow_mul-d-2 c).After-full_of)

pub nonzero_div-whole : goal.nonzero_div-whole
nonzero_div-whole c = positive (goal.at.nonzero_div-whole c).After-full_of

pub nonzero_rem-rest : goal.nonzero_rem-rest
nonzero_rem-rest c = positive (goal.at.nonzero_rem-rest c).After-full_of

pub overflow_mul-millis : goal.overflow_mul-millis
overflow_mul-millis c = omega (arith, whole (goal.at.overflow_mul-millis c).After-full_of)

pub overflow_mul-millis-2 : goal.overflow_mul-millis-2
overflow_mul-millis-2 c = omega (arith, mod-lt c.args.shortfall (positive (goal.at.overflow_mul-millis-2 c).After-full_of), high (goal.at.overflow_mul-millis-2 c).After-full_of)

pub nonzero_div-millis : goal.nonzero_div-millis
nonzero_div-millis c = positive (goal.at.nonzero_div-millis c).After-full_of

pub overflow_add-millis : goal.overflow_add-millis
overflow_add-millis c = omega (arith, bounded (goal.at.overflow_add-millis c).After-full_of)

pub int_to_float-result : goal.int_to_float-result
int_to_float-result c = exact _ (bounded (goal.at.int_to_float-result c).After-full_of)

pub returns : goal.returns
returns c =
    let m : c.full_of.result ≡ full c.args.s = c.full_of.ensures in
    rw (millis_split c.args.shortfall (d (goal.at.returns c).After-full_of) (positive (goal.at.returns c).After-full_of), m, thousand)
