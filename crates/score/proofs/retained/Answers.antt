-- `score::retained` meets its contract: the root of the quotient is 1000 V / R rounded down, and the nearest is that or one more.
use Prim.Native.Nat.{◌≤◌, ◌<◌}
use mathlib.Core.Path.{◌≡◌, refl, sym}
use mathlib.Core.Bool.{Bool, true, false}
use native.Mathlib.Omega.{arith}
use mir.Val.{bool_byte}
use Rattle.rules.specs.Bounded.{bit}
use Rattle.rules.specs.Halves.{full}
use Rattle.rules.specs.Demands.{IsDown}
use Rattle.rules.proofs.Ranges.{good, full-least, full-high}
use Rattle.rules.proofs.Retained.{root_down, quotient_high, down_high, retained_beside}
use Rattle.score.proofs.retained.Goals.{After-root-d, Start}
use Rattle.score.proofs.retained.Goals as goal

-- the number of a bool is 1 for true, 0 for false
number_of : (b : Bool) → bool_byte b ≡ bit b
number_of true = refl
number_of false = refl

positive : (c : Start) → 0 < full c.args.s
positive c = omega (arith, full-least _ (good _ c.requires.0))

-- the root is 1000 V / R rounded down
down : (c : After-root-d) → IsDown (full c.args.s) c.args.extreme c.root-d.result
down c =
    let low = rw c.full_of-m.ensures at c.root-d.ensures.0 in
    let high = rw c.full_of-m.ensures at c.root-d.ensures.1 in
    root_down _ _ _ (positive c.before.before) low high

high : (c : After-root-d) → c.root-d.result ≤ 100000
high c = down_high _ _ (good _ c.requires.0) c.requires.1 _ (down c)

pub overflow_mul-extreme : goal.overflow_mul-extreme
overflow_mul-extreme c = omega (arith, (good _ c.requires.0).n_high, c.requires.1)

pub nonzero_div-extreme : goal.nonzero_div-extreme
nonzero_div-extreme c = omega (arith, c.full_of-m.ensures, positive (goal.at.nonzero_div-extreme c).Start)

pub root-d-requires : goal.root-d-requires
root-d-requires c = rw c.full_of-m.ensures (quotient_high _ _ (good _ c.requires.0) c.requires.1)

pub half_or_more-requires : goal.half_or_more-requires
half_or_more-requires c =
    rw c.full_of-m.ensures
    (full-high _ (good _ c.requires.0), omega (arith, (good _ c.requires.0).n_high, c.requires.1), high c, down c)

pub returns : goal.returns
returns c =
    let m : c.full_of-m.result ≡ full c.args.s = c.full_of-m.ensures in
    rw (number_of c.half_or_more.result, c.half_or_more.ensures, m)
    (sym (retained_beside _ _ _ (positive (goal.at.returns c).Start) (down (goal.at.returns c).After-root-d)))
