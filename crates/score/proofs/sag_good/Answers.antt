-- `score::sag_good` meets its contract: an event in its ranges keeps every product within 64 bits.
use Prim.Native.Nat.{◌-◌, ◌*◌, ◌≤◌}
use native.Mathlib.Nat.{mul-le-mul}
use native.Mathlib.Omega.{arith}
use Rattle.rules.specs.Demands.{Good}
use Rattle.rules.proofs.Ranges.{good, full-high, square-high, share_high}
use Rattle.rules.proofs.Scorable.{InBounds, in_bounds_lem}
use Rattle.score.proofs.sag_good.Goals.{After-full_of-m, Start}
use Rattle.score.proofs.sag_good.Goals as goal

settings : (c : Start) → Good c.args.s
settings c = good _ c.requires.0

bounds : (c : Start) → InBounds c.args.s c.args.e
bounds c = in_bounds_lem _ _ c.requires.1

m-high : (c : After-full_of-m) → c.full_of-m.result ≤ 1280000000000
m-high c = omega (arith, c.full_of-m.ensures, full-high _ (settings c.before))

sag-high : (c : Start) → c.args.s.sag ≤ 200
sag-high c = omega (arith, (settings c).sag-high)

pub overflow_sub-h : goal.overflow_sub-h
overflow_sub-h c = omega (arith, (bounds (goal.at.overflow_sub-h c).Start).start)

pub overflow_mul-e : goal.overflow_mul-e
overflow_mul-e c = omega (arith, (bounds (goal.at.overflow_mul-e c).Start).extreme, (settings (goal.at.overflow_mul-e c).Start).n_high)

pub overflow_mul-s : goal.overflow_mul-s
overflow_mul-s c = omega (arith, square-high _ (sag-high (goal.at.overflow_mul-s c).Start))

pub overflow_mul-s-2 : goal.overflow_mul-s-2
overflow_mul-s-2 c = omega (arith, share_high _ _ (m-high (goal.at.overflow_mul-s-2 c).After-full_of-m) (sag-high (goal.at.overflow_mul-s-2 c).Start))

pub overflow_mul-m : goal.overflow_mul-m
overflow_mul-m c = omega (arith, m-high (goal.at.overflow_mul-m c).After-full_of-m)

pub overflow_mul-m-then-e-s : goal.overflow_mul-m-then-e-s
overflow_mul-m-then-e-s c =
    let e = c.args.e in
    let three : 3 * c.full_of-m.result ≤ 3840000000000 = omega (arith, m-high (goal.at.overflow_mul-m-then-e-s c).After-full_of-m) in
    let h : e.end - e.start ≤ 100000 = omega (arith, (bounds (goal.at.overflow_mul-m-then-e-s c).Start).end) in
    omega (arith, mul-le-mul three h)
