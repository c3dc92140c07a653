-- `score::scored` meets its contract: with no reason against it, an event's numbers are what every callee requires.
use Prim.Native.Nat.{◌-◌}
use native.Mathlib.Omega.{arith}
use Rattle.rules.proofs.Ranges.{good}
use Rattle.rules.specs.Demands.{Scorable}
use Rattle.rules.proofs.Scorable.{InBounds, event_bounds, sag_retained}
use Rattle.score.proofs.Laws.{curve_high}
use Rattle.score.proofs.Reasons.{sound}
use Rattle.score.proofs.scored.Goals.{Start}
use Rattle.score.proofs.scored.Goals as goal

scorable : (c : Start) → Scorable c.args.s c.args.e
scorable c = sound _ _ c.requires

bounds : (c : Start) → InBounds c.args.s c.args.e
bounds c = event_bounds _ _ (scorable c).event

pub overflow_sub-e : goal.overflow_sub-e
overflow_sub-e c = omega (arith, (bounds (goal.at.overflow_sub-e c).Start).start)

pub curve-requires : goal.curve-requires
curve-requires c = omega (arith, (good _ (scorable (goal.at.curve-requires c).Start).settings).f_high, (bounds (goal.at.curve-requires c).Start).end)

pub severity-severity-requires : goal.severity-severity-requires
severity-severity-requires c =
    let s = c.args.s in
    let e = c.args.e in
    omega (arith, sag_retained s e (scorable (goal.at.severity-severity-requires c).Start), c.curve.ensures, curve_high s.f (e.end - e.start))

pub energy-energy-requires : goal.energy-energy-requires
energy-energy-requires c = (scorable (goal.at.energy-energy-requires c).Start).settings
