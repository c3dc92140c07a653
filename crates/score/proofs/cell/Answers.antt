-- `score::cell` meets its contract: the reason decides, and with none an event's numbers are what `cell_at` requires.
use mathlib.Core.Bool.{true}
use mathlib.Core.Path.{◌≡◌, sym, ◌∙◌}
use native.Mathlib.Omega.{arith}
use Rattle.rules.specs.Borders.{known_set}
use Rattle.rules.specs.Scores.{reason_by}
use Rattle.rules.specs.Site.{cell_of}
use Rattle.rules.specs.Demands.{Scorable}
use Rattle.rules.proofs.Scorable.{InBounds, event_bounds}
use Rattle.score.proofs.Reasons.{sound_by, has_no_cell}
use Rattle.score.proofs.cell.Goals.{In-None}
use Rattle.score.proofs.cell.Goals as goal

sound : (c : In-None) → (known_set c.args.set ≡ true) × Scorable c.args.s c.args.e
sound c = sound_by _ _ _ (sym c.reason.ensures ∙ c.in-None.is)

bounds : (c : In-None) → InBounds c.args.s c.args.e
bounds c = event_bounds _ _ (sound c).1.event

pub overflow_sub-e : goal.overflow_sub-e
overflow_sub-e c = omega (arith, (bounds (goal.at.overflow_sub-e c).In-None).start)

pub cell_at-requires : goal.cell_at-requires
cell_at-requires c =
    let w = (goal.at.cell_at-requires c).In-None in
    ((sound w).1.settings, (sound w).0, (bounds w).extreme, omega (arith, (bounds w).end))

pub returns-in-None : goal.returns-in-None
unfolding cell_of reason_by
returns-in-None c = rw (sym c.reason.ensures, c.in-None.is, c.cell_at.ensures)

pub returns-in-Some : goal.returns-in-Some
returns-in-Some c = c.not_scored.ensures c.args.s ∙ sym (has_no_cell _ _ _ _ (sym c.reason.ensures ∙ c.in-Some.is))
