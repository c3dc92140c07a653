-- `site::fresh` meets its contract. Each return is the case that the check picks.
-- Assumes nothing.
use mathlib.Core.Path.{sym, ◌∙◌}
use Rattle.rules.specs.Refusals.{freshened}
use Rattle.site.proofs.fresh.Goals as goal

pub returns-in-Ok : goal.returns-in-Ok
unfolding freshened
returns-in-Ok c = rw (sym c.check_making.ensures ∙ c.in-Ok.is, c.empty_table.ensures)

pub returns-in-Err : goal.returns-in-Err
unfolding freshened
returns-in-Err c = c.turned_away.ensures ∙ rw (sym c.check_making.ensures ∙ c.in-Err.is, c.empty_table-in-Err.ensures, c.no_settings.ensures)
