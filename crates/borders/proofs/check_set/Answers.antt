-- `borders::check_set` meets its contract: each return is the case that its test picks.
use mathlib.Core.Path.{sym, ◌∙◌}
use Rattle.rules.specs.Refusals.{set_check}
use Rattle.borders.proofs.check_set.Goals as goal

pub returns-then-known_set : goal.returns-then-known_set
unfolding set_check
returns-then-known_set c = simp (sym c.known_set.ensures ∙ c.if-known_set.true)

pub returns-else-known_set : goal.returns-else-known_set
unfolding set_check
returns-else-known_set c = simp (sym c.known_set.ensures ∙ c.if-known_set.false)
