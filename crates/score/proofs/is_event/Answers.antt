-- `score::is_event` meets its contract: an extreme in its range is what `retained` requires.
use mathlib.Core.Path.{sym, ◌∙◌}
use Rattle.rules.proofs.Scorable.{in_bounds_lem}
use Rattle.score.proofs.is_event.Goals as goal

pub retained-requires : goal.retained-requires
retained-requires c = (c.requires, (in_bounds_lem _ _ (sym c.in_bounds.ensures ∙ c.if-not-in_bounds.false)).extreme)
