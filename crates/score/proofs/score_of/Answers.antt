-- `score::score_of` meets its contract: what has no reason against it under a set has none with no set.
use mathlib.Core.Path.{sym, ◌∙◌}
use Rattle.score.proofs.Reasons.{unhindered}
use Rattle.score.proofs.score_of.Goals as goal

pub scored-requires : goal.scored-requires
scored-requires c = unhindered _ _ _ (sym c.reason.ensures ∙ c.in-None.is)
