-- The half-cycles fit or they do not; where they do, the sums of the two tables fit too. Assumes nothing.
use mathlib.Core.Path.{◌∙◌}
use Rattle.site.proofs.Counts.{to_full, to_merged}
use Rattle.site.proofs.add_table.Goals as goal

pub returns-then-room-u : goal.returns-then-room-u
returns-then-room-u c = c.turned_away.ensures ∙ to_full _ _ c.if-room-u.true

pub returns : goal.returns
returns c = to_merged _ _ _ c.if-room-u.false c.merge.ensures
