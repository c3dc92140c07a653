-- `borders::known_set` meets its contract: there are as many sets as the rules have.
use Rattle.std.proofs.Common.{ltb, ap}
use Rattle.rules.specs.Borders.{known_set}
use Rattle.borders.proofs.Laws.{as_many}
use Rattle.borders.proofs.known_set.Goals as goal

pub returns : goal.returns
unfolding known_set
returns c = ap (ltb c.args.set) (as_many _ c.sets.ensures.lists)
