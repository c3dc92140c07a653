-- `borders::borders_of` meets its contract: the code's set of a number is the rules', whatever the frequency and however many there are.
use Rattle.std.proofs.Common.{ap, arith}
use Rattle.borders.proofs.Laws.{in_list, set_is}
use Rattle.borders.proofs.borders_of.Goals as goal

pub offset_bounds-sets-set : goal.offset_bounds-sets-set
offset_bounds-sets-set c = omega (arith, c.sets.type_inv.1, in_list _ c.sets.ensures.lists _ c.requires)

pub bounds-sets-set : goal.bounds-sets-set
bounds-sets-set c = in_list _ c.sets.ensures.lists _ c.requires

pub returns-clause-rows : goal.returns-clause-rows
returns-clause-rows c = λ s. ap (λ b. b.rows) (set_is _ c.sets.ensures.lists s c.args.set)

pub returns-clause-columns : goal.returns-clause-columns
returns-clause-columns c = λ s. ap (λ b. b.columns) (set_is _ c.sets.ensures.lists s c.args.set)
