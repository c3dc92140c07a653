-- One level, three kinds, five numbers. Assumes nothing.
use mathlib.Core.Path.{◌∙◌}
use Rattle.tell.specs.Telling.{told_by}
use Rattle.tell.proofs.tell.Goals as goal

pub returns-clause-out_after : goal.returns-clause-out_after
unfolding told_by
returns-clause-out_after c =
    c.put.ensures
    ∙ rw (c.class_number.ensures, c.is_some.ensures, c.kinds_number.ensures, c.sums_of.ensures, c.any.ensures, c.next-is.ensures, c.level-l.ensures)
