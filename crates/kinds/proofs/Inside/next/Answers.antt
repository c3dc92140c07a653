-- Three kinds, each by its own test on one level. Assumes nothing.
use Rattle.kinds.specs.Machine.{followed_by}
use Rattle.kinds.proofs.Inside.next.Goals as goal

pub returns : goal.returns
unfolding followed_by
returns c = rw (c.goes_on.ensures, c.goes_on-2.ensures, c.goes_on-3.ensures)
