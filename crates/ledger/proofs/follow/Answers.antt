-- `ledger::follow` meets its contract. The step of the sag and the tests of the other two kinds are the definition's.
-- Assumes nothing.
use Rattle.ledger.specs.Entries.{tracked_by}
use Rattle.ledger.proofs.follow.Goals as goal

pub returns : goal.returns
unfolding tracked_by
returns c = rw (c.is_some.ensures, c.step.ensures, c.goes_on.ensures, c.goes_on-2.ensures)
