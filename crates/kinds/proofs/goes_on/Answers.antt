-- An unknown half-cycle is in no event; of a known one each arm is the case of the definition that its kind picks, without a branch.
-- Assumes nothing.
use Rattle.kinds.specs.Machine.{goes_by}
use Rattle.kinds.proofs.goes_on.Goals as goal

pub returns-in_default : goal.returns-in_default
unfolding goes_by
returns-in_default c = rw c.in_default.is

pub returns-in-Sag : goal.returns-in-Sag
unfolding goes_by
returns-in-Sag c = rw (c.in-Sag.is, c.in-Some.is)

pub returns-in-Interruption : goal.returns-in-Interruption
unfolding goes_by
returns-in-Interruption c = rw (c.in-Interruption.is, c.in-Some.is)

pub returns-in-Swell : goal.returns-in-Swell
unfolding goes_by
returns-in-Swell c = rw (c.in-Swell.is, c.in-Some.is)
