-- An unknown half-cycle is not quiet; the sums of a known one are few. Assumes nothing.
use Rattle.quiet.specs.Quiet.{quiet_by}
use Rattle.quiet.proofs.Quiet.{quiet_made}
use Rattle.quiet.proofs.is_quiet.Goals as goal

pub returns-in_default : goal.returns-in_default
unfolding quiet_by
returns-in_default c = rw c.in_default.is

pub returns : goal.returns
returns c = quiet_made _ _ _ _ _ c.in-Some.is c.least.ensures c.greatest.ensures
