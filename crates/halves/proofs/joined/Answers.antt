-- Two known steps have sums that can be added; where one is unknown, so are the two. Assumes nothing.
use Rattle.std.proofs.Common.{ap, Some}
use Rattle.halves.specs.Steps.{joined_of}
use Rattle.halves.proofs.joined.Goals as goal

pub returns-in_err-p : goal.returns-in_err-p
unfolding joined_of
returns-in_err-p c = rw c.in_err-p.was c.from_residual.ensures

pub returns-in_err-q : goal.returns-in_err-q
unfolding joined_of
returns-in_err-q c = rw (c.in_ok-p.was, c.in_err-q.was) c.from_residual-in_err-q.ensures

pub returns : goal.returns
unfolding joined_of
returns c = rw (c.in_ok-p.was, c.in_ok-q.was) (ap Some c.add_sums.ensures)
