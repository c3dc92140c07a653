-- The kinds after the half-cycle, and 1 for each that rises. Assumes nothing.
use Rattle.counts.specs.Counting.{tallied}
use Rattle.counts.proofs.count_turn.Goals as goal

pub returns : goal.returns
unfolding tallied
returns c = rw (c.rise.ensures.0, c.rise-2.ensures.0, c.rise-3.ensures.0, c.next-is.ensures, c.level.ensures)
