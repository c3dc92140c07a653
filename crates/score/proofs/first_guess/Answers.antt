-- `score::first_guess` meets its contract: a step of Newton's from a power of two whose square is within twice of q.
use Rattle.score.proofs.Newton.{guess_first, power_is, sum_fits}
use Rattle.score.proofs.first_guess.Goals as goal

pub overflow_add-result : goal.overflow_add-result
overflow_add-result c = rw (power_is c.args.q) (record { fits = sum_fits c.args.q c.ranges.q.fits })

pub returns : goal.returns
returns c = rw (power_is c.args.q) (guess_first c.args.q c.ranges.q.fits)
