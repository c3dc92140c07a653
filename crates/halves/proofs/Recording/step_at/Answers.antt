-- A step up to the last is as long as a pass may be, and the pass over it finds what it is. Assumes nothing.
use Rattle.std.proofs.Common.{ap, ◌∙◌, arith}
use Rattle.rules.proofs.Ranges.{good}
use Rattle.halves.specs.Steps.{step_in, step_at}
use Rattle.halves.proofs.Steps.{step-few, step-threes}
use Rattle.halves.proofs.Recording.step_at.Goals as goal

pub returns : goal.returns
unfolding step_at
returns c = c.step_of.ensures ∙ ap step_in c.run_of_step.ensures

pub step_of-requires-clause-few : goal.step_of-requires-clause-few
step_of-requires-clause-few c = let r = c.args.self.now in rw c.run_of_step.ensures (step-few _ _ (good _ r.good) r.shaped _ (omega (arith, r.counted)))

pub step_of-requires-clause-threes : goal.step_of-requires-clause-threes
step_of-requires-clause-threes c = let r = c.args.self.now in rw c.run_of_step.ensures (step-threes _ _ (good _ r.good) r.shaped _ (omega (arith, r.counted)))
