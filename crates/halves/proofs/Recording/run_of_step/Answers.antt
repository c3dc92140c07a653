-- A step up to the last lies within the run. Assumes nothing.
use Rattle.std.proofs.Common.{arith, rules}
use Rattle.rules.proofs.Ranges.{good}
use Rattle.halves.proofs.Steps.{step_fits, begin-low}
use Rattle.halves.proofs.Recording.run_of_step.Goals as goal

pub overflow_mul-j : goal.overflow_mul-j
overflow_mul-j c =
    let r = c.args.self.now in
    let low = begin-low _ _ (good _ r.good) r.shaped c.args.j (omega (arith, r.counted)) in
    search rules

pub part_of-requires : goal.part_of-requires
part_of-requires c = let r = c.args.self.now in step_fits _ _ (good _ r.good) r.shaped _ (omega (arith, r.counted))
