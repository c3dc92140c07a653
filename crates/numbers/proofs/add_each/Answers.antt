-- The first `k` numbers are added already, the others are as they were. Assumes nothing.
use mathlib.Core.Path.{◌∙◌}
use native.Mathlib.Omega.{arith}
use lib.ListN.{length-set}
use Rattle.numbers.proofs.Runs.{added_next, added-all}
use Rattle.numbers.proofs.add_each.Goals as goal

pub loop-k-preserved : goal.loop-k-preserved
loop-k-preserved c =
    let l = c.loop-k in (
      omega arith,
      simp length-set l.invariant.1,
      added_next c.args.sum.now c.args.more.now c.requires.0 l.k l.sum (omega arith) l.invariant.2,
    )

pub returns : goal.returns
returns c =
    let l = c.loop-k in
    l.invariant.2 ∙ added-all c.args.sum.now c.args.more.now c.requires.0 l.k (omega arith)
