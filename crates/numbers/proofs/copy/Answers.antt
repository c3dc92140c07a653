-- The first `i` numbers are in their place. Assumes nothing.
use native.Mathlib.Numerals.{add-one}
use native.Mathlib.Omega.{arith}
use lib.ListN.{length-set}
use lib.Seq.{paste-suc}
use Rattle.numbers.proofs.copy.Goals as goal

pub loop-i-preserved : goal.loop-i-preserved
loop-i-preserved c =
    let l = c.loop-i in
    let a = c.args in (
      omega arith,
      simp length-set l.invariant.1,
      rw (l.invariant.2, add-one) (paste-suc a.out.now a.at a.from.now l.i 0 (omega arith) (omega arith)),
    )
