-- The bound on the six keeps both products within 64 bits, and each return is the case that the test picks. Assumes nothing.
use mathlib.Core.Path.{◌≡◌, ap}
use native.Mathlib.Omega.{arith}
use borrow.Author.Tests.{le-leb, lt-leb}
use Rattle.rules.specs.Events.{smallest, largest, type_of}
use Rattle.sag_type.specs.declared.Ends.{Ends}
use Rattle.sag_type.proofs.Sixes.{ends_low}
use Rattle.sag_type.proofs.sag_type.Goals.{After-ends_of-ends}
use Rattle.sag_type.proofs.sag_type.Goals as goal

-- both ends
low_is : (c : After-ends_of-ends) → c.ends_of-ends.result.low ≡ smallest c.args.six
low_is c = ap (λ (e : Ends). e.low) c.ends_of-ends.ensures

high_is : (c : After-ends_of-ends) → c.ends_of-ends.result.high ≡ largest c.args.six
high_is c = ap (λ (e : Ends). e.high) c.ends_of-ends.ensures

pub overflow_mul-ends : goal.overflow_mul-ends
overflow_mul-ends c =
    record { fits = omega (arith, high_is (goal.at.overflow_mul-ends c).After-ends_of-ends, (ends_low 100000000000000 c.args.six c.requires).1) }

pub overflow_mul-ends-2 : goal.overflow_mul-ends-2
overflow_mul-ends-2 c =
    record { fits = omega (arith, low_is (goal.at.overflow_mul-ends-2 c).After-ends_of-ends, (ends_low 100000000000000 c.args.six c.requires).0) }

pub returns-then-ends : goal.returns-then-ends
unfolding type_of
returns-then-ends c =
    rw (← high_is (goal.at.returns-then-ends c).After-ends_of-ends, ← low_is (goal.at.returns-then-ends c).After-ends_of-ends, le-leb _ _ c.if-ends.true)

pub returns : goal.returns
unfolding type_of
returns c =
    rw (← high_is (goal.at.returns c).After-ends_of-ends, ← low_is (goal.at.returns c).After-ends_of-ends, lt-leb _ _ c.if-ends.false) c.number_of_first.ensures
