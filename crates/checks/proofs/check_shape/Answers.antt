-- Each return is the case of the definition that its tests pick. Assumes nothing.
use borrow.Author.Tests.{eq-eqb, ne_eqb, lt-ltb, le-ltb}
use Rattle.checks.specs.Flags.{shape_check}
use Rattle.checks.proofs.check_shape.Goals as goal

pub returns-then-samples-ne0 : goal.returns-then-samples-ne0
unfolding shape_check
returns-then-samples-ne0 c = rw (ne_eqb _ _ c.if-samples-ne0.true)

pub returns-then-per_channel-n : goal.returns-then-per_channel-n
unfolding shape_check
returns-then-per_channel-n c = rw (eq-eqb _ _ c.if-samples-ne0.false, lt-ltb _ _ c.if-per_channel-n.true)

pub returns-then-remainder-ne0 : goal.returns-then-remainder-ne0
unfolding shape_check
returns-then-remainder-ne0 c =
    rw (
      eq-eqb _ _ c.if-samples-ne0.false,
      le-ltb _ _ c.if-per_channel-n.false,
      ← c.remainder.ensures,
      ne_eqb _ _ c.if-remainder-ne0.true,
    )

pub returns-then-count_halves-gt100000 : goal.returns-then-count_halves-gt100000
unfolding shape_check
returns-then-count_halves-gt100000 c =
    rw (
      eq-eqb _ _ c.if-samples-ne0.false,
      le-ltb _ _ c.if-per_channel-n.false,
      ← c.remainder.ensures,
      eq-eqb _ _ c.if-remainder-ne0.false,
      ← c.count_halves.ensures,
      lt-ltb _ _ c.if-count_halves-gt100000.true,
    )

pub returns : goal.returns
unfolding shape_check
returns c =
    rw (
      eq-eqb _ _ c.if-samples-ne0.false,
      le-ltb _ _ c.if-per_channel-n.false,
      ← c.remainder.ensures,
      eq-eqb _ _ c.if-remainder-ne0.false,
      ← c.count_halves.ensures,
      le-ltb _ _ c.if-count_halves-gt100000.false,
    )
