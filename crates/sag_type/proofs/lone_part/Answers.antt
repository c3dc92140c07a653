-- No sum of the three lies further than 400,000 from 0, and so each is read back as it was. Assumes nothing.
use native.Mathlib.Omega.{arith}
use lib.IntN.{ℤ, ◌+ℤ◌, ◌-ℤ◌}
use mir.Syntax.{w32}
use mir.Val.{SFits}
use mir.ValLaws.{to_z-of_z}
use Rattle.sag_type.proofs.Signed.{abs_add, abs_sub, fits_near}
use Rattle.sag_type.proofs.lone_part.Goals.{Start}
use Rattle.sag_type.proofs.lone_part.Goals as goal

-- the three numbers on the way
abbrev x : Start → ℤ
x c = c.args.a +ℤ c.args.a

abbrev y : Start → ℤ
y c = x c -ℤ c.args.b

abbrev z : Start → ℤ
z c = y c -ℤ c.args.c

fits-x : (c : Start) → SFits w32 (x c)
fits-x c = fits_near (x c) (omega (arith, abs_add c.args.a c.args.a))

fits-y : (c : Start) → SFits w32 (y c)
fits-y c = fits_near (y c) (omega (arith, abs_add c.args.a c.args.a, abs_sub (x c) c.args.b))

fits-z : (c : Start) → SFits w32 (z c)
fits-z c =
    fits_near (z c)
    (omega (arith, abs_add c.args.a c.args.a, abs_sub (x c) c.args.b, abs_sub (y c) c.args.c))

pub returns : goal.returns
returns c =
    rw (
      c.square.ensures,
      to_z-of_z w32 c.args.a c.ranges.a,
      to_z-of_z w32 c.args.b c.ranges.b,
      to_z-of_z w32 c.args.c c.ranges.c,
      to_z-of_z w32 (x (goal.at.returns c).Start) (fits-x (goal.at.returns c).Start),
      to_z-of_z w32 (y (goal.at.returns c).Start) (fits-y (goal.at.returns c).Start),
      to_z-of_z w32 (z (goal.at.returns c).Start) (fits-z (goal.at.returns c).Start),
    )
