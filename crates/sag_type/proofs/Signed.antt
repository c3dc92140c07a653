-- How far from 0 a sum or a difference of samples can lie. Assumes nothing.
use Prim.Native.Nat.{ℕ, zero, suc, ◌+◌, ◌-◌, ◌≤◌}
use mathlib.Core.Path.{◌≡◌, refl}
use mathlib.Core.Bool.{Bool, true, false, cond}
use native.Mathlib.Omega.{arith}
use lib.Dec.{ltb}
use lib.IntN.{ℤ, pos, negsuc, neg_ℤ, nat_abs, sub_ℕ, ◌+ℤ◌, ◌-ℤ◌}
use mir.Syntax.{w32}
use mir.Val.{SFits}

abs_neg : (x : ℤ) → nat_abs (neg_ℤ x) ≡ nat_abs x
abs_neg (pos zero) = refl
abs_neg (pos (suc n)) = refl
abs_neg (negsuc n) = refl

abs_minus : (a b : ℕ) → nat_abs (sub_ℕ a (suc b)) ≤ a + suc b
abs_minus a b = by (ltb a (suc b))
  where
    by : (t : Bool) → nat_abs (cond t (negsuc (suc b - suc a)) (pos (a - suc b))) ≤ a + suc b
    by true = omega arith
    by false = omega arith

pub abs_add : (x y : ℤ) → nat_abs (x +ℤ y) ≤ nat_abs x + nat_abs y
abs_add (pos a) (pos b) = omega arith
abs_add (pos a) (negsuc b) = abs_minus a b
abs_add (negsuc a) (pos b) = omega (arith, abs_minus b a)
abs_add (negsuc a) (negsuc b) = omega arith

pub abs_sub : (x y : ℤ) → nat_abs (x -ℤ y) ≤ nat_abs x + nat_abs y
abs_sub x y = omega (arith, abs_add x (neg_ℤ y), abs_neg y)

pub fits_near : (x : ℤ) → nat_abs x ≤ 400000 → SFits w32 x
fits_near (pos n) h = record { sfits = omega arith }
fits_near (negsuc n) h = record { sfits = omega arith }
