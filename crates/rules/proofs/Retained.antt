-- The retained value: the climb reaches the whole number nearest to 1000 V / R, halves upward; there is one such; and how it lies to the one
-- rounded down. Assumes nothing.
use Prim.Native.Nat.{ℕ, zero, suc, ◌+◌, ◌-◌, ◌*◌, ◌/◌, ◌≤◌, ◌<◌}
use mathlib.Core.Path.{◌≡◌, refl, sym, subst}
use mathlib.Core.Bool.{Bool, true, false}
use native.Mathlib.Nat.{le_antisymm, le_trans, mul-le-mul, mul-le-mul_right, lt_of_lt_of_le, lt_of_not-le, le-div_iff_mul-le, div-lt_iff_lt-mul, add-zero, mul_assoc, mul-add, add-mul, mul-mul-mul_comm}
use native.Mathlib.Decide.{dec_le}
use native.Mathlib.Omega.{arith}
use borrow.Author.Tests.{leb-true, leb-false, le-leb, ltb-true}
use lib.Dec.{leb}
use Rattle.rules.specs.declared.Settings.{Settings}
use Rattle.rules.specs.Bounded.{bit}
use Rattle.rules.specs.Halves.{full, below}
use Rattle.rules.specs.Events.{reaches, climb, retained_of}
use Rattle.rules.specs.Demands.{Good, IsRetained, NoFurther, IsDown, half_or_more}
use Rattle.rules.proofs.Ranges.{full-low, full-least}

squares_rise : (m a b : ℕ) → a ≤ b → a * a * m ≤ b * b * m
squares_rise m a b h = mul-le-mul_right m (mul-le-mul h h)

-- ---- there is one, and it is the largest that is reached

-- where 1000 V / R is below r + 1/2, no number above r is reached
highest_of : (m x r : ℕ) → x < (2 * r + 1) * (2 * r + 1) * m → (w : ℕ) → (1 ≤ w → (2 * w - 1) * (2 * w - 1) * m ≤ x) → w ≤ r
highest_of m x r under w reached = either (dec_le w r)
  where
    either : Dec (w ≤ r) → w ≤ r
    either (yes l) = l
    either (no f) =
        let l : r < w = lt_of_not-le f in
        absurd (omega (arith, squares_rise m (2 * r + 1) (2 * w - 1) (omega arith), reached (omega arith)))

-- THE LAW: no number above the nearest is reached
pub retained_largest : (m S r : ℕ) → IsRetained m S r → (w : ℕ) → 1 ≤ w → (2 * w - 1) * (2 * w - 1) * m ≤ 4000000 * S → w ≤ r
retained_largest m S r p w one reached = highest_of m (4000000 * S) r p.under w (λ l. reached)

-- THE LAW: there is one nearest number
pub retained_unique : (m S a b : ℕ) → IsRetained m S a → IsRetained m S b → a ≡ b
retained_unique m S a b p q =
    le_antisymm (highest_of m (4000000 * S) b q.under a p.at_least) (highest_of m (4000000 * S) a p.under b q.at_least)

-- ---- nearest, halves upward

-- THE LAW: no whole number is nearer to 1000 V / R, and of two that are equally near it is the larger
pub retained_nearest : (m S r : ℕ) → IsRetained m S r → (t : ℕ) → NoFurther m S r t
retained_nearest m S r p t =
    record {
      from-below = λ l. le_trans (squares_rise m (r + t) (2 * r - 1) (omega arith)) (p.at_least (omega arith));
      from-above = λ l. lt_of_lt_of_le p.under (squares_rise m (2 * r + 1) (r + t) (omega arith));
    }

-- THE LAW: and a number that lies so to every other is the nearest
pub nearest_retained : (m S r : ℕ) → ((t : ℕ) → NoFurther m S r t) → IsRetained m S r
nearest_retained m S r h =
    record {
      at_least = λ one.
          let e : r + (r - 1) ≡ 2 * r - 1 = omega arith in
          subst (λ (n : ℕ). n * n * m ≤ 4000000 * S) e ((h (r - 1)).from-below (omega arith));
      under =
          let e : r + (r + 1) ≡ 2 * r + 1 = omega arith in
          subst (λ (n : ℕ). 4000000 * S < n * n * m) e ((h (r + 1)).from-above (omega arith));
    }

-- ---- the climb

module _ (p : ℕ → Bool) where
  climb_passes : (d : ℕ) (b : Bool) (k : ℕ) → p k ≡ true → p (suc k) ≡ b → p (climb p d b k) ≡ true
  unfolding climb
  climb_passes zero b k h e = h
  climb_passes (suc d) false k h e = h
  climb_passes (suc d) true k h e = climb_passes d (p (suc (suc k))) (suc k) e refl

  climb_stops : (d : ℕ) (b : Bool) (k : ℕ) → p (suc k) ≡ b → climb p d b k < k + d → p (suc (climb p d b k)) ≡ false
  unfolding climb
  climb_stops zero b k e h = absurd (omega arith)
  climb_stops (suc d) false k e h = e
  climb_stops (suc d) true k e h = climb_stops d (p (suc (suc k))) (suc k) refl (omega arith)

-- x steps are enough: the square past them is itself above x
past_steps : (m x : ℕ) → 0 < m → x < (2 * x + 1) * (2 * x + 1) * m
past_steps m x h =
    let one : 1 ≤ 2 * x + 1 = omega arith in
    let square : (2 * x + 1) * 1 ≤ (2 * x + 1) * (2 * x + 1) = mul-le-mul (omega arith) one in
    let whole : (2 * x + 1) * 1 * 1 ≤ (2 * x + 1) * (2 * x + 1) * m = mul-le-mul square h in
    omega arith

under_of : (m x v : ℕ) → 0 < m → (v < x → leb ((2 * suc v - 1) * (2 * suc v - 1) * m) x ≡ false) → x < (2 * v + 1) * (2 * v + 1) * m
under_of m x v m-pos stops = either (dec_le x v)
  where
    either : Dec (x ≤ v) → x < (2 * v + 1) * (2 * v + 1) * m
    either (yes l) = lt_of_lt_of_le (past_steps m x m-pos) (squares_rise m (2 * x + 1) (2 * v + 1) (omega arith))
    either (no f) =
        let e : 2 * suc v - 1 ≡ 2 * v + 1 = omega arith in
        subst (λ (n : ℕ). x < n * n * m) e (leb-false ((2 * suc v - 1) * (2 * suc v - 1) * m) x (stops (lt_of_not-le f)))

from_zero : (n d : ℕ) → n < d → n < 0 + d
from_zero n d h = omega arith

-- THE LAW: what the climb reaches is the nearest, for any S
pub retained_is : (s : Settings) (S : ℕ) → 0 < full s → IsRetained (full s) S (retained_of s S)
unfolding retained_of
retained_is s S m-pos =
    record {
      at_least = λ one.
          leb-true _ _
          (climb_passes (reaches s S) (4000000 * S) (reaches s S 1) 0 (le-leb ((2 * 0 - 1) * (2 * 0 - 1) * full s) (4000000 * S) (omega arith)) refl);
      under =
          under_of (full s) (4000000 * S) (retained_of s S) m-pos
          (λ l. climb_stops (reaches s S) (4000000 * S) (reaches s S 1) 0 refl (from_zero (retained_of s S) (4000000 * S) l));
    }

-- ---- beside the one rounded down

odd_square : (d m : ℕ) → (2 * d + 1) * (2 * d + 1) * m ≡ 4 * (d * d * m) + 4 * (d * m) + m
odd_square d m =
    let square : (2 * d + 1) * (2 * d + 1) ≡ 4 * (d * d) + 4 * d + 1 =
    omega (arith, mul-add (2 * d + 1) (2 * d) 1, add-mul (2 * d) 1 (2 * d), mul-mul-mul_comm 2 d 2 d) in
    rw square
    (omega (arith, add-mul (4 * (d * d) + 4 * d) 1 m, add-mul (4 * (d * d)) (4 * d) m, mul_assoc 4 (d * d) m, mul_assoc 4 d m))

even-square : (d m : ℕ) → 2 * d * (2 * d) * m ≡ 4 * (d * d * m)
even-square d m = rw (mul-mul-mul_comm 2 d 2 d) (mul_assoc 4 (d * d) m)

pub half_is : (d m : ℕ) → (4 * d + 1) * m ≡ 4 * (d * m) + m
half_is d m = omega (arith, add-mul (4 * d) 1 m, mul_assoc 4 d m)

next-square : (d m : ℕ) → (d + 1) * (d + 1) * m ≡ d * d * m + 2 * (d * m) + m
next-square d m =
    let square : (d + 1) * (d + 1) ≡ d * d + 2 * d + 1 = omega (arith, mul-add (d + 1) d 1, add-mul d 1 d) in
    rw square (omega (arith, add-mul (d * d + 2 * d) 1 m, add-mul (d * d) (2 * d) m, mul_assoc 2 d m))

-- it is the root of a quotient
pub root_down : (m S v : ℕ) → 0 < m → v * v ≤ 1000000 * S / m → 1000000 * S / m < (v + 1) * (v + 1) → IsDown m S v
root_down m S v m-pos low high = record { at_least = (le-div_iff_mul-le m-pos).0 low; under = (div-lt_iff_lt-mul m-pos).0 high }

-- its rest is below (2d + 1) x m
pub rest_high : (m S d : ℕ) → IsDown m S d → 1000000 * S - d * d * m < 2 * (d * m) + m
rest_high m S d p = omega (arith, next-square d m, p.at_least, p.under)

half_up : (m S d : ℕ) → IsDown m S d → (4 * d + 1) * m ≤ 4 * (1000000 * S - d * d * m) → IsRetained m S (d + 1)
half_up m S d p rest =
    record {
      at_least = λ one.
          let same : 2 * (d + 1) - 1 ≡ 2 * d + 1 = omega arith in
          rw same (omega (arith, odd_square d m, half_is d m, p.at_least));
      under = omega (arith, odd_square (d + 1) m, p.under);
    }

half_down : (m S d : ℕ) → IsDown m S d → 4 * (1000000 * S - d * d * m) < (4 * d + 1) * m → IsRetained m S d
half_down m S d p rest =
    record {
      at_least = λ one. omega (arith, squares_rise m (2 * d - 1) (2 * d) (omega arith), even-square d m, p.at_least);
      under = omega (arith, odd_square d m, half_is d m, p.at_least);
    }

-- THE LAW: the nearest is the one rounded down, or one more, exactly if the rest is at least the half
pub down_retained : (m S d : ℕ) → IsDown m S d → IsRetained m S (d + bit (half_or_more m S d))
down_retained m S d p = by (half_or_more m S d) refl
  where
    by : (b : Bool) → half_or_more m S d ≡ b → IsRetained m S (d + bit b)
    by true e = half_up m S d p (leb-true _ _ e)
    by false e = subst (IsRetained m S) (sym (add-zero d)) (half_down m S d p (leb-false _ _ e))

-- THE LAW: so it is of the retained value
pub retained_beside : (s : Settings) (S d : ℕ) → 0 < full s → IsDown (full s) S d → retained_of s S ≡ d + bit (half_or_more (full s) S d)
retained_beside s S d m-pos p = retained_unique (full s) S _ _ (retained_is s S m-pos) (down_retained (full s) S d p)

-- ---- its bounds

-- V below p percent has a retained value of at most p percent: rounded, it may be p percent itself
pub retained_below : (s : Settings) (p S : ℕ) → 0 < full s → below s p S ≡ true → retained_of s S ≤ 10 * p
retained_below s p S m-pos h =
    highest_of (full s) (4000000 * S) (10 * p)
    (omega (arith, odd_square (10 * p) (full s), mul-mul-mul_comm 10 p 10 p, mul_assoc 100 (p * p) (full s), ltb-true (10000 * S) (p * p * full s) h))
    (retained_of s S) (retained_is s S m-pos).at_least

-- an extreme in range
module _ (s : Settings) (S : ℕ) (g : Good s) (h : S ≤ s.n * 10000000000) where
  whole-high : 1000000 * S < 10000200001 * full s
  whole-high = omega (arith, full-low s g, full-least s g)

  -- its quotient is below the square of 100,001
  pub quotient_high : 1000000 * S / full s < 10000200001
  quotient_high = let m-pos : 0 < full s = omega (arith, full-least s g) in (div-lt_iff_lt-mul m-pos).1 whole-high

  -- rounded down it is at most 100,000
  pub down_high : (d : ℕ) → IsDown (full s) S d → d ≤ 100000
  down_high d p = either (dec_le d 100000)
    where
      either : Dec (d ≤ 100000) → d ≤ 100000
      either (yes l) = l
      either (no f) = absurd (omega (arith, squares_rise (full s) 100001 d (lt_of_not-le f), p.at_least, whole-high))
