-- Whole numbers as floats, and milliseconds without a product that wraps. Assumes nothing.
use Prim.Native.Nat.{ℕ, ◌+◌, ◌*◌, ◌/◌, ◌%◌, ◌^◌, ◌≤◌, ◌<◌}
use mathlib.Core.Path.{◌≡◌, refl, sym, ap, ◌∙◌}
use mathlib.Core.Bool.{Bool, true, false, cond}
use native.Mathlib.Nat.{mul-le-mul, div-lt_iff_lt-mul, mod-lt, div-add-mod', mul_assoc, mul_comm, mul-add-div_right}
use native.Mathlib.Omega.{arith}
use lib.Dec.{T, leb, le→leb, lit≤}
use lib.IntN.{pos}
use lib.Ieee.{binary64, in_float, of_bits, of_int}
use Rattle.rules.specs.declared.Settings.{Settings}
use Rattle.rules.specs.Halves.{full}
use Rattle.rules.specs.Scores.{curve_of}
use Rattle.rules.specs.Demands.{Good}
use Rattle.rules.proofs.Ranges.{full-least, full-high}

-- ---- floats

-- a whole number up to 2 ^ 53 is a 64-bit float
pub exact : (n : ℕ) → n ≤ 2 ^ 53 → T (in_float binary64 (pos n))
unfolding in_float
exact n h = le→leb n (2 ^ 53) h

pub thousand : of_bits binary64 4652007308841189376 ≡ of_int binary64 (pos 1000)
unfolding of_bits of_int
thousand = refl

curve_pick : (a b c d : Bool) → cond a 0 (cond b 500 (cond c 700 (cond d 800 900))) ≤ 900
curve_pick true b c d = lit≤ tt
curve_pick false true c d = lit≤ tt
curve_pick false false true d = lit≤ tt
curve_pick false false false true = lit≤ tt
curve_pick false false false false = lit≤ tt

pub curve_high : (f h : ℕ) → curve_of f h ≤ 900
curve_high f h = curve_pick (leb h 2) (leb (5 * h) (2 * f)) (leb h f) (leb h (20 * f))

-- ---- milliseconds

pub divisor_low : (s : Settings) → Good s → 800000000 ≤ full s * (2 * s.f)
divisor_low s g =
    let h : 100 ≤ 2 * s.f = omega (arith, g.f_low) in
    mul-le-mul (full-least s g) h

pub divisor_high : (s : Settings) → Good s → full s * (2 * s.f) ≤ 153600000000000
divisor_high s g =
    let h : 2 * s.f ≤ 120 = omega (arith, g.f_high) in
    mul-le-mul (full-high s g) h

-- the whole quotient of a word by such a divisor, and the thousandths of the rest
pub whole-high : (a d : ℕ) → a < 2 ^ 64 → 800000000 ≤ d → a / d < 23058430093
whole-high a d ha hd =
    let h : 0 < d = omega arith in
    (div-lt_iff_lt-mul h).1 (omega arith)

pub rest_high : (a d : ℕ) → 0 < d → a % d * 1000 / d < 1000
rest_high a d hd = (div-lt_iff_lt-mul hd).1 (omega (arith, mod-lt a hd))

-- 1000 x a / d without the product
pub millis_split : (a d : ℕ) → 0 < d → a / d * 1000 + a % d * 1000 / d ≡ 1000 * a / d
millis_split a d hd =
    let e : 1000 * a ≡ a / d * 1000 * d + a % d * 1000 =
    omega (arith, div-add-mod' a d, mul_assoc (a / d) 1000 d, mul_assoc (a / d) d 1000, ap (λ (x : ℕ). a / d * x) (mul_comm 1000 d)) in
    sym (ap (λ (x : ℕ). x / d) e ∙ mul-add-div_right hd (a / d * 1000) (a % d * 1000))
