-- Severity is one fraction, rounded once; half the divisor gives exactly twice the float. So beyond 20f half-cycles, where the curve stands at
-- 900 and not at 800, a sag's severity is twice what it would be by 800. Assumes nothing.
use Rattle.std.specs.Prelude.{Ok}
use Prim.Native.Nat.{ℕ, zero, suc, ◌-◌, ◌*◌, ◌/◌, ◌^◌, ◌≤◌, ◌<◌}
use mathlib.Core.Path.{◌≡◌, refl, sym, ◌∙◌, subst}
use mathlib.Core.Bool.{true, false, true≢false}
use native.Mathlib.Nat.{mul-pos, mul-one, mul_assoc, mul_comm, mul_left_comm, mul-le-mul, le_refl, le_trans, zero-lt-suc}
use native.Mathlib.Omega.{arith}
use borrow.Author.Tests.{ne_eqb}
use lib.Dec.{T, lit≤, lit<}
use lib.Pow.{pow_pos}
use lib.Ieee.{Float, nan, inf, fin, Format, binary64, up, down, size, round, div, of_int}
use lib.Ieee.Fits.{down_pos}
use lib.Ieee.Exact.{HasValue}
use lib.Ieee.Back.{round_whole}
use lib.Ieee.Order.{round_mono}
use lib.Ieee.Positive.{positive, positive-finite, first_pos, between}
use lib.Ieee.Scale.{grid, round_same, round_val, round_under, grid_scale, normal_of_fraction}
use Rattle.rules.specs.Scores.{whole, severity_of, scoring}
use Rattle.rules.specs.Meanings.{Twice}
use Rattle.rules.specs.declared.Settings.{Settings}
use Rattle.rules.specs.declared.Event.{Event}
use Rattle.rules.specs.declared.Score.{Score}
use Rattle.rules.proofs.DemandTwo.{scored-only}
use Rattle.rules.proofs.Places.{curve_is}
use Rattle.rules.proofs.Ranges.{good}

-- ---- one fraction, rounded once

not_zero : (n : ℕ) → 0 < n → n ≡ 0 → ⊥
not_zero n h e = omega arith

-- the quotient of two floats that are whole numbers
whole_quotient : (f : Format) (x y : Float) (a b : ℕ) → 0 < b → HasValue x false a 1 → HasValue y false b 1 → div f x y ≡ round f false a b
unfolding div
whole_quotient f nan y a b B p q = elim p [ ]
whole_quotient f (inf s) y a b B p q = elim p [ ]
whole_quotient f (fin true m e) y a b B p q = absurd (true≢false p.0)
whole_quotient f (fin false m e) nan a b B p q = elim q [ ]
whole_quotient f (fin false m e) (inf s) a b B p q = elim q [ ]
whole_quotient f (fin false m e) (fin true n d) a b B p q = absurd (true≢false q.0)
whole_quotient f (fin false m e) (fin false n d) a b B p q =
    let u : m * up e ≡ a * down e = sym (mul-one (m * up e)) ∙ p.1 in
    let v : n * up d ≡ b * down d = sym (mul-one (n * up d)) ∙ q.1 in
    let N : 0 < n * up d = subst (λ (z : ℕ). 0 < z) (sym v) (mul-pos B (down_pos d)) in
    rw (ne_eqb n 0 (not_zero n (first_pos n (up d) N)))
    (round_same f false (m * up e * down d) (n * up d * down e) a b (mul-pos N (down_pos e)) B
    (rw (u, v) (simp (mul_assoc, mul_comm, mul_left_comm))))

-- a whole number up to 2 ^ 53 as a float is that number
whole_is : (n : ℕ) → n ≤ 2 ^ 53 → HasValue (whole n) false n 1
unfolding of_int
whole_is n h = round_whole binary64 false n h

-- THE LAW: severity is (1000 - r) / (1000 - c), rounded once to the nearest 64-bit float
pub severity_is : (r c : ℕ) → c < 1000 → severity_of r c ≡ round binary64 false (1000 - r) (1000 - c)
severity_is r c h =
    whole_quotient binary64 (whole (1000 - r)) (whole (1000 - c)) (1000 - r) (1000 - c) (omega arith) (whole_is (1000 - r) (omega arith))
    (whole_is (1000 - c) (omega arith))

-- ---- half the divisor, twice the float

-- what is not 0, by a divisor of at most 1000, lies between two floats that are neither 0 nor an infinity
between_floats : (a c : ℕ) → 0 < a → a ≤ 2000 → 0 < c → c ≤ 1000 → T (positive (round binary64 false a c))
unfolding round
between_floats a c A A' C C' =
    between (round binary64 false 1 1000) (round binary64 false a c) (round binary64 false 2000 1) tt tt
    (round_mono binary64 1 1000 a c (lit< tt) C (omega arith)) (round_mono binary64 a c 2000 1 C (lit< tt) (omega arith))

-- all 53 digits of such a fraction are kept
all_digits : (a c : ℕ) → 0 < a → 0 < c → c ≤ 1000 → 53 ≤ size (a * 2 ^ 1074 / c)
all_digits a c A C C' =
    normal_of_fraction binary64 a c C (le_trans (mul-le-mul (le_refl (2 ^ 52)) C') (le_trans (lit≤ tt) (mul-le-mul A (le_refl (2 ^ 1074)))))

-- 0 is 0 by any divisor
zero_rounded : (c : ℕ) → 0 < c → HasValue (round binary64 false 0 c) false 0 1
zero_rounded c C =
    subst (λ (x : Float). HasValue x false 0 1) (round_same binary64 false 0 1 0 c (lit< tt) C (omega arith)) (round_whole binary64 false 0 (lit≤ tt))

-- a fraction that is neither 0 nor too large, as a float: a whole number of the smallest floats
rounded_is : (a c : ℕ) → 0 < a → a ≤ 2000 → 0 < c → c ≤ 1000 → HasValue (round binary64 false a c) false (grid binary64 a c) (2 ^ 1074)
rounded_is a c A A' C C' =
    round_val binary64 a c (round_under binary64 a c (positive-finite (round binary64 false a c) (between_floats a c A A' C C')))

-- a / c is twice a / 2c, and so is the float
twice_rounded : (a c : ℕ) → a ≤ 1000 → 0 < c → c ≤ 500 → Twice (round binary64 false a (2 * c)) (round binary64 false a c)
twice_rounded zero c A C C' = (0, 1, lit< tt, zero_rounded (2 * c) (omega arith), zero_rounded c C)
twice_rounded (suc b) c A C C' =
    let a = suc b in
    let D : 0 < 2 * c = omega arith in
    let D' : 2 * c ≤ 1000 = omega arith in
    let same : round binary64 false (a * 2) (2 * c) ≡ round binary64 false a c =
    round_same binary64 false (a * 2) (2 * c) a c D C (simp (mul_assoc, mul_comm, mul_left_comm)) in
    let scaled : grid binary64 (a * 2) (2 * c) ≡ 2 * grid binary64 a (2 * c) =
    grid_scale binary64 a (2 * c) 1 D (all_digits a (2 * c) (zero-lt-suc b) D D') ∙ mul_comm (grid binary64 a (2 * c)) 2 in (
      grid binary64 a (2 * c),
      2 ^ 1074,
      pow_pos 1074,
      rounded_is a (2 * c) (zero-lt-suc b) (omega arith) D D',
      subst (λ (x : Float). HasValue x false (2 * grid binary64 a (2 * c)) (2 ^ 1074)) same
          (subst (λ (g : ℕ). HasValue (round binary64 false (a * 2) (2 * c)) false g (2 ^ 1074)) scaled
          (rounded_is (a * 2) (2 * c) (omega arith) (omega arith) D D')),
    )

-- THE LAW: where 1000 - c is half of 1000 - b, severity by c is exactly twice that by b
pub half_the_divisor : (r b c : ℕ) → c < 1000 → 1000 - b ≡ 2 * (1000 - c) → Twice (severity_of r b) (severity_of r c)
half_the_divisor r b c h e =
    let B : b < 1000 = omega arith in
    rw (severity_is r b B, severity_is r c h, e) (twice_rounded (1000 - r) (1000 - c) (omega arith) (omega arith) (omega arith))

-- THE LAW: for every r, severity by 900 is exactly twice that by 800
pub severity_doubles : (r : ℕ) → Twice (severity_of r 800) (severity_of r 900)
severity_doubles r = half_the_divisor r 800 900 (lit< tt) refl

-- THE LAW: where a sag of more than 20f half-cycles is scored, its severity is exactly twice what 800 would give
pub long_sag_doubles : (s : Settings) (e : Event) (x : Score) → scoring s e ≡ Ok x → 20 * s.f < e.end - e.start
    → Twice (severity_of e.retained 800) x.severity
long_sag_doubles s e x scored long =
    let only = scored-only s e x scored in
    let curve = curve_is s.f (good s only.0.settings).f_low (e.end - e.start) in
    rw (only.1, curve.4.1 long) (severity_doubles e.retained)
