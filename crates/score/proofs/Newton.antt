-- Newton's steps towards the root of a whole number: no guess falls below the root, and its excess shrinks to its square over 4q. Assumes nothing.
use Prim.Native.Nat.{ℕ, zero, suc, ◌+◌, ◌-◌, ◌*◌, ◌/◌, ◌%◌, ◌^◌, ◌≤◌, ◌<◌}
use mathlib.Core.Path.{◌≡◌, refl, sym, ap, ◌∙◌, subst}
use native.Mathlib.Nat.{le_trans, le_of_eq, lt_of_lt_of_le, lt_of_not-le, le_dest, mul-le-mul, mul-le-mul_left, le_of_mul-le-mul_left, mul_comm, mul_assoc, mul_left_comm, mul-add, add-mul, mul-suc, mul-mul-mul_comm, two-mul, mul-pos, pow-suc, zero-lt-suc, lt-mul-div-succ, mul-div-le, div-le_of_le-mul}
use native.Mathlib.Decide.{dec_le}
use native.Mathlib.Omega.{arith}
use lib.Dec.{lit<, lit≤}
use lib.Pow.{pow_pos, pow_mono, pow-add}
use lib.Count.{count_leading_zeros, leading_of_zero, leading_top}
use Rattle.score.specs.Newton.{IsRoot, NotBelow, excess, First, Reached}

-- Newton's step from a guess r
abbrev pub step : ℕ → ℕ → ℕ
step q r = (r + q / r) / 2

-- ---- sums and products

square_of_sum : (a b : ℕ) → (a + b) * (a + b) ≡ a * a + 2 * (a * b) + b * b
square_of_sum a b = omega (arith, add-mul a b (a + b), mul-add a a b, mul-add b a b, mul_comm b a)

-- two numbers that make at most twice a third have a product that is at most its square: the smaller first, x of x + u
product_low : (x u y : ℕ) → y ≤ x + 2 * u → x * y ≤ (x + u) * (x + u)
product_low x u y h = omega (arith, square_of_sum x u, mul-le-mul_left x h, mul-add x x (2 * u), mul_left_comm x 2 u)

product_below : (x y m : ℕ) → x + y ≤ 2 * m → x * y ≤ m * m
product_below x y m h = either (dec_le x m)
  where
    from : (x y m : ℕ) → x + y ≤ 2 * m → x ≤ m → x * y ≤ m * m
    from x y m h l =
        let u = (le_dest l).0 in
        let e : x + u ≡ m = (le_dest l).1 in
        subst (λ (n : ℕ). x * y ≤ n * n) e (product_low x u y (omega arith))

    either : Dec (x ≤ m) → x * y ≤ m * m
    either (yes l) = from x y m h l
    either (no f) =
        let l = lt_of_not-le f in
        le_trans (le_of_eq (mul_comm x y)) (from y x m (omega arith) (omega arith))

-- ---- one step

-- a step from any guess above 0 is not below the root: q is below r times q / r + 1, and these two make at most twice what follows the step
pub step-above : (q r : ℕ) → 0 < r → NotBelow q (step q r)
step-above q r h = lt_of_lt_of_le (lt-mul-div-succ q h) (product_below r (q / r + 1) (step q r + 1) (omega arith))

-- twice the guess times the next is at most the guess's square and q
step_product : (q r : ℕ) → 2 * (r * step q r) ≤ r * r + q
step_product q r =
    let t = step q r in
    let h : 2 * t ≤ r + q / r = omega arith in
    omega (arith, mul-le-mul_left r h, mul-add r r (q / r), mul-div-le q r, mul_left_comm r 2 t)

-- the same of the squares
step-squares : (q r : ℕ) → 4 * (r * r * (step q r * step q r)) ≤ (r * r + q) * (r * r + q)
step-squares q r =
    let t = step q r in
    let e : 2 * (r * t) * (2 * (r * t)) ≡ 4 * (r * r * (t * t)) =
    mul-mul-mul_comm 2 (r * t) 2 (r * t) ∙ ap (λ (n : ℕ). 4 * n) (mul-mul-mul_comm r t r t) in
    le_trans (le_of_eq (sym e)) (mul-le-mul (step_product q r) (step_product q r))

-- so, with e and f for what the two squares are above q by
excess_squared : (q e f : ℕ) → 4 * ((q + e) * (q + f)) ≤ (q + e + q) * (q + e + q) → 4 * q * f ≤ e * e
excess_squared q e f h =
    let two : q + e + q ≡ 2 * q + e = omega arith in
    omega (
      arith,
      h,
      ap (λ (n : ℕ). n * n) two,
      square_of_sum (2 * q) e,
      mul_assoc 2 q (2 * q),
      mul_left_comm q 2 q,
      mul_assoc 2 q e,
      mul_assoc 4 q f,
      add-mul q e (q + f),
      mul-add q q f,
      mul-add e q f,
      mul_comm e q,
    )

parted : (q x : ℕ) → q ≤ x → q + (x - q) ≡ x
parted q x h = omega arith

excess_shrinks : (q r t : ℕ) → q ≤ r * r → 4 * (r * r * (t * t)) ≤ (r * r + q) * (r * r + q) → 4 * q * excess q t ≤ excess q r * excess q r
excess_shrinks q r t h squares = either (dec_le q (t * t))
  where
    either : Dec (q ≤ t * t) → 4 * q * (t * t - q) ≤ (r * r - q) * (r * r - q)
    either (no f) =
        let e : t * t - q ≡ 0 = omega (arith, lt_of_not-le f) in
        rw e (omega arith)
    either (yes l) = excess_squared q (r * r - q) (t * t - q) (rw (parted q (r * r) h, parted q (t * t) l) squares)

-- THE LAW of a step: the excess shrinks to its square over 4q, from any guess whose square is not below q
pub step_nearer : (q r : ℕ) → q ≤ r * r → 4 * q * excess q (step q r) ≤ excess q r * excess q r
step_nearer q r h = excess_shrinks q r (step q r) h (step-squares q r)

-- a guess above the root is above 0, and a step from it goes down
pub positive : (q r : ℕ) → q < r * r → 0 < r
positive q zero h = absurd (omega arith)
positive q (suc k) h = zero-lt-suc k

pub step_down : (q r : ℕ) → q < r * r → step q r ≤ r
step_down q r h =
    let l : q / r ≤ r = div-le_of_le-mul r (omega arith) in
    omega arith

-- ---- the first guess

-- where P and q are within twice of each other, (2P - q)(2q - P) is not below 0
within-twice : (P q : ℕ) → P ≤ 2 * q → q ≤ 2 * P → 2 * (P * P) + 2 * (q * q) ≤ 5 * (P * q)
within-twice P q h l =
    let u = 2 * P - q in
    let v = 2 * q - P in
    let eu : q + u ≡ 2 * P = omega arith in
    let ev : P + v ≡ 2 * q = omega arith in
    omega (
      arith,
      mul-mul-mul_comm 2 P 2 q,
      ap (λ (n : ℕ). n * (2 * q)) eu,
      ap (λ (n : ℕ). (q + u) * n) ev,
      add-mul q u (P + v),
      mul-add q P v,
      mul-add u P v,
      ap (λ (n : ℕ). q * n) ev,
      mul_left_comm q 2 q,
      ap (λ (n : ℕ). n * P) eu,
      add-mul q u P,
      mul_assoc 2 P P,
      mul_comm q P,
    )

-- a step from a guess whose square is within twice of q, on either side
guess_near : (q p : ℕ) → 0 < p → p * p ≤ 2 * q → q ≤ 2 * (p * p) → 8 * excess q (step q p) ≤ q
guess_near q p pos h l =
    let t = step q p in
    let P = p * p in
    let T = t * t in
    let most : P * (8 * T) ≤ P * (9 * q) =
    omega (arith, step-squares q p, square_of_sum P q, within-twice P q h l, mul_left_comm P 8 T, mul_left_comm P 9 q) in
    let near : 8 * T ≤ 9 * q = le_of_mul-le-mul_left most (mul-pos pos pos) in
    omega arith

-- half of the digits of q, of which there are 64 with the zeros in front
abbrev pub half_of : ℕ → ℕ
half_of q = (64 - count_leading_zeros 64 q) / 2

-- the power of two with half of the digits: its square is that of q's highest digit, or twice that
half-square : (q : ℕ) → 0 < q → q < 2 ^ 64 → (2 ^ half_of q * 2 ^ half_of q ≤ 2 * q) × (q ≤ 2 * (2 ^ half_of q * 2 ^ half_of q))
half-square q pos fits =
    let h = half_of q in
    let top = leading_top 64 q pos fits in
    let j = top.0 in
    let low : j ≤ h + h = omega (arith, top.1) in
    let high : h + h ≤ suc j = omega (arith, top.1) in (
      omega (arith, pow_mono high, pow-add 2 h h, pow-suc 2 j, top.2),
      omega (arith, pow_mono low, pow-add 2 h h, pow-suc 2 j, top.3),
    )

-- THE LAW of the first guess
pub guess_first : (q : ℕ) → q < 2 ^ 64 → First q (step q (2 ^ half_of q))
guess_first zero h = rw leading_of_zero (lit< tt, lit≤ tt)
guess_first (suc n) h =
    let p = 2 ^ half_of (suc n) in
    let near = half-square (suc n) (zero-lt-suc n) h in
    (step-above (suc n) p (pow_pos (half_of (suc n))), guess_near (suc n) p (pow_pos (half_of (suc n))) near.0 near.1)

-- the power fits its word, and so does the sum of the step
power_low : (q : ℕ) → 2 ^ half_of q ≤ 2 ^ 32
power_low q =
    let few : half_of q ≤ 32 = omega arith in
    pow_mono few

pub power_is : (q : ℕ) → 1 * 2 ^ half_of q % 2 ^ 64 ≡ 2 ^ half_of q
power_is q = omega (arith, power_low q)

pub sum_fits : (q : ℕ) → q < 2 ^ 64 → 2 ^ half_of q + q / 2 ^ half_of q < 2 ^ 64
sum_fits zero h = rw leading_of_zero (lit< tt)
sum_fits (suc n) h =
    let p = 2 ^ half_of (suc n) in
    let near : suc n ≤ p * (2 * p) = omega (arith, (half-square (suc n) (zero-lt-suc n) h).1, mul_left_comm p 2 p) in
    omega (arith, power_low (suc n), div-le_of_le-mul p near)

-- ---- all steps

-- where the excess is at most the c-th part of 4q, after a step it is at most the part c x c
part_squared : (q c e f : ℕ) → 0 < q → c * e ≤ 4 * q → 4 * q * f ≤ e * e → c * c * f ≤ 4 * q
part_squared q c e f pos part shrinks =
    let four : 0 < 4 * q = omega arith in
    let moved : 4 * q * (c * c * f) ≡ c * c * (4 * q * f) = mul_left_comm (4 * q) (c * c) f in
    let squares : c * c * (e * e) ≡ c * e * (c * e) = mul-mul-mul_comm c c e e in
    le_of_mul-le-mul_left
    (le_trans (le_of_eq moved) (le_trans (mul-le-mul_left (c * c) shrinks) (le_trans (le_of_eq squares) (mul-le-mul part part)))) four

-- so after n steps it is at most the part 32 ^ (2 ^ n)
reached_part : (n q r : ℕ) → 0 < q → Reached n q r → 32 ^ (2 ^ n) * excess q r ≤ 4 * q
reached_part zero q r pos g = omega (arith, g.1)
reached_part (suc n) q r pos (p, before, near) =
    let c = 32 ^ (2 ^ n) in
    let e : 32 ^ (2 ^ suc n) ≡ c * c = ap (λ (k : ℕ). 32 ^ k) (pow-suc 2 n ∙ mul_comm (2 ^ n) 2 ∙ two-mul (2 ^ n)) ∙ pow-add 32 (2 ^ n) (2 ^ n) in
    rw e (part_squared q c (excess q p) (excess q r) pos (reached_part n q p pos before) near.2)

reached_not_below : (n q r : ℕ) → Reached n q r → NotBelow q r
reached_not_below zero q r g = g.0
reached_not_below (suc n) q r (p, before, near) = near.1

-- no guess at the root of 0 is above 0
reached_zero : (n r : ℕ) → Reached n 0 r → r ≡ 0
reached_zero zero zero g = refl
reached_zero zero (suc k) g = absurd (omega (arith, g.1, mul-pos (zero-lt-suc k) (zero-lt-suc k)))
reached_zero (suc n) r (p, before, near) = omega (arith, near.0, reached_zero n p before)

-- a part of less than the whole is nothing
nothing_left : (c e m : ℕ) → c * e ≤ m → m < c → e ≡ 0
nothing_left c zero m h l = refl
nothing_left c (suc k) m h l = absurd (omega (arith, mul-suc c k))

not_above : (n q r : ℕ) → Reached n q r → 4 * q < 32 ^ (2 ^ n) → r * r ≤ q
not_above n zero r g small = rw (reached_zero n r g) (lit≤ tt)
not_above n (suc m) r g small =
    let none : excess (suc m) r ≡ 0 = nothing_left (32 ^ (2 ^ n)) (excess (suc m) r) (4 * suc m) (reached_part n (suc m) r (zero-lt-suc m) g) small in
    omega arith

-- THE LAW of all steps: n of them are enough for a number whose fourfold is below 32 ^ (2 ^ n)
pub reached_root : (n q r : ℕ) → Reached n q r → 4 * q < 32 ^ (2 ^ n) → IsRoot q r
reached_root n q r g small = (not_above n q r g small, reached_not_below n q r g)

-- none for a number below 8, one below 256, two below 262,144, three below 2 ^ 38
pub steps_enough : (q r : ℕ)
    → (q < 8 → Reached 0 q r → IsRoot q r)
    × (q < 256 → Reached 1 q r → IsRoot q r)
    × (q < 262144 → Reached 2 q r → IsRoot q r)
    × (q < 2 ^ 38 → Reached 3 q r → IsRoot q r)
steps_enough q r = (
  (λ h g. reached_root 0 q r g (omega arith)),
  (λ h g. reached_root 1 q r g (omega arith)),
  (λ h g. reached_root 2 q r g (omega arith)),
  (λ h g. reached_root 3 q r g (omega arith)),
)

-- a first guess at the root of such a number fits half a word
pub first_fits : (q r : ℕ) → q < 2 ^ 38 → First q r → r < 4294967296
first_fits q r h g = either (dec_le 4294967296 r)
  where
    either : Dec (4294967296 ≤ r) → r < 4294967296
    either (no f) = lt_of_not-le f
    either (yes l) = absurd (omega (arith, mul-le-mul l l, g.1))
