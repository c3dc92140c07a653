-- One pass over a run: the lowest and the highest sample tell whether one lies outside the limits, and where none does no sum has wrapped. Assumes nothing.
use Rattle.std.proofs.Common.{◌≡◌, ℕ, zero, suc, ◌+◌, ◌*◌, ◌%◌, ◌^◌, ◌<◌, ◌≤◌, Bool, true, false, cond, ◌||◌, ltb, List, length, get_or, ℤ, pos, negsuc, sym, refl, ap, ◌∙◌, ⊎_elim, mod-eq_of_lt, add-one, arith, ltb-false, ltb-true, le-ltb, lt-ltb, Some, None}
use native.Mathlib.Nat.{mod-add-mod}
use native.Mathlib.Numerals.{add-two}
use Rattle.rules.specs.Bounded.{any}
use Rattle.rules.specs.Recorder.{sample_at}
use Rattle.rules.specs.Halves.{samples_of, square}
use Rattle.rules.proofs.Booleans.{cases}
use Rattle.rules.proofs.Bounded.{any_same, sum-next}
use Rattle.checks.specs.Flags.{outside, too_low, too_high}
use Rattle.checks.proofs.Tests.{outside_is}
use Rattle.std.specs.Int.{int_min, int_max}
use Rattle.halves.specs.Steps.{outside_in, squares_in, sums_in, step_in}
use Rattle.halves.proofs.Parts.{squares_in-low, low_run}

-- ---- the lesser and the greater of two

or_false : (a : Bool) → a ≡ a || false
or_false true = refl
or_false false = refl

or_swap : (a b : Bool) → a || b ≡ b || a
or_swap true true = refl
or_swap true false = refl
or_swap false true = refl
or_swap false false = refl

-- the larger of two lies above m exactly where one of them does
above : (m a b : ℕ) → ltb m (cond (ltb a b) b a) ≡ ltb m a || ltb m b
above m a b = ⊎_elim up down (cases (ltb a b))
  where
    up : ltb a b ≡ true → ltb m (cond (ltb a b) b a) ≡ ltb m a || ltb m b
    up e =
        rw e
        (⊎_elim (λ f. rw f (lt-ltb m b (omega (arith, ltb-true a b e, ltb-true m a f)))) (λ f. rw f) (cases (ltb m a)))

    down : ltb a b ≡ false → ltb m (cond (ltb a b) b a) ≡ ltb m a || ltb m b
    down e =
        rw e
        (⊎_elim (λ f. rw f) (λ f. rw (f, le-ltb m b (omega (arith, ltb-false a b e, ltb-false m a f)))) (cases (ltb m a)))

lesser_low : (x y : ℤ) → too_low (int_min x y) ≡ too_low x || too_low y
lesser_low (pos a) (pos b) = neither (ltb b a)
  where
    neither : (t : Bool) → too_low (cond t (pos b) (pos a)) ≡ false
    neither true = refl
    neither false = refl
lesser_low (pos a) (negsuc b) = refl
lesser_low (negsuc a) (pos b) = or_false (ltb 99999 a)
lesser_low (negsuc a) (negsuc b) = inside (ltb a b) ∙ above 99999 a b
  where
    inside : (t : Bool) → too_low (cond t (negsuc b) (negsuc a)) ≡ ltb 99999 (cond t b a)
    inside true = refl
    inside false = refl

greater_high : (x y : ℤ) → too_high (int_max x y) ≡ too_high x || too_high y
greater_high (pos a) (pos b) = inside (ltb b a) ∙ above 100000 b a ∙ or_swap (ltb 100000 b) (ltb 100000 a)
  where
    inside : (t : Bool) → too_high (cond t (pos a) (pos b)) ≡ ltb 100000 (cond t a b)
    inside true = refl
    inside false = refl
greater_high (pos a) (negsuc b) = or_false (ltb 100000 a)
greater_high (negsuc a) (pos b) = refl
greater_high (negsuc a) (negsuc b) = neither (ltb a b)
  where
    neither : (t : Bool) → too_high (cond t (negsuc a) (negsuc b)) ≡ false
    neither true = refl
    neither false = refl

-- ---- three samples a turn

-- some sample of the first i of each channel passes the test
abbrev pub some_below : (ℤ → Bool) → List ℤ → ℕ → Bool
some_below test w i = any (λ j. test (get_or w j (pos 0))) (3 * i)

or_four : (a b c d : Bool) → (a || b) || (c || d) ≡ ((a || b) || c) || d
or_four true b c d = refl
or_four false true c d = refl
or_four false false c d = refl

module _ (test : ℤ → Bool) (pick : ℤ → ℤ → ℤ) (picks : (x y : ℤ) → test (pick x y) ≡ test x || test y) (w : List ℤ) (i : ℕ) (low x y z l₁ l₂ l₃ : ℤ) where
  more : test low ≡ some_below test w i → x ≡ get_or w (3 * i) (pos 0) → y ≡ get_or w (3 * i + 1) (pos 0) → z ≡ get_or w (3 * i + 2) (pos 0)
      → l₁ ≡ pick low x → l₂ ≡ pick y z → l₃ ≡ pick l₁ l₂ → test l₃ ≡ some_below test w (i + 1)
  more so ex ey ez e₁ e₂ e₃ =
      let f : 3 * (i + 1) ≡ suc (suc (suc (3 * i))) = omega arith in
      ap test e₃
      ∙ picks l₁ l₂
      ∙ ap (λ (b : Bool). b || test l₂) (ap test e₁ ∙ picks low x)
      ∙ ap (λ (b : Bool). (test low || test x) || b) (ap test e₂ ∙ picks y z)
      ∙ or_four (test low) (test x) (test y) (test z)
      ∙ rw (so, ex, ey, ez, add-one, add-two, f)

pub low-more : (w : List ℤ) (i : ℕ) (low x y z l₁ l₂ l₃ : ℤ) → too_low low ≡ some_below too_low w i
    → x ≡ get_or w (3 * i) (pos 0) → y ≡ get_or w (3 * i + 1) (pos 0) → z ≡ get_or w (3 * i + 2) (pos 0)
    → l₁ ≡ int_min low x → l₂ ≡ int_min y z → l₃ ≡ int_min l₁ l₂ → too_low l₃ ≡ some_below too_low w (i + 1)
low-more w i low x y z l₁ l₂ l₃ = more too_low int_min lesser_low w i low x y z l₁ l₂ l₃

pub high-more : (w : List ℤ) (i : ℕ) (high x y z h₁ h₂ h₃ : ℤ) → too_high high ≡ some_below too_high w i
    → x ≡ get_or w (3 * i) (pos 0) → y ≡ get_or w (3 * i + 1) (pos 0) → z ≡ get_or w (3 * i + 2) (pos 0)
    → h₁ ≡ int_max high x → h₂ ≡ int_max y z → h₃ ≡ int_max h₁ h₂ → too_high h₃ ≡ some_below too_high w (i + 1)
high-more w i high x y z h₁ h₂ h₃ = more too_high int_max greater_high w i high x y z h₁ h₂ h₃

-- a sum, wrapped
pub sum_more : (w : List ℤ) (c i a q a' : ℕ) → a ≡ squares_in w c i % 2 ^ 64 → q ≡ square (sample_at w c i) → a' ≡ (a + q) % 2 ^ 64
    → a' ≡ squares_in w c (i + 1) % 2 ^ 64
sum_more w c i a q a' e f g =
    g
    ∙ rw (e, f) (mod-add-mod (squares_in w c i) (2 ^ 64) (square (sample_at w c i)))
    ∙ sym (ap (λ (x : ℕ). x % 2 ^ 64) (sum-next (λ i. square (sample_at w c i)) i))

-- ---- the end of the pass

any_or : (p q : ℕ → Bool) (n : ℕ) → any (λ j. p j || q j) n ≡ any p n || any q n
any_or p q zero = refl
any_or p q (suc n) = rw (any_or p q n) (swap (any p n) (any q n) (p n) (q n))
  where
    swap : (a b c d : Bool) → (a || b) || (c || d) ≡ (a || c) || (b || d)
    swap true b c d = refl
    swap false true true d = refl
    swap false true false d = refl
    swap false false true d = refl
    swap false false false d = refl

module _ (w : List ℤ) (n : ℕ) (all : n ≡ samples_of w) (few : length w ≤ 768) (threes : length w % 3 ≡ 0) where
  pub outside_told : (low high : ℤ) → too_low low ≡ some_below too_low w n → too_high high ≡ some_below too_high w n → too_low low || too_high high ≡ outside_in w
  unfolding outside_in
  outside_told low high e f =
      let size : 3 * n ≡ length w = omega (arith, all, threes) in
      rw (e, f)
      (sym (any_or (λ j. too_low (get_or w j (pos 0))) (λ j. too_high (get_or w j (pos 0))) (3 * n))
      ∙ any_same _ (λ j. outside (get_or w j (pos 0))) (3 * n) (λ j l. outside_is (get_or w j (pos 0)))
      ∙ ap (any (λ j. outside (get_or w j (pos 0)))) size)

  exact : outside_in w ≡ false → (c a : ℕ) → c < 3 → a ≡ squares_in w c n % 2 ^ 64 → a ≡ squares_in w c (samples_of w)
  exact e c a l f =
      let low = squares_in-low w (low_run w e) c n l (omega (arith, all)) in
      let fits : squares_in w c n < 2 ^ 64 = omega (arith, low, all, few) in
      f ∙ mod-eq_of_lt fits ∙ ap (squares_in w c) all

  pub step-unknown : outside_in w ≡ true → None ≡ step_in w
  unfolding step_in
  step-unknown e = rw e

  pub step-known : outside_in w ≡ false → (a b c : ℕ) → a ≡ squares_in w 0 n % 2 ^ 64 → b ≡ squares_in w 1 n % 2 ^ 64 → c ≡ squares_in w 2 n % 2 ^ 64
      → Some (record { a = a; b = b; c = c }) ≡ step_in w
  unfolding step_in sums_in
  step-known e a b c f g h = rw (e, exact e 0 a (omega arith) f, exact e 1 b (omega arith) g, exact e 2 c (omega arith) h)
