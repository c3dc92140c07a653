-- Lists of six: their two ends, the first that equals a number, how large what is made of them can be, and that a window's six are the rules'.
-- Assumes nothing.
use Prim.Native.Nat.{ℕ, zero, suc, ◌+◌, ◌*◌, ◌≤◌, ◌<◌, min, max}
use mathlib.Core.Path.{◌≡◌, refl, sym, ap, ◌∙◌}
use mathlib.Core.Bool.{cond}
use mathlib.Core.List.{List, [], ◌∷◌, ◌++◌}
use native.Mathlib.Omega.{arith}
use native.Mathlib.Nat.{mul-le-mul}
use lib.IntN.{ℤ, pos, nat_abs, ◌-ℤ◌}
use lib.ListN.{length, get_or, drop, length-drop, length-append, get_or-append}
use lib.Seq.{drop-cons, drop-drop, drop-append_seam}
use Rattle.std.proofs.lemmas.List.{get_or-drop}
use lib.Dec.{eqb}
use native.Mathlib.Numerals.{add-one}
use Rattle.rules.specs.Recorder.{sample_at}
use Rattle.rules.specs.Halves.{samples_of, square, begin}
use Rattle.rules.specs.Events.{twice, six_parts, plus, six_below, six_sums, smallest, largest, number_of_first}
use Rattle.rules.specs.declared.Settings.{Settings}
use Rattle.halves.specs.Steps.{window, Low}
use Rattle.halves.proofs.Parts.{part-samples, sample_is}
use Rattle.sag_type.specs.Six.{six_up_to, six_in, Sixes}
use Rattle.sag_type.proofs.Signed.{abs_add, abs_sub}

-- ---- both ends, and the first that equals v, a number at a time

pub smallest_on : (a : ℕ) (xs : List ℕ) (i : ℕ) → i < length xs → smallest (min a (get_or xs i 0) ∷ drop (i + 1) xs) ≡ smallest (a ∷ drop i xs)
smallest_on a xs i l = rw (drop-cons xs i 0 l, add-one) (on (get_or xs i 0) (drop (suc i) xs))
  where
    on : (x : ℕ) (ys : List ℕ) → smallest (min a x ∷ ys) ≡ smallest (a ∷ x ∷ ys)
    on x [] = refl
    on x (y ∷ ys) = omega arith

pub largest_on : (a : ℕ) (xs : List ℕ) (i : ℕ) → i < length xs → largest (max a (get_or xs i 0) ∷ drop (i + 1) xs) ≡ largest (a ∷ drop i xs)
largest_on a xs i l = rw (drop-cons xs i 0 l, add-one) (on (get_or xs i 0) (drop (suc i) xs))
  where
    on : (x : ℕ) (ys : List ℕ) → largest (max a x ∷ ys) ≡ largest (a ∷ x ∷ ys)
    on x [] = refl
    on x (y ∷ ys) = omega arith

pub first_on : (v : ℕ) (xs : List ℕ) (i : ℕ) → i < length xs → number_of_first (drop i xs) v ≡ cond (eqb (get_or xs i 0) v) 1 (suc (number_of_first (drop (i + 1) xs) v))
first_on v xs i l = rw (drop-cons xs i 0 l, add-one) refl

-- ---- bounds

pub ends_low : (b : ℕ) (six : List ℕ) → Sixes b six → (smallest six ≤ b) × (largest six ≤ b)
ends_low b [] h = (omega arith, omega arith)
ends_low b (x ∷ []) h = (h 0, h 0)
ends_low b (x ∷ y ∷ ys) h = let rest = ends_low b (y ∷ ys) (λ i. h (suc i)) in (omega (arith, h 0), omega (arith, h 0, rest.1))

plus-at : (xs ys : List ℕ) (i : ℕ) → get_or (plus xs ys) i 0 ≤ get_or xs i 0 + get_or ys i 0
plus-at [] ys i = omega arith
plus-at (x ∷ xs) [] i = omega arith
plus-at (x ∷ xs) (y ∷ ys) zero = omega arith
plus-at (x ∷ xs) (y ∷ ys) (suc i) = plus-at xs ys i

six_numbers : (b x₀ x₁ x₂ x₃ x₄ x₅ : ℕ) → x₀ ≤ b → x₁ ≤ b → x₂ ≤ b → x₃ ≤ b → x₄ ≤ b → x₅ ≤ b
    → Sixes b (x₀ ∷ x₁ ∷ x₂ ∷ x₃ ∷ x₄ ∷ x₅ ∷ [])
six_numbers b x₀ x₁ x₂ x₃ x₄ x₅ h₀ h₁ h₂ h₃ h₄ h₅ zero = h₀
six_numbers b x₀ x₁ x₂ x₃ x₄ x₅ h₀ h₁ h₂ h₃ h₄ h₅ (suc zero) = h₁
six_numbers b x₀ x₁ x₂ x₃ x₄ x₅ h₀ h₁ h₂ h₃ h₄ h₅ (suc (suc zero)) = h₂
six_numbers b x₀ x₁ x₂ x₃ x₄ x₅ h₀ h₁ h₂ h₃ h₄ h₅ (suc (suc (suc zero))) = h₃
six_numbers b x₀ x₁ x₂ x₃ x₄ x₅ h₀ h₁ h₂ h₃ h₄ h₅ (suc (suc (suc (suc zero)))) = h₄
six_numbers b x₀ x₁ x₂ x₃ x₄ x₅ h₀ h₁ h₂ h₃ h₄ h₅ (suc (suc (suc (suc (suc zero))))) = h₅
six_numbers b x₀ x₁ x₂ x₃ x₄ x₅ h₀ h₁ h₂ h₃ h₄ h₅ (suc (suc (suc (suc (suc (suc i)))))) = omega arith

below-low : (f : ℕ → List ℕ) (b n : ℕ) → ((j : ℕ) → j < n → Sixes b (f j)) → Sixes (n * b) (six_below f n)
below-low f b zero h =
    six_numbers (0 * b) 0 0 0 0 0 0 (omega arith) (omega arith) (omega arith) (omega arith) (omega arith) (omega arith)
below-low f b (suc n) h =
    λ i. omega (arith, plus-at (six_below f n) (f n) i, below-low f b n (λ j l. h j (omega arith)) i, h n (omega arith) i)

module _ (a b c : ℤ) (la : nat_abs a ≤ 100000) (lb : nat_abs b ≤ 100000) (lc : nat_abs c ≤ 100000) where
  pub parts_low : Sixes 160000000000 (six_parts a b c)
  parts_low =
      six_numbers 160000000000 _ _ _ _ _ _ (lone a b c la lb lc) (lone b a c lb la lc) (lone c a b lc la lb)
      (pair b c lb lc) (pair c a lc la) (pair a b la lb)
    where
      lone : (x y z : ℤ) → nat_abs x ≤ 100000 → nat_abs y ≤ 100000 → nat_abs z ≤ 100000 → square (twice x -ℤ y -ℤ z) ≤ 160000000000
      lone x y z p q r =
          let h : nat_abs (twice x -ℤ y -ℤ z) ≤ 400000 = omega (arith, abs_add x x, abs_sub (twice x) y, abs_sub (twice x -ℤ y) z) in
          mul-le-mul h h

      pair : (x y : ℤ) → nat_abs x ≤ 100000 → nat_abs y ≤ 100000 → 3 * square (x -ℤ y) ≤ 160000000000
      pair x y p q =
          let h : nat_abs (x -ℤ y) ≤ 200000 = omega (arith, abs_sub x y) in
          let k : square (x -ℤ y) ≤ 40000000000 = mul-le-mul h h in
          omega arith

pub six_low : (w : List ℤ) → Low w → (n : ℕ) → n ≤ samples_of w → Sixes (n * 160000000000) (six_up_to w n)
six_low w h n l =
    below-low _ 160000000000 n
    (λ i m. parts_low (sample_at w 0 i) (sample_at w 1 i) (sample_at w 2 i) (h (3 * i + 0) (omega arith)) (h (3 * i + 1) (omega arith)) (h (3 * i + 2) (omega arith)))

-- of a window of at most 512 samples
pub six_in-low : (w : List ℤ) → Low w → length w ≤ 1536 → Sixes 100000000000000 (six_in w)
unfolding six_in
six_in-low w h l i = omega (arith, six_low w h (samples_of w) (omega arith) i)

-- ---- over the window of half-cycle k they are the rules' six sums

six_same : (f g : ℕ → List ℕ) (n : ℕ) → ((j : ℕ) → j < n → f j ≡ g j) → six_below f n ≡ six_below g n
six_same f g zero h = refl
six_same f g (suc n) h = rw (six_same f g n (λ j l. h j (omega arith)), h n (omega arith))

module _ (s : Settings) (xs : List ℤ) (k : ℕ) (fits : 3 * begin s k + 3 * s.n ≤ length xs) where
  pub window_six : six_in (window s xs k) ≡ six_sums s xs k
  unfolding six_in six_sums
  window_six =
      rw (part-samples xs (begin s k) s.n fits)
      (six_same _ _ s.n
      (λ i l. rw (sample_is xs (begin s k) s.n fits 0 i (omega arith) l, sample_is xs (begin s k) s.n fits 1 i (omega arith) l, sample_is xs (begin s k) s.n fits 2 i (omega arith) l)))

-- ---- the samples of a window, three numbers at a time: those left begin with the k-th three

module _ (w three rest : List ℤ) (k : ℕ) (left : drop (3 * k) w ≡ three ++ rest) (are_three : length three ≡ 3) where
  pub sample_in : (c : ℕ) → c < 3 → get_or three c (pos 0) ≡ sample_at w c k
  sample_in c l = sym (get_or-append three rest (pos 0) c (omega arith)) ∙ ap (λ (xs : List ℤ). get_or xs c (pos 0)) (sym left) ∙ get_or-drop (3 * k) w c (pos 0)

  pub rest_in : rest ≡ drop (3 * (k + 1)) w
  rest_in =
      let seam : drop 3 (three ++ rest) ≡ rest = rw (sym are_three) (drop-append_seam three rest) in
      let on : 3 * (k + 1) ≡ 3 * k + 3 = omega arith in
      sym seam ∙ ap (λ (xs : List ℤ). drop 3 xs) (sym left) ∙ drop-drop 3 (3 * k) w ∙ ap (λ n. drop n w) (sym on)

  pub more_samples : k + 1 ≤ samples_of w
  more_samples =
      let many : length (drop (3 * k) w) ≡ length three + length rest = rw left (length-append three rest) in
      omega (arith, many, length-drop (3 * k) w)
