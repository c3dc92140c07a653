-- The sag type: 0 exactly where the six sums are alike, else the number of the first smallest; and the six sums, each by its own
-- formula over the samples. Assumes nothing.
use Prim.Native.Nat.{ℕ, zero, suc, ◌+◌, ◌*◌, ◌/◌, ◌≤◌, ◌<◌}
use mathlib.Core.Path.{◌≡◌, refl, ap, ◌∙◌}
use mathlib.Core.Bool.{Bool, true, false, cond}
use mathlib.Core.List.{List, [], ◌∷◌}
use mathlib.Core.Logic.{◌↔◌, ⊎_elim}
use native.Mathlib.Nat.{le_antisymm}
use native.Mathlib.Omega.{arith}
use borrow.Author.Tests.{leb-true, le-leb, eqb-true, eqb-false}
use lib.Dec.{leb, eqb}
use lib.IntN.{ℤ, pos, ◌-ℤ◌, ◌+ℤ◌, neg_ℤ, +ℤ_assoc, +ℤ_comm}
use lib.ListN.{length, get_or}
use Rattle.rules.specs.Bounded.{sum}
use Rattle.rules.specs.Events.{twice, six_parts, plus, six_below, six_sums, smallest, largest, number_of_first, type_of}
use Rattle.rules.specs.Meanings.{Alike, IsFirstSmallest, part_of}
use Rattle.rules.specs.declared.Settings.{Settings}
use Rattle.rules.proofs.Choices.{lower}

-- ---- the smallest and the largest of a list

smallest-low : (xs : List ℕ) (i : ℕ) → i < length xs → smallest xs ≤ get_or xs i 0
smallest-low [] i l = absurd (omega arith)
smallest-low (x ∷ []) zero l = omega arith
smallest-low (x ∷ []) (suc i) l = absurd (omega arith)
smallest-low (x ∷ y ∷ ys) zero l = omega arith
smallest-low (x ∷ y ∷ ys) (suc i) l = let r = smallest-low (y ∷ ys) i (omega arith) in omega arith

largest-high : (xs : List ℕ) (i : ℕ) → i < length xs → get_or xs i 0 ≤ largest xs
largest-high [] i l = absurd (omega arith)
largest-high (x ∷ []) zero l = omega arith
largest-high (x ∷ []) (suc i) l = absurd (omega arith)
largest-high (x ∷ y ∷ ys) zero l = omega arith
largest-high (x ∷ y ∷ ys) (suc i) l = let r = largest-high (y ∷ ys) i (omega arith) in omega arith

smallest-at : (xs : List ℕ) → 0 < length xs → (i : ℕ) × (i < length xs) × (get_or xs i 0 ≡ smallest xs)
smallest-at [] l = absurd (omega arith)
smallest-at (x ∷ []) l = (0, omega arith, refl)
smallest-at (x ∷ y ∷ ys) l =
    let r = smallest-at (y ∷ ys) (omega arith) in
    ⊎_elim (λ u. (0, omega arith, omega arith)) (λ u. (suc r.0, omega (arith, r.1), omega (arith, r.2))) (lower x (smallest (y ∷ ys)))

largest-at : (xs : List ℕ) → 0 < length xs → (i : ℕ) × (i < length xs) × (get_or xs i 0 ≡ largest xs)
largest-at [] l = absurd (omega arith)
largest-at (x ∷ []) l = (0, omega arith, refl)
largest-at (x ∷ y ∷ ys) l =
    let r = largest-at (y ∷ ys) (omega arith) in
    ⊎_elim (λ u. (suc r.0, omega (arith, r.1), omega (arith, r.2))) (λ u. (0, omega arith, omega arith)) (lower x (largest (y ∷ ys)))

-- ---- the first that equals v, where one does

-- number n, counted from 0, is the first that equals v
record First (xs : List ℕ) (v n : ℕ) : Type 0 where
  number : number_of_first xs v ≡ suc n
  in_list : n < length xs
  equal : get_or xs n 0 ≡ v
  none_before : (j : ℕ) → j < n → get_or xs j 0 ≡ v → ⊥

-- where the head is not it, the first of the tail is one further
further : (x : ℕ) (xs : List ℕ) (v n : ℕ) → eqb x v ≡ false → First xs v n → First (x ∷ xs) v (suc n)
further x xs v n q r =
    record { number = rw (q, r.number); in_list = omega (arith, r.in_list); equal = r.equal; none_before = before }
  where
    before : (j : ℕ) → j < suc n → get_or (x ∷ xs) j 0 ≡ v → ⊥
    before zero u e = eqb-false x v q e
    before (suc j) u e = r.none_before j (omega arith) e

first_of : (xs : List ℕ) (v i : ℕ) → i < length xs → get_or xs i 0 ≡ v → (n : ℕ) × First xs v n
first_of [] v i l e = absurd (omega arith)
first_of (x ∷ xs) v i l e = by (eqb x v) refl (first_of xs v) i l e
  where
    by : (b : Bool) → eqb x v ≡ b → ((i : ℕ) → i < length xs → get_or xs i 0 ≡ v → (n : ℕ) × First xs v n)
        → (i : ℕ) → i < length (x ∷ xs) → get_or (x ∷ xs) i 0 ≡ v → (n : ℕ) × First (x ∷ xs) v n
    by true q tail i l e =
        (0, record { number = rw q; in_list = omega arith; equal = eqb-true x v q; none_before = λ j u. absurd (omega arith) })
    by false q tail zero l e = absurd (eqb-false x v q e)
    by false q tail (suc i) l e = let r = tail i (omega arith) e in (suc r.0, further x xs v r.0 q r.1)

-- ---- the type

less : (x y : ℕ) → x ≤ y → (y ≡ x → ⊥) → x < y
less x y l f = omega arith

module _ (six : List ℕ) (length_six : length six ≡ 6) where
  alike_test : (leb (81 * largest six) (100 * smallest six) ≡ true) ↔ Alike six
  alike_test = (
    λ h i j l m.
        let t = leb-true (81 * largest six) (100 * smallest six) h in
        let low = smallest-low six i (omega arith) in
        let high = largest-high six j (omega arith) in
        omega arith,
    λ h.
        let s = smallest-at six (omega arith) in
        let g = largest-at six (omega arith) in
        le-leb (81 * largest six) (100 * smallest six) (omega (arith, h s.0 g.0 (omega (arith, s.1)) (omega (arith, g.1)), s.2, g.2)),
  )

  -- the first smallest, as the definition finds it
  found : (n : ℕ) × First six (smallest six) n
  found = let s = smallest-at six (omega arith) in first_of six (smallest six) s.0 s.1 s.2

  is_smallest : (n : ℕ) → First six (smallest six) n → IsFirstSmallest six n
  is_smallest n r = (
    omega (arith, r.in_list),
    λ j l. omega (arith, r.equal, smallest-low six j (omega arith)),
    λ j l.
        let u : j < length six = omega (arith, r.in_list) in
        rw r.equal (less (smallest six) (get_or six j 0) (smallest-low six j u) (r.none_before j l)),
  )

  smallest-only : (i j : ℕ) → IsFirstSmallest six i → IsFirstSmallest six j → i ≡ j
  smallest-only i j p q = le_antisymm (at i j p q) (at j i q p)
    where
      at : (i j : ℕ) → IsFirstSmallest six i → IsFirstSmallest six j → i ≤ j
      at i j p q = ⊎_elim (λ l. absurd (omega (arith, p.2 j l, q.1 i p.0))) (λ l. l) (lower j i)

  -- where the test of likeness fails, the type is the number of the first smallest
  type_by : (b : Bool) → leb (81 * largest six) (100 * smallest six) ≡ b → type_of six ≡ cond b 0 (suc found.0)
  unfolding type_of
  type_by b e = rw (e, found.1.number)

  -- THE LAW: the type is 0 exactly if each of the six is at least 81 hundredths of every other
  pub type_zero : (type_of six ≡ 0) ↔ Alike six
  type_zero = (λ h. by (leb (81 * largest six) (100 * smallest six)) refl h, λ a. type_by true (alike_test.1 a))
    where
      by : (b : Bool) → leb (81 * largest six) (100 * smallest six) ≡ b → type_of six ≡ 0 → Alike six
      by true e h = alike_test.0 e
      by false e h = absurd (omega (arith, type_by false e))

  -- THE LAW: otherwise it is the number, 1 to 6, of the first smallest
  pub type_number : (i : ℕ) → (type_of six ≡ suc i) ↔ ((Alike six → ⊥) × IsFirstSmallest six i)
  type_number i = (
    λ h. (λ a. omega (arith, h, type_zero.1 a), by (leb (81 * largest six) (100 * smallest six)) refl h),
    λ w. on (leb (81 * largest six) (100 * smallest six)) refl w,
  )
    where
      by : (b : Bool) → leb (81 * largest six) (100 * smallest six) ≡ b → type_of six ≡ suc i → IsFirstSmallest six i
      by true e h = absurd (omega (arith, type_by true e))
      by false e h =
          let q : found.0 ≡ i = omega (arith, type_by false e) in
          rw q at (is_smallest found.0 found.1)

      on : (b : Bool) → leb (81 * largest six) (100 * smallest six) ≡ b → (Alike six → ⊥) × IsFirstSmallest six i → type_of six ≡ suc i
      on true e w = absurd (w.0 (alike_test.0 e))
      on false e w = type_by false e ∙ ap suc (smallest-only found.0 i (is_smallest found.0 found.1) w.1)

-- ---- the six sums, over the samples

abbrev six : (ℕ → ℕ) → List ℕ
six g = g 0 ∷ g 1 ∷ g 2 ∷ g 3 ∷ g 4 ∷ g 5 ∷ []

at_six : (g : ℕ → ℕ) (j : ℕ) → j < 6 → get_or (six g) j 0 ≡ g j
at_six g zero l = refl
at_six g (suc zero) l = refl
at_six g (suc (suc zero)) l = refl
at_six g (suc (suc (suc zero))) l = refl
at_six g (suc (suc (suc (suc zero)))) l = refl
at_six g (suc (suc (suc (suc (suc zero))))) l = refl
at_six g (suc (suc (suc (suc (suc (suc j)))))) l = absurd (omega arith)

-- 2a - b - c is (a - b) + (a - c)
apart : (a b c : ℤ) → twice a -ℤ b -ℤ c ≡ (a -ℤ b) +ℤ (a -ℤ c)
apart a b c =
    ap (λ x. x +ℤ neg_ℤ c) (+ℤ_assoc a a (neg_ℤ b) ∙ +ℤ_comm a (a +ℤ neg_ℤ b)) ∙ +ℤ_assoc (a +ℤ neg_ℤ b) a (neg_ℤ c)

parts_are : (a b c : ℤ) → six_parts a b c ≡ six (λ j. part_of j a b c)
parts_are a b c = rw (apart a b c, apart b a c, apart c a b)

sums_of : (a b c : ℕ → ℤ) (n : ℕ) → six_below (λ i. six_parts (a i) (b i) (c i)) n ≡ six (λ j. sum (λ i. part_of j (a i) (b i) (c i)) n)
sums_of a b c zero = refl
sums_of a b c (suc n) =
    ap (λ t. plus t (six_parts (a n) (b n) (c n))) (sums_of a b c n)
    ∙ ap (plus (six (λ j. sum (λ i. part_of j (a i) (b i) (c i)) n))) (parts_are (a n) (b n) (c n))

-- THE LAW: each of the six, in their order, is the sum of its own formula over the N samples of each channel that begin at
-- sample k x N/2
pub six_are : (s : Settings) (xs : List ℤ) (k j : ℕ) → j < 6
    → get_or (six_sums s xs k) j 0
    ≡ sum (λ i. let at : ℕ → ℤ = λ c. get_or xs (3 * (k * (s.n / 2) + i) + c) (pos 0) in part_of j (at 0) (at 1) (at 2)) s.n
unfolding six_sums
six_are s xs k j l =
    let at : ℕ → ℕ → ℤ = λ c i. get_or xs (3 * (k * (s.n / 2) + i) + c) (pos 0) in
    ap (λ t. get_or t j 0) (sums_of (at 0) (at 1) (at 2) s.n)
    ∙ at_six (λ j. sum (λ i. part_of j (at 0 i) (at 1 i) (at 2 i)) s.n) j l
