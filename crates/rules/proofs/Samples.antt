-- What an accepted recording is: its windows lie within the run, its samples are in range, and so its sums are low. Assumes nothing.
use Rattle.std.specs.Prelude.{Result, Ok, Err, Some, None, ⊤}
use Prim.Native.Nat.{ℕ, zero, suc, ◌+◌, ◌*◌, ◌/◌, ◌%◌, ◌≤◌, ◌<◌}
use mathlib.Core.Path.{◌≡◌, refl, sym, ap, ◌∙◌}
use mathlib.Core.Bool.{Bool, true, false, not, ◌&&◌, cond, false≢true}
use mathlib.Core.List.{List, [], ◌∷◌}
use mathlib.Core.Logic.{⊎_elim}
use native.Mathlib.Nat.{eq-or-lt_of_le, mul-le-mul, mul-le-mul_right, div-mul-le_self, le_trans}
use native.Mathlib.Omega.{arith}
use borrow.Author.Tests.{ltb-true, ltb-false, leb-true, eqb-true, not-false, not-true}
use lib.Dec.{leb, ltb, eqb}
use lib.IntN.{ℤ, pos, nat_abs}
use lib.ListN.{length, get_or}
use Rattle.rules.specs.Bounded.{any, all, sum, first_not}
use Rattle.rules.specs.Recorder.{sample_at, missing, in_range, first_bad}
use Rattle.rules.specs.Halves.{samples_of, halves_of, begin, any_missing, square, squares, sums_at, half_at, known}
use Rattle.rules.specs.Events.{plus, six_below, six_sums, number_of_first, smallest, largest, type_of}
use Rattle.rules.specs.Refusals.{recording_check, most_half_cycles, and_then}
use Rattle.rules.specs.Demands.{Good, AcceptedRecording}
use Rattle.rules.specs.declared.Settings.{Settings}
use Rattle.rules.specs.declared.Sums.{Sums}
use Rattle.rules.specs.declared.Refusal.{Refusal}
use Rattle.rules.specs.declared.Refusal.TheVariants.{Uneven, Short, Ragged, Long, Sample}
use Rattle.rules.proofs.Booleans.{both, neither, not_both}
use Rattle.rules.proofs.Bounded.{all-at, all_true}
use Rattle.rules.proofs.Longest.{first_between, first_refused}

-- ---- bounded tests and sums

pub any_at : (p : ℕ → Bool) (n : ℕ) → any p n ≡ false → (j : ℕ) → j < n → p j ≡ false
any_at p zero h j l = absurd (omega arith)
any_at p (suc n) h j l =
    ⊎_elim (λ e. rw e (neither (any p n) (p n) h).1) (λ m. any_at p n (neither (any p n) (p n) h).0 j m)
    (eq-or-lt_of_le (omega arith))

pub sum_le : (f : ℕ → ℕ) (b n : ℕ) → ((j : ℕ) → j < n → f j ≤ b) → sum f n ≤ n * b
sum_le f b zero h = omega arith
sum_le f b (suc n) h = omega (arith, sum_le f b n (λ j l. h j (omega arith)), h n (omega arith))

-- there is one below n exactly where not every number below n passes
pub first_found : (p : ℕ → Bool) (n : ℕ) → ltb (first_not p 0 n) n ≡ not (all p n)
first_found p n = by (all p n) (ltb (first_not p 0 n) n) refl refl
  where
    by : (every found : Bool) → all p n ≡ every → ltb (first_not p 0 n) n ≡ found → found ≡ not every
    by true true e f =
        let l : first_not p 0 n < n = ltb-true (first_not p 0 n) n f in
        absurd (not_both (p (first_not p 0 n)) (all-at p n e (first_not p 0 n) l) (first_refused p 0 n (omega arith)))
    by true false e f = refl
    by false true e f = refl
    by false false e f =
        let l : n ≤ first_not p 0 n = ltb-false (first_not p 0 n) n f in
        absurd (not_both (all p n) (all_true p n (λ i m. first_between p 0 n i (omega arith) (omega arith))) e)

-- ---- an accepted recording: what its check says

-- a check that accepts does not refuse, and goes on to the next
pub goes_on_lem : (refused : Bool) (r : Refusal) (next : Result ⊤ Refusal) → cond refused (Err r) next ≡ Ok tt → (refused ≡ false) × (next ≡ Ok tt)
goes_on_lem true r next h = let z : ◌≡◌ {A = ℕ} 0 1 = cc in absurd (omega arith)
goes_on_lem false r next h = (refl, h)

pub both_accept : (c d : Result ⊤ Refusal) → and_then c d ≡ Ok tt → (c ≡ Ok tt) × (d ≡ Ok tt)
both_accept (Ok _) d h = (refl, h)
both_accept (Err r) d h = let z : ◌≡◌ {A = ℕ} 0 1 = cc in absurd (omega arith)

none-bad : (xs : List ℤ) → length xs ≤ first_bad xs → (i : ℕ) → i < length xs → in_range (get_or xs i (pos 0)) ≡ true
unfolding first_bad
none-bad xs h i l = first_between (λ i. in_range (get_or xs i (pos 0))) 0 (length xs) i (omega arith) (omega arith)

pub accepted_recording : (s : Settings) (xs : List ℤ) → recording_check s xs ≡ Ok tt → AcceptedRecording s xs
unfolding recording_check
accepted_recording s xs h =
    let two = goes_on_lem (not (eqb (length xs % 3) 0)) Uneven _ h in
    let three = goes_on_lem (ltb (samples_of xs) s.n) Short _ two.1 in
    let four = goes_on_lem (not (eqb (samples_of xs % (s.n / 2)) 0)) Ragged _ three.1 in
    let five = goes_on_lem (ltb most_half_cycles (halves_of s xs)) Long _ four.1 in
    let six = goes_on_lem (ltb (first_bad xs) (length xs)) (Sample (first_bad xs)) (Ok tt) five.1 in
    record {
      threes = eqb-true (length xs % 3) 0 (not-false _ two.0);
      enough = ltb-false (samples_of xs) s.n three.0;
      even = eqb-true (samples_of xs % (s.n / 2)) 0 (not-false _ four.0);
      few = ltb-false most_half_cycles (halves_of s xs) five.0;
      every_in_range = none-bad xs (ltb-false (first_bad xs) (length xs) six.0);
    }

-- ---- the window of a half-cycle that exists lies within the run

pub window-fits : (s : Settings) (xs : List ℤ) → Good s → AcceptedRecording s xs → (k : ℕ) → k < halves_of s xs → 3 * begin s k + 3 * s.n ≤ length xs
unfolding halves_of
window-fits s xs g a k l =
    let n = s.n in
    let m = n / 2 in
    let e : n ≡ 2 * m = omega (arith, g.n_even) in
    let h : (k + 2) * n ≤ 2 * samples_of xs = le_trans (mul-le-mul_right n (omega arith)) (div-mul-le_self (2 * samples_of xs) n) in
    let d : (k + 2) * n ≡ 2 * (k * m) + 2 * n = ap (λ (x : ℕ). (k + 2) * x) e ∙ omega arith in
    omega arith

-- ---- what a known half-cycle is, and that its sums are low

is_known : (b : Bool) (v w : Sums) → cond b (Some v) None ≡ Some w → (b ≡ true) × (v ≡ w)
is_known true v w h = (refl, cc)
is_known false v w h = let z : ◌≡◌ {A = ℕ} 0 1 = cc in absurd (omega arith)

pub record Knows (s : Settings) (xs : List ℤ) (k : ℕ) (v : Sums) : Type 0 where
  pub exists : k < halves_of s xs
  pub whole : any_missing s xs k ≡ false
  pub sums : sums_at s xs k ≡ v

pub knows : (s : Settings) (xs : List ℤ) (k : ℕ) (v : Sums) → half_at s xs k ≡ Some v → Knows s xs k v
unfolding half_at
knows s xs k v h =
    let p = is_known (ltb k (halves_of s xs) && not (any_missing s xs k)) (sums_at s xs k) v h in
    let q = both (ltb k (halves_of s xs)) (not (any_missing s xs k)) p.0 in
    record { exists = ltb-true k (halves_of s xs) q.0; whole = not-true (any_missing s xs k) q.1; sums = p.1 }

pub known_is : (s : Settings) (xs : List ℤ) (k : ℕ) → known (half_at s xs k) ≡ true → half_at s xs k ≡ Some (sums_at s xs k)
unfolding half_at
known_is s xs k h = by (ltb k (halves_of s xs) && not (any_missing s xs k)) h
  where
    by : (b : Bool) → known (cond b (Some (sums_at s xs k)) None) ≡ true → cond b (Some (sums_at s xs k)) None ≡ Some (sums_at s xs k)
    by true h = refl
    by false h = absurd (false≢true h)

-- a sample in range that is not missing
pub low : (x : ℤ) → in_range x ≡ true → missing x ≡ false → nat_abs x ≤ 100000
low x r m = leb-true (nat_abs x) 100000 (rw m at r)

pub square-low : (x : ℤ) → nat_abs x ≤ 100000 → square x ≤ 10000000000
square-low x h = mul-le-mul h h

module _ (s : Settings) (xs : List ℤ) (g : Good s) (a : AcceptedRecording s xs) (k : ℕ) (exists : k < halves_of s xs) (whole : any_missing s xs k ≡ false) where
  pub present : (i c : ℕ) → i < s.n → c < 3 → missing (sample_at xs c (begin s k + i)) ≡ false
  unfolding any_missing
  present i c l m =
      any_at (λ c. missing (sample_at xs c (begin s k + i))) 3
      (any_at (λ i. any (λ c. missing (sample_at xs c (begin s k + i))) 3) s.n whole i l) c m

  pub sample_low : (i c : ℕ) → i < s.n → c < 3 → nat_abs (sample_at xs c (begin s k + i)) ≤ 100000
  sample_low i c l m =
      low (sample_at xs c (begin s k + i))
      (a.every_in_range (3 * (begin s k + i) + c) (omega (arith, window-fits s xs g a k exists)))
      (present i c l m)

  pub squares-low : (c : ℕ) → c < 3 → squares s xs k c ≤ s.n * 10000000000
  unfolding squares
  squares-low c m =
      sum_le (λ i. square (sample_at xs c (begin s k + i))) 10000000000 s.n
      (λ i l. square-low (sample_at xs c (begin s k + i)) (sample_low i c l m))

pub sums-low : (s : Settings) (xs : List ℤ) → Good s → AcceptedRecording s xs → (k : ℕ) (v : Sums) → half_at s xs k ≡ Some v → (v.a ≤ s.n * 10000000000) × (v.b ≤ s.n * 10000000000) × (v.c ≤ s.n * 10000000000)
unfolding sums_at
sums-low s xs g a k v h =
    let p = knows s xs k v h in
    rw (← p.sums) (
      squares-low s xs g a k p.exists p.whole 0 (omega arith),
      squares-low s xs g a k p.exists p.whole 1 (omega arith),
      squares-low s xs g a k p.exists p.whole 2 (omega arith),
    )

-- ---- six sums, and a type from 0 to 6

length-plus : (xs ys : List ℕ) → length xs ≡ length ys → length (plus xs ys) ≡ length xs
length-plus [] ys h = refl
length-plus (x ∷ xs) [] h = absurd (omega arith)
length-plus (x ∷ xs) (y ∷ ys) h = ap suc (length-plus xs ys (omega arith))

length_sixes : (f : ℕ → List ℕ) → ((i : ℕ) → length (f i) ≡ 6) → (n : ℕ) → length (six_below f n) ≡ 6
length_sixes f h zero = refl
length_sixes f h (suc n) = length-plus (six_below f n) (f n) (length_sixes f h n ∙ sym (h n)) ∙ length_sixes f h n

pub length_six : (s : Settings) (xs : List ℤ) (k : ℕ) → length (six_sums s xs k) ≡ 6
unfolding six_sums
length_six s xs k = length_sixes _ (λ i. refl) s.n

number-high : (xs : List ℕ) (v : ℕ) → number_of_first xs v ≤ length xs
number-high [] v = omega arith
number-high (x ∷ xs) v = by (eqb x v) (number_of_first xs v) (number-high xs v)
  where
    by : (b : Bool) (r : ℕ) → r ≤ length xs → cond b 1 (suc r) ≤ suc (length xs)
    by true r h = omega arith
    by false r h = omega arith

pub type_high : (six : List ℕ) → length six ≡ 6 → type_of six ≤ 6
unfolding type_of
type_high six h = by (leb (81 * largest six) (100 * smallest six)) (number_of_first six (smallest six)) (number-high six (smallest six))
  where
    by : (b : Bool) (r : ℕ) → r ≤ length six → cond b 0 r ≤ 6
    by true r l = omega arith
    by false r l = omega arith
