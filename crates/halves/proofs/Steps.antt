-- Half-cycle k is steps k and k + 1: its sums are theirs added, and it lacks a sample if one of them does. The rules say it of the
-- recording, the code of its runs; the recording is read as a pass reads it, so that nothing is asked of its samples. Assumes nothing.
use Rattle.std.proofs.Common.{◌≡◌, ℕ, zero, suc, ◌+◌, ◌-◌, ◌*◌, ◌/◌, ◌%◌, ◌<◌, ◌≤◌, Bool, true, false, cond, not, ◌||◌, List, length, get_or, ℤ, pos, sym, refl, ap, ◌∙◌, ⊎_elim, mul-le-mul_right, div-add-mod', add-one, arith, lt-ltb, Ok, Some, None, mul-le-mul}
use mathlib.Core.Bool.{false≢true}
use native.Mathlib.Nat.{mul-div-mul_left}
use native.Mathlib.Numerals.{add-two}
use Rattle.rules.specs.Bounded.{any, sum}
use Rattle.rules.specs.Recorder.{sample_at, missing, in_range}
use Rattle.rules.specs.Halves.{samples_of, square, begin, any_missing, squares, sums_at, halves_of, half_at, known}
use Rattle.rules.specs.declared.Settings.{Settings}
use Rattle.rules.specs.declared.Sums.{Sums}
use Rattle.rules.specs.Demands.{Good, AcceptedRecording}
use Rattle.rules.proofs.Booleans.{cases, not_both}
use Rattle.rules.proofs.Bounded.{any_same, sum_same, all_true}
use Rattle.rules.proofs.Choices.{lower}
use Rattle.rules.proofs.Samples.{any_at, window-fits}
use Rattle.checks.specs.Flags.{shape_check, outside, all_in_range, RangedBelow, as_read, read_as}
use Rattle.checks.proofs.Reading.{all_ranged, ranged_all, within_ranged, within_read, missing_read, read_length, read_at, read_halves, read_accepted}
use Rattle.halves.specs.Steps.{step_run, outside_in, squares_in, sums_in, step_in, step_at, joined_of, Addable}
use Rattle.halves.proofs.Parts.{part_length, part_at, part-samples, sample_is, squares_in-low, low_run}

-- ---- sums and flags in two parts

sum_split : (f : ℕ → ℕ) (a b : ℕ) → sum f (a + b) ≡ sum f a + sum (λ j. f (a + j)) b
sum_split f a zero = let e : a + 0 ≡ a = omega arith in rw e (omega arith)
sum_split f a (suc b) = let e : a + suc b ≡ suc (a + b) = omega arith in rw e (omega (arith, sum_split f a b))

any_split : (p : ℕ → Bool) (a b : ℕ) → any p (a + b) ≡ any p a || any (λ j. p (a + j)) b
any_split p a zero = let e : a + 0 ≡ a = omega arith in rw e (or_false (any p a))
  where
    or_false : (x : Bool) → x ≡ x || false
    or_false true = refl
    or_false false = refl
any_split p a (suc b) =
    let e : a + suc b ≡ suc (a + b) = omega arith in
    rw (e, any_split p a b) (assoc (any p a) (any (λ j. p (a + j)) b) (p (a + b)))
  where
    assoc : (x y z : Bool) → (x || y) || z ≡ x || (y || z)
    assoc true y z = refl
    assoc false y z = refl

-- flags three at a time
or_three : (a b c d : Bool) → ((a || b) || c) || d ≡ a || ((b || c) || d)
or_three true b c d = refl
or_three false b c d = refl

any-threes : (p : ℕ → Bool) (n : ℕ) → any p (3 * n) ≡ any (λ i. any (λ c. p (3 * i + c)) 3) n
any-threes p zero = refl
any-threes p (suc n) =
    let e : 3 * suc n ≡ suc (suc (suc (3 * n))) = omega arith in
    let e₀ : 3 * n + 0 ≡ 3 * n = omega arith in
    rw (e, e₀, add-one, add-two, any-threes p n)
    (or_three (any (λ i. any (λ c. p (3 * i + c)) 3) n) (p (3 * n)) (p (suc (3 * n))) (p (suc (suc (3 * n)))))

-- ---- a step as the rules would say it

abbrev step_missing : Settings → List ℤ → ℕ → Bool
step_missing s ys j = any (λ i. any (λ c. missing (sample_at ys c (begin s j + i))) 3) (s.n / 2)

abbrev step_squares : Settings → List ℤ → ℕ → ℕ → ℕ
step_squares s ys j c = sum (λ i. square (sample_at ys c (begin s j + i))) (s.n / 2)

abbrev step_sums : Settings → List ℤ → ℕ → Sums
step_sums s ys j = record { a = step_squares s ys j 0; b = step_squares s ys j 1; c = step_squares s ys j 2 }

-- a half-cycle is two of them
module _ (s : Settings) (g : Good s) (ys : List ℤ) (k : ℕ) where
  two : s.n ≡ s.n / 2 + s.n / 2
  two = omega (arith, g.n_even)

  next-begin : (j : ℕ) → begin s k + (s.n / 2 + j) ≡ begin s (suc k) + j
  next-begin j = omega arith

  squares-parts : (c : ℕ) → squares s ys k c ≡ step_squares s ys k c + step_squares s ys (suc k) c
  unfolding squares
  squares-parts c =
      ap (sum (λ i. square (sample_at ys c (begin s k + i)))) two
      ∙ sum_split (λ i. square (sample_at ys c (begin s k + i))) (s.n / 2) (s.n / 2)
      ∙ ap (λ x. sum (λ i. square (sample_at ys c (begin s k + i))) (s.n / 2) + x)
      (sum_same _ (λ j. square (sample_at ys c (begin s (suc k) + j))) (s.n / 2) (λ j l. ap (λ (m : ℕ). square (sample_at ys c m)) (next-begin j)))

  missing-parts : any_missing s ys k ≡ step_missing s ys k || step_missing s ys (suc k)
  unfolding any_missing
  missing-parts =
      ap (any (λ i. any (λ c. missing (sample_at ys c (begin s k + i))) 3)) two
      ∙ any_split (λ i. any (λ c. missing (sample_at ys c (begin s k + i))) 3) (s.n / 2) (s.n / 2)
      ∙ ap (λ x. any (λ i. any (λ c. missing (sample_at ys c (begin s k + i))) 3) (s.n / 2) || x)
      (any_same _ (λ j. any (λ c. missing (sample_at ys c (begin s (suc k) + j))) 3) (s.n / 2) (λ j l. ap (λ (m : ℕ). any (λ c. missing (sample_at ys c m)) 3) (next-begin j)))

  sums-parts : sums_at s ys k
      ≡ record {
        a = (step_sums s ys k).a + (step_sums s ys (suc k)).a;
        b = (step_sums s ys k).b + (step_sums s ys (suc k)).b;
        c = (step_sums s ys k).c + (step_sums s ys (suc k)).c;
      }
  unfolding sums_at
  sums-parts = rw (squares-parts 0, squares-parts 1, squares-parts 2)

-- ---- what the code's pass over a step finds is that

-- a run within the limits is in range
pub within-run : (w : List ℤ) → outside_in w ≡ false → all_in_range w ≡ true
unfolding outside_in all_in_range
within-run w m =
    all_true (λ i. in_range (get_or w i (pos 0))) (length w)
    (λ i l. within_ranged (get_or w i (pos 0)) (any_at (λ i. outside (get_or w i (pos 0))) (length w) m i l))

module _ (s : Settings) (xs : List ℤ) (good : Good s) (shaped : shape_check s xs ≡ Ok tt) where
  abbrev ys : List ℤ
  ys = as_read xs

  ok : AcceptedRecording s ys
  ok = read_accepted s xs shaped

  -- steps 0 to H lie within the run
  pub step_fits : (j : ℕ) → j ≤ halves_of s xs → 3 * begin s j + 3 * (s.n / 2) ≤ length xs
  step_fits zero l = omega (arith, ok.enough, read_length xs)
  step_fits (suc k) l =
      omega (arith, window-fits s ys good ok k (omega (arith, read_halves s xs)), read_length xs, good.n_even)

  pub few_halves : halves_of s xs ≤ 100000
  few_halves = omega (arith, ok.few, read_halves s xs)

  pub begin-low : (j : ℕ) → j ≤ halves_of s xs → begin s j ≤ 25600000
  begin-low j l = mul-le-mul {n₁ = j} {m₁ = s.n / 2} {n₂ = 100000} {m₂ = 256} (omega (arith, few_halves)) (omega (arith, good.n_high))

  -- and they are all of it
  pub steps_all : length xs ≤ 3 * begin s (suc (halves_of s xs))
  unfolding halves_of
  steps_all =
      let m = s.n / 2 in
      let L = samples_of xs in
      let e : s.n ≡ 2 * m = omega (arith, good.n_even) in
      let q : 2 * L / s.n ≡ L / m = ap (λ (x : ℕ). 2 * L / x) e ∙ mul-div-mul_left L m (omega arith) in
      let d : L / m * m + L % m ≡ L = div-add-mod' L m in
      let r : L / m * m ≤ suc (2 * L / s.n - 1) * m = mul-le-mul_right m (omega (arith, q)) in
      let z : L % m ≡ 0 = rw (read_length xs) at ok.even in
      let t : length xs % 3 ≡ 0 = rw (read_length xs) at ok.threes in
      omega arith

  module _ (j : ℕ) (high : j ≤ halves_of s xs) where
    abbrev w : List ℤ
    w = step_run s xs j

    fits : 3 * begin s j + 3 * (s.n / 2) ≤ length xs
    fits = step_fits j high

    read_sample : (c i : ℕ) → c < 3 → i < s.n / 2 → sample_at ys c (begin s j + i) ≡ read_as (sample_at w c i)
    read_sample c i l m =
        read_at xs (3 * (begin s j + i) + c) ∙ ap read_as (sym (sample_is xs (begin s j) (s.n / 2) fits c i l m))

    outside_is : outside_in w ≡ step_missing s ys j
    unfolding outside_in
    outside_is =
        rw (part_length xs (begin s j) (s.n / 2) fits, any-threes (λ i. outside (get_or w i (pos 0))) (s.n / 2))
        (any_same _ _ (s.n / 2) (λ i l. any_same _ _ 3 (λ c m. sym (ap missing (read_sample c i m l) ∙ missing_read (sample_at w c i)))))

    squares_are : outside_in w ≡ false → (c : ℕ) → c < 3 → squares_in w c (samples_of w) ≡ step_squares s ys j c
    unfolding outside_in
    squares_are e c l =
        rw (part-samples xs (begin s j) (s.n / 2) fits)
        (sum_same _ _ (s.n / 2)
        (λ i m. ap square (sym (read_sample c i l m ∙ within_read (sample_at w c i)
        (any_at (λ i. outside (get_or w i (pos 0))) (length w) e (3 * i + c) (omega (arith, part_length xs (begin s j) (s.n / 2) fits)))))))

    sums_are : outside_in w ≡ false → sums_in w ≡ step_sums s ys j
    unfolding sums_in
    sums_are e = rw (squares_are e 0 (omega arith), squares_are e 1 (omega arith), squares_are e 2 (omega arith))

    pub step_is : step_at s xs j ≡ cond (step_missing s ys j) None (Some (step_sums s ys j))
    unfolding step_at step_in
    step_is =
        ⊎_elim (λ e. let f : step_missing s ys j ≡ true = sym outside_is ∙ e in rw (e, f))
        (λ e. let f : step_missing s ys j ≡ false = sym outside_is ∙ e in rw (e, f, sums_are e))
        (cases (outside_in w))

    pub step-few : length w ≤ 768
    step-few = omega (arith, part_length xs (begin s j) (s.n / 2) fits, good.n_high)

    pub step-threes : length w % 3 ≡ 0
    step-threes = omega (arith, part_length xs (begin s j) (s.n / 2) fits)

    pub step_addable : Addable (step_at s xs j)
    unfolding step_at step_in sums_in
    step_addable = ⊎_elim (λ e. rw e tt) (λ e. rw e (low e 0 (omega arith), low e 1 (omega arith), low e 2 (omega arith))) (cases (outside_in w))
      where
        low : outside_in w ≡ false → (c : ℕ) → c < 3 → squares_in w c (samples_of w) ≤ 2560000000000
        low e c l = omega (arith, squares_in-low w (low_run w e) c (samples_of w) l (omega arith), step-few)

    -- a known step is in range
    pub known_step : known (step_at s xs j) ≡ true → all_in_range w ≡ true
    unfolding step_at step_in
    known_step e = ⊎_elim (λ o. absurd (false≢true (rw o at e))) (λ o. within-run w o) (cases (outside_in w))

    -- a step in range makes what is known to be in range longer; a bad one is a bad sample of the recording
    pub ranged_next : RangedBelow xs (3 * begin s j) → all_in_range w ≡ true → RangedBelow xs (3 * begin s (suc j))
    ranged_next h e i l =
        ⊎_elim (λ m. h i m)
        (λ m. let d = i - 3 * begin s j in
        let u : d < 3 * (s.n / 2) = omega arith in
        let f : 3 * begin s j + d ≡ i = omega arith in
        rw f at (rw (part_at xs (begin s j) (s.n / 2) fits d u) at (all_ranged w e d (omega (arith, part_length xs (begin s j) (s.n / 2) fits)))))
        (lower i (3 * begin s j))

    pub ranged_step : RangedBelow xs (3 * begin s (suc j)) → all_in_range w ≡ true
    ranged_step h =
        ranged_all w (length w) (omega arith)
        (λ i l. let u : i < 3 * (s.n / 2) = omega (arith, part_length xs (begin s j) (s.n / 2) fits) in
        rw (part_at xs (begin s j) (s.n / 2) fits i u) (h (3 * begin s j + i) (omega arith)))

    pub step-bad : all_in_range w ≡ false → all_in_range xs ≡ false
    step-bad e = ⊎_elim (λ a. absurd (not_both (all_in_range w) (ranged_all w (length w) (omega arith) (whole a)) e)) (λ a. a) (cases (all_in_range xs))
      where
        whole : all_in_range xs ≡ true → RangedBelow w (length w)
        whole a i l =
            let u : i < 3 * (s.n / 2) = omega (arith, part_length xs (begin s j) (s.n / 2) fits) in
            rw (part_at xs (begin s j) (s.n / 2) fits i u) (all_ranged xs a (3 * begin s j + i) (omega (arith, fits)))

  -- THE LAW: half-cycle k is steps k and k + 1
  pub half_of_steps : (k : ℕ) → k < halves_of s xs → joined_of (step_at s xs k) (step_at s xs (suc k)) ≡ half_at s (as_read xs) k
  unfolding half_at joined_of
  half_of_steps k l =
      rw (
        step_is k (omega arith),
        step_is (suc k) (omega arith),
        read_halves s xs,
        lt-ltb k (halves_of s xs) l,
        missing-parts s good ys k,
        sums-parts s good ys k,
      )
      (both (step_missing s ys k) (step_missing s ys (suc k)) (step_sums s ys k) (step_sums s ys (suc k)))
    where
      both : (a b : Bool) (u v : Sums)
          → joined_of (cond a None (Some u)) (cond b None (Some v))
          ≡ cond (not (a || b)) (Some (record { a = u.a + v.a; b = u.b + v.b; c = u.c + v.c })) None
      both true b u v = refl
      both false true u v = refl
      both false false u v = refl
