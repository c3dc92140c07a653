-- Which row an extreme lies in and which column a duration, by any rising borders; the borders of each set, and which value the curve
-- has, in plain numbers. Assumes nothing.
use Prim.Native.Nat.{ℕ, zero, suc, ◌+◌, ◌*◌, ◌≤◌, ◌<◌}
use mathlib.Core.Path.{◌≡◌, refl}
use mathlib.Core.Bool.{Bool, true, false, not}
use mathlib.Core.List.{List}
use mathlib.Core.Logic.Iff
use mathlib.Core.Logic.{◌↔◌, ◌⊎◌, inl, inr, ⊎_elim}
use native.Mathlib.Nat.{eq-or-lt_of_le, le_antisymm, mul-le-mul, mul-le-mul_right, add-mul}
use native.Mathlib.Omega.{arith}
use borrow.Author.Tests.{ltb-true, lt-ltb, le-leb, lt-leb, leb-true, leb-false, not-true, not-false}
use lib.Dec.{leb}
use lib.ListN.{length, get_or}
use Rattle.rules.specs.Recorder.{settings_good}
use Rattle.rules.specs.Halves.{full, at_most}
use Rattle.rules.specs.Borders.{Borders, sets, known_set, borders_of, place_of, row_of, column_of}
use Rattle.rules.specs.Scores.{curve_of}
use Rattle.rules.specs.Demands.{rising, Falling}
use Rattle.rules.specs.Meanings.{percent, row_percent, column_borders, Against}
use Rattle.rules.specs.declared.Settings.{Settings}
use Rattle.rules.proofs.Booleans.{not_both, cases}
use Rattle.rules.proofs.Borders.{place_passed, place_stops, rising_step, row_high, column_high, set_rows_rise, set_columns_rise}
use Rattle.rules.proofs.Channels.{percent_is, percent_rises, at_most_is, not_at_most}
use Rattle.rules.proofs.Choices.{lower}
use Rattle.rules.proofs.Ranges.{good, full-least}

-- ---- over any rising borders: a place is at most i exactly where border i is not passed

module _ (passed : ℕ → Bool) (falls : Falling passed) (bs : List ℕ) (rises : rising bs ≡ true) where
  passed_below : (i j : ℕ) → j ≤ i → i < length bs → passed (get_or bs i 0) ≡ true → passed (get_or bs j 0) ≡ true
  passed_below zero j l u p = let e : j ≡ 0 = omega arith in rw e p
  passed_below (suc i) j l u p =
      let step = rising_step bs rises i u in
      ⊎_elim
      (λ e. rw e p)
      (λ v. passed_below i j (omega arith) (omega arith) (falls (get_or bs i 0) (get_or bs (suc i) 0) (omega arith) p))
      (eq-or-lt_of_le l)

  place-at_most : (i : ℕ) → i < length bs → (place_of passed bs ≤ i) ↔ (passed (get_or bs i 0) ≡ false)
  place-at_most i l = (
    λ u.
        ⊎_elim
        (λ e. absurd (not_both (passed (get_or bs (place_of passed bs) 0)) (passed_below i (place_of passed bs) u l e) (place_stops passed bs (omega arith))))
        (λ e. e) (cases (passed (get_or bs i 0))),
    λ e. ⊎_elim (λ u. absurd (not_both (passed (get_or bs i 0)) (place_passed passed bs i u) e)) (λ u. u) (lower i (place_of passed bs)),
  )

-- ---- rows, by any borders

above_falls : (s : Settings) (S : ℕ) → Falling (λ p. not (at_most s p S))
above_falls s S b c l h =
    let u = (not_at_most s c S).0 (not-true (at_most s c S) h) in
    rw ((not_at_most s b S).1 (omega (arith, u, percent_rises s b c l)))

not_above : (s : Settings) (p S : ℕ) → (not (at_most s p S) ≡ false) ↔ (10000 * S ≤ percent s p)
not_above s p S = (λ h. (at_most_is s p S).0 (not-false (at_most s p S) h), λ h. rw ((at_most_is s p S).1 h))

-- two percentages are further apart than one unit of S
percents_apart : (s : Settings) → 8000000 ≤ full s → (p q : ℕ) → p < q → percent s p + 10000 ≤ percent s q
percents_apart s g p q l =
    let step : (p * p + 1) * full s ≤ q * q * full s = mul-le-mul_right (full s) (squares_apart p q l) in
    omega (arith, step, add-mul (p * p) 1 (full s), percent_is s p, percent_is s q)
  where
    squares_apart : (p q : ℕ) → p < q → p * p + 1 ≤ q * q
    squares_apart p q l = let m : suc p * suc p ≤ q * q = mul-le-mul l l in omega arith

module _ (s : Settings) (b : Borders) (rises : rising b.rows ≡ true) where
  -- THE LAW: an extreme lies in row i or a deeper one exactly if V is at most border i
  pub row_is : (S i : ℕ) → i < length b.rows → (row_of s b S ≤ i) ↔ (10000 * S ≤ percent s (get_or b.rows i 0))
  unfolding row_of
  row_is S i l =
      Iff.trans (place-at_most (λ p. not (at_most s p S)) (above_falls s S) b.rows rises i l) (not_above s (get_or b.rows i 0) S)

  -- a voltage on a border goes to the deeper row, and one unit of S more to the next
  pub on_row_border : settings_good s ≡ true → (S i : ℕ) → i < length b.rows → 10000 * S ≡ percent s (get_or b.rows i 0)
      → (row_of s b S ≡ i) × (row_of s b (suc S) ≡ suc i)
  on_row_border g S i l e = (le_antisymm low (not_less i l e), le_antisymm (next (lower (suc i) (length b.rows))) more)
    where
      apart : (i : ℕ) → suc i < length b.rows → percent s (get_or b.rows i 0) + 10000 ≤ percent s (get_or b.rows (suc i) 0)
      apart i l = percents_apart s (full-least s (good s g)) (get_or b.rows i 0) (get_or b.rows (suc i) 0) (rising_step b.rows rises i l)

      low : row_of s b S ≤ i
      low = (row_is S i l).1 (omega arith)

      not_less : (i : ℕ) → i < length b.rows → 10000 * S ≡ percent s (get_or b.rows i 0) → i ≤ row_of s b S
      not_less zero l e = omega arith
      not_less (suc i) l e =
          ⊎_elim (λ u. absurd (omega (arith, (row_is S i (omega arith)).0 (omega arith), apart i l))) (λ u. u) (lower (row_of s b S) (suc i))

      more : suc i ≤ row_of s b (suc S)
      more = ⊎_elim (λ u. absurd (omega (arith, (row_is (suc S) i l).0 (omega arith)))) (λ u. u) (lower (row_of s b (suc S)) (suc i))

      next : (suc i < length b.rows) ⊎ (length b.rows ≤ suc i) → row_of s b (suc S) ≤ suc i
      next (inl u) = (row_is (suc S) (suc i) u).1 (omega (arith, apart i u))
      next (inr u) = omega (arith, row_high s b (suc S))

-- ---- columns, by any borders

short_falls : (h : ℕ) → Falling (λ p. leb p (5 * h))
short_falls h b c l e = le-leb b (5 * h) (omega (arith, leb-true c (5 * h) e))

module _ (b : Borders) (rises : rising b.columns ≡ true) where
  -- THE LAW: a duration lies in column i or a shorter one exactly if it is below border i
  pub column_is : (h i : ℕ) → i < length b.columns → (column_of b h ≤ i) ↔ (5 * h < get_or b.columns i 0)
  unfolding column_of
  column_is h i l =
      Iff.trans (place-at_most (λ p. leb p (5 * h)) (short_falls h) b.columns rises i l)
      (leb-false (get_or b.columns i 0) (5 * h), lt-leb (get_or b.columns i 0) (5 * h))

  -- a duration on a border goes to the longer column, and one half-cycle less to a shorter one
  pub on_column_border : (h i : ℕ) → i < length b.columns → 5 * suc h ≡ get_or b.columns i 0
      → (column_of b h ≤ i) × (column_of b (suc h) ≡ suc i)
  on_column_border h i l e = ((column_is h i l).1 (omega arith), le_antisymm (next (lower (suc i) (length b.columns))) more)
    where
      more : suc i ≤ column_of b (suc h)
      more = ⊎_elim (λ u. absurd (omega (arith, (column_is (suc h) i l).0 (omega arith)))) (λ u. u) (lower (column_of b (suc h)) (suc i))

      next : (suc i < length b.columns) ⊎ (length b.columns ≤ suc i) → column_of b (suc h) ≤ suc i
      next (inl u) = (column_is (suc h) (suc i) u).1 (omega (arith, rising_step b.columns rises i u))
      next (inr u) = omega (arith, column_high b (suc h))

-- ---- set 0 and set 1, in the words of the documents

pub set-is_known : (set : ℕ) → (known_set set ≡ true) ↔ (set < 2)
unfolding known_set
set-is_known set = (ltb-true set 2, lt-ltb set 2)

pub set_sizes : (s : Settings) (set : ℕ) → set < 2
    → (length (borders_of s set).rows ≡ 4) × (length (borders_of s set).columns ≡ column_borders set)
unfolding borders_of
set_sizes s zero l = (refl, refl)
set_sizes s (suc zero) l = (refl, refl)
set_sizes s (suc (suc set)) l = absurd (omega arith)

row_border : (s : Settings) (set i : ℕ) → set < 2 → i < 4 → get_or (borders_of s set).rows i 0 ≡ row_percent set i
unfolding borders_of
row_border s zero zero l u = refl
row_border s zero (suc zero) l u = refl
row_border s zero (suc (suc zero)) l u = refl
row_border s zero (suc (suc (suc zero))) l u = refl
row_border s zero (suc (suc (suc (suc i)))) l u = absurd (omega arith)
row_border s (suc zero) zero l u = refl
row_border s (suc zero) (suc zero) l u = refl
row_border s (suc zero) (suc (suc zero)) l u = refl
row_border s (suc zero) (suc (suc (suc zero))) l u = refl
row_border s (suc zero) (suc (suc (suc (suc i)))) l u = absurd (omega arith)
row_border s (suc (suc set)) i l u = absurd (omega arith)

column_border : (s : Settings) (set h i : ℕ) → set < 2 → i < column_borders set
    → (5 * h < get_or (borders_of s set).columns i 0) ↔ Against ◌<◌ set i s.f h
unfolding borders_of
column_border s zero h zero l u = omega arith
column_border s zero h (suc zero) l u = omega arith
column_border s zero h (suc (suc zero)) l u = omega arith
column_border s zero h (suc (suc (suc zero))) l u = omega arith
column_border s zero h (suc (suc (suc (suc zero)))) l u = omega arith
column_border s zero h (suc (suc (suc (suc (suc zero))))) l u = omega arith
column_border s zero h (suc (suc (suc (suc (suc (suc zero)))))) l u = omega arith
column_border s zero h (suc (suc (suc (suc (suc (suc (suc i))))))) l u = absurd (omega arith)
column_border s (suc zero) h zero l u = omega arith
column_border s (suc zero) h (suc zero) l u = omega arith
column_border s (suc zero) h (suc (suc zero)) l u = omega arith
column_border s (suc zero) h (suc (suc (suc zero))) l u = omega arith
column_border s (suc zero) h (suc (suc (suc (suc i)))) l u = absurd (omega arith)
column_border s (suc (suc set)) h i l u = absurd (omega arith)

module _ (s : Settings) (g : settings_good s ≡ true) (set : ℕ) (two : set < 2) where
  known : known_set set ≡ true
  unfolding known_set
  known = lt-ltb set (length sets) (omega arith)

  -- THE LAW: an extreme lies in row i or a deeper one exactly if V is at most 10, 40, 70, and 85 percent, in set 1 80
  pub set_row_is : (S i : ℕ) → i < 4 → (row_of s (borders_of s set) S ≤ i) ↔ (10000 * S ≤ percent s (row_percent set i))
  set_row_is S i l =
      rw (← (row_border s set i two l))
      (row_is s (borders_of s set) (set_rows_rise s g set known) S i (omega (arith, (set_sizes s set two).0)))

  -- THE LAW: a duration lies in column i or a shorter one exactly if, in set 0, h is below 2; 5h < f (0.1 s); h < f (0.5 s); h < 2f;
  -- h < 6f; h < 40f; h < 120f; in set 1, h is below 2; 5h < 2f (200 ms); h < f (500 ms); h < 10f (5 s)
  pub set_column_is : (h i : ℕ) → i < column_borders set → (column_of (borders_of s set) h ≤ i) ↔ Against ◌<◌ set i s.f h
  set_column_is h i l =
      Iff.trans
      (column_is (borders_of s set) (set_columns_rise s g set known) h i (omega (arith, (set_sizes s set two).1)))
      (column_border s set h i two l)

-- ---- the curve

-- THE LAW: the curve value is 0 for h at most 2; else 500 while 5h is at most 2f; else 700 while h is at most f; else 800 while h is at
-- most 20f; 900 after that
pub curve_is : (f : ℕ) → 50 ≤ f → (h : ℕ)
    → ((curve_of f h ≡ 0) ↔ (h ≤ 2))
    × ((curve_of f h ≡ 500) ↔ ((2 < h) × (5 * h ≤ 2 * f)))
    × ((curve_of f h ≡ 700) ↔ ((2 * f < 5 * h) × (h ≤ f)))
    × ((curve_of f h ≡ 800) ↔ ((f < h) × (h ≤ 20 * f)))
    × ((curve_of f h ≡ 900) ↔ (20 * f < h))
curve_is f g h =
    ⊎_elim
    (λ u. ⊎_elim
    (λ v. ⊎_elim
    (λ w. ⊎_elim
    (λ x. let e : curve_of f h ≡ 900 = rw (lt-leb h 2 u, lt-leb (5 * h) (2 * f) v, lt-leb h f w, lt-leb h (20 * f) x) in omega (arith, e))
    (λ x. let e : curve_of f h ≡ 800 = rw (lt-leb h 2 u, lt-leb (5 * h) (2 * f) v, lt-leb h f w, le-leb h (20 * f) x) in omega (arith, e))
    (lower (20 * f) h))
    (λ w. let e : curve_of f h ≡ 700 = rw (lt-leb h 2 u, lt-leb (5 * h) (2 * f) v, le-leb h f w) in omega (arith, e))
    (lower f h))
    (λ v. let e : curve_of f h ≡ 500 = rw (lt-leb h 2 u, le-leb (5 * h) (2 * f) v) in omega (arith, e))
    (lower (2 * f) (5 * h)))
    (λ u. let e : curve_of f h ≡ 0 = rw (le-leb h 2 u) in omega (arith, e))
    (lower 2 h)
