-- Every extreme lies in exactly one row and every duration in exactly one column, so exactly one cell takes each sag, and the cells make
-- up all placed sags. Stated once over any rising borders and any test that passes every border below one that it passes; the sets
-- are instances, each found to rise by computing. Assumes nothing.
use Prim.Native.Nat.{ℕ, zero, suc, ◌+◌, ◌-◌, ◌*◌, ◌/◌, ◌%◌, ◌≤◌, ◌<◌}
use mathlib.Core.Path.{◌≡◌, refl, sym, ap, ◌∙◌}
use mathlib.Core.Bool.{Bool, true, false, not, ◌&&◌, ◌||◌, cond}
use mathlib.Core.List.{List, [], ◌∷◌}
use mathlib.Core.Logic.{◌↔◌, ⊎_elim}
use native.Mathlib.Nat.{eq-or-lt_of_le, le_antisymm, le_refl, mul-le-mul, mul_comm, suc-mul, mul-add-div, mul-add-mod_self_left, div-add-mod, div-eq_of_lt, mod-eq_of_lt}
use native.Mathlib.Omega.{arith}
use borrow.Author.Tests.{ltb-true, le-leb, leb-true, lt-leb, leb-false, eqb-false, ne_eqb, not-true}
use lib.Dec.{leb, ltb, eqb}
use lib.ListN.{length, get_or}
use Rattle.rules.specs.Bounded.{bit, count, sum, first_not}
use Rattle.rules.specs.Recorder.{settings_good}
use Rattle.rules.specs.Halves.{Half, full, at_most}
use Rattle.rules.specs.Events.{starts, end_of, extreme_of}
use Rattle.rules.specs.Borders.{Borders, sets, known_set, borders_of, place_of, row_of, column_of, columns_in, cells_in, cell_at}
use Rattle.rules.specs.Site.{cells, sag_cell, is_placed, is_unplaced}
use Rattle.rules.specs.Demands.{every, rising, lies_in, Falling, fits, takes}
use Rattle.rules.specs.declared.Settings.{Settings}
use Rattle.rules.specs.declared.Kind.TheVariants.{Sag}
use Rattle.rules.proofs.Adding.{parts-make_up}
use Rattle.rules.proofs.Booleans.{both, not_both}
use Rattle.rules.proofs.Bounded.{all-at}
use Rattle.rules.proofs.Choices.{or_by, or_else, lower}
use Rattle.rules.proofs.Classes.{placed_or_not}
use Rattle.rules.proofs.Longest.{first_high, first_between, first_refused}
use Rattle.rules.proofs.Ranges.{two_frequencies}

-- ---- the place is where the walk over the borders stops

cond-suc : (b : Bool) (x y : ℕ) → cond b (suc x) (suc y) ≡ suc (cond b x y)
cond-suc true x y = refl
cond-suc false x y = refl

first_shift : (p : ℕ → Bool) (s d : ℕ) → first_not p (suc s) d ≡ suc (first_not (λ k. p (suc k)) s d)
first_shift p s zero = refl
first_shift p s (suc d) = rw (first_shift p (suc s) d) (cond-suc (p (suc s)) (first_not (λ k. p (suc k)) (suc s) d) s)

place_first : (passed : ℕ → Bool) (bs : List ℕ) → place_of passed bs ≡ first_not (λ i. passed (get_or bs i 0)) 0 (length bs)
place_first passed [] = refl
place_first passed (b ∷ bs) = rw (first_shift (λ i. passed (get_or (b ∷ bs) i 0)) 0 (length bs), place_first passed bs)

pub place-high : (passed : ℕ → Bool) (bs : List ℕ) → place_of passed bs ≤ length bs
place-high passed bs = rw (place_first passed bs) (omega (arith, first_high (λ i. passed (get_or bs i 0)) 0 (length bs)))

-- each border is below the next
pub rising_step : (bs : List ℕ) → rising bs ≡ true → (i : ℕ) → suc i < length bs → get_or bs i 0 < get_or bs (suc i) 0
rising_step bs r i l =
    ltb-true (get_or bs i 0) (get_or bs (suc i) 0) (all-at (λ i. ltb (get_or bs i 0) (get_or bs (suc i) 0)) (length bs - 1) r i (omega arith))

rising_le : (bs : List ℕ) → rising bs ≡ true → (i j : ℕ) → i ≤ j → j < length bs → get_or bs i 0 ≤ get_or bs j 0
rising_le bs r i zero l u = let e : i ≡ 0 = omega arith in rw e (omega arith)
rising_le bs r i (suc j) l u =
    let step = rising_step bs r j u in
    ⊎_elim (λ e. rw e (omega arith)) (λ v. omega (arith, rising_le bs r i j (omega arith) (omega arith))) (eq-or-lt_of_le l)

-- every border before the place is passed, and the one at it is not
pub place_passed : (passed : ℕ → Bool) (bs : List ℕ) (j : ℕ) → j < place_of passed bs → passed (get_or bs j 0) ≡ true
place_passed passed bs j l =
    first_between (λ i. passed (get_or bs i 0)) 0 (length bs) j (omega arith) (rw (place_first passed bs) at l)

pub place_stops : (passed : ℕ → Bool) (bs : List ℕ) → place_of passed bs < length bs → passed (get_or bs (place_of passed bs) 0) ≡ false
place_stops passed bs l =
    let f = first_refused (λ i. passed (get_or bs i 0)) 0 (length bs) in
    rw (place_first passed bs) (f (omega (arith, place_first passed bs)))

-- ---- exactly one place

record Lies (passed : ℕ → Bool) (bs : List ℕ) (i : ℕ) : Type 0 where
  in_list : i ≤ length bs
  last_passed : 0 < i → passed (get_or bs (i - 1) 0) ≡ true
  next_not : i < length bs → passed (get_or bs i 0) ≡ false

lies_parts : (passed : ℕ → Bool) (bs : List ℕ) (i : ℕ) → lies_in passed bs i ≡ true → Lies passed bs i
unfolding lies_in
lies_parts passed bs i h =
    let x = both (leb i (length bs) && (eqb i 0 || passed (get_or bs (i - 1) 0))) (leb (length bs) i || not (passed (get_or bs i 0))) h in
    let y = both (leb i (length bs)) (eqb i 0 || passed (get_or bs (i - 1) 0)) x.0 in
    record {
      in_list = leb-true i (length bs) y.0;
      last_passed = λ l. or_else (eqb i 0) (passed (get_or bs (i - 1) 0)) y.1 (ne_eqb i 0 (λ e. omega arith));
      next_not = λ l. not-true (passed (get_or bs i 0)) (or_else (leb (length bs) i) (not (passed (get_or bs i 0))) x.1 (lt-leb (length bs) i l));
    }

lies_made : (passed : ℕ → Bool) (bs : List ℕ) (i : ℕ) → Lies passed bs i → lies_in passed bs i ≡ true
unfolding lies_in
lies_made passed bs i r =
    let last = or_by (eqb i 0) (passed (get_or bs (i - 1) 0)) (λ e. r.last_passed (zero_less i (eqb-false i 0 e))) in
    let next = or_by (leb (length bs) i) (not (passed (get_or bs i 0))) (λ e. rw (r.next_not (leb-false (length bs) i e))) in
    rw (le-leb i (length bs) r.in_list, last, next)
  where
    zero_less : (i : ℕ) → (i ≡ 0 → ⊥) → 0 < i
    zero_less i h = omega arith

pub lies_in-place : (passed : ℕ → Bool) (bs : List ℕ) → lies_in passed bs (place_of passed bs) ≡ true
lies_in-place passed bs =
    lies_made passed bs (place_of passed bs)
    record {
      in_list = place-high passed bs;
      last_passed = λ l. place_passed passed bs (place_of passed bs - 1) (omega arith);
      next_not = place_stops passed bs;
    }

module _ (passed : ℕ → Bool) (falls : Falling passed) (bs : List ℕ) (rises : rising bs ≡ true) where
  pub lies_only : (i : ℕ) → lies_in passed bs i ≡ true → i ≡ place_of passed bs
  lies_only i h =
      let r = lies_parts passed bs i h in
      let high = place-high passed bs in
      let not_less : i < place_of passed bs → ⊥ =
      λ l. not_both (passed (get_or bs i 0)) (place_passed passed bs i l) (r.next_not (omega arith)) in
      let not_more : place_of passed bs < i → ⊥ =
      λ l.
      let v = r.in_list in
      not_both (passed (get_or bs (place_of passed bs) 0))
      (falls (get_or bs (place_of passed bs) 0) (get_or bs (i - 1) 0) (rising_le bs rises (place_of passed bs) (i - 1) (omega arith) (omega arith)) (r.last_passed (omega arith)))
      (place_stops passed bs (omega arith)) in
      le_antisymm
      (⊎_elim (λ l. absurd (not_more l)) (λ l. l) (lower (place_of passed bs) i))
      (⊎_elim (λ l. absurd (not_less l)) (λ l. l) (lower i (place_of passed bs)))

  -- THE LAW: one place and no other
  pub exactly_one : (i : ℕ) → (lies_in passed bs i ≡ true) ↔ (i ≡ place_of passed bs)
  exactly_one i = (lies_only i, λ e. rw e (lies_in-place passed bs))

-- ---- by any borders: rows and columns

row_falls : (s : Settings) (extreme : ℕ) → Falling (λ p. not (at_most s p extreme))
row_falls s extreme b c l h =
    let u = leb-false (10000 * extreme) (c * c * full s) (not-true (leb (10000 * extreme) (c * c * full s)) h) in
    let v : b * b * full s ≤ c * c * full s = mul-le-mul (mul-le-mul l l) (le_refl (full s)) in
    rw (lt-leb (10000 * extreme) (b * b * full s) (omega arith))

column_falls : (h : ℕ) → Falling (λ p. leb p (5 * h))
column_falls h b c l e = let u = leb-true c (5 * h) e in le-leb b (5 * h) (omega arith)

pub row_high : (s : Settings) (b : Borders) (extreme : ℕ) → row_of s b extreme ≤ length b.rows
unfolding row_of
row_high s b extreme = place-high (λ p. not (at_most s p extreme)) b.rows

pub column_high : (b : Borders) (h : ℕ) → column_of b h ≤ length b.columns
unfolding column_of
column_high b h = place-high (λ p. leb p (5 * h)) b.columns

pub one_row : (s : Settings) (b : Borders) → rising b.rows ≡ true → (extreme i : ℕ)
    → (lies_in (λ p. not (at_most s p extreme)) b.rows i ≡ true) ↔ (i ≡ row_of s b extreme)
unfolding row_of
one_row s b rises extreme = exactly_one (λ p. not (at_most s p extreme)) (row_falls s extreme) b.rows rises

pub one_column : (b : Borders) → rising b.columns ≡ true → (h i : ℕ)
    → (lies_in (λ p. leb p (5 * h)) b.columns i ≡ true) ↔ (i ≡ column_of b h)
unfolding column_of
one_column b rises h = exactly_one (λ p. leb p (5 * h)) (column_falls h) b.columns rises

-- ---- by any borders: cells

below_product : (c m r x : ℕ) → r ≤ m → x < c → c * r + x < suc m * c
below_product c m r x l u =
    let p : c * r ≤ c * m = mul-le-mul (le_refl c) l in
    omega (arith, p, mul_comm c m, suc-mul m c)

module _ (s : Settings) (b : Borders) (extreme h : ℕ) where
  column_low : column_of b h < columns_in b
  column_low = omega (arith, column_high b h)

  -- THE LAW: the cell is below rows x columns
  pub cell-high : cell_at s b extreme h < cells_in b
  cell-high = below_product (columns_in b) (length b.rows) (row_of s b extreme) (column_of b h) (row_high s b extreme) column_low

  -- row and column are read back from the cell
  pub cell_row : cell_at s b extreme h / columns_in b ≡ row_of s b extreme
  cell_row =
      mul-add-div {m = columns_in b} (omega arith) (row_of s b extreme) (column_of b h)
      ∙ (let q : column_of b h / columns_in b ≡ 0 = div-eq_of_lt column_low in omega arith)

  pub cell_column : cell_at s b extreme h % columns_in b ≡ column_of b h
  cell_column = mul-add-mod_self_left (columns_in b) (row_of s b extreme) (column_of b h) ∙ mod-eq_of_lt column_low

  -- THE LAW: exactly one cell takes an extreme and a duration
  module _ (rows-rise : rising b.rows ≡ true) (columns-rise : rising b.columns ≡ true) where
    pub one_cell : (i : ℕ) → (takes s b extreme h i ≡ true) ↔ (i ≡ cell_at s b extreme h)
    unfolding takes
    one_cell i = (to, from)
      where
        to : takes s b extreme h i ≡ true → i ≡ cell_at s b extreme h
        to e =
            let p = both (lies_in (λ p. not (at_most s p extreme)) b.rows (i / columns_in b)) (lies_in (λ p. leb p (5 * h)) b.columns (i % columns_in b)) e in
            let r : i / columns_in b ≡ row_of s b extreme = (one_row s b rows-rise extreme (i / columns_in b)).0 p.0 in
            let c : i % columns_in b ≡ column_of b h = (one_column b columns-rise h (i % columns_in b)).0 p.1 in
            sym (div-add-mod i (columns_in b)) ∙ rw (r, c)

        from : i ≡ cell_at s b extreme h → takes s b extreme h i ≡ true
        from e =
            let r : i / columns_in b ≡ row_of s b extreme = ap (λ (x : ℕ). x / columns_in b) e ∙ cell_row in
            let c : i % columns_in b ≡ column_of b h = ap (λ (x : ℕ). x % columns_in b) e ∙ cell_column in
            rw ((one_row s b rows-rise extreme (i / columns_in b)).1 r, (one_column b columns-rise h (i % columns_in b)).1 c)

-- ---- by any borders: the sags of a recording

module _ (s : Settings) (b : Borders) (h : ℕ → Half) (n : ℕ) where
  pub sag_cell-high : (k : ℕ) → sag_cell s b h n k < cells_in b
  unfolding sag_cell
  sag_cell-high k = cell-high s b _ _

  -- THE LAW: exactly one cell takes the sag that starts at k
  pub sag-one-cell : rising b.rows ≡ true → rising b.columns ≡ true → (k i : ℕ)
      → let end = end_of s h n Sag k in (takes s b (extreme_of h Sag k end) (end - k) i ≡ true) ↔ (i ≡ sag_cell s b h n k)
  unfolding sag_cell
  sag-one-cell r c k i =
      let end = end_of s h n Sag k in one_cell s b (extreme_of h Sag k end) (end - k) r c i

  -- a cell that the borders don't use takes none
  pub unused-none : (m i : ℕ) → cells_in b ≤ i → count (λ k. is_placed s h n k && eqb (sag_cell s b h n k) i) m ≡ 0
  unused-none zero i l = refl
  unused-none (suc m) i l =
      rw (ne_eqb (sag_cell s b h n m) i (λ e. omega (arith, sag_cell-high m, e))) (omega (arith, unused-none m i l, none (is_placed s h n m)))
    where
      none : (a : Bool) → bit (a && false) ≡ 0
      none true = refl
      none false = refl

  -- THE LAW: however many cells there is room for, those that the borders use make up all placed sags, and with the unplaced all sags
  pub cells-make_up : (m c : ℕ) → cells_in b ≤ c
      → sum (λ i. count (λ k. is_placed s h n k && eqb (sag_cell s b h n k) i) m) c ≡ count (is_placed s h n) m
  cells-make_up m c l = parts-make_up (is_placed s h n) (sag_cell s b h n) c m (λ k. omega (arith, sag_cell-high k))

  pub sags-make_up : (m : ℕ)
      → sum (λ i. count (λ k. is_placed s h n k && eqb (sag_cell s b h n k) i) m) (cells_in b) + count (is_unplaced s h n) m
      ≡ count (starts s h Sag) m
  sags-make_up m = omega (arith, cells-make_up m (cells_in b) (le_refl (cells_in b)), placed_or_not s h n m)

-- ---- the sets: computed of every one that there is, so that a further one asks for no proof

every-at : {A : Type 0} (p : A → Bool) (xs : List A) → every p xs ≡ true → (i : ℕ) (d : A) → i < length xs → p (get_or xs i d) ≡ true
every-at p [] h i d l = absurd (omega arith)
every-at p (x ∷ xs) h zero d l = (both (p x) (every p xs) h).0
every-at p (x ∷ xs) h (suc i) d l = every-at p xs (both (p x) (every p xs) h).1 i d (omega arith)

-- what every set is tested for, a known one passes
of_known : (p : (ℕ → Borders) → Bool) → every p sets ≡ true → (set : ℕ) → known_set set ≡ true
    → p (get_or sets set (λ f. record { rows = []; columns = [] })) ≡ true
unfolding known_set
of_known p h set k = every-at p sets h set (λ f. record { rows = []; columns = [] }) (ltb-true set (length sets) k)

-- at either frequency the lists rise
fit_at_50 : every (λ (b : ℕ → Borders). fits (b 50)) sets ≡ true
fit_at_50 = refl

fit_at_60 : every (λ (b : ℕ → Borders). fits (b 60)) sets ≡ true
fit_at_60 = refl

-- and whatever the frequency, there is room for the cells
few-cells : (f : ℕ) → every (λ (b : ℕ → Borders). leb (cells_in (b f)) cells) sets ≡ true
few-cells f = refl

pub set-fits : (s : Settings) → settings_good s ≡ true → (set : ℕ) → known_set set ≡ true → fits (borders_of s set) ≡ true
unfolding borders_of
set-fits s g set k =
    ⊎_elim (λ e. rw e (of_known (λ b. fits (b 50)) fit_at_50 set k)) (λ e. rw e (of_known (λ b. fits (b 60)) fit_at_60 set k)) (two_frequencies s g)

pub set-cells : (s : Settings) (set : ℕ) → known_set set ≡ true → cells_in (borders_of s set) ≤ cells
unfolding borders_of
set-cells s set k =
    let b = get_or sets set (λ f. record { rows = []; columns = [] }) in
    leb-true (cells_in (b s.f)) cells (of_known (λ b. leb (cells_in (b s.f)) cells) (few-cells s.f) set k)

module _ (s : Settings) (good : settings_good s ≡ true) (set : ℕ) (known : known_set set ≡ true) where
  parts : (rising (borders_of s set).rows ≡ true) × (rising (borders_of s set).columns ≡ true)
  parts =
      let b = borders_of s set in
      both (rising b.rows) (rising b.columns) (both (rising b.rows && rising b.columns) (leb (cells_in b) cells) (set-fits s good set known)).0

  pub set_rows_rise : rising (borders_of s set).rows ≡ true
  set_rows_rise = parts.0

  pub set_columns_rise : rising (borders_of s set).columns ≡ true
  set_columns_rise = parts.1
