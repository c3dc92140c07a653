-- Counts of an offered table, any numbers: what adds up, told without a sum that wraps; and two tables added. Assumes nothing.
use Rattle.std.specs.Prelude.{Ok, Err}
use Prim.Native.Nat.{ℕ, zero, suc, ◌+◌, ◌-◌, ◌*◌, ◌≤◌, ◌<◌, min}
use mathlib.Core.Path.{◌≡◌, refl, sym, ap, ◌∙◌}
use mathlib.Core.Bool.{Bool, true, false, ◌&&◌, ◌||◌}
use mathlib.Core.Logic.{⊎_elim}
use mathlib.Core.List.{List, [], ◌∷◌}
use native.Mathlib.Nat.{zero-add, mul-le-mul}
use native.Mathlib.Omega.{arith}
use borrow.Author.Tests.{ltb-true, ltb-false, lt-ltb, le-ltb, eqb-true, eqb-false, eq-eqb, ne_eqb}
use lib.Dec.{ltb, eqb}
use lib.IntN.{ℤ}
use lib.ListN.{length, get_or, drop, replicate, get_or-replicate, get_or-eq_default}
use lib.Seq.{drop-cons, ext_get_or}
use Rattle.std.specs.List.{fold, list_all}
use Rattle.std.proofs.Math.Bool.{and_assoc}
use Rattle.rules.specs.Bounded.{all, count}
use Rattle.rules.proofs.Bounded.{all_same}
use Rattle.rules.specs.Recorder.{settings_good}
use Rattle.rules.specs.Halves.{half_at, halves_of, full}
use Rattle.rules.specs.Events.{three, make_up, plus}
use Rattle.rules.specs.Borders.{Borders, known_set, borders_of, cells_in}
use Rattle.rules.specs.Site.{cells, is_placed, sag_cell, unused_zero, total, cells_from, empty, grown, is_unsound}
use Rattle.rules.specs.Refusals.{recording_check, sound_check, full_check, add_check, added}
use Rattle.rules.proofs.Booleans.{cases, both, and_true, neither, not_both}
use Rattle.rules.proofs.Choices.{lower}
use Rattle.rules.proofs.Ranges.{good, full-high}
use Rattle.rules.specs.Demands.{Sound}
use Rattle.rules.proofs.Unused.{unused_zero_lem, zero_unused}
use Rattle.rules.proofs.Soundness.{sound-parts, sound_made}
use Rattle.rules.proofs.DemandThree.{cells-length, cells_at_lem, grown-sound}
use Rattle.rules.specs.declared.Table.{Table}
use Rattle.rules.specs.declared.Refusal.{Refusal}
use Rattle.rules.specs.declared.Refusal.TheVariants.{Full, Unsound}
use Rattle.rules.specs.declared.Site.{Site as Handed}
use Rattle.checks.specs.Flags.{shape_check}
use Rattle.checks.proofs.Reading.{check_parts}
use Rattle.site.specs.Merging.{Mergeable, merged, Adding, added_to}

-- ---- three counts and a total

none_above : (t a b c : ℕ) → ltb t a || ltb t b || ltb t c ≡ false → (a ≤ t) × (b ≤ t) × (c ≤ t)
none_above t a b c h =
    let x = neither (ltb t a || ltb t b) (ltb t c) h in
    let y = neither (ltb t a) (ltb t b) x.0 in (ltb-false t a y.0, ltb-false t b y.1, ltb-false t c x.1)

-- ---- the sum of the cells, up to a cap

pub sum_capped : (cap : ℕ) (cs : List ℕ) (sum : ℕ) → sum ≤ cap → fold (λ sum cell. min (sum + cell) cap) sum cs ≡ min (sum + total cs) cap
sum_capped cap [] sum l = omega arith
sum_capped cap (x ∷ cs) sum l = omega (arith, sum_capped cap cs (min (sum + x) cap) (omega arith))

pub sums_up : (cap sum u sags : ℕ) → u ≤ sags → sags < cap → eqb (min sum cap) (sags - u) ≡ eqb (sum + u) sags
sums_up cap sum u sags l m =
    ⊎_elim
    (λ e. eq-eqb (min sum cap) (sags - u) (let s : sum + u ≡ sags = eqb-true (sum + u) sags e in omega arith) ∙ sym e)
    (λ e. ne_eqb (min sum cap) (sags - u) (λ s. eqb-false (sum + u) sags e (omega arith)) ∙ sym e)
    (cases (eqb (sum + u) sags))

-- ---- all cells from the n-th on are 0

all_first : (p : ℕ → Bool) (n : ℕ) → all p (suc n) ≡ (p 0 && all (λ i. p (suc i)) n)
all_first p zero = elim (p 0) as (λ b. b ≡ (b && true)) [ true ↦ refl | false ↦ refl ]
all_first p (suc n) = rw (all_first p n) (and_assoc (p 0) (all (λ i. p (suc i)) n) (p (suc n)))

ltb_suc : (i n : ℕ) → ltb i n ≡ ltb (suc i) (suc n)
ltb_suc i n =
    ⊎_elim (λ l. lt-ltb i n l ∙ sym (lt-ltb (suc i) (suc n) (omega arith))) (λ l. le-ltb i n l ∙ sym (le-ltb (suc i) (suc n) (omega arith))) (lower i n)

abbrev unused_at : ℕ → List ℕ → ℕ → Bool
unused_at n cs i = ltb i n || eqb (get_or cs i 0) 0

zero_from : (n : ℕ) (cs : List ℕ) → list_all (λ cell. eqb cell 0) (drop n cs) ≡ all (unused_at n cs) (length cs)
zero_from zero [] = refl
zero_from (suc n) [] = refl
zero_from zero (x ∷ cs) =
    let next : all (unused_at 0 cs) (length cs) ≡ all (λ i. unused_at 0 (x ∷ cs) (suc i)) (length cs) =
    all_same (unused_at 0 cs) (λ i. unused_at 0 (x ∷ cs) (suc i)) (length cs) (λ i l. rw (le-ltb i 0 (omega arith), le-ltb (suc i) 0 (omega arith))) in
    ap (λ b. eqb x 0 && b) (zero_from 0 cs ∙ next) ∙ sym (all_first (unused_at 0 (x ∷ cs)) (length cs))
zero_from (suc n) (x ∷ cs) =
    let next : all (unused_at n cs) (length cs) ≡ all (λ i. unused_at (suc n) (x ∷ cs) (suc i)) (length cs) =
    all_same (unused_at n cs) (λ i. unused_at (suc n) (x ∷ cs) (suc i)) (length cs) (λ i l. rw (ltb_suc i n)) in
    let first : unused_at (suc n) (x ∷ cs) 0 ≡ true = rw (lt-ltb 0 (suc n) (omega arith)) in
    zero_from n cs ∙ next ∙ sym (all_first (unused_at (suc n) (x ∷ cs)) (length cs) ∙ rw first)

-- in a table of forty cells
pub unused_is : (b : Borders) (cs : List ℕ) → length cs ≡ 40 → list_all (λ cell. eqb cell 0) (drop (cells_in b) cs) ≡ unused_zero b cs
unused_is b cs forty = zero_from (cells_in b) cs ∙ rw forty

-- ---- cells added, from the j-th on

pub plus-cells : (a b : List ℕ) (j : ℕ) → j + length a ≤ length b → plus a (drop j b) ≡ cells_from (λ i. get_or b i 0) a j
plus-cells [] b j h = refl
plus-cells (x ∷ a) b j h =
    rw (drop-cons b j 0 (omega arith)) (ap (λ (l : List ℕ). (x + get_or b j 0) ∷ l) (plus-cells a b (suc j) (omega arith)))

-- ---- unsound tables

module _ (t : Table) where
  -- a table that breaks one of the conditions
  unsound_when : (Sound t → ⊥) → true ≡ is_unsound t
  unsound_when f = ⊎_elim sym (λ e. absurd (f (sound-parts t e))) (cases (is_unsound t))

  pub settings-bad : settings_good t.settings ≡ false → true ≡ is_unsound t
  settings-bad e = unsound_when (λ s. not_both (settings_good t.settings) s.good-settings e)

  abbrev pub set_test : Bool
  set_test = known_set t.set && unused_zero (borders_of t.settings t.set) t.cells

  pub set-bad : set_test ≡ false → true ≡ is_unsound t
  set-bad e =
      unsound_when (λ s.
      not_both set_test
      (and_true (known_set t.set) (unused_zero (borders_of t.settings t.set) t.cells) s.set_known
      (zero_unused (borders_of t.settings t.set) t.cells s.unused))
      e)

  pub total-bad : 4000000 < t.total → true ≡ is_unsound t
  total-bad l = unsound_when (λ s. omega (arith, s.total-high))

  abbrev pub counts_test : Bool
  counts_test = ltb t.total t.sags || ltb t.total t.interruptions || ltb t.total t.swells

  pub counts_bad : counts_test ≡ true → true ≡ is_unsound t
  counts_bad e =
      unsound_when (λ s.
      not_both counts_test e
      (rw (
        le-ltb t.total t.sags s.sags-high,
        le-ltb t.total t.interruptions s.interruptions-high,
        le-ltb t.total t.swells s.swells-high,
      )))

  pub record CountsFine : Type 0 where
    pub sags-high : t.sags ≤ t.total
    pub interruptions-high : t.interruptions ≤ t.total
    pub swells-high : t.swells ≤ t.total

  pub counts_fine : counts_test ≡ false → CountsFine
  counts_fine e =
      let y = none_above t.total t.sags t.interruptions t.swells e in
      record { sags-high = y.0; interruptions-high = y.1; swells-high = y.2 }

  pub classes-bad : eqb (t.healthy + t.disturbed + t.unknown) t.total ≡ false → true ≡ is_unsound t
  classes-bad e = unsound_when (λ s. eqb-false (t.healthy + t.disturbed + t.unknown) t.total e s.classes)

  pub places-bad : eqb (total t.cells + t.unplaced) t.sags ≡ false → true ≡ is_unsound t
  places-bad e = unsound_when (λ s. eqb-false (total t.cells + t.unplaced) t.sags e s.places)

  pub product_high : settings_good t.settings ≡ true → t.total ≤ 4000000 → 3 * full t.settings * t.total ≤ 15360000000000000000
  product_high g l =
      let three : 3 * full t.settings ≤ 3840000000000 = omega (arith, full-high t.settings (good t.settings g)) in mul-le-mul three l

  pub parts-bad : make_up t.parts t.shortfall ≡ false → true ≡ is_unsound t
  parts-bad e = unsound_when (λ s. eqb-false (three t.parts) t.shortfall e s.parts)

  pub shortfall_tells : set_test ≡ true → settings_good t.settings ≡ true → t.total ≤ 4000000 → CountsFine → eqb (t.healthy + t.disturbed + t.unknown) t.total ≡ true
      → eqb (total t.cells + t.unplaced) t.sags ≡ true → make_up t.parts t.shortfall ≡ true → ltb (3 * full t.settings * t.total) t.shortfall ≡ is_unsound t
  shortfall_tells set g l c d e m =
      let fits = both (known_set t.set) (unused_zero (borders_of t.settings t.set) t.cells) set in
      ⊎_elim
      (λ x. x ∙ unsound_when (λ s. omega (arith, s.shortfall-high, ltb-true (3 * full t.settings * t.total) t.shortfall x)))
      (λ x.
      x
      ∙ sym (sound_made t
      (record {
        good-settings = g;
        set_known = fits.0;
        total-high = l;
        classes = eqb-true (t.healthy + t.disturbed + t.unknown) t.total d;
        places = eqb-true (total t.cells + t.unplaced) t.sags e;
        unused = unused_zero_lem (borders_of t.settings t.set) t.cells fits.1;
        sags-high = c.sags-high;
        interruptions-high = c.interruptions-high;
        swells-high = c.swells-high;
        shortfall-high = ltb-false (3 * full t.settings * t.total) t.shortfall x;
        parts = eqb-true (three t.parts) t.shortfall m;
      })))
      (cases (ltb (3 * full t.settings * t.total) t.shortfall))

-- ---- adding

module _ (t : Table) (xs : List ℤ) where
  pub add_unsound : is_unsound t ≡ true → ◌≡◌ {A = Handed} (record { answer = Err Unsound; table = t }) (added t xs)
  unfolding added add_check sound_check
  add_unsound e = rw e

  module _ (sound : is_unsound t ≡ false) where
    pub add_turned : (r : Refusal) → recording_check t.settings xs ≡ Err r → ◌≡◌ {A = Handed} (record { answer = Err r; table = t }) (added t xs)
    unfolding added add_check sound_check
    add_turned r e = rw (sound, e)

    pub add_unshaped : (r : Refusal) → shape_check t.settings xs ≡ Err r → ◌≡◌ {A = Handed} (record { answer = Err r; table = t }) (added t xs)
    add_unshaped r e = add_turned r (check_parts t.settings xs ∙ rw e)

    module _ (ok : recording_check t.settings xs ≡ Ok tt) (n : ℕ) (all : n ≡ halves_of t.settings xs) where
      total-high : t.total ≤ 4000000
      total-high = (sound-parts t sound).total-high

      pub add-full : 4000000 - t.total < n → ◌≡◌ {A = Handed} (record { answer = Err (Full (4000000 - t.total)); table = t }) (added t xs)
      unfolding added add_check sound_check full_check
      add-full l = rw (sound, ok, lt-ltb 4000000 (t.total + halves_of t.settings xs) (omega (arith, all, total-high)))

      pub check_taken : n ≤ 4000000 - t.total → add_check t xs ≡ Ok tt
      unfolding add_check sound_check full_check
      check_taken l = rw (sound, ok, le-ltb 4000000 (t.total + halves_of t.settings xs) (omega (arith, all, total-high)))

      pub add-taken : n ≤ 4000000 - t.total → ◌≡◌ {A = Handed} (record { answer = Ok tt; table = grown t xs }) (added t xs)
      unfolding added
      add-taken l = rw (check_taken l)

-- ---- two tables added

module _ (t u : Table) where
  pub to_full : 4000000 - t.total < u.total → ◌≡◌ {A = Handed} (record { answer = Err (Full (4000000 - t.total)); table = t }) (added_to t u)
  unfolding added_to
  to_full l = rw (lt-ltb (4000000 - t.total) u.total l)

  pub to_merged : (v : Table) → u.total ≤ 4000000 - t.total → v ≡ merged t u → ◌≡◌ {A = Handed} (record { answer = Ok tt; table = v }) (added_to t u)
  unfolding added_to
  to_merged v l e = rw (e, le-ltb (4000000 - t.total) u.total l)

total-at : (cs : List ℕ) (i : ℕ) → get_or cs i 0 ≤ total cs
total-at [] i = omega arith
total-at (c ∷ cs) zero = omega arith
total-at (c ∷ cs) (suc i) = omega (arith, total-at cs i)

module _ (t : Table) (xs : List ℤ) (forty : length t.cells ≡ 40) where
  abbrev u : Table
  u = grown (empty t.settings t.set) xs

  cells_again : (g : ℕ → ℕ) → cells_from (λ i. get_or (cells_from g (replicate cells 0) 0) i 0) t.cells 0 ≡ cells_from g t.cells 0
  cells_again g =
      ext_get_or 0 (cells_from (λ i. get_or (cells_from g (replicate cells 0) 0) i 0) t.cells 0) (cells_from g t.cells 0)
      (cells-length (λ i. get_or (cells_from g (replicate cells 0) 0) i 0) t.cells 0 ∙ sym (cells-length g t.cells 0))
      (λ i l.
      let v : i < length t.cells = omega (arith, cells-length (λ i. get_or (cells_from g (replicate cells 0) 0) i 0) t.cells 0) in
      let w : 0 + i < cells = omega (arith, forty) in
      let z : get_or (replicate cells 0) (0 + i) 0 ≡ 0 = get_or-replicate {A = ℕ} cells (0 + i) 0 0 w in
      let e : g (0 + (0 + i)) ≡ g (0 + i) = rw zero-add in
      omega (
        arith,
        cells_at_lem (λ i. get_or (cells_from g (replicate cells 0) 0) i 0) t.cells 0 i v,
        cells_at_lem g (replicate cells 0) 0 (0 + i) w,
        cells_at_lem g t.cells 0 i v,
        z,
        e,
      ))

  -- what the recording adds to cell i
  abbrev gain : ℕ → ℕ
  gain i =
      let h = half_at t.settings xs in
      let n = halves_of t.settings xs in
      count (λ k. is_placed t.settings h n k && eqb (sag_cell t.settings (borders_of t.settings t.set) h n k) i) n

  pub merged-grown : merged t u ≡ grown t xs
  unfolding merged grown
  merged-grown = rw (cells_again gain) (simp zero-add)

  sound-grown : add_check t xs ≡ Ok tt → Sound (merged t u)
  sound-grown ok = rw merged-grown (sound-parts (grown t xs) (grown-sound t xs forty ok))

  u_forty : length u.cells ≡ 40
  unfolding grown
  u_forty = cells-length gain (replicate cells 0) 0

  cells_low : add_check t xs ≡ Ok tt → (i : ℕ) → get_or t.cells i 0 + get_or u.cells i 0 ≤ 4000000
  unfolding merged
  cells_low ok i =
      let s = sound-grown ok in
      ⊎_elim
      (λ l.
      let at = cells_at_lem (λ j. get_or u.cells j 0) t.cells 0 i l in
      let z : get_or u.cells (0 + i) 0 ≡ get_or u.cells i 0 = rw zero-add in
      omega (arith, at, z, total-at (merged t u).cells i, s.places, s.sags-high, s.total-high))
      (λ l.
      rw (get_or-eq_default t.cells 0 {n = i} l, get_or-eq_default u.cells 0 {n = i} (omega (arith, u_forty, forty))) (omega arith))
      (lower i (length t.cells))

  pub mergeable : add_check t xs ≡ Ok tt → Mergeable t u
  unfolding merged
  mergeable ok =
      let s = sound-grown ok in
      let g = full-high t.settings (good t.settings s.good-settings) in
      let high : 3 * full t.settings * (t.total + u.total) ≤ 3840000000000 * 4000000 =
      let three : 3 * full t.settings ≤ 3840000000000 = omega (arith, g) in mul-le-mul three s.total-high in
      record {
        total-few = s.total-high;
        healthy-few = omega (arith, s.classes, s.total-high);
        disturbed-few = omega (arith, s.classes, s.total-high);
        unknown-few = omega (arith, s.classes, s.total-high);
        cells-few = cells_low ok;
        unplaced-few = omega (arith, s.places, s.sags-high, s.total-high);
        sags-few = omega (arith, s.sags-high, s.total-high);
        interruptions-few = omega (arith, s.interruptions-high, s.total-high);
        swells-few = omega (arith, s.swells-high, s.total-high);
        shortfall-low = omega (arith, s.shortfall-high, high);
        parts_low = omega (arith, s.parts, s.shortfall-high, high);
      }

  -- ---- the table of an accepted recording, added

  module _ (sound : is_unsound t ≡ false) (ok : recording_check t.settings xs ≡ Ok tt) where
    u_total : u.total ≡ halves_of t.settings xs
    unfolding grown
    u_total = zero-add (halves_of t.settings xs)

    pub adding : Adding t u
    adding =
        record {
          total-high = (sound-parts t sound).total-high;
          mergeable = λ l. mergeable (check_taken t xs sound ok u.total u_total (omega arith));
        }

    pub added_is : added_to t u ≡ added t xs
    added_is =
        ⊎_elim
        (λ l. sym (to_full t u l) ∙ add-full t xs sound ok u.total u_total l)
        (λ l. sym (to_merged t u (grown t xs) l (sym merged-grown)) ∙ add-taken t xs sound ok u.total u_total l)
        (lower (4000000 - t.total) u.total)

  -- ---- a table that is the recording's, added

  module _ (sound : is_unsound t ≡ false) (v : Table) (ok : recording_check t.settings xs ≡ Ok tt) (is : v ≡ u) where
    pub pass_adding : Adding t v
    pass_adding = rw is (adding sound ok)

    pub pass-added : (w : Handed) → w ≡ added_to t v → w ≡ added t xs
    pass-added w f = f ∙ rw is (added_is sound ok)
