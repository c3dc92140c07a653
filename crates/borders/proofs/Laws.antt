-- The code's sets are the rules'; and a place among borders by the library's word. Assumes nothing.
use Rattle.std.proofs.Common.{◌≡◌, ℕ, ◌+◌, ◌*◌, ◌≤◌, ◌<◌, ◌&&◌, Bool, true, false, not, List, [], ◌∷◌, length, map, slice_index_or, refl, sym, ap, ◌∙◌, one-add}
use Rattle.std.proofs.lemmas.List.{length-map}
use Rattle.std.proofs.lemmas.List.Folds.{list_all_at}
use mathlib.Core.Logic.{⊎_elim}
use Rattle.std.specs.List.{All, list_all, prefix_len}
use borrow.Author.Tests.{ltb-true, leb-true, leb-false, lt-ltb, le-ltb}
use lib.Dec.{leb, ltb}
use lib.ListN.{get_or, get_or-map}
use Rattle.rules.specs.declared.Settings.{Settings}
use Rattle.rules.specs.Halves.{full, at_most}
use Rattle.rules.specs.Borders as rules
use Rattle.rules.specs.Borders.{sets, known_set, borders_of, place_of, row_of, column_of}
use Rattle.rules.proofs.Booleans.{both, not_both, cases}
use Rattle.borders.specs.declared.Border.{Border}
use Rattle.borders.specs.declared.Borders.{Borders}
use Rattle.borders.specs.Lists.{at_frequency, lists_at}

-- ---- what is computed of all sets holds of each

tested : {A : Type 0} (P : A → Type 0) (p : A → Bool) → ((x : A) → p x ≡ true → P x) → (xs : List A) → list_all p xs ≡ true → All P xs
tested P p to xs h k d l =
    ⊎_elim (to (get_or xs k d)) (λ e. absurd (not_both (list_all p xs) h (list_all_at p xs k d l e))) (cases (p (get_or xs k d)))

pub percents_of : (bs : List Borders) → list_all (λ b. list_all (λ p. leb p 100) b.rows.now) bs ≡ true → All (λ b. All (λ p. p ≤ 100) b.rows.now) bs
percents_of = tested _ _ (λ b. tested (λ p. p ≤ 100) (λ p. leb p 100) (λ p. leb-true p 100) b.rows.now)

pub low_of : (bs : List Borders) → list_all (λ b. list_all (λ c. leb c.fifths 1000 && leb c.times 1000) b.columns.now) bs ≡ true
    → All (λ b. All (λ c. (c.fifths ≤ 1000) × (c.times ≤ 1000)) b.columns.now) bs
low_of = tested _ _ (λ b. tested (λ c. (c.fifths ≤ 1000) × (c.times ≤ 1000)) (λ c. leb c.fifths 1000 && leb c.times 1000) low b.columns.now)
  where
    low : (c : Border) → (leb c.fifths 1000 && leb c.times 1000) ≡ true → (c.fifths ≤ 1000) × (c.times ≤ 1000)
    low c h = let p = both (leb c.fifths 1000) (leb c.times 1000) h in (leb-true c.fifths 1000 p.0, leb-true c.times 1000 p.1)

-- ---- a known set is one of the list

pub known-low : (set : ℕ) → known_set set ≡ true → set < length sets
unfolding known_set
known-low set k = ltb-true set (length sets) k

-- ---- the code's sets, told of all of them at once, so that a further one asks for no proof

abbrev no_borders : Borders
no_borders = record { rows = record { ref_ptr = (0, 0); now = [] }; columns = record { ref_ptr = (0, 0); now = [] } }

module _ (bs : List Borders) (same : (f : ℕ) → map (lists_at f) bs ≡ map (λ b. b f) sets) where
  -- there are as many as the rules have
  pub as_many : length bs ≡ length sets
  as_many = sym (length-map bs (lists_at 0)) ∙ ap length (same 0) ∙ length-map sets (λ b. b 0)

  pub in_list : (set : ℕ) → known_set set ≡ true → set < length bs
  in_list set k = rw as_many (known-low set k)

  -- and each is the rules' of that number
  pub set_is : (s : Settings) (set : ℕ) → lists_at s.f (slice_index_or bs set no_borders) ≡ borders_of s set
  unfolding borders_of
  set_is s set =
      sym (get_or-map (lists_at s.f) bs set no_borders)
      ∙ ap (λ l. get_or l set (lists_at s.f no_borders)) (same s.f)
      ∙ get_or-map (λ b. b s.f) sets set (λ f. record { rows = []; columns = [] })

-- ---- the rules' row and column, by the library's word for a place

-- above a border is not at most it
above_is : (b x : ℕ) → ltb b x ≡ not (leb x b)
above_is b x = either (leb x b) refl
  where
    either : (t : Bool) → leb x b ≡ t → ltb b x ≡ not t
    either true h = le-ltb b x (leb-true x b h)
    either false h = lt-ltb b x (leb-false x b h)

row_place : (s : Settings) (S : ℕ) (bs : List ℕ) → prefix_len (λ p. ltb (p * p * full s) (10000 * S)) bs ≡ place_of (λ p. not (at_most s p S)) bs
row_place s S [] = refl
row_place s S (b ∷ bs) = rw (above_is (b * b * full s) (10000 * S), row_place s S bs, one-add)

pub row_is : (s : Settings) (b : rules.Borders) (S : ℕ) → prefix_len (λ p. ltb (p * p * full s) (10000 * S)) b.rows ≡ row_of s b S
unfolding row_of
row_is s b S = row_place s S b.rows

column_place : (f x : ℕ) (bs : List Border) → prefix_len (λ b. leb (b.fifths + b.times * f) x) bs ≡ place_of (λ p. leb p x) (at_frequency f bs)
column_place f x [] = refl
column_place f x (b ∷ bs) = rw (column_place f x bs, one-add)

pub column_is : (f : ℕ) (bs : List Border) (b : rules.Borders) → at_frequency f bs ≡ b.columns → (h : ℕ)
    → prefix_len (λ b. leb (b.fifths + b.times * f) (5 * h)) bs ≡ column_of b h
unfolding column_of
column_is f bs b e h = column_place f (5 * h) bs ∙ rw e
