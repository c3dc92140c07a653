-- A table and its 60 numbers are the same thing: each way back gives what was there. So a refused adding leaves the lent numbers
-- as they were, and a host that keeps a table's numbers keeps the table.
use Rattle.std.specs.Prelude.{Err}
use Prim.Native.Nat.{ℕ, zero, suc, ◌+◌, ◌≤◌}
use mathlib.Core.Path.{◌≡◌, refl, sym, ap, ap₂, ◌∙◌}
use mathlib.Core.List.{List, [], ◌∷◌, ◌++◌}
use native.Mathlib.Omega.{arith}
use lib.ListN.{length, get_or, take, drop, replicate, take-append-drop, length-drop}
use lib.IntN.{ℤ}
use lib.Seq.{drop-cons, take_all, take-add, take_at, get_or-append-add}
use Rattle.rules.specs.Refusals.{freshened, added}
use Rattle.rules.specs.declared.Settings.{Settings}
use Rattle.rules.specs.declared.Table.{Table}
use Rattle.rules.specs.declared.Refusal.{Refusal}
use Rattle.words.specs.Numbers.{settings_from}
use Rattle.words.specs.Words.{tail_of, table_words, table_from}

-- n numbers one by one, from the i-th on
abbrev read : List ℕ → ℕ → ℕ → List ℕ
read w i zero = []
read w i (suc n) = get_or w i 0 ∷ read w (suc i) n

read_part : (w : List ℕ) (i n : ℕ) → i + n ≤ length w → read w i n ≡ take n (drop i w)
read_part w i zero h = refl
read_part w i (suc n) h = rw (drop-cons w i 0 (omega arith)) (ap (λ (l : List ℕ). get_or w i 0 ∷ l) (read_part w (suc i) n (omega arith)))

-- 60 numbers, as a table and back
pub words_back : (w : List ℕ) → length w ≡ 60 → table_words (table_from w) ≡ w
unfolding table_words table_from
words_back w h =
    let head = read_part w 0 12 (omega arith) in
    let short : length (drop 52 w) ≤ 8 = rw length-drop (omega arith) in
    let tail = read_part w 52 8 (omega arith) ∙ take_all 8 (drop 52 w) short in
    ap₂ (λ (a b : List ℕ). a ++ take 40 (drop 12 w) ++ b) head tail ∙ ap (λ (l : List ℕ). l ++ drop 52 w) (sym (take-add 12 40 w)) ∙ take-append-drop 52 w

-- a table of forty cells, as numbers and back
pub table_back : (t : Table) → length t.cells ≡ 40 → table_from (table_words t) ≡ t
unfolding table_words table_from
table_back t h =
    let after : (j : ℕ) → get_or (t.cells ++ tail_of t) (40 + j) 0 ≡ get_or (tail_of t) j 0 = λ j. rw h at (get_or-append-add t.cells (tail_of t) j 0) in
    rw (take_at t.cells (tail_of t) 40 h, after 0, after 1, after 2, after 3, after 4, after 5, after 6, after 7)

-- the settings are its first seven numbers
pub settings_first : (t : Table)
    → let at : ℕ → ℕ = λ i. get_or (table_words t) i 0 in settings_from (at 0) (at 1) (at 2) (at 3) (at 4) (at 5) (at 6) ≡ t.settings
unfolding table_words
settings_first t = refl

-- and the set of borders is the eighth
pub set_eighth : (t : Table) → get_or (table_words t) 7 0 ≡ t.set
unfolding table_words
set_eighth t = refl

-- a refused adding leaves all 60 numbers
pub refused_leaves : (w : List ℕ) (xs : List ℤ) (r : Refusal) → length w ≡ 60 → (added (table_from w) xs).answer ≡ Err r → table_words (added (table_from w) xs).table ≡ w
unfolding added
refused_leaves w xs r h e = rw e (words_back w h)

-- a refused making gives 60 zeros
pub refused_zeros : (s : Settings) (set : ℕ) (r : Refusal) → (freshened s set).answer ≡ Err r → table_words (freshened s set).table ≡ replicate 60 0
unfolding freshened table_words
refused_zeros s set r e = rw e
