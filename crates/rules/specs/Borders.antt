-- The borders of cells: which lists has a set, the row of an extreme, the column of a duration, and their cell, by any borders.
use Rattle.std.specs.Prelude.{ℕ, suc, ◌+◌, ◌*◌, Bool, not, cond, List, [], ◌∷◌, length, get_or, leb, ltb}
use Rattle.rules.specs.Halves.{at_most}
use Rattle.rules.specs.declared.Settings.{Settings}

-- borders of rows, in percent of R and from the deepest on, and of columns, in fifths of a half-cycle and from the shortest on. The last
-- row and the last column are the rest, so there is one of each more than borders
pub record Borders : Type 0 where
  pub rows : List ℕ
  pub columns : List ℕ

-- ---- which lists has set i: its two, at frequency f

abbrev pub sets : List (ℕ → Borders)
sets =
    -- 0, document 01's (source 001, Table 3): rows 0 to 4, V at most 10, 40, 70, 85 percent, above; columns 0 to 7, h below 2; 5h < f
    -- (0.1 s); h < f (0.5 s); h < 2f; h < 6f; h < 40f; h < 120f; the rest
    (λ f.
    record {
      rows = 10 ∷ 40 ∷ 70 ∷ 85 ∷ [];
      columns = 5 * 2 ∷ f ∷ 5 * f ∷ 5 * (2 * f) ∷ 5 * (6 * f) ∷ 5 * (40 * f) ∷ 5 * (120 * f) ∷ [];
    })
    -- 1, that of IEC 61000-4-11 (source 001, Table 4): rows 0 to 4, V at most 10, 40, 70, 80 percent, above; columns 0 to 4, h below 2
    -- (one cycle); 5h < 2f (200 ms); h < f (500 ms); h < 10f (5 s); the rest
    ∷ (λ f. record { rows = 10 ∷ 40 ∷ 70 ∷ 80 ∷ []; columns = 5 * 2 ∷ 2 * f ∷ 5 * f ∷ 5 * (10 * f) ∷ [] })
    ∷ []

-- a set of the list; any other number is an unknown set
unfoldable pub known_set : ℕ → Bool
known_set set = ltb set (length sets)

-- the lists of a set at frequency f; an unknown set has no borders
abbrev pub lists_of : ℕ → ℕ → Borders
lists_of set f = get_or sets set (λ f. record { rows = []; columns = [] }) f

-- at the settings' frequency
unfoldable pub borders_of : Settings → ℕ → Borders
borders_of s set = lists_of set s.f

-- ---- by any borders

-- the place among borders: how many are passed before the first that is not
abbrev pub place_of : (ℕ → Bool) → List ℕ → ℕ
place_of passed [] = 0
place_of passed (b ∷ bs) = cond (passed b) (suc (place_of passed bs)) 0

-- a voltage on a border goes to the deeper row: only one above the border passes it
unfoldable pub row_of : Settings → Borders → ℕ → ℕ
row_of s b extreme = place_of (λ p. not (at_most s p extreme)) b.rows

-- a duration on a border goes to the longer column: it passes the border
unfoldable pub column_of : Borders → ℕ → ℕ
column_of b h = place_of (λ p. leb p (5 * h)) b.columns

-- how many rows, columns and cells there are
abbrev pub rows_in : Borders → ℕ
rows_in b = suc (length b.rows)

abbrev pub columns_in : Borders → ℕ
columns_in b = suc (length b.columns)

abbrev pub cells_in : Borders → ℕ
cells_in b = rows_in b * columns_in b

-- the cell of an extreme and a duration: number of columns x row + column
abbrev pub cell_at : Settings → Borders → ℕ → ℕ → ℕ
cell_at s b extreme h = columns_in b * row_of s b extreme + column_of b h
