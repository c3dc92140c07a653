-- A site table as 60 numbers: seven settings, the set of borders, total, healthy, disturbed, unknown, forty cells, unplaced, sags,
-- interruptions, swells, shortfall, and the shortfalls of a, b and c.
use Rattle.std.specs.Prelude.{ℕ, List, [], ◌∷◌, ◌++◌, get_or, take, drop}
use Rattle.rules.specs.Site.{cells}
use Rattle.rules.specs.declared.Table.{Table}
use Rattle.words.specs.Numbers.{settings_from}

-- what stands before the cells, and after them
abbrev pub head_of : Table → List ℕ
head_of t =
    let s = t.settings in
    s.n ∷ s.r ∷ s.f ∷ s.sag ∷ s.interruption ∷ s.swell ∷ s.hysteresis ∷ t.set ∷ t.total ∷ t.healthy ∷ t.disturbed ∷ t.unknown ∷ []

abbrev pub tail_of : Table → List ℕ
tail_of t =
    t.unplaced ∷ t.sags ∷ t.interruptions ∷ t.swells ∷ t.shortfall ∷ t.parts.a ∷ t.parts.b ∷ t.parts.c ∷ []

-- a table's numbers
unfoldable pub table_words : Table → List ℕ
table_words t = head_of t ++ t.cells ++ tail_of t

-- the table that 60 numbers are
unfoldable pub table_from : List ℕ → Table
table_from w =
    let at : ℕ → ℕ = λ i. get_or w i 0 in
    record {
      settings = settings_from (at 0) (at 1) (at 2) (at 3) (at 4) (at 5) (at 6);
      set = at 7;
      total = at 8;
      healthy = at 9;
      disturbed = at 10;
      unknown = at 11;
      cells = take cells (drop 12 w);
      unplaced = at 52;
      sags = at 53;
      interruptions = at 54;
      swells = at 55;
      shortfall = at 56;
      parts = record { a = at 57; b = at 58; c = at 59 };
    }
