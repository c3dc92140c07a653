-- The site table: cells; each count by its own definition; unsound tables.
use Rattle.std.specs.Prelude.{ℕ, suc, ◌+◌, ◌-◌, ◌*◌, Bool, not, ◌&&◌, ◌||◌, cond, List, [], ◌∷◌, replicate, get_or, ℤ, ltb, eqb}
use Rattle.rules.specs.Bounded.{all, count, sum}
use Rattle.rules.specs.Recorder.{settings_good}
use Rattle.rules.specs.Halves.{Half, of_channel, channels, squares, half_at, halves_of, known, full}
use Rattle.rules.specs.Events.{in_event, starts, end_of, start_seen, end_seen, extreme_of, short_of, make_up}
use Rattle.rules.specs.EventList.{event_from}
use Rattle.rules.specs.Borders.{Borders, known_set, borders_of, cells_in, cell_at}
use Rattle.rules.specs.Scores.{reason_by}
use Rattle.rules.specs.declared.Settings.{Settings}
use Rattle.rules.specs.declared.Kind.TheVariants.{Sag, Interruption, Swell}
use Rattle.rules.specs.declared.Event.{Event}
use Rattle.rules.specs.declared.Table.{Table}

-- ---- cells

-- how many a table has room for: as many as the largest set has
abbrev pub cells : ℕ
cells = 40

-- not scored: one above the last cell of the set; 40 for an unknown set
abbrev pub not_scored : Settings → ℕ → ℕ
not_scored s set = cond (known_set set) (cells_in (borders_of s set)) cells

-- the cell of an event by a set of borders
unfoldable pub cell_of : Settings → ℕ → Event → ℕ
cell_of s set e =
    cond (eqb (reason_by s set e) 0) (cell_at s (borders_of s set) e.extreme (e.end - e.start)) (not_scored s set)

-- ---- half-cycles: each class its own test

abbrev pub in_any : Settings → (ℕ → Half) → ℕ → Bool
in_any s h k = in_event s h Sag k || in_event s h Interruption k || in_event s h Swell k

-- healthy: known and in no event
unfoldable pub is_healthy : Settings → (ℕ → Half) → ℕ → Bool
is_healthy s h k = known (h k) && not (in_any s h k)

-- disturbed: known and in at least one event
unfoldable pub is_disturbed : Settings → (ℕ → Half) → ℕ → Bool
is_disturbed s h k = known (h k) && in_any s h k

unfoldable pub is_unknown : Settings → (ℕ → Half) → ℕ → Bool
is_unknown s h k = not (known (h k))

-- ---- sags, placed and unplaced: each a test of where it starts

-- a sag with both ends seen goes in one cell, any other sag is unplaced
unfoldable pub is_placed : Settings → (ℕ → Half) → ℕ → ℕ → Bool
is_placed s h n k = starts s h Sag k && (start_seen h k && end_seen h (end_of s h n Sag k))

unfoldable pub is_unplaced : Settings → (ℕ → Half) → ℕ → ℕ → Bool
is_unplaced s h n k = starts s h Sag k && not (start_seen h k && end_seen h (end_of s h n Sag k))

-- the cell of the sag that starts at k, by any borders
unfoldable pub sag_cell : Settings → Borders → (ℕ → Half) → ℕ → ℕ → ℕ
sag_cell s b h n k =
    let end = end_of s h n Sag k in cell_at s b (extreme_of h Sag k end) (end - k)

-- ---- shortfall

-- as the table adds it up: one and the same number of every sag of the list
unfoldable pub sag_sum : (Event → ℕ) → Settings → List ℤ → ℕ
sag_sum number s xs =
    sum (λ k. let e = event_from s xs Sag k in cond (starts s (half_at s xs) Sag k) (number e) 0) (halves_of s xs)

-- straight from the samples of channel c: over every half-cycle that lies in a sag
unfoldable pub sag_short : Settings → List ℤ → ℕ → ℕ
sag_short s xs c =
    sum (λ k. cond (in_event s (half_at s xs) Sag k) (short_of s (squares s xs k c)) 0) (halves_of s xs)

-- and of all three
abbrev pub sag_shorts : Settings → List ℤ → ℕ
sag_shorts s xs = sum (sag_short s xs) 3

-- ---- the table of one recording, added to a table

-- cell after cell, what g gives of its number
abbrev pub cells_from : (ℕ → ℕ) → List ℕ → ℕ → List ℕ
cells_from g [] i = []
cells_from g (x ∷ xs) i = (x + g i) ∷ cells_from g xs (suc i)

-- it keeps its settings and its set of borders, and each sag goes in its cell by that set
unfoldable pub grown : Table → List ℤ → Table
grown t xs =
    let s = t.settings in
    let b = borders_of s t.set in
    let h = half_at s xs in
    let n = halves_of s xs in
    record {
      settings = s;
      set = t.set;
      total = t.total + n;
      healthy = t.healthy + count (is_healthy s h) n;
      disturbed = t.disturbed + count (is_disturbed s h) n;
      unknown = t.unknown + count (is_unknown s h) n;
      cells = cells_from (λ i. count (λ k. is_placed s h n k && eqb (sag_cell s b h n k) i) n) t.cells 0;
      unplaced = t.unplaced + count (is_unplaced s h n) n;
      sags = t.sags + count (starts s h Sag) n;
      interruptions = t.interruptions + count (starts s h Interruption) n;
      swells = t.swells + count (starts s h Swell) n;
      shortfall = t.shortfall + sag_sum (λ e. e.shortfall) s xs;
      parts = channels (λ c. of_channel c t.parts + sag_sum (λ e. of_channel c e.parts) s xs);
    }

-- ---- fresh, zeros, unsound

abbrev pub empty : Settings → ℕ → Table
empty s set =
    record {
      settings = s;
      set = set;
      total = 0;
      healthy = 0;
      disturbed = 0;
      unknown = 0;
      cells = replicate cells 0;
      unplaced = 0;
      sags = 0;
      interruptions = 0;
      swells = 0;
      shortfall = 0;
      parts = channels (λ c. 0);
    }

abbrev pub zero_settings : Settings
zero_settings = record { n = 0; r = 0; f = 0; sag = 0; interruption = 0; swell = 0; hysteresis = 0 }

abbrev pub total : List ℕ → ℕ
total [] = 0
total (x ∷ xs) = x + total xs

-- how many half-cycles a table may hold
abbrev pub most_halves : ℕ
most_halves = 4000000

-- cells that the borders don't use are 0
abbrev pub unused_zero : Borders → List ℕ → Bool
unused_zero b cs = all (λ i. ltb i (cells_in b) || eqb (get_or cs i 0) 0) cells

-- settings bad; set of borders unknown; total above 4,000,000; the three half-cycle counts don't sum to it; cells and unplaced don't
-- sum to sags; a cell that the set does not use not 0; any event kind above total; shortfall above 3 x N x R x R x total; the shortfalls of
-- the channels don't make it up. No. 7 of document 02 has taken one condition out, No. 5 has put the last one in, and No. 9 those on
-- the set and its unused cells
unfoldable pub is_unsound : Table → Bool
is_unsound t =
    not (settings_good t.settings) || not (known_set t.set) || ltb most_halves t.total
    || not (eqb (t.healthy + t.disturbed + t.unknown) t.total)
    || not (eqb (total t.cells + t.unplaced) t.sags) || not (unused_zero (borders_of t.settings t.set) t.cells)
    || (ltb t.total t.sags || ltb t.total t.interruptions || ltb t.total t.swells)
    || ltb (3 * full t.settings * t.total) t.shortfall
    || not (make_up t.parts t.shortfall)
