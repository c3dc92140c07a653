-- What the theorems of the three demands, and the laws that docs/STATEMENTS.md names beside them, speak of besides the rules: what an
-- accepting check says, in an event told by the half-cycle before, a list in order, what has a score, the largest whole number,
-- a sag that contains an interruption, places among borders and the cell that takes a sag, recordings offered to a table one after the other, and a sound table.
use Rattle.std.specs.Prelude.{ℕ, suc, ◌+◌, ◌-◌, ◌*◌, ◌/◌, ◌%◌, ◌≤◌, ◌<◌, ◌≡◌, Bool, true, not, ◌&&◌, ◌||◌, cond, leb, ltb, eqb, ℤ, pos, length, get_or, Result, Ok, Err, ⊤}
use mathlib.Core.List.{List, [], ◌∷◌, Memᴰ}
use Rattle.rules.specs.Bounded.{all, count}
use Rattle.rules.specs.Recorder.{in_range, settings_good}
use Rattle.rules.specs.Halves.{Half, of_channel, samples_of, half_at, halves_of, known, full, at_most}
use Rattle.rules.specs.Events.{begins, ends, starts, end_of, three}
use Rattle.rules.specs.EventList.{kind_number, events_of}
use Rattle.rules.specs.Borders.{Borders, known_set, borders_of, columns_in, cells_in}
use Rattle.rules.specs.Scores.{is_sag, is_event}
use Rattle.rules.specs.Site.{is_healthy, is_disturbed, is_unknown, is_placed, is_unplaced, sag_cell, sag_short, sag_shorts, cells, total, most_halves}
use Rattle.rules.specs.Refusals.{recording_check, by_check, and_then, add_check, added}
use Rattle.rules.specs.declared.Settings.{Settings}
use Rattle.rules.specs.declared.Kind.{Kind}
use Rattle.rules.specs.declared.Kind.TheVariants.{Sag, Interruption, Swell}
use Rattle.rules.specs.declared.Event.{Event}
use Rattle.rules.specs.declared.Table.{Table}
use Rattle.rules.specs.declared.Refusal.TheVariants.{Full}
use Rattle.rules.specs.declared.Refusal.{Refusal}

-- ---- Demand 1: what a check that accepts says, part by part

-- good settings: each in its range
pub record Good (s : Settings) : Type 0 where
  pub n_low : 8 ≤ s.n
  pub n_high : s.n ≤ 512
  pub n_even : s.n % 2 ≡ 0
  pub r_low : 1000 ≤ s.r
  pub r_high : s.r ≤ 50000
  pub f_low : 50 ≤ s.f
  pub f_high : s.f ≤ 60
  pub sag-low : 50 ≤ s.sag
  pub sag-high : s.sag ≤ 95
  pub interruption-low : 1 ≤ s.interruption
  pub interruption-high : s.interruption ≤ 20
  pub swell-low : 105 ≤ s.swell
  pub swell-high : s.swell ≤ 150
  pub hysteresis_high : s.hysteresis ≤ 5

-- an accepted recording: none of the checks 2 to 6 applies
pub record AcceptedRecording (s : Settings) (xs : List ℤ) : Type 0 where
  pub threes : length xs % 3 ≡ 0
  pub enough : s.n ≤ samples_of xs
  pub even : samples_of xs % (s.n / 2) ≡ 0
  pub few : halves_of s xs ≤ 100000
  pub every_in_range : (i : ℕ) → i < length xs → in_range (get_or xs i (pos 0)) ≡ true

-- ---- Demand 2: in an event, told by the half-cycle before; a list in order; what has a score

-- whether half-cycle v is in an event, where `inside` says it of the one before
abbrev pub goes_on : Settings → Kind → Bool → Half → Bool
goes_on s kind inside v = known v && (begins s kind v || (inside && not (ends s kind v)))

-- the start is smaller, or the starts are equal and the kind is smaller
abbrev pub earlier : Event → Event → Bool
earlier x y = ltb x.start y.start || (eqb x.start y.start && ltb x.kind y.kind)

-- every one of the list
abbrev pub every : {A : Type 0} → (A → Bool) → List A → Bool
every p [] = true
every p (x ∷ xs) = p x && every p xs

-- each is earlier than all that come after it
abbrev pub sorted : List Event → Bool
sorted [] = true
sorted (e ∷ es) = every (earlier e) es && sorted es

-- what has no reason against it, and so a score: settings good, an event, a sag, both ends seen
pub record Scorable (s : Settings) (e : Event) : Type 0 where
  pub settings : settings_good s ≡ true
  pub event : is_event s e ≡ true
  pub sag : is_sag e ≡ true
  pub seen : e.seen ≡ 3

-- ---- the retained value of S, with m for N x R x R

-- r is the whole number nearest to 1000 V / R, halves upward: 1000 V / R is at least r - 1/2, which is said of r from 1 on, and
-- below r + 1/2
pub record IsRetained (m S r : ℕ) : Type 0 where
  pub at_least : 1 ≤ r → (2 * r - 1) * (2 * r - 1) * m ≤ 4000000 * S
  pub under : 4000000 * S < (2 * r + 1) * (2 * r + 1) * m

-- r is at least as near to 1000 V / R as t, and nearer if t is the larger one: 1000 V / R lies at or above the middle of r and a
-- smaller t, and below the middle of r and a larger one
pub record NoFurther (m S r t : ℕ) : Type 0 where
  pub from-below : t < r → (r + t) * (r + t) * m ≤ 4000000 * S
  pub from-above : r < t → 4000000 * S < (r + t) * (r + t) * m

-- d is 1000 V / R, rounded down
pub record IsDown (m S d : ℕ) : Type 0 where
  pub at_least : d * d * m ≤ 1000000 * S
  pub under : 1000000 * S < (d + 1) * (d + 1) * m

-- what 1,000,000 x S has over d x d x m, the rest, is at least what (d + 1/2)^2 x m has, the half: (d + 1/4) x m. Four times both, in
-- whole numbers
abbrev pub half_or_more : (m S d : ℕ) → Bool
half_or_more m S d = leb ((4 * d + 1) * m) (4 * (1000000 * S - d * d * m))

-- ---- an interruption lies in one sag

-- exactly one: this one has P, and whatever has P is this one
pub record ExactlyOne {A : Type 0} (P : A → Type 0) : Type 0 where
  pub one : A
  pub has : P one
  pub only : (x : A) → P x → x ≡ one

-- the event of the kind that starts at k contains the half-cycles from a up to and without b: it starts at or before a, and ends
-- at or after b
pub record Contains (s : Settings) (h : ℕ → Half) (n : ℕ) (kind : Kind) (a b k : ℕ) : Type 0 where
  pub one-starts : starts s h kind k ≡ true
  pub by_then : k ≤ a
  pub to_the_end : b ≤ end_of s h n kind k

-- g is a sag of the recording's list that starts at or before e's start and ends at or after e's end
pub record SagOver (s : Settings) (xs : List ℤ) (e g : Event) : Type 0 where
  pub listed : Memᴰ g (events_of s xs)
  pub sag : g.kind ≡ kind_number Sag
  pub by_then : g.start ≤ e.start
  pub to_the_end : e.end ≤ g.end

-- ---- places among borders

-- each border is below the next
abbrev pub rising : List ℕ → Bool
rising bs = all (λ i. ltb (get_or bs i 0) (get_or bs (suc i) 0)) (length bs - 1)

-- in place i, of which there is one more than borders: border i - 1, where there is one, is passed, and border i, where there is
-- one, is not
unfoldable pub lies_in : (ℕ → Bool) → List ℕ → ℕ → Bool
lies_in passed bs i =
    leb i (length bs) && (eqb i 0 || passed (get_or bs (i - 1) 0)) && (leb (length bs) i || not (passed (get_or bs i 0)))

-- a border below a passed one is passed
abbrev pub Falling : (ℕ → Bool) → Type 0
Falling passed = (b c : ℕ) → b ≤ c → passed c ≡ true → passed b ≡ true

-- both lists of a set rise, and there are at most forty cells
abbrev pub fits : Borders → Bool
fits b = rising b.rows && rising b.columns && leb (cells_in b) cells

-- cell i takes an extreme and a duration of h half-cycles: the extreme lies in its row and the duration in its column
unfoldable pub takes : Settings → Borders → ℕ → ℕ → ℕ → Bool
takes s b extreme h i =
    lies_in (λ p. not (at_most s p extreme)) b.rows (i / columns_in b)
    && lies_in (λ p. leb p (5 * h)) b.columns (i % columns_in b)

-- ---- Demand 3: recordings offered in sequence

-- each in turn handed to `added`, and the table taken on
abbrev pub offer : Table → List (List ℤ) → Table
offer t [] = t
offer t (xs ∷ rs) = offer (added t xs).table rs

-- those that are accepted at their turn
abbrev pub taken : Table → List (List ℤ) → List (List ℤ)
taken t [] = []
taken t (xs ∷ rs) = let rest = taken (added t xs).table rs in by_check (add_check t xs) (xs ∷ rest) (λ r. rest)

-- the check of one recording told with no table: s its settings, n the half-cycles so far
abbrev pub admits : Settings → ℕ → List ℤ → Result ⊤ Refusal
admits s n xs = and_then (recording_check s xs) (cond (ltb most_halves (n + halves_of s xs)) (Err (Full (most_halves - n))) (Ok tt))

-- those that are accepted at their turn, told so
abbrev pub admitted : Settings → ℕ → List (List ℤ) → List (List ℤ)
admitted s n [] = []
admitted s n (xs ∷ rs) =
    let more = admitted s (n + halves_of s xs) rs in
    let same = admitted s n rs in
    by_check (admits s n xs) (xs ∷ more) (λ r. same)

-- the sum of what g gives of each recording
abbrev pub sum_over : (List ℤ → ℕ) → List (List ℤ) → ℕ
sum_over g [] = 0
sum_over g (xs ∷ rs) = g xs + sum_over g rs

-- the sags of a recording that go in cell i, by any borders
abbrev pub placed_in : Settings → Borders → List ℤ → ℕ → ℕ
placed_in s b xs i = let h = half_at s xs in let n = halves_of s xs in count (λ k. is_placed s h n k && eqb (sag_cell s b h n k) i) n

-- what a table that is not unsound is, part by part: each condition of `is_unsound` turned round, the
-- one on event kinds as three
pub record Sound (t : Table) : Type 0 where
  pub good-settings : settings_good t.settings ≡ true
  pub set_known : known_set t.set ≡ true
  pub total-high : t.total ≤ 4000000
  pub classes : t.healthy + t.disturbed + t.unknown ≡ t.total
  pub places : total t.cells + t.unplaced ≡ t.sags
  pub unused : (i : ℕ) → cells_in (borders_of t.settings t.set) ≤ i → i < cells → get_or t.cells i 0 ≡ 0
  pub sags-high : t.sags ≤ t.total
  pub interruptions-high : t.interruptions ≤ t.total
  pub swells-high : t.swells ≤ t.total
  pub shortfall-high : t.shortfall ≤ 3 * full t.settings * t.total
  pub parts : three t.parts ≡ t.shortfall

-- a table with settings s and a set of borders holds what the recordings add up to: each count its own, each straight from the
-- samples, and all cells of the set
pub record SumsUp (s : Settings) (set : ℕ) (t : Table) (rs : List (List ℤ)) : Type 0 where
  pub settings : t.settings ≡ s
  pub same_set : t.set ≡ set
  pub total : t.total ≡ sum_over (halves_of s) rs
  pub healthy : t.healthy ≡ sum_over (λ xs. count (is_healthy s (half_at s xs)) (halves_of s xs)) rs
  pub disturbed : t.disturbed ≡ sum_over (λ xs. count (is_disturbed s (half_at s xs)) (halves_of s xs)) rs
  pub unknown : t.unknown ≡ sum_over (λ xs. count (is_unknown s (half_at s xs)) (halves_of s xs)) rs
  pub forty : length t.cells ≡ cells
  pub placed : (i : ℕ) → i < cells_in (borders_of s set) → get_or t.cells i 0 ≡ sum_over (λ xs. placed_in s (borders_of s set) xs i) rs
  pub unused : (i : ℕ) → cells_in (borders_of s set) ≤ i → i < cells → get_or t.cells i 0 ≡ 0
  pub unplaced : t.unplaced ≡ sum_over (λ xs. count (is_unplaced s (half_at s xs) (halves_of s xs)) (halves_of s xs)) rs
  pub sags : t.sags ≡ sum_over (λ xs. count (starts s (half_at s xs) Sag) (halves_of s xs)) rs
  pub interruptions : t.interruptions ≡ sum_over (λ xs. count (starts s (half_at s xs) Interruption) (halves_of s xs)) rs
  pub swells : t.swells ≡ sum_over (λ xs. count (starts s (half_at s xs) Swell) (halves_of s xs)) rs
  pub shortfall : t.shortfall ≡ sum_over (sag_shorts s) rs
  pub parts : (c : ℕ) → c < 3 → of_channel c t.parts ≡ sum_over (λ xs. sag_short s xs c) rs
