-- A fresh site table offered any recordings in any sequence, refused ones among them, holds what the definitions give of those that it
-- took, each count by its own: what one recording adds is told of any field once, and a table that grew from a fresh one is never
-- unsound. Assumes nothing.
use Rattle.std.specs.Prelude.{Result, Ok, Err, ⊤}
use Prim.Native.Nat.{ℕ, zero, suc, ◌+◌, ◌-◌, ◌*◌, ◌≤◌, ◌<◌}
use mathlib.Core.Path.{◌≡◌, refl, sym, ap, subst, ◌∙◌}
use mathlib.Core.Bool.{Bool, true, false, ◌&&◌, cond, false≢true}
use mathlib.Core.List.{List, [], ◌∷◌}
use mathlib.Core.Logic.{⊎_elim}
use native.Mathlib.Nat.{mul-add, mul_assoc, mul_comm}
use native.Mathlib.Omega.{arith}
use borrow.Author.Tests.{ltb-false, eqb-true}
use lib.Dec.{ltb}
use lib.IntN.{ℤ}
use lib.ListN.{length, get_or, get_or-replicate}
use lib.Seq.{ext_get_or}
use Rattle.rules.specs.Bounded.{count, sum}
use Rattle.rules.specs.Recorder.{bad_setting, settings_good}
use Rattle.rules.specs.Halves.{of_channel, squares, half_at, halves_of, full, below}
use Rattle.rules.specs.Events.{in_event, starts, end_of, start_seen, end_seen, seen_of, short_of}
use Rattle.rules.specs.EventList.{event_from}
use Rattle.rules.specs.Borders.{known_set, borders_of, cells_in}
use Rattle.rules.specs.Scores.{reason_number, why_by, reason_by}
use Rattle.rules.specs.Site.{cell_of, is_healthy, is_disturbed, is_unknown, is_placed, is_unplaced, sag_cell, sag_sum, sag_short, sag_shorts, cells_from, grown, cells, empty, zero_settings, total, most_halves, is_unsound}
use Rattle.rules.specs.Refusals.{recording_check, settings_check, set_check, by_check, and_then, freshened, sound_check, full_check, add_check, added}
use Rattle.rules.specs.Demands.{Scorable, offer, taken, admits, admitted, sum_over, placed_in, SumsUp}
use Rattle.rules.specs.declared.Settings.{Settings}
use Rattle.rules.specs.declared.Kind.TheVariants.{Sag, Interruption, Swell}
use Rattle.rules.specs.declared.Table.{Table}
use Rattle.rules.specs.declared.Refusal.{Refusal}
use Rattle.rules.specs.declared.Refusal.TheVariants.{Setting, Full, Unsound}
use Rattle.rules.proofs.Booleans.{both}
use Rattle.rules.proofs.Borders.{unused-none, cells-make_up, set-cells}
use Rattle.rules.proofs.Bounded.{count_le, sum_same}
use Rattle.rules.proofs.Choices.{of_cond, lower}
use Rattle.rules.proofs.Classes.{three-classes, placed_or_not}
use Rattle.rules.proofs.DemandTwo.{short-high, event_passes, no_why, seen_both_lem}
use Rattle.rules.proofs.Ranges.{good}
use Rattle.rules.proofs.Samples.{accepted_recording, sum_le, goes_on_lem, both_accept}
use Rattle.rules.proofs.Soundness.{sound-parts, sound_made}
use Rattle.rules.proofs.Shortfall.{of_channels, parts_agree, total_made_up, shortfalls_agree}

-- a refused recording changes nothing
pub refused_same : (t : Table) (xs : List ℤ) (r : Refusal) → add_check t xs ≡ Err r → (added t xs).table ≡ t
unfolding added
refused_same t xs r h = rw h

-- ---- once for every fact and every field

module _ (P : Table → Type 0) (keeps : (t : Table) (xs : List ℤ) → P t → add_check t xs ≡ Ok tt → P (grown t xs)) where
  added_keeps : (t : Table) (xs : List ℤ) → P t → P (added t xs).table
  unfolding added
  added_keeps t xs p = go (add_check t xs) refl
    where
      go : (c : Result ⊤ Refusal) → add_check t xs ≡ c → P (by_check c (grown t xs) (λ r. t))
      go (Ok _) h = keeps t xs p h
      go (Err r) h = p

  -- a fact that an accepted recording keeps holds after all
  pub offer_keeps : (t : Table) (rs : List (List ℤ)) → P t → P (offer t rs)
  offer_keeps t [] p = p
  offer_keeps t (xs ∷ rs) p = offer_keeps (added t xs).table rs (added_keeps t xs p)

  -- THE LAW: a field to which each accepted recording adds g holds the sum of g over those taken
  module _ (f : Table → ℕ) (g : List ℤ → ℕ) (adds : (t : Table) (xs : List ℤ) → P t → f (grown t xs) ≡ f t + g xs) where
    pub offer_adds : (t : Table) (rs : List (List ℤ)) → P t → f (offer t rs) ≡ f t + sum_over g (taken t rs)
    unfolding added
    offer_adds t [] p = omega arith
    offer_adds t (xs ∷ rs) p =
        offer_adds (added t xs).table rs (added_keeps t xs p) ∙ go (add_check t xs)
      where
        go : (c : Result ⊤ Refusal) → f (by_check c (grown t xs) (λ r. t)) + sum_over g (taken (added t xs).table rs) ≡ f t + sum_over g (by_check c (xs ∷ taken (added t xs).table rs) (λ r. taken (added t xs).table rs))
        go (Ok _) = omega (arith, adds t xs p)
        go (Err r) = refl

-- ---- cells

module _ (g : ℕ → ℕ) where
  pub cells-length : (cs : List ℕ) (i : ℕ) → length (cells_from g cs i) ≡ length cs
  cells-length [] i = refl
  cells-length (c ∷ cs) i = ap suc (cells-length cs (suc i))

  pub cells_at_lem : (cs : List ℕ) (i j : ℕ) → j < length cs → get_or (cells_from g cs i) j 0 ≡ get_or cs j 0 + g (i + j)
  cells_at_lem [] i j l = absurd (omega arith)
  cells_at_lem (c ∷ cs) i zero l = let q : i + 0 ≡ i = omega arith in rw q
  cells_at_lem (c ∷ cs) i (suc j) l = let q : i + suc j ≡ suc i + j = omega arith in rw q (cells_at_lem cs (suc i) j (omega arith))

-- a sum, its first apart
sum_first : (f : ℕ → ℕ) (n : ℕ) → sum f (suc n) ≡ f 0 + sum (λ k. f (suc k)) n
sum_first f zero = omega arith
sum_first f (suc n) = omega (arith, sum_first f n)

cells-sum : (g : ℕ → ℕ) (cs : List ℕ) (i : ℕ) → total (cells_from g cs i) ≡ total cs + sum (λ j. g (i + j)) (length cs)
cells-sum g [] i = refl
cells-sum g (c ∷ cs) i =
    let first = sum_first (λ j. g (i + j)) (length cs) in
    let same = sum_same (λ j. g (suc i + j)) (λ j. g (i + suc j)) (length cs) (λ j l. ap g (omega arith)) in
    let at : g (i + 0) ≡ g i = ap g (omega arith) in
    omega (arith, cells-sum g cs (suc i))

-- ---- an accepted recording keeps a table sound

-- what an accepting check says
pub record AcceptedAdding (t : Table) (xs : List ℤ) : Type 0 where
  pub sound : is_unsound t ≡ false
  pub recording : recording_check t.settings xs ≡ Ok tt
  pub fits : t.total + halves_of t.settings xs ≤ most_halves

pub accepted_adding : (t : Table) (xs : List ℤ) → add_check t xs ≡ Ok tt → AcceptedAdding t xs
unfolding add_check sound_check full_check
accepted_adding t xs h =
    let p = both_accept (sound_check t) (and_then (recording_check t.settings xs) (full_check t xs)) h in
    let q = both_accept (recording_check t.settings xs) (full_check t xs) p.1 in
    record {
      sound = (goes_on_lem (is_unsound t) Unsound (Ok tt) p.0).0;
      recording = q.0;
      fits = ltb-false most_halves (t.total + halves_of t.settings xs) (goes_on_lem (ltb most_halves (t.total + halves_of t.settings xs)) (Full (most_halves - t.total)) (Ok tt) q.1).0;
    }

-- each half-cycle adds at most N x R x R to a channel
pub sag_short-high : (s : Settings) (xs : List ℤ) (c : ℕ) → sag_short s xs c ≤ halves_of s xs * full s
unfolding sag_short
sag_short-high s xs c =
    sum_le (λ k. cond (in_event s (half_at s xs) Sag k) (short k) 0) (full s) (halves_of s xs)
    (λ k l. of_cond (λ x. x ≤ full s) (in_event s (half_at s xs) Sag k) (short k) 0 (λ e. short-high (below s s.sag (squares s xs k c)) (full s) (squares s xs k c)) (λ e. omega arith))
  where
    short : ℕ → ℕ
    short k = short_of s (squares s xs k c)

-- the cell of a placed sag is that of its event in the list, by any known set
pub placed-cell : (s : Settings) (set : ℕ) (xs : List ℤ) → settings_good s ≡ true → known_set set ≡ true → recording_check s xs ≡ Ok tt
    → (k : ℕ) → is_placed s (half_at s xs) (halves_of s xs) k ≡ true
    → cell_of s set (event_from s xs Sag k) ≡ sag_cell s (borders_of s set) (half_at s xs) (halves_of s xs) k
unfolding is_placed cell_of sag_cell event_from reason_by why_by
placed-cell s set xs g known ok k h =
    let b = end_of s (half_at s xs) (halves_of s xs) Sag k in
    let p = both (starts s (half_at s xs) Sag k) (start_seen (half_at s xs) k && end_seen (half_at s xs) b) h in
    let scorable : Scorable s (event_from s xs Sag k) =
    record {
      settings = g;
      event = event_passes s xs (good s g) (accepted_recording s xs ok) Sag k p.0;
      sag = refl;
      seen = eqb-true (seen_of (half_at s xs) k b) 3 (seen_both_lem (half_at s xs) k b ∙ p.1);
    } in
    rw (known, ap reason_number (no_why s (event_from s xs Sag k) scorable))

module _ (t : Table) (xs : List ℤ) (forty : length t.cells ≡ cells) where
  cell-grown : (i : ℕ) → i < cells
      → get_or (grown t xs).cells i 0 ≡ get_or t.cells i 0 + placed_in t.settings (borders_of t.settings t.set) xs i
  unfolding grown
  cell-grown i l =
      let q : 0 + i ≡ i = omega arith in
      cells_at_lem (placed_in t.settings (borders_of t.settings t.set) xs) t.cells 0 i (omega (arith, forty)) ∙ rw q

  cells-grown : known_set t.set ≡ true
      → total (grown t xs).cells ≡ total t.cells + count (is_placed t.settings (half_at t.settings xs) (halves_of t.settings xs)) (halves_of t.settings xs)
  unfolding grown
  cells-grown known =
      let s = t.settings in
      let b = borders_of s t.set in
      let g = placed_in s b xs in
      cells-sum g t.cells 0
      ∙ rw forty
      (ap (λ x. total t.cells + x)
      (sum_same (λ j. g (0 + j)) g cells (λ j l. ap g (omega arith)) ∙ cells-make_up s b (half_at s xs) (halves_of s xs) (halves_of s xs) cells (set-cells s t.set known)))

  -- a recording puts no sag in a cell that the set does not use
  still_unused : ((i : ℕ) → cells_in (borders_of t.settings t.set) ≤ i → i < cells → get_or t.cells i 0 ≡ 0)
      → (i : ℕ) → cells_in (borders_of t.settings t.set) ≤ i → i < cells → get_or (grown t xs).cells i 0 ≡ 0
  still_unused none i l u =
      let s = t.settings in
      omega (arith, cell-grown i u, none i l u, unused-none s (borders_of s t.set) (half_at s xs) (halves_of s xs) (halves_of s xs) i l)

-- THE LAW: what is sound and takes a recording is sound after it
pub grown-sound : (t : Table) (xs : List ℤ) → length t.cells ≡ cells → add_check t xs ≡ Ok tt → is_unsound (grown t xs) ≡ false
unfolding grown
grown-sound t xs forty ok =
    let s = t.settings in
    let h = half_at s xs in
    let n = halves_of s xs in
    let a = accepted_adding t xs ok in
    let r = sound-parts t a.sound in
    sound_made (grown t xs)
    record {
      good-settings = r.good-settings;
      set_known = r.set_known;
      total-high = a.fits;
      classes = omega (arith, r.classes, three-classes s h n);
      places = omega (arith, r.places, cells-grown t xs forty r.set_known, placed_or_not s h n n);
      unused = still_unused t xs forty r.unused;
      sags-high = omega (arith, r.sags-high, count_le (starts s h Sag) n);
      interruptions-high = omega (arith, r.interruptions-high, count_le (starts s h Interruption) n);
      swells-high = omega (arith, r.swells-high, count_le (starts s h Swell) n);
      shortfall-high = omega (arith, r.shortfall-high, shortfalls_agree s xs, sag_short-high s xs 0, sag_short-high s xs 1, sag_short-high s xs 2, mul-add (3 * full s) t.total n, mul_comm n (full s), mul_assoc 3 (full s) n);
      parts = omega (arith, r.parts, total_made_up s xs);
    }

-- ---- a fresh table

pub fresh-good : (s : Settings) (set : ℕ) → settings_good s ≡ true → known_set set ≡ true
    → ((freshened s set).answer ≡ Ok tt) × ((freshened s set).table ≡ empty s set)
unfolding freshened settings_check set_check
fresh-good s set g k = (rw (g, k), rw (g, k))

pub empty-sound : (s : Settings) (set : ℕ) → settings_good s ≡ true → known_set set ≡ true → is_unsound (empty s set) ≡ false
empty-sound s set g k =
    sound_made (empty s set)
    record {
      good-settings = g;
      set_known = k;
      total-high = omega arith;
      classes = refl;
      places = refl;
      unused = λ i l u. get_or-replicate cells i 0 0 u;
      sags-high = omega arith;
      interruptions-high = omega arith;
      swells-high = omega arith;
      shortfall-high = omega arith;
      parts = refl;
    }

-- THE LAW: a making is refused exactly if a setting is bad, which is told first, or the set is unknown: refusal 1, place 8
pub fresh-refused : (s : Settings) (set : ℕ)
    → (freshened s set).answer ≡ cond (settings_good s) (cond (known_set set) (Ok tt) (Err (Setting 8))) (Err (Setting (bad_setting s)))
unfolding freshened settings_check set_check
fresh-refused s set = go (settings_good s)
  where
    go : (a : Bool)
        → and_then (cond a (Ok tt) (Err (Setting (bad_setting s)))) (cond (known_set set) (Ok tt) (Err (Setting 8)))
        ≡ cond a (cond (known_set set) (Ok tt) (Err (Setting 8))) (Err (Setting (bad_setting s)))
    go true = refl
    go false = refl

-- a refused making hands back zeros, and these are unsound
pub fresh_zeros : (s : Settings) (set : ℕ) → settings_good s && known_set set ≡ false → (freshened s set).table ≡ empty zero_settings 0
unfolding freshened settings_check set_check
fresh_zeros s set g = go (settings_good s) (known_set set) g
  where
    go : (a k : Bool) → a && k ≡ false
        → by_check (and_then (cond a (Ok tt) (Err (Setting (bad_setting s)))) (cond k (Ok tt) (Err (Setting 8)))) (empty s set) (λ r. empty zero_settings 0)
        ≡ empty zero_settings 0
    go true true h = absurd (false≢true (sym h))
    go true false h = refl
    go false k h = refl

pub fresh-bad : (s : Settings) (set : ℕ) → settings_good s && known_set set ≡ false → is_unsound (freshened s set).table ≡ true
unfolding is_unsound settings_good bad_setting
fresh-bad s set g = rw (fresh_zeros s set g)

-- ---- what grew from a fresh table

pub record Grown (s : Settings) (set : ℕ) (t : Table) : Type 0 where
  pub settings : t.settings ≡ s
  pub same_set : t.set ≡ set
  pub forty : length t.cells ≡ cells
  pub sound : is_unsound t ≡ false

settings_same : (t : Table) (xs : List ℤ) → (grown t xs).settings ≡ t.settings
unfolding grown
settings_same t xs = refl

set_same : (t : Table) (xs : List ℤ) → (grown t xs).set ≡ t.set
unfolding grown
set_same t xs = refl

still_forty : (t : Table) (xs : List ℤ) → length (grown t xs).cells ≡ length t.cells
unfolding grown
still_forty t xs = cells-length (placed_in t.settings (borders_of t.settings t.set) xs) t.cells 0

pub grown_keeps : (s : Settings) (set : ℕ) (t : Table) (xs : List ℤ) → Grown s set t → add_check t xs ≡ Ok tt → Grown s set (grown t xs)
grown_keeps s set t xs r ok =
    record {
      settings = settings_same t xs ∙ r.settings;
      same_set = set_same t xs ∙ r.same_set;
      forty = still_forty t xs ∙ r.forty;
      sound = grown-sound t xs r.forty ok;
    }

pub fresh-grown : (s : Settings) (set : ℕ) → settings_good s ≡ true → known_set set ≡ true → Grown s set (empty s set)
fresh-grown s set g k = record { settings = refl; same_set = refl; forty = refl; sound = empty-sound s set g k }

module _ (s : Settings) (set : ℕ) where
  -- a table that grew refuses a recording only for what the recording is, or because it is full
  pub check_is : (t : Table) (xs : List ℤ) → Grown s set t → add_check t xs ≡ admits s t.total xs
  unfolding add_check sound_check full_check
  check_is t xs r = rw (r.sound, r.settings)

  total-grown : (t : Table) (xs : List ℤ) → Grown s set t → (grown t xs).total ≡ t.total + halves_of s xs
  unfolding grown
  total-grown t xs r = rw r.settings

  pub taken_is : (t : Table) (rs : List (List ℤ)) → Grown s set t → taken t rs ≡ admitted s t.total rs
  unfolding added
  taken_is t [] r = refl
  taken_is t (xs ∷ rs) r =
      rw (← (check_is t xs r)) (go (add_check t xs) refl (λ h. taken_is (grown t xs) rs (grown_keeps s set t xs r h)) (taken_is t rs r))
    where
      go : (c : Result ⊤ Refusal) → add_check t xs ≡ c
          → (add_check t xs ≡ Ok tt → taken (grown t xs) rs ≡ admitted s (grown t xs).total rs) → taken t rs ≡ admitted s t.total rs
          → by_check c (xs ∷ taken (by_check c (grown t xs) (λ r. t)) rs) (λ q. taken (by_check c (grown t xs) (λ r. t)) rs)
          ≡ by_check c (xs ∷ admitted s (t.total + halves_of s xs) rs) (λ q. admitted s t.total rs)
      go (Ok _) h more same = ap (λ l. xs ∷ l) (more h ∙ rw (total-grown t xs r))
      go (Err q) h more same = same

-- ---- bad settings or an unknown set: the table that a refused making hands back takes nothing, ever

pub unsound_takes_nothing : (t : Table) → is_unsound t ≡ true → (rs : List (List ℤ)) → (taken t rs ≡ []) × (offer t rs ≡ t)
unfolding added add_check sound_check
unsound_takes_nothing t u [] = (refl, refl)
unsound_takes_nothing t u (xs ∷ rs) = rw u (unsound_takes_nothing t u rs)

pub refused-takes-nothing : (s : Settings) (set : ℕ) → settings_good s && known_set set ≡ false → (rs : List (List ℤ))
    → (taken (freshened s set).table rs ≡ []) × (offer (freshened s set).table rs ≡ (freshened s set).table)
refused-takes-nothing s set b rs = unsound_takes_nothing (freshened s set).table (fresh-bad s set b) rs

-- ---- good settings and a known set

module _ (s : Settings) (g : settings_good s ≡ true) (set : ℕ) (k : known_set set ≡ true) (rs : List (List ℤ)) where
  -- what holds of the empty table holds of the one that `freshened` hands over
  of_fresh : (P : Table → Type 0) → P (empty s set) → P (freshened s set).table
  of_fresh P p = subst P (sym (fresh-good s set g k).1) p

  -- THE LAW: it keeps its settings, its set and its forty cells, and is never unsound
  stays_grown : Grown s set (offer (empty s set) rs)
  stays_grown = offer_keeps (Grown s set) (grown_keeps s set) (empty s set) rs (fresh-grown s set g k)

  pub stays_sound : is_unsound (offer (freshened s set).table rs) ≡ false
  stays_sound = of_fresh (λ t. is_unsound (offer t rs) ≡ false) stays_grown.sound

  -- so which are taken is told by the recordings alone
  pub taken-admitted : taken (freshened s set).table rs ≡ admitted s 0 rs
  taken-admitted = of_fresh (λ t. taken t rs ≡ admitted s 0 rs) (taken_is s set (empty s set) rs (fresh-grown s set g k))

-- ---- what the table holds, told from the recordings it took

module _ (s : Settings) (g : settings_good s ≡ true) (set : ℕ) (k : known_set set ≡ true) (rs : List (List ℤ)) where
  counted : (f : Table → ℕ) (add : List ℤ → ℕ) → ((t : Table) (xs : List ℤ) → Grown s set t → f (grown t xs) ≡ f t + add xs)
      → f (empty s set) ≡ 0 → f (offer (empty s set) rs) ≡ sum_over add (taken (empty s set) rs)
  counted f add step none =
      offer_adds (Grown s set) (grown_keeps s set) f add step (empty s set) rs (fresh-grown s set g k) ∙ omega arith

  from_empty : SumsUp s set (offer (empty s set) rs) (taken (empty s set) rs)
  unfolding grown
  from_empty =
      record {
        settings = (stays_grown s g set k rs).settings;
        same_set = (stays_grown s g set k rs).same_set;
        total = counted (λ t. t.total) (halves_of s) (λ t xs r. rw r.settings) refl;
        healthy = counted (λ t. t.healthy) (λ xs. count (is_healthy s (half_at s xs)) (halves_of s xs)) (λ t xs r. rw r.settings) refl;
        disturbed = counted (λ t. t.disturbed) (λ xs. count (is_disturbed s (half_at s xs)) (halves_of s xs)) (λ t xs r. rw r.settings) refl;
        unknown = counted (λ t. t.unknown) (λ xs. count (is_unknown s (half_at s xs)) (halves_of s xs)) (λ t xs r. rw r.settings) refl;
        forty = (stays_grown s g set k rs).forty;
        placed =
            λ i l.
            let u : i < cells = omega (arith, l, set-cells s set k) in
            counted (λ t. get_or t.cells i 0) (λ xs. placed_in s (borders_of s set) xs i) (λ t xs r. cell_adds i u t xs r) (get_or-replicate cells i 0 0 u);
        unused = unused-after (offer (empty s set) rs) (stays_grown s g set k rs);
        unplaced = counted (λ t. t.unplaced) (λ xs. count (is_unplaced s (half_at s xs) (halves_of s xs)) (halves_of s xs)) (λ t xs r. rw r.settings) refl;
        sags = counted (λ t. t.sags) (λ xs. count (starts s (half_at s xs) Sag) (halves_of s xs)) (λ t xs r. rw r.settings) refl;
        interruptions = counted (λ t. t.interruptions) (λ xs. count (starts s (half_at s xs) Interruption) (halves_of s xs)) (λ t xs r. rw r.settings) refl;
        swells = counted (λ t. t.swells) (λ xs. count (starts s (half_at s xs) Swell) (halves_of s xs)) (λ t xs r. rw r.settings) refl;
        shortfall = counted (λ t. t.shortfall) (sag_shorts s) (λ t xs r. rw r.settings (ap (λ x. t.shortfall + x) (shortfalls_agree s xs))) refl;
        parts = λ c l. counted (λ t. of_channel c t.parts) (λ xs. sag_short s xs c) (λ t xs r. part_adds c l t xs r) (of_channels (λ c. 0) c l);
      }
    where
      cell_adds : (i : ℕ) → i < cells → (t : Table) (xs : List ℤ) → Grown s set t
          → get_or (grown t xs).cells i 0 ≡ get_or t.cells i 0 + placed_in s (borders_of s set) xs i
      cell_adds i l t xs r = cell-grown t xs r.forty i l ∙ rw (r.settings, r.same_set)

      unused-after : (t : Table) → Grown s set t → (i : ℕ) → cells_in (borders_of s set) ≤ i → i < cells → get_or t.cells i 0 ≡ 0
      unused-after t r i l u =
          let fewer : cells_in (borders_of t.settings t.set) ≤ i = rw (r.settings, r.same_set) l in
          (sound-parts t r.sound).unused i fewer u

      part_adds : (c : ℕ) → c < 3 → (t : Table) (xs : List ℤ) → Grown s set t → of_channel c (grown t xs).parts ≡ of_channel c t.parts + sag_short s xs c
      part_adds c l t xs r =
          of_channels (λ c. of_channel c t.parts + sag_sum (λ e. of_channel c e.parts) t.settings xs) c l
          ∙ rw r.settings (ap (λ x. of_channel c t.parts + x) (parts_agree s xs c l))

  -- THE LAW: a fresh table offered any recordings in any sequence holds what those that it took add up to
  pub fresh_sums_up : SumsUp s set (offer (freshened s set).table rs) (taken (freshened s set).table rs)
  fresh_sums_up = of_fresh s g set k rs (λ t. SumsUp s set (offer t rs) (taken t rs)) from_empty

  -- the three classes make up all, and the cells with the unplaced all sags
  pub classes-make_up : let t = offer (freshened s set).table rs in t.healthy + t.disturbed + t.unknown ≡ t.total
  classes-make_up = (sound-parts (offer (freshened s set).table rs) (stays_sound s g set k rs)).classes

  pub places-make_up : let t = offer (freshened s set).table rs in total t.cells + t.unplaced ≡ t.sags
  places-make_up = (sound-parts (offer (freshened s set).table rs) (stays_sound s g set k rs)).places

  -- and the shortfalls of the channels the whole
  pub channels-make_up : let t = offer (freshened s set).table rs in t.parts.a + t.parts.b + t.parts.c ≡ t.shortfall
  channels-make_up = (sound-parts (offer (freshened s set).table rs) (stays_sound s g set k rs)).parts

-- two tables that hold this are one
pub only_one_sums_up : (s : Settings) (set : ℕ) (t u : Table) (ok : List (List ℤ)) → SumsUp s set t ok → SumsUp s set u ok → t ≡ u
only_one_sums_up s set t u ok x y =
    let cell : (i : ℕ) → i < cells → get_or t.cells i 0 ≡ get_or u.cells i 0 =
    λ i l.
    ⊎_elim (λ v. x.placed i v ∙ sym (y.placed i v)) (λ v. x.unused i v l ∙ sym (y.unused i v l)) (lower i (cells_in (borders_of s set))) in
    let cs : t.cells ≡ u.cells =
    ext_get_or 0 t.cells u.cells (x.forty ∙ sym y.forty) (λ i l. cell i (omega (arith, l, x.forty))) in
    let part : (c : ℕ) → c < 3 → of_channel c t.parts ≡ of_channel c u.parts = λ c l. x.parts c l ∙ sym (y.parts c l) in
    λ i.
    record {
      settings = (x.settings ∙ sym y.settings) i;
      set = (x.same_set ∙ sym y.same_set) i;
      total = (x.total ∙ sym y.total) i;
      healthy = (x.healthy ∙ sym y.healthy) i;
      disturbed = (x.disturbed ∙ sym y.disturbed) i;
      unknown = (x.unknown ∙ sym y.unknown) i;
      cells = cs i;
      unplaced = (x.unplaced ∙ sym y.unplaced) i;
      sags = (x.sags ∙ sym y.sags) i;
      interruptions = (x.interruptions ∙ sym y.interruptions) i;
      swells = (x.swells ∙ sym y.swells) i;
      shortfall = (x.shortfall ∙ sym y.shortfall) i;
      parts = record { a = part 0 (omega arith) i; b = part 1 (omega arith) i; c = part 2 (omega arith) i };
    }
