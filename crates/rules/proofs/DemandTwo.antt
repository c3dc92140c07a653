-- The list holds exactly the events that the rules define, each passes the test of an event, and so a sag of the list with both ends seen
-- has its score, and nothing else has one. That it is in order and holds no event twice is `in_order` and `no_event_twice` of Order.
-- Assumes nothing.
use Rattle.std.specs.Prelude.{Option, Ok, Err, Some, None}
use Prim.Native.Nat.{ℕ, zero, suc, ◌+◌, ◌-◌, ◌*◌, ◌≤◌, ◌<◌, min}
use mathlib.Core.Path.{◌≡◌, refl, sym, ap, ◌∙◌}
use mathlib.Core.Bool.{Bool, true, false, not, ◌&&◌, ◌||◌, cond}
use mathlib.Core.List.{List, Memᴰ}
use mathlib.Core.Logic.{◌↔◌, ⊎_elim}
use native.Mathlib.Nat.{mul-suc}
use native.Mathlib.Omega.{arith}
use borrow.Author.Tests.{lt-ltb, le-ltb, ltb-true, le-leb, eq-eqb, ne_eqb, eqb-false, not-true}
use lib.Dec.{ltb, eqb}
use lib.IntN.{ℤ}
use Rattle.rules.specs.Bounded.{bit, before}
use Rattle.rules.specs.Recorder.{within, settings_good}
use Rattle.rules.specs.Halves.{Half, half_at, halves_of, known, full, below, some_channel}
use Rattle.rules.specs.Events.{begins, ends, in_event, is_run, starts, end_of, start_seen, end_seen, seen_of, least, level_by, level, worse, worst, extreme_of, earliest, retained_of, short_of, shorts, sum_from, shorts_of, three, six_sums, type_of}
use Rattle.rules.specs.EventList.{kind_number, event_from, events_of}
use Rattle.rules.specs.Scores.{in_bounds, is_sag, sag_good, other_good, is_event, number_of_reason, reason_number, unseen_of, why_of, why_by, reason_of, reason_by, score_of, given_unless, scoring, scoring_by}
use Rattle.rules.specs.Borders.{known_set}
use Rattle.rules.specs.Site.{cell_of}
use Rattle.rules.specs.Refusals.{recording_check}
use Rattle.rules.specs.Demands.{Good, AcceptedRecording, Scorable}
use Rattle.rules.specs.declared.Settings.{Settings}
use Rattle.rules.specs.declared.Sums.{Sums}
use Rattle.rules.specs.declared.Kind.{Kind}
use Rattle.rules.specs.declared.Kind.TheVariants.{Sag, Interruption, Swell}
use Rattle.rules.specs.declared.Event.{Event}
use Rattle.rules.specs.declared.Score.{Score}
use Rattle.rules.specs.declared.Reason.{Reason}
use Rattle.rules.specs.declared.Reason.TheVariants.{StartUnseen, EndUnseen, BothUnseen, NotASag, BadSettings}
use Rattle.rules.proofs.Booleans.{both, not_both, bit_le}
use Rattle.rules.proofs.Choices.{of_cond, lower}
use Rattle.rules.proofs.Longest.{starts-run, run-starts, starts_before_end, start_high, end_high, half_past}
use Rattle.rules.proofs.Order.{in_list, end_is}
use Rattle.rules.proofs.Ranges.{good}
use Rattle.rules.proofs.Runs.{in_next}
use Rattle.rules.proofs.Samples.{accepted_recording, sums-low, length_six, type_high}
use Rattle.rules.proofs.Scorable.{scorable}
use Rattle.rules.proofs.Shortfall.{three-channels, event_made_up}

-- ---- the list holds the longest unbroken runs of each kind

module _ (s : Settings) (xs : List ℤ) where
  -- THE LAW: an event is in the list exactly if it is that of a longest unbroken run, from a up to b, of its kind
  pub events_exact : (e : Event)
      → Memᴰ e (events_of s xs)
      ↔ ((kind : Kind) × (a : ℕ) × (b : ℕ) × (is_run (in_event s (half_at s xs) kind) a b ≡ true) × (e ≡ event_from s xs kind a) × (e.end ≡ b))
  events_exact e = (
    λ m.
        let r = (in_list s xs e).0 m in
        (r.0, r.1, end_of s (half_at s xs) (halves_of s xs) r.0 r.1, starts-run s (half_at s xs) (halves_of s xs) (half_past s xs) r.0 r.1 r.3, r.4, ap (λ v. v.end) r.4 ∙ end_is s xs r.0 r.1),
    λ r.
        let t = (run-starts s (half_at s xs) (halves_of s xs) (half_past s xs) r.0 r.1 r.2 r.3).0 in
        (in_list s xs e).1 (r.0, r.1, start_high s (half_at s xs) (halves_of s xs) (half_past s xs) r.0 r.1 t, t, r.4),
  )

-- ---- an extreme is in range

worse-high : (kind : Kind) (x y b : ℕ) → x ≤ b → y ≤ b → worse kind x y ≤ b
worse-high Sag x y b h k = omega arith
worse-high Interruption x y b h k = omega arith
worse-high Swell x y b h k = omega arith

worst-high : (kind : Kind) (f : ℕ → ℕ) (b : ℕ) → ((k : ℕ) → f k ≤ b) → (start end : ℕ) → worst (worse kind) f start end ≤ b
worst-high kind f b h start zero = h start
worst-high kind f b h start (suc end) =
    of_cond (λ x. x ≤ b) (ltb start end) (worse kind (worst (worse kind) f start end) (f end)) (f start)
    (λ e. worse-high kind (worst (worse kind) f start end) (f end) b (worst-high kind f b h start end) (h end)) (λ e. h start)

level_by-high : (kind : Kind) (v : Sums) (b : ℕ) → (v.a ≤ b) × (v.b ≤ b) × (v.c ≤ b) → level_by kind v ≤ b
level_by-high Sag v b h = omega arith
level_by-high Interruption v b h = omega arith
level_by-high Swell v b h = omega arith

level-high : (kind : Kind) (x : Half) (b : ℕ) → ((v : Sums) → x ≡ Some v → (v.a ≤ b) × (v.b ≤ b) × (v.c ≤ b)) → level kind x ≤ b
level-high kind None b h = omega arith
level-high kind (Some v) b h = level_by-high kind v b (h v refl)

pub extreme-high : (s : Settings) (xs : List ℤ) → Good s → AcceptedRecording s xs → (kind : Kind) (a e : ℕ)
    → extreme_of (half_at s xs) kind a e ≤ s.n * 10000000000
unfolding extreme_of
extreme-high s xs g ok kind a e =
    worst-high kind (λ k. level kind (half_at s xs k)) (s.n * 10000000000)
    (λ k. level-high kind (half_at s xs k) (s.n * 10000000000) (sums-low s xs g ok k)) a e

-- ---- a sag's extreme is below the threshold

-- the smallest is at most the first
worst_first : (f : ℕ → ℕ) (start end : ℕ) → worst (worse Sag) f start end ≤ f start
worst_first f start zero = omega arith
worst_first f start (suc end) =
    let r = worst_first f start end in
    of_cond (λ x. x ≤ f start) (ltb start end) (min (worst (worse Sag) f start end) (f end)) (f start) (λ e. omega arith) (λ e. omega arith)

-- what is at most one below is below
below_less : (s : Settings) (p x y : ℕ) → x ≤ y → below s p y ≡ true → below s p x ≡ true
below_less s p x y l h = let u = ltb-true (10000 * y) (p * p * full s) h in lt-ltb (10000 * x) (p * p * full s) (omega arith)

least-below : (s : Settings) (p : ℕ) (v : Sums) → some_channel (below s p) v ≡ true → below s p (least v) ≡ true
least-below s p v h =
    go (below s p v.a) (below s p v.b) (below s p v.c) h
    (below_less s p (least v) v.a (omega arith)) (below_less s p (least v) v.b (omega arith)) (below_less s p (least v) v.c (omega arith))
  where
    go : (a b c : Bool) → a || b || c ≡ true → (a ≡ true → below s p (least v) ≡ true) → (b ≡ true → below s p (least v) ≡ true) → (c ≡ true → below s p (least v) ≡ true) → below s p (least v) ≡ true
    go true b c h x y z = x refl
    go false true c h x y z = y refl
    go false false c h x y z = z h

-- an event starts where a half-cycle begins it
pub start_begins : (s : Settings) (h : ℕ → Half) (kind : Kind) (a : ℕ) → starts s h kind a ≡ true → begins s kind (h a) ≡ true
unfolding starts
start_begins s h kind a e =
    let p = both (in_event s h kind a) (not (before (in_event s h kind) a)) e in
    go (known (h a)) (begins s kind (h a)) (before (in_event s h kind) a) (ends s kind (h a)) (sym (in_next s h kind a) ∙ p.0) (not-true (before (in_event s h kind) a) p.1)
  where
    go : (k b i d : Bool) → k && (b || (i && not d)) ≡ true → i ≡ false → b ≡ true
    go true true i d h f = refl
    go true false true d h f = absurd (not_both true refl f)
    go true false false d h f = h
    go false b i d h f = absurd (not_both false h refl)

level-below : (s : Settings) (x : Half) → begins s Sag x ≡ true → below s s.sag (level Sag x) ≡ true
level-below s None h = absurd (not_both false h refl)
level-below s (Some v) h = least-below s s.sag v h

pub sag-extreme-below : (s : Settings) (h : ℕ → Half) (a e : ℕ) → starts s h Sag a ≡ true → below s s.sag (extreme_of h Sag a e) ≡ true
unfolding extreme_of
sag-extreme-below s h a e q =
    below_less s s.sag (worst (worse Sag) (λ k. level Sag (h k)) a e) (level Sag (h a)) (worst_first (λ k. level Sag (h k)) a e)
    (level-below s (h a) (start_begins s h Sag a q))

-- ---- a sag's shortfall is in range

-- of one channel, whichever test says that it is short
pub short-high : (short : Bool) (full x : ℕ) → cond short (full - x) 0 ≤ full
short-high true full x = omega arith
short-high false full x = omega arith

pub shorts-high : (s : Settings) (x : Half) → three (shorts s x) ≤ 3 * full s
shorts-high s None = omega arith
shorts-high s (Some v) = omega (arith, high v.a, high v.b, high v.c)
  where
    high : (x : ℕ) → short_of s x ≤ full s
    high x = short-high (below s s.sag x) (full s) x

from-high : (f : ℕ → ℕ) (b : ℕ) → ((k : ℕ) → f k ≤ b) → (start end : ℕ) → sum_from f start end ≤ b * (end - start)
from-high f b h start zero = omega arith
from-high f b h start (suc end) =
    let r = from-high f b h start end in
    ⊎_elim
    (λ l. rw (lt-ltb end start l) (omega (arith, none l)))
    (λ l. rw (le-ltb end start l) (omega (arith, one l, h end)))
    (lower end start)
  where
    none : end < start → b * (suc end - start) ≡ b * (end - start)
    none l = ap (λ (x : ℕ). b * x) (omega arith)

    one : start ≤ end → b * (suc end - start) ≡ b * (end - start) + b
    one l = let q : suc end - start ≡ suc (end - start) = omega arith in ap (λ (x : ℕ). b * x) q ∙ mul-suc b (end - start)

pub shortfall-high : (s : Settings) (h : ℕ → Half) (a e : ℕ) → three (shorts_of s h a e) ≤ 3 * full s * (e - a)
shortfall-high s h a e =
    rw (three-channels s h a e) (from-high (λ k. three (shorts s (h k))) (3 * full s) (λ k. shorts-high s (h k)) a e)

-- ---- every event of the list passes the test of an event

kind_within : (kind : Kind) → within 1 3 (kind_number kind) ≡ true
kind_within Sag = refl
kind_within Interruption = refl
kind_within Swell = refl

pub seen-high : (h : ℕ → Half) (a b : ℕ) → seen_of h a b ≤ 3
unfolding seen_of
seen-high h a b = omega (arith, bit_le (start_seen h a), bit_le (end_seen h b))

module _ (s : Settings) (xs : List ℤ) (g : Good s) (ok : AcceptedRecording s xs) where
  bounds_pass : (kind : Kind) (a : ℕ) → starts s (half_at s xs) kind a ≡ true → in_bounds s (event_from s xs kind a) ≡ true
  unfolding in_bounds event_from
  bounds_pass kind a e =
      let h = half_at s xs in
      let n = halves_of s xs in
      let b = end_of s h n kind a in
      rw (
        kind_within kind,
        lt-ltb a (end_of s (half_at s xs) (halves_of s xs) kind a) (starts_before_end s h n (half_past s xs) kind a e),
        le-leb (end_of s (half_at s xs) (halves_of s xs) kind a) 100000 (omega (arith, end_high s h n (half_past s xs) kind a e, ok.few)),
        le-leb (seen_of (half_at s xs) a (end_of s (half_at s xs) (halves_of s xs) kind a)) 3 (seen-high h a b),
        le-leb (extreme_of (half_at s xs) kind a (end_of s (half_at s xs) (halves_of s xs) kind a)) (s.n * 10000000000) (extreme-high s xs g ok kind a b),
      )

  by_kind : (kind : Kind) (a : ℕ) → starts s (half_at s xs) kind a ≡ true
      → cond (is_sag (event_from s xs kind a)) (sag_good s (event_from s xs kind a)) (other_good (event_from s xs kind a)) ≡ true
  unfolding sag_good event_from
  by_kind Sag a e =
      let h = half_at s xs in
      let b = end_of s h (halves_of s xs) Sag a in
      rw (
        sag-extreme-below s h a b e,
        le-leb (three (shorts_of s h a b)) (3 * full s * (b - a)) (shortfall-high s h a b),
        le-leb (type_of (six_sums s xs (earliest h Sag a b))) 6 (type_high (six_sums s xs (earliest h Sag a b)) (length_six s xs (earliest h Sag a b))),
      )
  by_kind Interruption a e = refl
  by_kind Swell a e = refl

  retained_so : (kind : Kind) (a : ℕ) → (event_from s xs kind a).retained ≡ retained_of s (event_from s xs kind a).extreme
  unfolding event_from
  retained_so kind a = refl

  pub event_passes : (kind : Kind) (a : ℕ) → starts s (half_at s xs) kind a ≡ true → is_event s (event_from s xs kind a) ≡ true
  unfolding is_event
  event_passes kind a e =
      rw (
        bounds_pass kind a e,
        eq-eqb (event_from s xs kind a).retained (retained_of s (event_from s xs kind a).extreme) (retained_so kind a),
        eq-eqb (three (event_from s xs kind a).parts) (event_from s xs kind a).shortfall (event_made_up s xs kind a),
        by_kind kind a e,
      )

-- ---- what has a score

module _ (s : Settings) (e : Event) where
  pub no_why : Scorable s e → why_of s e ≡ None
  unfolding why_of
  no_why r = rw (r.settings, r.event, r.sag, r.seen)

  pub reason_of_lem : Scorable s e → reason_of s e ≡ 0
  unfolding reason_of
  reason_of_lem r = ap reason_number (no_why r)

  -- a score is given only to such, and is that of `score_of`
  pub scored-only : (x : Score) → scoring s e ≡ Ok x → Scorable s e × (x ≡ score_of s e)
  unfolding scoring reason_of
  scored-only x h =
      let r = go (why_of s e) h in (scorable s e r.0, r.1)
    where
      go : (w : Option Reason) → given_unless w (score_of s e) ≡ Ok x → (reason_number w ≡ 0) × (x ≡ score_of s e)
      go None h = (refl, cc)
      go (Some r) h = let z : ◌≡◌ {A = ℕ} 0 1 = cc in absurd (omega arith)

  -- and to all such
  pub scorable_scored : Scorable s e → scoring s e ≡ Ok (score_of s e)
  unfolding scoring
  scorable_scored r = rw (no_why r)

  -- THE LAW: an event with an unseen start or end never has a score, whatever its other words
  pub unseen_no_score : (e.seen ≡ 3 → ⊥) → (r : Reason) × (reason_of s e ≡ number_of_reason r) × (scoring s e ≡ Err r)
  unfolding scoring reason_of
  unseen_no_score h = go (why_of s e) (λ q. h (scorable s e q).seen)
    where
      go : (w : Option Reason) → (reason_number w ≡ 0 → ⊥)
          → (r : Reason) × (reason_number w ≡ number_of_reason r) × (given_unless w (score_of s e) ≡ Err r)
      go None some = absurd (some refl)
      go (Some r) some = (r, refl, refl)

-- seen is 3 exactly if the start and the end are seen
pub seen_both_lem : (h : ℕ → Half) (a b : ℕ) → eqb (seen_of h a b) 3 ≡ start_seen h a && end_seen h b
unfolding seen_of
seen_both_lem h a b = go (start_seen h a) (end_seen h b)
  where
    go : (x y : Bool) → eqb (bit x + 2 * bit y) 3 ≡ x && y
    go true true = refl
    go true false = refl
    go false true = refl
    go false false = refl

-- so in the words of the half-cycles on both sides
pub unseen_start_or_end : (s : Settings) (xs : List ℤ) (kind : Kind) (a : ℕ)
    → start_seen (half_at s xs) a && end_seen (half_at s xs) (end_of s (half_at s xs) (halves_of s xs) kind a) ≡ false
    → (r : Reason) × (reason_of s (event_from s xs kind a) ≡ number_of_reason r) × (scoring s (event_from s xs kind a) ≡ Err r)
unfolding event_from
unseen_start_or_end s xs kind a h =
    let b = end_of s (half_at s xs) (halves_of s xs) kind a in
    unseen_no_score s (event_from s xs kind a) (eqb-false (seen_of (half_at s xs) a b) 3 (seen_both_lem (half_at s xs) a b ∙ h))

-- ---- events of the list

module _ (s : Settings) (xs : List ℤ) (g : settings_good s ≡ true) (ok : recording_check s xs ≡ Ok tt) (e : Event) (m : Memᴰ e (events_of s xs)) where
  pub every_event_passes : is_event s e ≡ true
  every_event_passes = let r = (in_list s xs e).0 m in rw r.4 (event_passes s xs (good s g) (accepted_recording s xs ok) r.0 r.1 r.3)

  -- THE LAW: a sag of the list with both ends seen has exactly its score
  pub seen-sag-scored : is_sag e ≡ true → e.seen ≡ 3 → scoring s e ≡ Ok (score_of s e)
  seen-sag-scored sag seen = scorable_scored s e record { settings = g; event = every_event_passes; sag = sag; seen = seen }

  -- a sag with an unseen start or end has the reason of what is unseen
  pub unseen_sag_reason : is_sag e ≡ true → (e.seen ≡ 3 → ⊥) → (r : Reason) × (unseen_of e.seen ≡ Some r) × (scoring s e ≡ Err r)
  unfolding scoring why_of
  unseen_sag_reason sag h =
      let r = cond (eqb e.seen 2) StartUnseen (cond (eqb e.seen 1) EndUnseen BothUnseen) in
      let unseen = ne_eqb e.seen 3 h in
      (r, rw unseen, rw (g, every_event_passes, sag, unseen))

  -- another kind has the reason "not a sag"
  pub other_no_score : is_sag e ≡ false → scoring s e ≡ Err NotASag
  unfolding scoring why_of
  other_no_score other = rw (g, every_event_passes, other)

-- ---- as a host is told that hands over a set of borders

module _ (s : Settings) (set : ℕ) (e : Event) where
  -- THE LAW: under a known set all is as without one; an unknown one is reason 6, no score, and cell 40
  pub under-known_set : known_set set ≡ true → (reason_by s set e ≡ reason_of s e) × (scoring_by s set e ≡ scoring s e)
  unfolding reason_by reason_of why_by scoring_by scoring
  under-known_set k = (rw k, rw k)

  pub under-unknown-set : known_set set ≡ false → (reason_by s set e ≡ 6) × (scoring_by s set e ≡ Err BadSettings) × (cell_of s set e ≡ 40)
  unfolding reason_by why_by scoring_by cell_of
  under-unknown-set k = (rw k, rw k, rw k)

  -- what has no reason against it has a known set
  pub no_reason : reason_by s set e ≡ 0 → (known_set set ≡ true) × (reason_of s e ≡ 0)
  unfolding reason_by reason_of why_by
  no_reason h = go (known_set set) refl h
    where
      go : (k : Bool) → known_set set ≡ k → reason_number (cond k (why_of s e) (Some BadSettings)) ≡ 0
          → (known_set set ≡ true) × (reason_number (why_of s e) ≡ 0)
      go true k q = (k, q)
      go false k q = absurd (omega arith)

  -- the reason decides
  pub by_reason : scoring_by s set e ≡ given_unless (why_by s set e) (score_of s e)
  unfolding scoring_by
  by_reason = refl
