-- A turn of the survey, and its end: what each call asks, and what they make together. Assumes nothing.
use Rattle.std.specs.Prelude.{Ok, Option, Some, None, is_some, IfSome}
use Prim.Native.Nat.{ℕ, suc, ◌≤◌}
use mathlib.Core.Path.{◌≡◌, refl, sym, ap, ◌∙◌}
use mathlib.Core.Bool.{true, false}
use mathlib.Core.List.{List}
use native.Mathlib.Nat.{zero-add}
use native.Mathlib.Omega.{arith}
use lib.IntN.{ℤ}
use lib.ListN.{replicate}
use Rattle.rules.specs.Recorder.{settings_good}
use Rattle.rules.specs.Halves.{Half, known, half_at, halves_of}
use Rattle.rules.specs.Events.{starts, three}
use Rattle.rules.specs.Borders.{Borders, known_set, borders_of}
use Rattle.rules.specs.Site.{cells, in_any, is_healthy, is_disturbed, is_unknown, empty, grown}
use Rattle.rules.specs.Refusals.{recording_check}
use Rattle.rules.specs.Demands.{Good, AcceptedRecording}
use Rattle.rules.proofs.Bounded.{count_le}
use Rattle.rules.proofs.Longest.{in_past, half_past}
use Rattle.rules.proofs.Ranges.{good}
use Rattle.rules.proofs.Samples.{accepted_recording}
use Rattle.rules.specs.declared.Settings.{Settings}
use Rattle.rules.specs.declared.Kind.TheVariants.{Sag, Interruption, Swell}
use Rattle.rules.specs.declared.Table.{Table}
use Rattle.kinds.specs.declared.Thresholds.{Thresholds}
use Rattle.kinds.specs.declared.Level.{Level}
use Rattle.kinds.specs.declared.Open.{Open}
use Rattle.ledger.specs.declared.Track.{Track}
use Rattle.ledger.specs.declared.Classes.{Classes}
use Rattle.ledger.specs.declared.Starts.{Starts}
use Rattle.ledger.specs.declared.Landed.{Landed}
use Rattle.ledger.specs.declared.Survey.{Survey}
use Rattle.kinds.specs.Machine.{thresholds_of, level_from, level_of, opens, Light}
use Rattle.ledger.specs.Entries.{tracked_by, going_on, classed_by, started_by, ended_by, landed_by, cells_by, Landable, surveyed_by, cells_turned, Turnable, start_survey}
use Rattle.ledger.specs.State.{track_at, classes_at, starts_at, landed, landed_at, cells_at, survey_at}
use Rattle.kinds.proofs.Machine.{level_is, level-known, inside_is, opens-closed}
use Rattle.kinds.proofs.Limits.{marked, few-half, opens-light, level-light, finishable}
use Rattle.ledger.proofs.Surveys.{ended_one, track_next, classes-next, starts-next, ended_at, lands, ended_lands, landing, landed_at-next}
use Rattle.ledger.proofs.Gains.{cells-next, unplaced-few, cells-few, parts-light, last-light, unplaced-all, parts_all, shortfall-all, cells-all}

module _ (s : Settings) (xs : List ℤ) (good-settings : settings_good s ≡ true) (accepted : recording_check s xs ≡ Ok tt) where
  abbrev h : ℕ → Half
  h = half_at s xs

  abbrev n : ℕ
  n = halves_of s xs

  g : Good s
  g = good s good-settings

  ok : AcceptedRecording s xs
  ok = accepted_recording s xs accepted

  -- ---- what the calls ask

  pub follow-ready : (k : ℕ) → k ≤ n → IfSome (track_at s h k).sag (λ o. Light o.short) × IfSome (level_of s (h k)) (λ l. Light l.short)
  unfolding track_at
  follow-ready k l =
      (opens-light s xs g ok Sag k (omega (arith, ok.few)), level-light s xs g ok k)

  pub classes-few : (k : ℕ) → k ≤ n → ((classes_at s h k).healthy ≤ 4000000) × ((classes_at s h k).disturbed ≤ 4000000) × ((classes_at s h k).unknown ≤ 4000000)
  unfolding classes_at
  classes-few k l =
      (omega (arith, ok.few, count_le (is_healthy s h) k), omega (arith, ok.few, count_le (is_disturbed s h) k), omega (arith, ok.few, count_le (is_unknown s h) k))

  pub starts-few : (k : ℕ) → k ≤ n → ((starts_at s h k).sags ≤ 4000000) × ((starts_at s h k).interruptions ≤ 4000000) × ((starts_at s h k).swells ≤ 4000000)
  unfolding starts_at
  starts-few k l =
      (omega (arith, ok.few, count_le (starts s h Sag) k), omega (arith, ok.few, count_le (starts s h Interruption) k), omega (arith, ok.few, count_le (starts s h Swell) k))

  -- the sag that the code ends is the machine's, and there is one exactly where the rules say that a sag lands
  pub ends_is : (k : ℕ) → (ended_by (track_at s h k).sag (track_at s h (suc k)).sag ≡ ended_at s h Sag k)
      × (is_some (ended_by (track_at s h k).sag (track_at s h (suc k)).sag) ≡ lands s h Sag k)
  unfolding track_at
  ends_is k = (refl, ended_lands s h Sag k)

  pub landable : (set : ℕ) → known_set set ≡ true → (k : ℕ) → k ≤ n
      → IfSome (ended_at s h Sag k) (λ o. Landable s set (landed_at s h n k) o k (cells_at s (borders_of s set) h n k))
  landable set set_known k l = by (ended_at s h Sag k) refl
    where
      by : (e : Option Open) → ended_at s h Sag k ≡ e → IfSome e (λ o. Landable s set (landed_at s h n k) o k (cells_at s (borders_of s set) h n k))
      by None f = tt
      by (Some o) f =
          let on = landing s h n (half_past s xs) Sag k l o f in
          let fit = finishable s xs g ok Sag k o (omega (arith, ok.few)) (ended_one (opens s h Sag k) (opens s h Sag (suc k)) o f).0 in
          record {
            placeable =
                record {
                  good-settings = good-settings;
                  set_known = set_known;
                  extreme = fit.extreme;
                  began = omega (arith, on.started);
                  high = omega (arith, ok.few);
                  few = λ i. omega (arith, ok.few, cells-few s h n (half_past s xs) (borders_of s set) k i);
                };
            light = fit.light;
            unplaced-few = omega (arith, ok.few, unplaced-few s h n (half_past s xs) k);
            parts-light = parts-light s xs g ok k l;
          }

  -- the state after half-cycle k
  pub survey_next : (k : ℕ) (t : Track) (c : Classes) (b : Starts) (d : Landed) → t ≡ track_at s h (suc k) → c ≡ classes_at s h (suc k) → b ≡ starts_at s h (suc k)
      → d ≡ landed_at s h n (suc k) → ◌≡◌ {A = Survey} (record { track = t; classes = c; starts = b; landed = d }) (survey_at s h n (suc k))
  unfolding survey_at
  survey_next k t c b d e f i j = rw (e, f, i, j)

  -- the parts of the state
  pub record Parts (k : ℕ) (p : Survey) : Type 0 where
    pub track : p.track ≡ track_at s h k
    pub classes : p.classes ≡ classes_at s h k
    pub starts_are : p.starts ≡ starts_at s h k
    pub landed : p.landed ≡ landed_at s h n k

  pub parts : (k : ℕ) (p : Survey) → p ≡ survey_at s h n k → Parts k p
  unfolding survey_at
  parts k p e = record { track = rw e; classes = rw e; starts_are = rw e; landed = rw e }

  -- the landings after half-cycle k
  pub landed-after : (k : ℕ) → k ≤ n → landed_by (landed_at s h n k) (ended_at s h Sag k) (known (h k)) ≡ landed_at s h n (suc k)
  landed-after k l = landed_at-next s h n (half_past s xs) k l

  -- the cells after half-cycle k
  pub cells-after : (set : ℕ) → known_set set ≡ true → (k : ℕ) → k ≤ n
      → cells_by s set (ended_at s h Sag k) k (known (h k)) (cells_at s (borders_of s set) h n k) ≡ cells_at s (borders_of s set) h n (suc k)
  cells-after set set_known k l = cells-next s h n (half_past s xs) set set_known k l

  -- ---- the end

  -- half-cycle H does not exist, and ends a sag that is still going on
  pub last-ends : ((track_at s h n).sag ≡ ended_at s h Sag n) × (is_some (track_at s h n).sag ≡ lands s h Sag n)
  unfolding track_at
  last-ends =
      let ends : (track_at s h n).sag ≡ ended_at s h Sag n = rw (opens-closed s h Sag n (in_past s h n (half_past s xs) Sag n (omega arith))) in
      (ends, ap is_some ends ∙ ended_lands s h Sag n)

  pub at_start : start_survey ≡ survey_at s h n 0
  unfolding survey_at track_at classes_at starts_at landed_at opens landed
  at_start = refl

  pub cells_start : (b : Borders) → replicate cells 0 ≡ cells_at s b h n 0
  unfolding cells_at landed
  cells_start b = refl

  pub table_is : (set : ℕ) (c : Classes) (b : Starts) (d : Landed) (cs : List ℕ) (m : ℕ) → m ≡ n → c ≡ classes_at s h n → b ≡ starts_at s h n → d ≡ landed_at s h n (suc n)
      → cs ≡ cells_at s (borders_of s set) h n (suc n)
      → ◌≡◌ {A = Table} (record {
        settings = s;
        set = set;
        total = m;
        healthy = c.healthy;
        disturbed = c.disturbed;
        unknown = c.unknown;
        cells = cs;
        unplaced = d.unplaced;
        sags = b.sags;
        interruptions = b.interruptions;
        swells = b.swells;
        shortfall = three d.parts;
        parts = d.parts;
      }) (grown (empty s set) xs)
  unfolding grown classes_at starts_at
  table_is set c b d cs m e f i j q =
      rw (e, f, i, j, q, unplaced-all s xs, parts_all s xs, shortfall-all s xs, cells-all s xs (borders_of s set)) (simp zero-add)

-- ---- a turn

module _ (s : Settings) (xs : List ℤ) (good-settings : settings_good s ≡ true) (accepted : recording_check s xs ≡ Ok tt) (set : ℕ) (set_known : known_set set ≡ true) (m : Thresholds) (v : Half)
    (p : Survey) (k : ℕ) (cs : List ℕ) (thresholds : m ≡ thresholds_of s) (half : v ≡ half_at s xs k) (inside : k ≤ halves_of s xs)
    (state : p ≡ survey_at s (half_at s xs) (halves_of s xs) k) (cells_are : cs ≡ cells_at s (borders_of s set) (half_at s xs) (halves_of s xs) k) where
  are : Parts s xs good-settings accepted k p
  are = parts s xs good-settings accepted k p state

  -- its level, and the track after it
  module _ (l : Option Level) (l_is : l ≡ level_of s (half_at s xs k)) (is : Track) (followed : is ≡ tracked_by m k p.track l) where
    known_here : is_some l ≡ known (half_at s xs k)
    known_here = rw l_is (level-known s (half_at s xs k))

    ask_follow : IfSome p.track.sag (λ o. Light o.short) × IfSome l (λ l. Light l.short)
    ask_follow = rw (l_is, are.track) (follow-ready s xs good-settings accepted k inside)

    next : is ≡ track_at s (half_at s xs) (suc k)
    next = followed ∙ rw (thresholds, are.track, l_is) (track_next s (half_at s xs) k)

    any_is : going_on is ≡ in_any s (half_at s xs) k
    unfolding track_at
    any_is = rw (next, inside_is s (half_at s xs) Sag (suc k))

    ends : ended_by p.track.sag is.sag ≡ ended_at s (half_at s xs) Sag k
    ends = rw (are.track, next) (ends_is s xs good-settings accepted k).0

    ask_land : IfSome (ended_by p.track.sag is.sag) (λ o. Landable s set p.landed o k cs)
    ask_land = rw (ends, are.landed, cells_are) (landable s xs good-settings accepted set set_known k inside)

    made : ◌≡◌ {A = Survey} (record {
      track = is;
      classes = classed_by p.classes (is_some l) (going_on is);
      starts = started_by p.starts p.track is;
      landed = landed_by p.landed (ended_by p.track.sag is.sag) (is_some l);
    }) (survey_at s (half_at s xs) (halves_of s xs) (suc k))
    made =
        survey_next s xs good-settings accepted k _ _ _ _ next
        (rw (known_here, any_is, are.classes) (classes-next s (half_at s xs) k))
        (rw (are.starts_are, are.track, next) (starts-next s (half_at s xs) k))
        (rw (ends, known_here, are.landed) (landed-after s xs good-settings accepted k inside))

    cells_made : cells_by s set (ended_by p.track.sag is.sag) k (is_some l) cs ≡ cells_at s (borders_of s set) (half_at s xs) (halves_of s xs) (suc k)
    cells_made = rw (ends, known_here, cells_are) (cells-after s xs good-settings accepted set set_known k inside)

  abbrev l : Option Level
  l = level_from m.full m.sag.from v

  l_is : l ≡ level_of s (half_at s xs k)
  l_is = level_is s m v (half_at s xs k) l thresholds half refl

  pub turnable : Turnable s set m v p k cs
  turnable =
      record {
        marked = rw thresholds (marked s (good s good-settings));
        few = rw half (few-half s xs (good s good-settings) (accepted_recording s xs accepted) k);
        follow = ask_follow l l_is _ refl;
        classes-few = rw are.classes (classes-few s xs good-settings accepted k inside);
        starts-few = rw are.starts_are (starts-few s xs good-settings accepted k inside);
        landable = ask_land l l_is _ refl;
      }

  pub turn_made : surveyed_by m v p k ≡ survey_at s (half_at s xs) (halves_of s xs) (suc k)
  unfolding surveyed_by
  turn_made = made l l_is _ refl

  pub turn_cells : cells_turned s set m v p k cs ≡ cells_at s (borders_of s set) (half_at s xs) (halves_of s xs) (suc k)
  unfolding cells_turned
  turn_cells = cells_made l l_is _ refl

-- ---- the last landing: half-cycle H, which does not exist

module _ (s : Settings) (xs : List ℤ) (good-settings : settings_good s ≡ true) (accepted : recording_check s xs ≡ Ok tt)
    (set : ℕ) (set_known : known_set set ≡ true) (halves k : ℕ) (p : Survey) (cs : List ℕ) (count-is : halves ≡ halves_of s xs) (done : k ≡ halves_of s xs)
    (state : p ≡ survey_at s (half_at s xs) (halves_of s xs) k) (cells_are : cs ≡ cells_at s (borders_of s set) (half_at s xs) (halves_of s xs) k) where
  last : p ≡ survey_at s (half_at s xs) (halves_of s xs) (halves_of s xs)
  last = state ∙ ap (survey_at s (half_at s xs) (halves_of s xs)) done

  last-cells : cs ≡ cells_at s (borders_of s set) (half_at s xs) (halves_of s xs) (halves_of s xs)
  last-cells = cells_are ∙ ap (cells_at s (borders_of s set) (half_at s xs) (halves_of s xs)) done

  are_last : Parts s xs good-settings accepted (halves_of s xs) p
  are_last = parts s xs good-settings accepted (halves_of s xs) p last

  ends_last : p.track.sag ≡ ended_at s (half_at s xs) Sag (halves_of s xs)
  ends_last = rw are_last.track (last-ends s xs good-settings accepted).0

  not_known : false ≡ known (half_at s xs (halves_of s xs))
  not_known = sym (rw (half_past s xs (halves_of s xs) (omega arith)))

  pub ask_last : IfSome p.track.sag (λ o. Landable s set p.landed o halves cs)
  ask_last = rw (ends_last, are_last.landed, count-is, last-cells) (landable s xs good-settings accepted set set_known (halves_of s xs) (omega arith))

  landed-last : (d : Landed) → d ≡ landed_by p.landed p.track.sag false → d ≡ landed_at s (half_at s xs) (halves_of s xs) (suc (halves_of s xs))
  landed-last d e = e ∙ rw (ends_last, not_known, are_last.landed) (landed-after s xs good-settings accepted (halves_of s xs) (omega arith))

  -- what the channels lack can be added up
  pub light-last : (d : Landed) → d ≡ landed_by p.landed p.track.sag false → Light d.parts
  light-last d e = rw (landed-last d e) (last-light s xs (good s good-settings) (accepted_recording s xs accepted))

  pub table_made : (d : Landed) (cs' : List ℕ) → d ≡ landed_by p.landed p.track.sag false
      → cs' ≡ cells_by s set p.track.sag halves false cs
      → ◌≡◌ {A = Table} (record {
        settings = s;
        set = set;
        total = halves;
        healthy = p.classes.healthy;
        disturbed = p.classes.disturbed;
        unknown = p.classes.unknown;
        cells = cs';
        unplaced = d.unplaced;
        sags = p.starts.sags;
        interruptions = p.starts.interruptions;
        swells = p.starts.swells;
        shortfall = three d.parts;
        parts = d.parts;
      }) (grown (empty s set) xs)
  table_made d cs' e f =
      table_is s xs good-settings accepted set p.classes p.starts d cs' halves count-is are_last.classes are_last.starts_are (landed-last d e)
      (f ∙ rw (ends_last, count-is, not_known, last-cells) (cells-after s xs good-settings accepted set set_known (halves_of s xs) (omega arith)))
