-- What a half-cycle, a sag's end and a quiet stretch make of the ledger, as the code runs it.
use Rattle.std.specs.Prelude.{ℕ, ◌+◌, ◌-◌, ◌*◌, ◌≤◌, ◌≡◌, Bool, true, false, not, ◌&&◌, ◌||◌, cond, List, get_or, set as store, ltb, Option, Some, None, is_some, is_none, IfSome}
use Rattle.rules.specs.Bounded.{bit}
use Rattle.rules.specs.Recorder.{settings_good}
use Rattle.rules.specs.Halves.{Half, of_channel, channels}
use Rattle.rules.specs.Borders.{known_set, borders_of, cell_at}
use Rattle.rules.specs.declared.Settings.{Settings}
use Rattle.rules.specs.declared.Kind.TheVariants.{Sag, Interruption, Swell}
use Rattle.kinds.specs.Machine.{level_from, goes_by, step_by, Marked, Few, Light}
use Rattle.kinds.specs.declared.Thresholds.{Thresholds}
use Rattle.kinds.specs.declared.Level.{Level}
use Rattle.kinds.specs.declared.Open.{Open}
use Rattle.ledger.specs.declared.Track.{Track}
use Rattle.ledger.specs.declared.Classes.{Classes}
use Rattle.ledger.specs.declared.Starts.{Starts}
use Rattle.ledger.specs.declared.Landed.{Landed}
use Rattle.ledger.specs.declared.Survey.{Survey}

-- ---- a half-cycle

unfoldable pub tracked_by : Thresholds → ℕ → Track → Option Level → Track
tracked_by m k t l =
    record {
      known = is_some l;
      sag = step_by Sag m.sag t.known k t.sag l;
      interruption = goes_by Interruption m.interruption t.interruption l;
      swell = goes_by Swell m.swell t.swell l;
    }

-- an event is going on
abbrev pub going_on : Track → Bool
going_on t = is_some t.sag || t.interruption || t.swell

abbrev pub classed_by : Classes → Bool → Bool → Classes
classed_by c isKnown any =
    record {
      healthy = c.healthy + bit (isKnown && not any);
      disturbed = c.disturbed + bit (isKnown && any);
      unknown = c.unknown + bit (not isKnown);
    }

abbrev pub started_by : Starts → Track → Track → Starts
started_by n was is =
    record {
      sags = n.sags + bit (is_some is.sag && is_none was.sag);
      interruptions = n.interruptions + bit (is.interruption && not was.interruption);
      swells = n.swells + bit (is.swell && not was.swell);
    }

-- the sag that a half-cycle ends: the one that went on before it, where none goes on after it
abbrev pub ended_by : Option Open → Option Open → Option Open
ended_by was None = was
ended_by was (Some o) = None

-- what the end of a sag adds: one that goes in no cell, and to each channel what it lacked
abbrev pub landed_by : Landed → Option Open → Bool → Landed
landed_by n None isKnown = n
landed_by n (Some o) isKnown =
    record {
      unplaced = n.unplaced + bit (not (o.seen && isKnown));
      parts = channels (λ c. of_channel c n.parts + of_channel c o.short);
    }

-- the cell of a sag with both ends seen, by a set of borders, has one more
abbrev pub placed_by : Settings → ℕ → Open → ℕ → Bool → List ℕ → List ℕ
placed_by s set o end isKnown cs =
    let c = cell_at s (borders_of s set) o.extreme (end - o.start) in cond (o.seen && isKnown) (store cs c (get_or cs c 0 + 1)) cs

abbrev pub cells_by : Settings → ℕ → Option Open → ℕ → Bool → List ℕ → List ℕ
cells_by s set None end isKnown cs = cs
cells_by s set (Some o) end isKnown cs = placed_by s set o end isKnown cs

-- what that asks of a sag that ends: a cell that can be worked out, and counts that can grow
pub record Placeable (s : Settings) (set : ℕ) (o : Open) (end : ℕ) (cs : List ℕ) : Type 0 where
  pub good-settings : settings_good s ≡ true
  pub set_known : known_set set ≡ true
  pub extreme : o.extreme ≤ s.n * 10000000000
  pub began : o.start ≤ end
  pub high : end ≤ 100000
  pub few : (i : ℕ) → get_or cs i 0 ≤ 4000000

pub record Landable (s : Settings) (set : ℕ) (n : Landed) (o : Open) (k : ℕ) (cs : List ℕ) : Type 0 where
  pub placeable : Placeable s set o k cs
  pub light : Light o.short
  pub unplaced-few : n.unplaced ≤ 4000000
  pub parts-light : Light n.parts

-- what a half-cycle makes of a survey, and of the cells
abbrev pub lands_by : Thresholds → Half → Survey → ℕ → Option Open
lands_by m v p k = ended_by p.track.sag (tracked_by m k p.track (level_from m.full m.sag.from v)).sag

unfoldable pub surveyed_by : Thresholds → Half → Survey → ℕ → Survey
surveyed_by m v p k =
    let l = level_from m.full m.sag.from v in
    let is = tracked_by m k p.track l in
    record {
      track = is;
      classes = classed_by p.classes (is_some l) (going_on is);
      starts = started_by p.starts p.track is;
      landed = landed_by p.landed (lands_by m v p k) (is_some l);
    }

unfoldable pub cells_turned : Settings → ℕ → Thresholds → Half → Survey → ℕ → List ℕ → List ℕ
cells_turned s set m v p k cs =
    cells_by s set (lands_by m v p k) k (is_some (level_from m.full m.sag.from v)) cs

-- what that asks: numbers that can grow
pub record Turnable (s : Settings) (set : ℕ) (m : Thresholds) (v : Half) (p : Survey) (k : ℕ) (cs : List ℕ) : Type 0 where
  pub marked : Marked m
  pub few : Few v
  pub follow : IfSome p.track.sag (λ o. Light o.short) × IfSome (level_from m.full m.sag.from v) (λ l. Light l.short)
  pub classes-few : (p.classes.healthy ≤ 4000000) × (p.classes.disturbed ≤ 4000000) × (p.classes.unknown ≤ 4000000)
  pub starts-few : (p.starts.sags ≤ 4000000) × (p.starts.interruptions ≤ 4000000) × (p.starts.swells ≤ 4000000)
  pub landable : IfSome (lands_by m v p k) (λ o. Landable s set p.landed o k cs)

-- so many half-cycles more at which nothing goes on: they are healthy, and the last of them is known
abbrev pub passed_over : Survey → ℕ → Survey
passed_over p more =
    record {
      track =
          record {
            known = p.track.known || ltb 0 more;
            sag = p.track.sag;
            interruption = p.track.interruption;
            swell = p.track.swell;
          };
      classes =
          record {
            healthy = p.classes.healthy + more;
            disturbed = p.classes.disturbed;
            unknown = p.classes.unknown;
          };
      starts = p.starts;
      landed = p.landed;
    }

-- nothing goes on, and nothing is counted
abbrev pub start_survey : Survey
start_survey =
    record {
      track = record { known = false; sag = None; interruption = false; swell = false };
      classes = record { healthy = 0; disturbed = 0; unknown = 0 };
      starts = record { sags = 0; interruptions = 0; swells = 0 };
      landed = record { unplaced = 0; parts = channels (λ c. 0) };
    }
