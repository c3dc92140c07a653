-- What the ledger holds before half-cycle k, told by the rules.
use Rattle.std.specs.Prelude.{ℕ, zero, suc, ◌+◌, Bool, not, ◌&&◌, cond, List, replicate, eqb, Option, Some, None}
use Rattle.rules.specs.Bounded.{before, bit, count}
use Rattle.rules.specs.Halves.{Half, of_channel, channels, known}
use Rattle.rules.specs.Events.{in_event, starts, end_of, start_seen, end_seen, shorts_of}
use Rattle.rules.specs.Borders.{Borders}
use Rattle.rules.specs.Site.{cells, is_healthy, is_disturbed, is_unknown, sag_cell, cells_from}
use Rattle.rules.specs.declared.Settings.{Settings}
use Rattle.rules.specs.declared.Kind.{Kind}
use Rattle.rules.specs.declared.Kind.TheVariants.{Sag, Interruption, Swell}
use Rattle.kinds.specs.Machine.{opens}
use Rattle.kinds.specs.declared.Open.{Open}
use Rattle.ledger.specs.declared.Track.{Track}
use Rattle.ledger.specs.declared.Classes.{Classes}
use Rattle.ledger.specs.declared.Starts.{Starts}
use Rattle.ledger.specs.declared.Landed.{Landed}
use Rattle.ledger.specs.declared.Survey.{Survey}

-- where the event that is going on started; 0 where none is
abbrev pub start_of : Option Open → ℕ
start_of None = 0
start_of (Some o) = o.start

-- the sum of g over the events of a kind that ended before half-cycle k
unfoldable pub landed : Settings → (ℕ → Half) → Kind → (ℕ → ℕ) → ℕ → ℕ
landed s h kind g zero = 0
landed s h kind g (suc k) =
    landed s h kind g k
    + cond (before (in_event s h kind) k && not (in_event s h kind k)) (g (start_of (opens s h kind k))) 0

unfoldable pub track_at : Settings → (ℕ → Half) → ℕ → Track
track_at s h k =
    record {
      known = before (λ j. known (h j)) k;
      sag = opens s h Sag k;
      interruption = before (in_event s h Interruption) k;
      swell = before (in_event s h Swell) k;
    }

unfoldable pub classes_at : Settings → (ℕ → Half) → ℕ → Classes
classes_at s h k =
    record {
      healthy = count (is_healthy s h) k;
      disturbed = count (is_disturbed s h) k;
      unknown = count (is_unknown s h) k;
    }

unfoldable pub starts_at : Settings → (ℕ → Half) → ℕ → Starts
starts_at s h k =
    record {
      sags = count (starts s h Sag) k;
      interruptions = count (starts s h Interruption) k;
      swells = count (starts s h Swell) k;
    }

-- of the sag that starts at a: both ends seen; the shortfall of channel c
abbrev pub seen_both : Settings → (ℕ → Half) → ℕ → ℕ → Bool
seen_both s h n a = start_seen h a && end_seen h (end_of s h n Sag a)

abbrev pub part_from : Settings → (ℕ → Half) → ℕ → ℕ → ℕ → ℕ
part_from s h n c a = of_channel c (shorts_of s h a (end_of s h n Sag a))

unfoldable pub landed_at : Settings → (ℕ → Half) → ℕ → ℕ → Landed
landed_at s h n k =
    record {
      unplaced = landed s h Sag (λ a. bit (not (seen_both s h n a))) k;
      parts = channels (λ c. landed s h Sag (part_from s h n c) k);
    }

-- by any borders
unfoldable pub cells_at : Settings → Borders → (ℕ → Half) → ℕ → ℕ → List ℕ
cells_at s b h n k = cells_from (λ i. landed s h Sag (λ a. bit (seen_both s h n a && eqb (sag_cell s b h n a) i)) k) (replicate cells 0) 0

unfoldable pub survey_at : Settings → (ℕ → Half) → ℕ → ℕ → Survey
survey_at s h n k =
    record {
      track = track_at s h k;
      classes = classes_at s h k;
      starts = starts_at s h k;
      landed = landed_at s h n k;
    }
