-- Quiet half-cycles, in the words of the rules and as the code tests them; and half-cycles at which nothing goes on.
use Rattle.std.specs.Prelude.{ℕ, ◌+◌, ◌-◌, ◌*◌, ◌≤◌, ◌<◌, ◌≡◌, Bool, true, false, not, ◌&&◌, List, leb, ℤ, Ok, Some, None}
use Rattle.rules.specs.Bounded.{before, first_not}
use Rattle.rules.specs.Recorder.{settings_good}
use Rattle.rules.specs.Halves.{Half, known, half_at, halves_of}
use Rattle.rules.specs.Events.{begins, in_event, least, greatest}
use Rattle.rules.specs.declared.Settings.{Settings}
use Rattle.rules.specs.declared.Kind.{Kind}
use Rattle.rules.specs.declared.Kind.TheVariants.{Sag, Interruption, Swell}
use Rattle.checks.specs.Flags.{shape_check, as_read}
use Rattle.halves.specs.Steps.{step_at}
use Rattle.halves.specs.declared.Recording.{Recording}
use Rattle.kinds.specs.Machine.{thresholds_of}
use Rattle.kinds.specs.declared.Thresholds.{Thresholds}
use Rattle.quiet.specs.declared.Stretch.{Stretch}

-- known, and an event of no kind begins there
unfoldable pub is_quiet : Settings → Half → Bool
is_quiet s v = known v && not (begins s Sag v) && not (begins s Interruption v) && not (begins s Swell v)

-- the same by the marks at which a sag and a swell begin
unfoldable pub quiet_by : Thresholds → Half → Bool
quiet_by m None = false
quiet_by m (Some v) = leb m.sag.from (10000 * least v) && leb (10000 * greatest v) m.swell.from

-- the first half-cycle from `from` on that is not quiet, or `to`, in the recording as it is read
abbrev pub quiet_till : Settings → List ℤ → ℕ → ℕ → ℕ
quiet_till s xs from to = first_not (λ k. is_quiet s (half_at s (as_read xs) k)) from (to - from)

-- nothing goes on at half-cycle k: it is known, and neither it nor the one before lies in an event
pub record Resting (s : Settings) (h : ℕ → Half) (k : ℕ) : Type 0 where
  pub is_known : known (h k) ≡ true
  pub out : (kind : Kind) → in_event s h kind k ≡ false
  pub out-before : (kind : Kind) → before (in_event s h kind) k ≡ false

-- a pass stands before half-cycle `from` with that one's first step, and reads up to half-cycle `to`
pub record Reading (s : Settings) (xs : List ℤ) (m : Thresholds) (from to : ℕ) (first : Half) : Type 0 where
  pub good-settings : settings_good s ≡ true
  pub shaped : shape_check s xs ≡ Ok tt
  pub thresholds : m ≡ thresholds_of s
  pub ordered : from ≤ to
  pub high : to ≤ halves_of s xs
  pub step : first ≡ step_at s xs from

-- what a pass over a recording of good length has to be told besides
pub record Standing (r : Recording) (from to : ℕ) (first : Half) : Type 0 where
  pub ordered : from ≤ to
  pub high : to ≤ r.halves
  pub step : first ≡ step_at r.settings r.samples.now from

-- it stands before half-cycle `stop` then, with that one's two steps, or one where `to` is reached
pub record StoppedAt (s : Settings) (xs : List ℤ) (to stop : ℕ) (r : Stretch) : Type 0 where
  pub k_is : r.k ≡ stop
  pub step : r.step ≡ step_at s xs r.k
  pub next : r.k < to → r.next ≡ step_at s xs (r.k + 1)
