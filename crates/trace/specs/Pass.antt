-- The pass that tells each half-cycle, as the code runs it.
use Rattle.std.specs.Prelude.{ℕ, ◌*◌, ◌≤◌, ◌≡◌, List, ℤ, Ok}
use Rattle.rules.specs.Bounded.{join}
use Rattle.rules.specs.Trace.{half_words}
use Rattle.rules.specs.Refusals.{recording_check}
use Rattle.rules.specs.declared.Settings.{Settings}
use Rattle.halves.specs.declared.Recording.{Recording}

-- what the writing pass asks of a recording of good length
pub record Writable (r : Recording) (room : ℕ) : Type 0 where
  pub accepted : recording_check r.settings r.samples.now ≡ Ok tt
  pub enough : 5 * r.halves ≤ room

-- the numbers of the half-cycles before k
abbrev pub told_below : Settings → List ℤ → ℕ → List ℕ
told_below s xs k = join (half_words s xs) k
