-- The invariant: the first half-cycle from k on that is not quiet is the first of all, and the step is that of k. Assumes
-- nothing.
use Prim.Native.Nat.{ℕ, ◌-◌}
use mathlib.Core.Path.{◌≡◌}
use mathlib.Core.Bool.{Bool}
use mathlib.Core.List.{List}
use lib.IntN.{ℤ}
use Rattle.rules.specs.Bounded.{first_not}
use Rattle.rules.specs.Halves.{half_at}
use Rattle.rules.specs.declared.Settings.{Settings}
use Rattle.checks.specs.Flags.{as_read}
use Rattle.halves.specs.Steps.{step_at}
use Rattle.quiet.specs.Quiet.{is_quiet}
use Rattle.quiet.proofs.pass_quiet.Given as goal

abbrev pub quiet : Settings → List ℤ → ℕ → Bool
quiet s xs k = is_quiet s (half_at s (as_read xs) k)

abbrev pub invariant-loop-k : goal.invariant-loop-k
invariant-loop-k l =
    (l.step ≡ step_at l.recording.settings l.recording.samples.now l.k) × (first_not (quiet l.recording.settings l.recording.samples.now) l.k (l.to - l.k) ≡ first_not (quiet l.recording.settings l.recording.samples.now) l.from (l.to - l.from))
