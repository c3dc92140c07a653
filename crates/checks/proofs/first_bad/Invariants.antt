-- The first bad sample from place i on is the first of all: none before the place asked for is bad. Assumes nothing.
use Prim.Native.Nat.{ℕ, ◌-◌, ◌≤◌}
use mathlib.Core.Path.{◌≡◌}
use mathlib.Core.Bool.{Bool}
use mathlib.Core.List.{List}
use lib.IntN.{ℤ, pos}
use lib.ListN.{length, get_or}
use Rattle.rules.specs.Bounded.{first_not}
use Rattle.rules.specs.Recorder.{in_range, first_bad}
use Rattle.checks.proofs.first_bad.Given as goal

-- The first bad sample from place i on is the first of all: none before the place asked for is bad. Assumes nothing.
abbrev pub good : List ℤ → ℕ → Bool
good xs j = in_range (get_or xs j (pos 0))

abbrev pub invariant-loop-i : goal.invariant-loop-i
invariant-loop-i l = (l.i ≤ length l.samples) × (first_not (good l.samples) l.i (length l.samples - l.i) ≡ first_bad l.samples)

abbrev pub decreases-loop-i : goal.decreases-loop-i
decreases-loop-i l = length l.samples - l.i
