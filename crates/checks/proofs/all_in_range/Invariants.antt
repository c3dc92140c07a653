-- The flag says whether all of the samples passed are in range. Assumes nothing.
use Prim.Native.Nat.{◌-◌, ◌≤◌}
use mathlib.Core.Path.{◌≡◌}
use lib.IntN.{pos}
use lib.ListN.{length, get_or}
use Rattle.rules.specs.Bounded.{all}
use Rattle.rules.specs.Recorder.{in_range}
use Rattle.checks.proofs.all_in_range.Given as goal

abbrev pub invariant-loop-x : goal.invariant-loop-x
invariant-loop-x l = (l.x-index ≤ length l.samples) × (l.good ≡ all (λ j. in_range (get_or l.samples j (pos 0))) l.x-index)

abbrev pub decreases-loop-x : goal.decreases-loop-x
decreases-loop-x l = length l.samples - l.x-index
