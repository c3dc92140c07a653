-- The first `k` numbers are added already, the others are as they were. Assumes nothing.
use Prim.Native.Nat.{◌≤◌}
use mathlib.Core.Path.{◌≡◌}
use lib.ListN.{length}
use lib.Seq.{paste}
use Rattle.rules.specs.Events.{plus}
use Rattle.numbers.proofs.add_each.Given as goal

abbrev pub invariant-loop-k : goal.invariant-loop-k
invariant-loop-k l = (l.k ≤ length l.more) × (length l.sum ≡ length l.initial.sum) × (l.sum ≡ paste l.initial.sum 0 (plus l.initial.sum l.more) l.k)
