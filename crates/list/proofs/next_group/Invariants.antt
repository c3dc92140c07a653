-- The first such group from i on is the first of all. Assumes nothing.
use Prim.Native.Nat.{ℕ, ◌-◌}
use mathlib.Core.Path.{◌≡◌}
use mathlib.Core.Bool.{Bool, false}
use mathlib.Core.List.{List}
use lib.ListN.{get_or}
use Rattle.rules.specs.Bounded.{first_not}
use Rattle.list.specs.Listing.{differs}
use Rattle.list.proofs.next_group.Given as goal

abbrev pub other : List Bool → Bool → ℕ → Bool
other notes noted i = differs (get_or notes i false) noted

abbrev pub invariant-loop-i : goal.invariant-loop-i
invariant-loop-i l = first_not (other l.notes l.noted) l.i (l.groups - l.i) ≡ first_not (other l.notes l.noted) l.g (l.groups - l.g)
