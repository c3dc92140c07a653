-- The first such group from i on is the first of all. Assumes nothing.
use Prim.Native.Nat.{ℕ}
use mathlib.Core.Path.{◌≡◌, refl, sym, ◌∙◌}
use mathlib.Core.Bool.{Bool, beq, true, false, false≢true}
use mathlib.Core.List.{List}
use lib.ListN.{get_or}
use Rattle.rules.proofs.Runs.{first_go}
use Rattle.list.specs.Listing.{differs}
use Rattle.list.proofs.next_group.Goals as goal

abbrev other : List Bool → Bool → ℕ → Bool
other notes noted i = differs (get_or notes i false) noted

other-so : (a b : Bool) → beq a b ≡ false → differs a b ≡ true
other-so true true e = absurd (false≢true (sym e))
other-so true false e = refl
other-so false true e = refl
other-so false false e = absurd (false≢true (sym e))

pub loop-i-preserved : goal.loop-i-preserved
loop-i-preserved c =
    let a = c.args in
    sym (first_go (other a.notes.now a.noted) c.loop-i.i a.groups c.loop-i-test.true (other-so (get_or a.notes.now c.loop-i.i false) a.noted c.if-notes-i.false))
    ∙ c.loop-i.invariant
