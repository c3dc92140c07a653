-- The ends so far and the numbers that are left have the ends of all six. Assumes nothing.
use Rattle.std.proofs.Common.{◌≡◌, ◌∷◌, drop}
use Rattle.rules.specs.Events.{smallest, largest}
use Rattle.sag_type.proofs.ends_of.Given as goal

abbrev pub invariant-loop-x : goal.invariant-loop-x
invariant-loop-x l =
    (smallest (l.low ∷ drop l.x-index l.x-items) ≡ smallest l.fn.six) × (largest (l.high ∷ drop l.x-index l.x-items) ≡ largest l.fn.six)
