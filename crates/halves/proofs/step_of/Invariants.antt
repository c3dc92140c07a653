-- The invariant: the lowest and the highest sample tell whether one so far lies outside the limits, and each sum is that of the rules, wrapped. Assumes
-- nothing.
use Rattle.std.proofs.Common.{◌≡◌, ◌%◌, ◌^◌, ◌≤◌}
use Rattle.rules.specs.Halves.{samples_of}
use Rattle.checks.specs.Flags.{too_low, too_high}
use Rattle.halves.specs.Steps.{squares_in}
use Rattle.halves.proofs.Sweep.{some_below}
use Rattle.halves.proofs.step_of.Given as goal

abbrev pub invariant-loop-i : goal.invariant-loop-i
invariant-loop-i l =
    (l.i ≤ samples_of l.w) × (too_low (l.low) ≡ some_below too_low l.w l.i) × (too_high (l.high) ≡ some_below too_high l.w l.i) × (l.a ≡ squares_in l.w 0 l.i % 2 ^ 64)
    × (l.b ≡ squares_in l.w 1 l.i % 2 ^ 64) × (l.c ≡ squares_in l.w 2 l.i % 2 ^ 64)
