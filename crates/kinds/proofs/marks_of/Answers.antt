-- Good settings keep each percentage at 200 at the most and N x R x R in range, so each mark fits; the kind picks the case. Assumes nothing.
use Prim.Native.Nat.{◌≤◌}
use native.Mathlib.Omega.{arith}
use Rattle.rules.specs.Demands.{Good}
use Rattle.rules.proofs.Ranges.{good, full-high}
use Rattle.kinds.proofs.marks_of.Goals.{Start}
use Rattle.kinds.proofs.marks_of.Goals as goal

ranges : (c : Start) → Good c.args.s
ranges c = good _ c.requires.0

full-fits : (c : Start) → c.args.full ≤ 1280000000000
full-fits c = omega (arith, full-high _ (ranges c), c.requires.1)

pub mark-requires : goal.mark-requires
mark-requires c = omega (arith, ranges (goal.at.mark-requires c).Start, full-fits (goal.at.mark-requires c).Start)

pub overflow_add-s : goal.overflow_add-s
overflow_add-s c = omega (arith, ranges (goal.at.overflow_add-s c).Start)

pub mark-requires-in-Sag : goal.mark-requires-in-Sag
mark-requires-in-Sag c = omega (arith, ranges (goal.at.mark-requires-in-Sag c).Start, full-fits (goal.at.mark-requires-in-Sag c).Start)

pub mark-requires-in-Interruption : goal.mark-requires-in-Interruption
mark-requires-in-Interruption c = omega (arith, ranges (goal.at.mark-requires-in-Interruption c).Start, full-fits (goal.at.mark-requires-in-Interruption c).Start)

pub overflow_add-s-in-Interruption : goal.overflow_add-s-in-Interruption
overflow_add-s-in-Interruption c = omega (arith, ranges (goal.at.overflow_add-s-in-Interruption c).Start)

pub mark-requires-in-Interruption-2 : goal.mark-requires-in-Interruption-2
mark-requires-in-Interruption-2 c = omega (arith, ranges (goal.at.mark-requires-in-Interruption-2 c).Start, full-fits (goal.at.mark-requires-in-Interruption-2 c).Start)

pub mark-requires-in-Swell : goal.mark-requires-in-Swell
mark-requires-in-Swell c = omega (arith, ranges (goal.at.mark-requires-in-Swell c).Start, full-fits (goal.at.mark-requires-in-Swell c).Start)

pub overflow_sub-s : goal.overflow_sub-s
overflow_sub-s c = omega (arith, ranges (goal.at.overflow_sub-s c).Start)

pub mark-requires-in-Swell-2 : goal.mark-requires-in-Swell-2
mark-requires-in-Swell-2 c = omega (arith, ranges (goal.at.mark-requires-in-Swell-2 c).Start, full-fits (goal.at.mark-requires-in-Swell-2 c).Start)
