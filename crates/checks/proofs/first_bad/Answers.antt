-- The first bad sample from place i on is the first of all: none before the place asked for is bad. Assumes nothing.
use Prim.Native.Nat.{ℕ}
use mathlib.Core.Path.{◌≡◌, sym, ap, ◌∙◌}
use mathlib.Core.Bool.{Bool}
use mathlib.Core.List.{List}
use native.Mathlib.Omega.{arith}
use lib.IntN.{ℤ, pos}
use lib.ListN.{length, get_or}
use mir.Syntax.{w32}
use mir.ValLaws.{to_z-of_z}
use Rattle.rules.specs.Recorder.{in_range}
use Rattle.rules.proofs.Runs.{first_go}
use Rattle.checks.proofs.Tests.{first_from}
use Rattle.checks.proofs.first_bad.Goals.{After-is_in_range}
use Rattle.checks.proofs.first_bad.Goals as goal

abbrev good : List ℤ → ℕ → Bool
good xs j = in_range (get_or xs j (pos 0))

-- what the test says of the sample at i
told : (c : After-is_in_range)
    → c.is_in_range.result ≡ good c.args.samples.now c.loop-i.i
told c =
    let x = get_or c.args.samples.now c.loop-i.i (pos 0) in
    c.is_in_range.ensures ∙ ap in_range (to_z-of_z w32 x (record { sfits = c.is_in_range-arg-1.given }))

pub loop-i-init : goal.loop-i-init
loop-i-init c = (c.requires.0, first_from _ c.args.from c.requires.0 c.requires.1)

pub loop-i-preserved : goal.loop-i-preserved
loop-i-preserved c =
    let xs = c.args.samples.now in (
      omega arith,
      sym (first_go (good xs) c.loop-i.i (length xs) (omega arith) (sym (told (goal.at.loop-i-preserved c).After-is_in_range) ∙ c.if-not-is_in_range.false))
          ∙ c.loop-i.invariant.1,
    )
