-- `site::miscounted` meets its contract. Each test that fails breaks one condition of a sound table; where none fails, the last test is all that is left.
-- Assumes nothing.
use Prim.Native.Nat.{◌+◌, ◌≤◌}
use mathlib.Core.Path.{◌≡◌, sym, ◌∙◌}
use mathlib.Core.Bool.{true}
use native.Mathlib.Omega.{arith}
use lib.Dec.{eqb}
use Rattle.rules.specs.Recorder.{settings_good}
use Rattle.rules.specs.Events.{make_up}
use Rattle.rules.specs.Site.{total}
use Rattle.rules.proofs.Ranges.{good, full-high}
use Rattle.site.proofs.Counts.{settings-bad, total-bad, counts_bad, CountsFine, counts_fine, classes-bad, places-bad, parts-bad, product_high, shortfall_tells}
use Rattle.site.proofs.miscounted.Goals.{Else-not-settings_good, Else-not-adds_up, Else-not-adds_up-2, Else-not-sags_add_up, Else-t, Else-t-gt4000000}
use Rattle.site.proofs.miscounted.Goals as goal

-- what each test leaves
fine : (c : Else-not-settings_good) → settings_good c.args.t.settings ≡ true
fine c = sym c.settings_good.ensures ∙ c.if-not-settings_good.false

few : (c : Else-t-gt4000000) → c.args.t.total ≤ 4000000
few c = c.if-t-gt4000000.false

counted : (c : Else-t) → CountsFine c.args.t
counted c = counts_fine c.args.t c.if-t.false

classed : (c : Else-not-adds_up) → let t = c.args.t in eqb (t.healthy + t.disturbed + t.unknown) t.total ≡ true
classed c = sym c.adds_up.ensures ∙ c.if-not-adds_up.false

placed : (c : Else-not-sags_add_up) → let t = c.args.t in eqb (total t.cells + t.unplaced) t.sags ≡ true
placed c = sym c.sags_add_up.ensures ∙ c.if-not-sags_add_up.false

made_up : (c : Else-not-adds_up-2) → let t = c.args.t in make_up t.parts t.shortfall ≡ true
made_up c = sym c.adds_up-2.ensures ∙ c.if-not-adds_up-2.false

pub returns-then-not-settings_good : goal.returns-then-not-settings_good
returns-then-not-settings_good c = settings-bad c.args.t (sym c.settings_good.ensures ∙ c.if-not-settings_good.true)

pub returns-then-t-gt4000000 : goal.returns-then-t-gt4000000
returns-then-t-gt4000000 c = total-bad c.args.t c.if-t-gt4000000.true

pub returns-then-t : goal.returns-then-t
returns-then-t c = counts_bad c.args.t c.if-t.true

pub returns-then-not-adds_up : goal.returns-then-not-adds_up
returns-then-not-adds_up c = classes-bad c.args.t (sym c.adds_up.ensures ∙ c.if-not-adds_up.true)

pub returns-then-not-sags_add_up : goal.returns-then-not-sags_add_up
returns-then-not-sags_add_up c = places-bad c.args.t (sym c.sags_add_up.ensures ∙ c.if-not-sags_add_up.true)

pub returns-then-not-adds_up-2 : goal.returns-then-not-adds_up-2
returns-then-not-adds_up-2 c = parts-bad c.args.t (sym c.adds_up-2.ensures ∙ c.if-not-adds_up-2.true)

pub full_of-requires : goal.full_of-requires
full_of-requires c = fine (goal.at.full_of-requires c).Else-not-settings_good

pub overflow_mul-result : goal.overflow_mul-result
overflow_mul-result c = omega (arith, c.full_of.ensures, full-high _ (good _ (fine (goal.at.overflow_mul-result c).Else-not-settings_good)))

pub overflow_mul-result-2 : goal.overflow_mul-result-2
overflow_mul-result-2 c = rw c.full_of.ensures (omega (arith, product_high c.args.t (fine (goal.at.overflow_mul-result-2 c).Else-not-settings_good) (few (goal.at.overflow_mul-result-2 c).Else-t-gt4000000)))

pub returns : goal.returns
returns c = rw c.full_of.ensures (shortfall_tells c.args.t c.requires (fine (goal.at.returns c).Else-not-settings_good) (few (goal.at.returns c).Else-t-gt4000000) (counted (goal.at.returns c).Else-t) (classed (goal.at.returns c).Else-not-adds_up) (placed (goal.at.returns c).Else-not-sags_add_up) (made_up (goal.at.returns c).Else-not-adds_up-2))
