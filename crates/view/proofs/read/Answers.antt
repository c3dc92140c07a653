-- `view::read` meets its contract: below the count the run has such a sample, and its index is in the run; from the count on it has none.
-- Assumes nothing.
use Prim.Native.Nat.{◌+◌, ◌*◌, ◌<◌, ◌≤◌}
use mathlib.Core.Path.{sym, ap, ◌∙◌}
use mir.ValLaws.{to_z-of_z}
use Rattle.std.proofs.Common.{rules}
use lib.IntN.{ℤ}
use lib.ListN.{length}
use Rattle.std.specs.Prelude.{Some}
use Rattle.view.proofs.Laws.{below-count, past_count, held, step_held, step_not}
use Rattle.view.proofs.read.Goals.{Then-at-count}
use Rattle.view.proofs.read.Goals as goal

-- below the count the sample is in the run
inside : (c : Then-at-count) → let a = c.args in (a.channel ≤ 2) × (3 * a.at + a.channel < length a.samples.now)
inside c =
    let a = c.args in
    below-count (length a.samples.now) a.channel a.at (rw c.count.ensures at c.if-at-count.true)

pub returns-then-at-count : goal.returns-then-at-count
returns-then-at-count c =
    let a = c.args in
    let h = inside (goal.at.returns-then-at-count c).Then-at-count in
    ap (λ (x : ℤ). record { reading = Some x; at = a.at + 1 }) (search (rules, to_z-of_z))
    ∙ sym
    (step_held a.samples.now a.channel a.at
    (held a.samples.now a.channel a.at h.0 h.1))

pub returns-else-at-count : goal.returns-else-at-count
returns-else-at-count c =
    let a = c.args in
    sym
    (step_not a.samples.now a.channel a.at
    (past_count a.samples.now a.channel a.at (rw c.count.ensures at c.if-at-count.false)))
