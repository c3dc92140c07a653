-- The pass over the recording answers what the checks do: where they accept it, its table is added. Assumes nothing.
use mathlib.Core.Path.{◌≡◌, ◌∙◌}
use lib.ListN.{length}
use Rattle.rules.proofs.Soundness.{sound-parts}
use Rattle.site.proofs.Counts.{pass_adding, pass-added, add_turned}
use Rattle.site.proofs.add_shaped.Goals.{Start}
use borrow.Author.Rules.{rules}
use Rattle.site.proofs.add_shaped.Goals as goal

forty-cells : (c : Start) → length c.args.t.cells ≡ 40
forty-cells c = search rules

pub table_of-requires : goal.table_of-requires
table_of-requires c = (sound-parts _ c.requires.0).set_known

pub add_table-requires : goal.add_table-requires
add_table-requires c =
    let e = rw c.requires.1 at c.in-Ok.ensures in
    pass_adding _ _ (forty-cells (goal.at.add_table-requires c).Start) c.requires.0 _ e.0 e.1

pub returns-in-Ok : goal.returns-in-Ok
returns-in-Ok c =
    let e = rw c.requires.1 at c.in-Ok.ensures in
    pass-added _ _ (forty-cells (goal.at.returns-in-Ok c).Start) c.requires.0 _ e.0 e.1 _ c.add_table.ensures

pub returns-in-Err : goal.returns-in-Err
returns-in-Err c =
    c.turned_away.ensures
    ∙ add_turned _ _ c.requires.0 _ (rw c.requires.1 at c.in-Err.ensures)
