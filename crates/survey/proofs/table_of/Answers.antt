-- At the end the survey stands before H, and half-cycle H ends what still goes on. Assumes nothing.
use mathlib.Core.Path.{◌≡◌}
use native.Mathlib.Omega.{arith}
use Rattle.survey.proofs.Tables.{ask_end, ask_table, end_made}
use Rattle.survey.proofs.table_of.Goals.{After-loop-on}
use Rattle.survey.proofs.table_of.Goals as goal

done : (c : After-loop-on) → c.loop-on.on.k ≡ c.args.recording.now.halves
done c = omega (arith, c.loop-on-test.false, c.loop-on.invariant.high)

pub land-landed-requires : goal.land-landed-requires
land-landed-requires c =
    ask_end c.args.recording.now _ c.requires _ _ (done (goal.at.land-landed-requires c).After-loop-on) c.loop-on.invariant

pub table_with-requires : goal.table_with-requires
table_with-requires c =
    ask_table c.args.recording.now _ c.requires _ _ (done (goal.at.table_with-requires c).After-loop-on) c.loop-on.invariant _ c.land-landed.ensures.value

pub returns : goal.returns
returns c =
    let l = c.land-landed.ensures in
    end_made c.args.recording.now _ c.requires _ _ (done (goal.at.returns c).After-loop-on) c.loop-on.invariant _ _ _ l.value l.cells_after c.table_with.ensures
