-- Refusal 6 comes out of the counting pass. An eleventh of the run is room for as many events: with less the answer is refusal 7 and the
-- run stays, else it holds the list. Assumes nothing.
use Rattle.std.specs.Prelude.{Ok, Err}
use Rattle.std.proofs.lemmas.Result.{err_from_is_err_and}
use mathlib.Core.Path.{◌≡◌, ap, ◌∙◌}
use native.Mathlib.Omega.{arith}
use lib.ListN.{length}
use Rattle.rules.specs.EventList.{events_of}
use Rattle.rules.specs.Refusals.{recording_check}
use Rattle.list.proofs.Answers.{counted, list-bad, run-bad, room_enough, list_no, run_no, list_yes, run_yes}
use Rattle.list.proofs.list_recording.Goals.{In_ok-total}
use Rattle.list.proofs.list_recording.Goals as goal

told : (c : In_ok-total)
    → let r = c.args.recording.now in (recording_check r.settings r.samples.now ≡ Ok tt) × (c.in_ok-total.total ≡ length (events_of r.settings r.samples.now))
told c = counted _ _ _ c.count_events.ensures.value _ c.in_ok-total.was

pub returns-in_err-total-clause-value : goal.returns-in_err-total-clause-value
returns-in_err-total-clause-value c =
    let p = err_from_is_err_and c.from_residual.result c.from_residual.ensures.1 in
    p.1 ∙ ap Err p.2 ∙ list-bad _ _ _ c.count_events.ensures.value c.args.recording.now.good _ c.in_err-total.was _

pub returns-in_err-total-clause-out_after : goal.returns-in_err-total-clause-out_after
returns-in_err-total-clause-out_after c =
    run-bad _ _ _ c.count_events.ensures.value c.args.recording.now.good _ c.in_err-total.was _

pub returns-then-room-total-clause-value : goal.returns-then-room-total-clause-value
returns-then-room-total-clause-value c =
    let t = told (goal.at.returns-then-room-total-clause-value c).In_ok-total in
    list_no _ _ c.args.recording.now.good t.0 _ t.1 _ (omega (arith, c.if-room-total.true))

pub returns-then-room-total-clause-out_after : goal.returns-then-room-total-clause-out_after
returns-then-room-total-clause-out_after c =
    let t = told (goal.at.returns-then-room-total-clause-out_after c).In_ok-total in
    run_no _ _ c.args.recording.now.good t.0 _ t.1 _ (omega (arith, c.if-room-total.true))

pub write_events-requires : goal.write_events-requires
write_events-requires c =
    let t = told (goal.at.write_events-requires c).In_ok-total in (
      t.0,
      c.count_events.ensures.noted t.0,
      room_enough _ _ c.args.recording.now.good t.0 _ t.1 _ (omega (arith, c.if-room-total.false)),
    )

pub returns-clause-value : goal.returns-clause-value
returns-clause-value c =
    let t = told (goal.at.returns-clause-value c).In_ok-total in
    list_yes _ _ c.args.recording.now.good t.0 _ t.1 _ (omega (arith, c.if-room-total.false))

pub returns-clause-out_after : goal.returns-clause-out_after
returns-clause-out_after c =
    let t = told (goal.at.returns-clause-out_after c).In_ok-total in
    c.write_events.ensures ∙ run_yes _ _ c.args.recording.now.good t.0 _ t.1 _ (omega (arith, c.if-room-total.false))
