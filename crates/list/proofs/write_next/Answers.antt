-- There is a noted group, for the last is; what lies before it is turns at which nothing goes on. Assumes nothing.
use Prim.Native.Nat.{◌+◌, ◌/◌, ◌≤◌}
use native.Mathlib.Numerals.{add-one}
use native.Mathlib.Omega.{arith}
use Rattle.rules.proofs.Samples.{accepted_recording}
use Rattle.list.proofs.Groups.{from-high, to_high, run_asks, written}
use Rattle.list.proofs.write_next.Goals.{After-next_group-from, After-next_group-to, Start}
use Rattle.list.proofs.write_next.Goals as goal

few : (c : Start) → c.args.recording.now.halves ≤ 100000
few c = omega (arith, c.args.recording.now.counted, (accepted_recording _ _ c.requires.accepted).few)

begin-high : (c : After-next_group-from) → c.next_group-from.result ≤ c.args.recording.now.halves / 4
begin-high c = from-high c.requires _ (add-one _) _ c.next_group-from.ensures

end_high : (c : After-next_group-to) → c.next_group-to.result ≤ c.args.recording.now.halves / 4 + 1
end_high c = to_high c.requires _ (add-one _) _ c.next_group-from.ensures _ c.next_group-to.ensures

pub next_group-to-requires : goal.next_group-to-requires
next_group-to-requires c = (omega (arith, begin-high c), omega (arith, few (goal.at.next_group-to-requires c).Start))

pub overflow_mul-to : goal.overflow_mul-to
overflow_mul-to c = omega (arith, end_high (goal.at.overflow_mul-to c).After-next_group-to, few (goal.at.overflow_mul-to c).Start)

pub overflow_mul-from : goal.overflow_mul-from
overflow_mul-from c = omega (arith, begin-high (goal.at.overflow_mul-from c).After-next_group-from, few (goal.at.overflow_mul-from c).Start)

pub write_run-requires : goal.write_run-requires
write_run-requires c =
    run_asks c.requires _ (add-one _) _ c.next_group-from.ensures _ c.next_group-to.ensures _ c.min-end.ensures _ c.rest-calm.ensures

pub returns : goal.returns
returns c =
    written c.requires _ (add-one _) _ c.next_group-from.ensures _ c.next_group-to.ensures _ c.min-end.ensures _ c.rest-calm.ensures
    _ _ _ c.write_run.ensures.value c.write_run.ensures.out_after
