-- The laws of counting on, where all is passed over and where the machine takes a half-cycle. Assumes nothing.
use Rattle.std.proofs.Common.{◌≡◌, ◌+◌, ◌<◌, cond, arith}
use Rattle.rules.specs.Halves.{Half, half_at}
use Rattle.checks.specs.Flags.{as_read}
use Rattle.halves.specs.Steps.{step_at, joined_of}
use Rattle.quiet.specs.Quiet.{quiet_till}
use Rattle.counts.specs.Counting.{going_on}
use Rattle.counts.proofs.Counting.{high, next_ranged, counted_all, step-sums, next-sums, half_is, ask_turn, counted_one}
use Rattle.counts.proofs.count_next.Goals.{After-calm_from-calm, Else-k-recording}
use Rattle.counts.proofs.count_next.Goals as goal

-- where the quiet half-cycles end
stop_is : (c : After-calm_from-calm)
    → let r = c.args.recording.now in c.calm_from-calm.result.k ≡ cond (going_on c.args.t) c.args.from (quiet_till r.settings r.samples.now c.args.from r.halves)
stop_is c = rw c.any.ensures at c.calm_from-calm.ensures.k_is

-- past the test there is a half-cycle for the machine
inside : (c : Else-k-recording) → c.calm_from-calm.result.k < c.args.recording.now.halves
inside c = omega (arith, high c.requires _ (stop_is c.before.before.before), c.if-k-recording.false)

-- and its second step is at hand
next : (c : Else-k-recording)
    → let r = c.args.recording.now in c.calm_from-calm.result.next ≡ step_at r.settings r.samples.now (c.calm_from-calm.result.k + 1)
next c = c.calm_from-calm.ensures.next (inside c)

-- which makes the half-cycle that the machine takes
half : (c : Else-k-recording) (v : Half) → v ≡ joined_of c.calm_from-calm.result.step c.calm_from-calm.result.next
    → let r = c.args.recording.now in v ≡ half_at r.settings (as_read r.samples.now) c.calm_from-calm.result.k
half c v e = half_is c.requires _ (stop_is c.before.before.before) (inside c) _ _ v c.calm_from-calm.ensures.step (next c) e

pub returns-then-k-recording : goal.returns-then-k-recording
returns-then-k-recording c = counted_all c.requires _ (stop_is (goal.at.returns-then-k-recording c).After-calm_from-calm) _ c.calm_from-calm.ensures.step c.if-k-recording.true

pub overflow_add-k : goal.overflow_add-k
overflow_add-k c = omega (arith, inside (goal.at.overflow_add-k c).Else-k-recording)

pub overflow_add-result : goal.overflow_add-result
overflow_add-result c = omega (arith, inside (goal.at.overflow_add-result c).Else-k-recording)

pub check_step-requires : goal.check_step-requires
check_step-requires c =
    let e = (goal.at.check_step-requires c).Else-k-recording in
    (omega (arith, inside e), next e, next_ranged c.requires _ (stop_is (goal.at.check_step-requires c).After-calm_from-calm))

pub joined-requires : goal.joined-requires
joined-requires c =
    let e = (goal.at.joined-requires c).Else-k-recording in
    let is = stop_is (goal.at.joined-requires c).After-calm_from-calm in
    (step-sums c.requires _ is (inside e) _ c.calm_from-calm.ensures.step, next-sums c.requires _ is (inside e) _ (next e))

pub count_turn-requires : goal.count_turn-requires
count_turn-requires c =
    let e = (goal.at.count_turn-requires c).Else-k-recording in
    ask_turn c.requires _ (stop_is (goal.at.count_turn-requires c).After-calm_from-calm) (inside e) _ (half e _ c.joined.ensures)

pub returns : goal.returns
returns c =
    let e = (goal.at.returns c).Else-k-recording in
    counted_one c.requires _ (stop_is (goal.at.returns c).After-calm_from-calm) (inside e) _ _ _ (half e _ c.joined.ensures) c.count_turn.ensures (next e)
    c.in_ok-check_step.ensures
