-- The laws of surveying on, where all is passed over and where the machine takes a half-cycle. Assumes nothing.
use Prim.Native.Nat.{◌+◌, ◌<◌}
use mathlib.Core.Path.{◌≡◌}
use native.Mathlib.Omega.{arith}
use Rattle.rules.specs.Halves.{half_at}
use Rattle.checks.specs.Flags.{as_read}
use Rattle.halves.specs.Steps.{step_at}
use Rattle.survey.proofs.Surveying.{Stops, standing, low, high, ask_over, surveyed_all, ask_check, step-sums, next-sums, half_is, ask_turn, surveyed_one}
use Rattle.survey.proofs.survey_next.Goals.{After-calm_from-calm, After-joined-half, Else-k-recording}
use Rattle.survey.proofs.survey_next.Goals as goal

stop : (c : After-calm_from-calm) → Stops c.args.recording.now c.args.on c.calm_from-calm.result.k
stop c = rw c.is_open.ensures at c.calm_from-calm.ensures.k_is

-- past the test there is a half-cycle for the machine
inside : (c : Else-k-recording) → c.calm_from-calm.result.k < c.args.recording.now.halves
inside c =
    let v = c.requires in
    omega (arith, high v.0 v.1 v.2 _ (stop (goal.at.Else-k-recording c).After-calm_from-calm), c.if-k-recording.false)

-- and its second step is at hand
next : (c : Else-k-recording)
    → let r = c.args.recording.now in c.calm_from-calm.result.next ≡ step_at r.settings r.samples.now (c.calm_from-calm.result.k + 1)
next c = c.calm_from-calm.ensures.next (inside c)

half : (c : After-joined-half)
    → let r = c.args.recording.now in c.joined-half.result ≡ half_at r.settings (as_read r.samples.now) c.calm_from-calm.result.k
half c =
    let v = c.requires in
    let e = c.calm_from-calm.ensures in
    half_is v.0 v.1 v.2 _ (stop (goal.at.After-joined-half c).After-calm_from-calm) (inside (goal.at.After-joined-half c).Else-k-recording) _ _ _ e.step (next (goal.at.After-joined-half c).Else-k-recording) c.joined-half.ensures

pub calm_from-calm-requires : goal.calm_from-calm-requires
calm_from-calm-requires c = let v = c.requires in (standing v.0 v.1 v.2, v.1)

pub overflow_sub-k : goal.overflow_sub-k
overflow_sub-k c = let v = c.requires in low v.0 v.1 v.2 _ (stop (goal.at.overflow_sub-k c).After-calm_from-calm)

pub pass_over-survey-requires : goal.pass_over-survey-requires
pass_over-survey-requires c = let v = c.requires in ask_over v.0 v.1 v.2 _ (stop (goal.at.pass_over-survey-requires c).After-calm_from-calm)

pub returns-then-k-recording : goal.returns-then-k-recording
returns-then-k-recording c =
    let v = c.requires in
    surveyed_all v.0 v.1 v.2 _ (stop (goal.at.returns-then-k-recording c).After-calm_from-calm) _ c.pass_over-survey.ensures _ c.calm_from-calm.ensures.step c.if-k-recording.true

pub overflow_add-k : goal.overflow_add-k
overflow_add-k c = omega (arith, inside (goal.at.overflow_add-k c).Else-k-recording)

pub check_step-requires : goal.check_step-requires
check_step-requires c =
    let v = c.requires in
    let at = (goal.at.check_step-requires c).Else-k-recording in
    ask_check v.0 v.1 v.2 _ (stop (goal.at.check_step-requires c).After-calm_from-calm) (inside at) _ (next at)

pub joined-half-requires : goal.joined-half-requires
joined-half-requires c =
    let v = c.requires in
    let at = (goal.at.joined-half-requires c).Else-k-recording in
    let is = stop (goal.at.joined-half-requires c).After-calm_from-calm in
    (step-sums v.0 v.1 v.2 _ is (inside at) _ c.calm_from-calm.ensures.step, next-sums v.0 v.1 v.2 _ is (inside at) _ (next at))

pub survey_turn-requires : goal.survey_turn-requires
survey_turn-requires c =
    let v = c.requires in
    ask_turn v.0 v.1 v.2 _ (stop (goal.at.survey_turn-requires c).After-calm_from-calm) _ c.pass_over-survey.ensures (inside (goal.at.survey_turn-requires c).Else-k-recording) _ (half (goal.at.survey_turn-requires c).After-joined-half)

pub overflow_add-result : goal.overflow_add-result
overflow_add-result c = omega (arith, inside (goal.at.overflow_add-result c).Else-k-recording)

pub returns : goal.returns
returns c =
    let v = c.requires in
    let at = (goal.at.returns c).Else-k-recording in
    surveyed_one v.0 v.1 v.2 _ (stop (goal.at.returns c).After-calm_from-calm) _ c.pass_over-survey.ensures (inside at) _ (half (goal.at.returns c).After-joined-half) _ _ _
    c.survey_turn.ensures.value c.survey_turn.ensures.cells_after (next at) c.in_ok-check_step.ensures
