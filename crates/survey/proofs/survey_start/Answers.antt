-- Before half-cycle 0 nothing is counted, and step 0 has been looked at. Assumes nothing.
use Rattle.survey.proofs.Tables.{start_reached}
use Rattle.survey.proofs.survey_start.Goals as goal

pub returns : goal.returns
returns c = start_reached c.args.recording.now _ _ c.start_survey.ensures c.step_at-step.ensures c.in_ok-check_step.ensures
