-- A refusal is that of the checks, and nothing is written. Assumes nothing.
use Rattle.std.specs.Prelude.{Err}
use Rattle.std.proofs.Common.{ap, ◌∙◌}
use Rattle.std.proofs.lemmas.Result.{err_from_is_err_and}
use Rattle.trace.proofs.Answers.{trace-turned, run-turned}
use Rattle.trace.proofs.trace.Goals as goal

pub returns-in_err-recording-clause-value : goal.returns-in_err-recording-clause-value
returns-in_err-recording-clause-value c =
    let p = err_from_is_err_and c.from_residual.result c.from_residual.ensures.1 in
    p.1 ∙ ap Err p.2 ∙ trace-turned _ _ _ c.args.out.now c.in_err-recording.ensures

pub returns-in_err-recording-clause-out_after : goal.returns-in_err-recording-clause-out_after
returns-in_err-recording-clause-out_after c = run-turned _ _ _ c.args.out.now c.in_err-recording.ensures
