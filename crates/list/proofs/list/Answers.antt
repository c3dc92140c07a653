-- A recording that is refused is refused by the list, and nothing is written. Assumes nothing.
use Rattle.std.specs.Prelude.{Err}
use Rattle.std.proofs.lemmas.Result.{err_from_is_err_and}
use mathlib.Core.Path.{ap, ◌∙◌}
use Rattle.list.proofs.Answers.{list-turned, run-turned}
use Rattle.list.proofs.list.Goals as goal

pub returns-in_err-recording-clause-value : goal.returns-in_err-recording-clause-value
returns-in_err-recording-clause-value c =
    let p = err_from_is_err_and c.from_residual.result c.from_residual.ensures.1 in
    p.1 ∙ ap Err p.2 ∙ list-turned _ _ _ _ c.in_err-recording.ensures

pub returns-in_err-recording-clause-out_after : goal.returns-in_err-recording-clause-out_after
returns-in_err-recording-clause-out_after c = run-turned _ _ _ _ c.in_err-recording.ensures
