-- The two laws of a step looked at. Assumes nothing.
use mathlib.Core.Path.{sym, ◌∙◌}
use Rattle.halves.proofs.Looked.{begins_within, clear_next, bad_here}
use Rattle.halves.proofs.Recording.check_step.Goals as goal

pub bad_sample-requires : goal.bad_sample-requires
bad_sample-requires c = let v = c.requires in (begins_within c.args.self.now v.0 v.2, v.2)

pub returns-then-step_in_range : goal.returns-then-step_in_range
returns-then-step_in_range c =
    let v = c.requires in clear_next c.args.self.now v.0 v.2 (sym c.step_in_range.ensures ∙ c.if-step_in_range.true)

pub returns-else-step_in_range : goal.returns-else-step_in_range
returns-else-step_in_range c =
    let v = c.requires in bad_here c.args.self.now v.0 v.2 (sym c.step_in_range.ensures ∙ c.if-step_in_range.false) _ c.bad_sample.ensures
