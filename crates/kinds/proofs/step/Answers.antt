-- Each return is one of the cases of a step: closed, or carried on, lasting or launched. Assumes nothing.
use Rattle.std.proofs.Common.{◌≡◌, true, is_some, sym, ap, ◌∙◌}
use Rattle.kinds.specs.Machine.{goes_by, carried, step_by}
use Rattle.kinds.proofs.Machine.{step-closed, step-made}
use Rattle.kinds.proofs.step.Goals.{Else-not-goes_on}
use Rattle.kinds.proofs.step.Goals as goal

-- past the first test the kind goes on
goes : (c : Else-not-goes_on) → let a = c.args in goes_by a.kind a.m (is_some a.was) a.level ≡ true
goes c =
    let a = c.args in
    ap (λ b. goes_by a.kind a.m b a.level) (sym c.is_some.ensures) ∙ sym c.goes_on.ensures ∙ c.if-not-goes_on.false

pub returns-then-not-goes_on : goal.returns-then-not-goes_on
returns-then-not-goes_on c =
    let a = c.args in
    sym (step-closed a.kind a.m a.seen a.k a.was a.level (ap (λ b. goes_by a.kind a.m b a.level) (sym c.is_some.ensures) ∙ sym c.goes_on.ensures ∙ c.if-not-goes_on.true))

pub returns-in_err-l : goal.returns-in_err-l
unfolding step_by
returns-in_err-l c = rw c.in_err-l.was c.from_residual.ensures

pub returns-in-Some : goal.returns-in-Some
returns-in-Some c =
    let a = c.args in
    step-made a.kind a.m a.seen a.k a.was a.level c.in_ok-l.l c.last.result c.in_ok-l.was (goes (goal.at.returns-in-Some c).Else-not-goes_on)
    (c.last.ensures ∙ ap (λ o. carried a.kind a.seen a.k o c.in_ok-l.l) (sym c.in-Some.is))

pub returns-in-None : goal.returns-in-None
returns-in-None c =
    let a = c.args in
    step-made a.kind a.m a.seen a.k a.was a.level c.in_ok-l.l c.launch.result c.in_ok-l.was (goes (goal.at.returns-in-None c).Else-not-goes_on)
    (c.launch.ensures ∙ ap (λ o. carried a.kind a.seen a.k o c.in_ok-l.l) (sym c.in-None.is))
