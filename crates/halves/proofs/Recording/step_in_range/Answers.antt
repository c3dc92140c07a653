-- A known step has no sample outside the limits; an unknown one is looked at again. Assumes nothing.
use Rattle.std.proofs.Common.{sym, ap, ◌∙◌, arith, is_some}
use Rattle.rules.proofs.Ranges.{good}
use Rattle.halves.proofs.Steps.{known_step}
use Rattle.halves.proofs.Recording.step_in_range.Goals as goal

pub returns-then-is_some : goal.returns-then-is_some
returns-then-is_some c =
    let r = c.args.self.now in
    let e = c.if-is_some.true in
    e ∙ sym (known_step _ _ (good _ r.good) r.shaped _ (omega (arith, r.counted, c.requires.0)) (ap is_some (sym c.requires.1) ∙ sym c.is_some.ensures ∙ e))
