-- `site::is_unsound` meets its contract: a set that does not fit breaks a condition of a sound table, and else the counts decide.
-- Assumes nothing.
use mathlib.Core.Path.{sym, ◌∙◌}
use Rattle.site.proofs.Counts.{set-bad}
use Rattle.site.proofs.is_unsound.Goals as goal

pub returns-then-not-set_fits : goal.returns-then-not-set_fits
returns-then-not-set_fits c =
    let t = c.args.t in
    set-bad t (sym (c.set_fits.ensures t.settings) ∙ c.if-not-set_fits.true)

pub miscounted-requires : goal.miscounted-requires
miscounted-requires c =
    let t = c.args.t in
    sym (c.set_fits.ensures t.settings) ∙ c.if-not-set_fits.false
