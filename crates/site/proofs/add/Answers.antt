-- `site::add` meets its contract. Each return is the case that its test picks: unsound, turned away for its length, or handed on.
-- Assumes nothing.
use mathlib.Core.Path.{sym, ap, ◌∙◌}
use Rattle.rules.specs.Refusals.{added}
use Rattle.rules.proofs.Soundness.{sound-parts}
use Rattle.site.proofs.Counts.{add_unsound, add_unshaped}
use Rattle.site.proofs.add.Goals as goal

pub returns-then-is_unsound : goal.returns-then-is_unsound
returns-then-is_unsound c = c.turned_away.ensures ∙ add_unsound _ _ (sym c.is_unsound.ensures ∙ c.if-is_unsound.true)

pub with_good_settings-requires : goal.with_good_settings-requires
with_good_settings-requires c = (sound-parts _ (sym c.is_unsound.ensures ∙ c.if-is_unsound.false)).good-settings

pub add_shaped-requires : goal.add_shaped-requires
add_shaped-requires c = (sym c.is_unsound.ensures ∙ c.if-is_unsound.false, c.in-Ok.ensures.0)

pub returns-in-Ok : goal.returns-in-Ok
returns-in-Ok c = c.add_shaped.ensures ∙ ap (added c.args.t) c.in-Ok.ensures.1

pub returns-in-Err : goal.returns-in-Err
returns-in-Err c = c.turned_away-in-Err.ensures ∙ add_unshaped _ _ (sym c.is_unsound.ensures ∙ c.if-is_unsound.false) _ c.in-Err.ensures
