-- The settings are good where no bad one is found. Assumes nothing.
use native.Mathlib.Omega.{arith}
use Rattle.std.proofs.lemmas.Grind.{common_steps}
use Rattle.rules.specs.Refusals.{settings_check}
use Rattle.checks.proofs.check_settings.Goals as goal

pub returns-in-None : goal.returns-in-None
unfolding settings_check
returns-in-None c = grind (arith, common_steps, c.first_bad_setting.ensures, c.in-None.is)

pub returns-in-Some : goal.returns-in-Some
unfolding settings_check
returns-in-Some c = grind (arith, common_steps, c.first_bad_setting.ensures, c.in-Some.is)
