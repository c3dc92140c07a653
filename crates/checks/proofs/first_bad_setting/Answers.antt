-- Each return is the case of the definition that its tests pick. Assumes nothing.
use Rattle.rules.specs.Recorder.{bad_setting, settings_good}
use Rattle.checks.proofs.first_bad_setting.Goals as goal

pub returns-then-not-n : goal.returns-then-not-n
unfolding bad_setting settings_good
returns-then-not-n c = rw c.if-not-n.true-raw

pub returns-then-not-r : goal.returns-then-not-r
unfolding bad_setting settings_good
returns-then-not-r c = rw (c.if-not-n.false-raw, c.if-not-r.true-raw)

pub returns-then-not-f : goal.returns-then-not-f
unfolding bad_setting settings_good
returns-then-not-f c = rw (c.if-not-n.false-raw, c.if-not-r.false-raw, c.if-not-f.true-raw)

pub returns-then-not-sag : goal.returns-then-not-sag
unfolding bad_setting settings_good
returns-then-not-sag c = rw (c.if-not-n.false-raw, c.if-not-r.false-raw, c.if-not-f.false-raw, c.if-not-sag.true-raw)

pub returns-then-not-interruption : goal.returns-then-not-interruption
unfolding bad_setting settings_good
returns-then-not-interruption c = rw (c.if-not-n.false-raw, c.if-not-r.false-raw, c.if-not-f.false-raw, c.if-not-sag.false-raw, c.if-not-interruption.true-raw)

pub returns-then-not-swell : goal.returns-then-not-swell
unfolding bad_setting settings_good
returns-then-not-swell c = rw (c.if-not-n.false-raw, c.if-not-r.false-raw, c.if-not-f.false-raw, c.if-not-sag.false-raw, c.if-not-interruption.false-raw, c.if-not-swell.true-raw)

pub returns-then-not-hysteresis : goal.returns-then-not-hysteresis
unfolding bad_setting settings_good
returns-then-not-hysteresis c = rw (c.if-not-n.false-raw, c.if-not-r.false-raw, c.if-not-f.false-raw, c.if-not-sag.false-raw, c.if-not-interruption.false-raw, c.if-not-swell.false-raw, c.if-not-hysteresis.true-raw)

pub returns : goal.returns
unfolding bad_setting settings_good
returns c = rw (c.if-not-n.false-raw, c.if-not-r.false-raw, c.if-not-f.false-raw, c.if-not-sag.false-raw, c.if-not-interruption.false-raw, c.if-not-swell.false-raw, c.if-not-hysteresis.false-raw)
