-- Each callee takes its part of the state one half-cycle on, and together they are the definition. Assumes nothing.
use Rattle.std.specs.Prelude.{Option, is_some, IfSome}
use Prim.Native.Nat.{ℕ}
use mathlib.Core.Path.{◌≡◌}
use mathlib.Core.List.{List}
use Rattle.rules.specs.declared.Settings.{Settings}
use Rattle.rules.specs.Halves.{Half}
use Rattle.kinds.specs.declared.Thresholds.{Thresholds}
use Rattle.kinds.specs.declared.Level.{Level}
use Rattle.kinds.specs.declared.Open.{Open}
use Rattle.kinds.specs.Machine.{level_from, Light}
use Rattle.ledger.specs.declared.Track.{Track}
use Rattle.ledger.specs.declared.Classes.{Classes}
use Rattle.ledger.specs.declared.Starts.{Starts}
use Rattle.ledger.specs.declared.Landed.{Landed}
use Rattle.ledger.specs.declared.Survey.{Survey}
use Rattle.ledger.specs.Entries.{tracked_by, going_on, classed_by, started_by, ended_by, landed_by, cells_by, surveyed_by, cells_turned, Landable, Turnable}
use Rattle.ledger.proofs.survey_turn.Goals as goal

module _ (m : Thresholds) (v : Half) (p : Survey) (k : ℕ) (l : Option Level) (l_is : l ≡ level_from m.full m.sag.from v) where
  ask_follow : (s : Settings) (set : ℕ) (cs : List ℕ) → Turnable s set m v p k cs → IfSome p.track.sag (λ o. Light o.short) × IfSome l (λ l. Light l.short)
  ask_follow s set cs t = rw l_is t.follow

  module _ (is : Track) (followed : is ≡ tracked_by m k p.track l) (ends : Option Open) (ended-is : ends ≡ ended_by p.track.sag is.sag) where
    ask_land : (s : Settings) (set : ℕ) (cs : List ℕ) → Turnable s set m v p k cs → IfSome ends (λ o. Landable s set p.landed o k cs)
    ask_land s set cs t = rw (ended-is, followed, l_is) t.landable

    turned : (c : Classes) (b : Starts) (d : Landed) → c ≡ classed_by p.classes (is_some l) (going_on is) → b ≡ started_by p.starts p.track is
        → d ≡ landed_by p.landed ends (is_some l)
        → ◌≡◌ {A = Survey} (record { track = is; classes = c; starts = b; landed = d }) (surveyed_by m v p k)
    unfolding surveyed_by
    turned c b d e f g = rw (e, f, g, ended-is, followed, l_is)

    turned-cells : (s : Settings) (set : ℕ) (cs cs' : List ℕ) → cs' ≡ cells_by s set ends k (is_some l) cs
        → cs' ≡ cells_turned s set m v p k cs
    unfolding cells_turned
    turned-cells s set cs cs' e = rw (e, ended-is, followed, l_is)

pub returns-clause-value : goal.returns-clause-value
returns-clause-value c =
    turned _ _ _ _ _ c.level-level.ensures _ c.follow-is.ensures _ c.ended.ensures _ _ _
    (rw (c.is_open.ensures, c.is_some-known.ensures) at c.classify.ensures) c.count_starts.ensures (rw c.is_some-known.ensures at c.land.ensures.value)

pub returns-clause-cells_after : goal.returns-clause-cells_after
returns-clause-cells_after c =
    turned-cells _ _ _ _ _ c.level-level.ensures _ c.follow-is.ensures _ c.ended.ensures _ _ _ _ (rw c.is_some-known.ensures at c.land.ensures.cells_after)
