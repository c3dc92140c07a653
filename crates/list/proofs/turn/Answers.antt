-- The level is computed once, and each visit asks what the pass holds of its kind; the three visits make the turn. Assumes nothing.
use Prim.Native.Nat.{◌+◌, ◌≤◌}
use mathlib.Core.Path.{◌≡◌, refl, ap, ◌∙◌}
use native.Mathlib.Omega.{arith}
use Rattle.rules.specs.Halves.{half_at}
use Rattle.rules.proofs.Ranges.{good}
use Rattle.rules.proofs.Samples.{accepted_recording}
use Rattle.kinds.specs.declared.Thresholds.{Thresholds}
use Rattle.kinds.specs.Machine.{level_of}
use Rattle.kinds.proofs.Machine.{level_is}
use Rattle.kinds.proofs.Limits.{marked, few-half}
use Rattle.list.proofs.Turns.{visited-few, visits, turn_made, turn_out}
use Rattle.list.proofs.turn.Goals.{After-level-l, After-visit-a, After-visit-b}
use Rattle.list.proofs.turn.Goals as goal

-- the level is that of the half-cycle
level : (c : After-level-l)
    → let r = c.args.recording.now in c.level-l.result ≡ level_of r.settings (half_at r.settings r.samples.now c.args.k)
level c = level_is _ _ _ _ _ c.args.recording.now.marked c.requires.half_is c.level-l.ensures

-- and that it gives out one slot at the most
few : (c : After-visit-a) → c.visit-a.result.n ≤ c.args.p.n + 1
few c = visited-few _ _ _ _ _ _ _ c.visit-a.ensures.value

few-2 : (c : After-visit-b) → c.visit-b.result.n ≤ c.args.p.n + 2
few-2 c = omega (arith, visited-few _ _ _ _ _ _ _ c.visit-b.ensures.value, visited-few _ _ _ _ _ _ _ c.visit-a.ensures.value)

pub level-l-requires : goal.level-l-requires
level-l-requires c =
    let v = c.requires in
    let r = c.args.recording.now in
    let g = good _ r.good in
    (rw r.marked (marked _ g), rw v.half_is (few-half _ _ g (accepted_recording _ _ v.accepted) _))

pub visit-a-requires : goal.visit-a-requires
visit-a-requires c =
    visits c.requires (level (goal.at.visit-a-requires c).After-level-l) (ap (λ (m : Thresholds). m.sag) c.args.recording.now.marked) c.requires.ready.sag (omega arith) refl

pub visit-b-requires : goal.visit-b-requires
visit-b-requires c =
    visits c.requires (level (goal.at.visit-b-requires c).After-level-l) (ap (λ (m : Thresholds). m.interruption) c.args.recording.now.marked) c.requires.ready.interruption
    (omega (arith, few (goal.at.visit-b-requires c).After-visit-a)) c.visit-a.auto.out

pub visit-c-requires : goal.visit-c-requires
visit-c-requires c =
    visits c.requires (level (goal.at.visit-c-requires c).After-level-l) (ap (λ (m : Thresholds). m.swell) c.args.recording.now.marked) c.requires.ready.swell (few-2 (goal.at.visit-c-requires c).After-visit-b)
    (c.visit-b.auto.out ∙ c.visit-a.auto.out)

pub returns-clause-value : goal.returns-clause-value
returns-clause-value c =
    let t = c.requires in
    let l = level (goal.at.returns-clause-value c).After-level-l in rw c.is_some.ensures (turn_made t l c.visit-a.ensures.value c.visit-b.ensures.value c.visit-c.ensures.value)

pub returns-clause-out_after : goal.returns-clause-out_after
returns-clause-out_after c =
    let t = c.requires in
    let l = level (goal.at.returns-clause-out_after c).After-level-l in turn_out t l _ _ _ _ c.visit-a.ensures.out_after c.visit-b.ensures.out_after c.visit-c.ensures.out_after
