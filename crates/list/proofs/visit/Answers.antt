-- The kind was in an event or not, and is in one or not: each return is the law of its case. Assumes nothing.
use Rattle.std.specs.Prelude.{◌≡◌}
use Rattle.std.proofs.Common.{rules}
use mathlib.Core.Path.{◌∙◌}
use native.Mathlib.Omega.{arith}
use Rattle.list.specs.Listing.{going}
use Rattle.list.proofs.Visits.{step-ready, finish_ready, made, lasts_out, ended_out, rests_out}
use Rattle.list.proofs.visit.Goals.{After-map}
use Rattle.list.proofs.visit.Goals as goal

-- the event that goes into the step
was : (c : After-map) → c.map.result ≡ going c.args.was
was c = search rules

pub step-is-requires : goal.step-is-requires
step-is-requires c = step-ready c.requires (was c)

pub finish-e-requires : goal.finish-e-requires
finish-e-requires c =
    let v = c.requires in (v.accepted, finish_ready v c.in-Some-None.is-0)

pub returns-in-Some-Some-clause-value : goal.returns-in-Some-Some-clause-value
returns-in-Some-Some-clause-value c =
    let t = c.in-Some-Some in
    made c.requires (was (goal.at.returns-in-Some-Some-clause-value c).After-map) c.step-is.ensures _ _ _ t.is-0 t.is-1 (omega arith)

pub returns-in-Some-Some-clause-out_after : goal.returns-in-Some-Some-clause-out_after
returns-in-Some-Some-clause-out_after c =
    let t = c.in-Some-Some in
    lasts_out c.requires (was (goal.at.returns-in-Some-Some-clause-out_after c).After-map) c.step-is.ensures t.is-0 t.is-1 _

pub returns-in-Some-None-clause-value : goal.returns-in-Some-None-clause-value
returns-in-Some-None-clause-value c =
    let t = c.in-Some-None in
    made c.requires (was (goal.at.returns-in-Some-None-clause-value c).After-map) c.step-is.ensures _ _ _ t.is-0 t.is-1 (omega arith)

pub returns-in-Some-None-clause-out_after : goal.returns-in-Some-None-clause-out_after
returns-in-Some-None-clause-out_after c =
    let t = c.in-Some-None in
    let e = c.finish-e.ensures in
    c.put.ensures
    ∙ ended_out c.requires (was (goal.at.returns-in-Some-None-clause-out_after c).After-map) c.step-is.ensures t.is-0 t.is-1 _ _ (rw c.is_some.ensures at e)

pub returns-in-None-Some-clause-value : goal.returns-in-None-Some-clause-value
returns-in-None-Some-clause-value c =
    let t = c.in-None-Some in
    made c.requires (was (goal.at.returns-in-None-Some-clause-value c).After-map) c.step-is.ensures _ _ _ t.is-0 t.is-1 (omega arith)

pub returns-in-None-Some-clause-out_after : goal.returns-in-None-Some-clause-out_after
returns-in-None-Some-clause-out_after c =
    rests_out c.requires c.in-None-Some.is-0 _

pub returns-in-None-None-clause-value : goal.returns-in-None-None-clause-value
returns-in-None-None-clause-value c =
    let t = c.in-None-None in
    made c.requires (was (goal.at.returns-in-None-None-clause-value c).After-map) c.step-is.ensures _ _ _ t.is-0 t.is-1 (omega arith)

pub returns-in-None-None-clause-out_after : goal.returns-in-None-None-clause-out_after
returns-in-None-None-clause-out_after c =
    rests_out c.requires c.in-None-None.is-0 _
