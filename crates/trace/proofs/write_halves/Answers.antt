-- The invariant: the kinds are those of the half-cycle before k, the step is that of k, and the run has the numbers of the half-cycles
-- before k over its front. Assumes nothing.
use Rattle.std.proofs.Common.{◌≡◌, ℕ, ◌+◌, ◌≤◌, ◌<◌, List, refl, ap, ◌∙◌, add-one, arith, ℤ}
use Rattle.rules.specs.Halves.{Half, half_at, halves_of}
use Rattle.rules.specs.Trace.{trace_of}
use Rattle.rules.specs.Refusals.{over}
use Rattle.rules.specs.Demands.{Good}
use Rattle.rules.proofs.Ranges.{good}
use Rattle.rules.proofs.Samples.{accepted_recording}
use Rattle.checks.proofs.Reading.{accepted_itself}
use Rattle.halves.specs.Steps.{step_at, joined_of, Addable}
use Rattle.halves.specs.declared.Recording.{Recording}
use Rattle.halves.proofs.Steps.{step_addable, half_of_steps}
use Rattle.kinds.proofs.Limits.{marked, few-half}
use Rattle.kinds.proofs.Followed.{inside_start, inside_next}
use Rattle.tell.specs.Telling.{Tellable}
use Rattle.trace.specs.Pass.{told_below, Writable}
use Rattle.trace.proofs.Runs.{told-next}
use Rattle.trace.proofs.write_halves.Goals as goal

-- a half-cycle that exists
module _ {r : Recording} {room : ℕ} (w : Writable r room) (k : ℕ) (inside : k < r.halves) where
  g : Good r.settings
  g = good r.settings r.good

  half_is : (step next half : Half) → step ≡ step_at r.settings r.samples.now k → next ≡ step_at r.settings r.samples.now (k + 1) → half ≡ joined_of step next
      → half ≡ half_at r.settings r.samples.now k
  half_is step next half e f i =
      i ∙ rw (e, f, add-one) (half_of_steps r.settings r.samples.now g r.shaped k (omega (arith, inside, r.counted)))
      ∙ ap (λ (ys : List ℤ). half_at r.settings ys k) (accepted_itself r.settings r.samples.now w.accepted)

  tellable : (half : Half) (room' : ℕ) → half ≡ half_at r.settings r.samples.now k → room' ≡ room → Tellable r.thresholds half k room'
  tellable half room' e f =
      let ok = accepted_recording r.settings r.samples.now w.accepted in
      record {
        marked = rw r.marked (marked r.settings g);
        few = rw e (few-half r.settings r.samples.now g ok k);
        high = omega (arith, inside, r.counted, ok.few);
        fits = omega (arith, f, inside, w.enough);
      }

pub loop-k-init : goal.loop-k-init
loop-k-init c = (c.none-inside.ensures ∙ inside_start _ _, c.step_at-step.ensures, refl)

pub joined-requires : goal.joined-requires
joined-requires c =
    let r = c.args.recording.now in
    let l = c.loop-k in
    let addable : (j : ℕ) → j ≤ r.halves → Addable (step_at r.settings r.samples.now j) = λ j m. step_addable _ _ (good _ r.good) r.shaped j (omega (arith, m, r.counted)) in
    (rw l.invariant.1 (addable _ (omega (arith, c.loop-k-test.true))), rw c.step_at-next.ensures (addable _ (omega (arith, c.loop-k-test.true))))

pub tell-inside-requires : goal.tell-inside-requires
tell-inside-requires c =
    let l = c.loop-k in
    let m : c.loop-k.k < c.args.recording.now.halves = omega (arith, c.loop-k-test.true) in
    tellable c.requires _ m _ _ (half_is c.requires _ m _ _ _ l.invariant.1 c.step_at-next.ensures c.joined.ensures) l.auto.out

pub loop-k-preserved : goal.loop-k-preserved
loop-k-preserved c =
    let r = c.args.recording.now in
    let l = c.loop-k in
    let m : c.loop-k.k < c.args.recording.now.halves = omega (arith, c.loop-k-test.true) in
    let here = half_is c.requires _ m _ _ _ l.invariant.1 c.step_at-next.ensures c.joined.ensures in (
      inside_next _ _ _ _ _ _ _ r.marked l.invariant.0 here c.tell-inside.ensures.value,
      c.step_at-next.ensures,
      told-next _ _ _ _ _ _ _ _ _ r.marked l.invariant.0 here (omega (arith, m, c.requires.enough)) l.invariant.2 c.tell-inside.ensures.out_after,
    )

pub returns : goal.returns
unfolding trace_of
returns c =
    let r = c.args.recording.now in
    let all : c.loop-k.k ≡ halves_of r.settings r.samples.now = omega (arith, c.loop-k-test.false, c.loop-k.auto.k-end, r.counted) in
    c.loop-k.invariant.2 ∙ ap (λ (k : ℕ). over (told_below r.settings r.samples.now k) c.args.out.now) all
