-- The invariant: the pass and the run are what the turns from the first half-cycle on make of them, and the step is that of k. Assumes
-- nothing.
use Prim.Native.Nat.{◌-◌, ◌≤◌}
use mathlib.Core.Path.{sym, ap, ◌∙◌}
use native.Mathlib.Omega.{arith}
use lib.ListN.{length}
use Rattle.list.proofs.Turns.{turns_start, outs_start, pass-more, out-more, ready_here}
use Rattle.list.proofs.Writing.{outs_length}
use Rattle.list.proofs.write_run.Goals.{In-loop-k}
use Rattle.list.proofs.write_run.Goals as goal

inside : (t : In-loop-k) → t.loop-k.k ≤ t.args.recording.now.halves
inside t = omega (arith, t.loop-k-test.true, t.requires.high)

pub step_at-step-requires : goal.step_at-step-requires
step_at-step-requires c =
    omega (arith, c.requires.some, c.requires.high)

pub loop-k-init : goal.loop-k-init
loop-k-init c =
    (sym (turns_start _ _ _ _), sym (outs_start _ _ _ _ _), λ l. c.step_at-step.ensures)

pub turn-pass-requires : goal.turn-pass-requires
turn-pass-requires c =
    let v = c.requires in
    let l = c.loop-k in
    record {
      accepted = v.accepted;
      half_is = c.read_half-read.ensures.0;
      high = inside (goal.at.turn-pass-requires c).In-loop-k;
      ready = ready_here _ _ _ _ _ _ _ _ (omega arith) l.invariant.0 (ap length l.invariant.1 ∙ outs_length _ _ _ _ _ _) (v.ready (l.k - c.args.from) (omega (arith, c.loop-k-test.true)));
    }

pub loop-k-preserved : goal.loop-k-preserved
loop-k-preserved c =
    let l = c.loop-k in (
      pass-more _ _ _ _ _ (omega arith) _ _ l.invariant.0 c.turn-pass.ensures.value,
      out-more _ _ _ _ _ (omega arith) _ _ _ _ l.invariant.0 l.invariant.1 c.turn-pass.ensures.out_after,
      λ u. c.read_half-read.ensures.1 (omega (arith, u)),
    )
