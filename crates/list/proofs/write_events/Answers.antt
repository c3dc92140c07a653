-- The invariant: once every slot that waits has its words, the run holds the events that start before group g; past the last group no slot
-- waits. The measure is what is left of the groups. Assumes nothing.
use Prim.Native.Nat.{ℕ, suc, ◌*◌}
use mathlib.Core.Path.{◌≡◌, subst}
use native.Mathlib.Omega.{arith}
use Rattle.rules.specs.Halves.{halves_of}
use Rattle.list.specs.Listing.{group_start}
use Rattle.list.proofs.Writing.{Writing, writing_start, writing_done, turns-ready, turns-written}
use Rattle.list.proofs.write_events.Goals.{In-loop-at}
use Rattle.list.proofs.write_events.Goals as goal

-- before a group there are four half-cycles for each
here : (t : In-loop-at)
    → let r = t.args.recording.now in Writing r.settings r.samples.now (4 * t.loop-at.at.group) t.loop-at.at.pass t.loop-at.out t.args.out.now
here t =
    let r = t.args.recording.now in
    let l = t.loop-at in
    let e : group_start r.settings r.samples.now l.at.group ≡ 4 * l.at.group = omega (arith, t.loop-at-test.true, r.counted) in
    subst (λ (k : ℕ). Writing r.settings r.samples.now k l.at.pass l.out t.args.out.now) e l.invariant.1

pub loop-at-init : goal.loop-at-init
loop-at-init c =
    let r = c.args.recording.now in
    let out = c.args.out.now in
    let e : 0 ≡ group_start r.settings r.samples.now 0 = omega arith in
    (omega arith, subst (λ (k : ℕ). Writing r.settings r.samples.now k c.start_pass.result out out) e (writing_start _ _ _ _ c.start_pass.ensures))

pub write_next-at-requires : goal.write_next-at-requires
write_next-at-requires c =
    record {
      accepted = c.requires.0;
      low = omega (arith, c.loop-at-test.true);
      noted = c.requires.1;
      ready = λ d l. turns-ready _ _ _ _ _ _ (here (goal.at.write_next-at-requires c).In-loop-at) c.requires.2 d (omega (arith, l, c.args.recording.now.counted));
    }

pub loop-at-preserved : goal.loop-at-preserved
loop-at-preserved c =
    let r = c.write_next-at.ensures in
    let n = c.args.recording.now.counted in (
      omega (arith, r.high, n),
      turns-written _ _ _ _ _ _ (here (goal.at.loop-at-preserved c).In-loop-at) c.requires.2 _ (omega (arith, r.later, c.loop-at-test.true, n)) (omega arith) _ _ r.pass r.run,
    )

pub returns : goal.returns
returns c =
    let r = c.args.recording.now in
    let l = c.loop-at in
    let k : group_start r.settings r.samples.now l.at.group ≡ suc (halves_of r.settings r.samples.now) = omega (arith, c.loop-at-test.false, r.counted) in
    writing_done _ _ _ _ _ _ k l.invariant.1
