-- A bad sample is refusal 6. A fifth of the run is room for as many half-cycles: with less the answer is refusal 7 and the run stays, else
-- it holds their numbers. Assumes nothing.
use Rattle.std.proofs.Common.{◌≡◌, ◌/◌, ◌≤◌, ◌<◌, true, false, length, sym, ◌∙◌, arith}
use Rattle.checks.specs.Flags.{all_in_range}
use Rattle.trace.proofs.Answers.{accepted, trace-bad, run-bad, trace-short, run_short, trace-all, run-all}
use Rattle.trace.proofs.trace_shaped.Goals.{Then-not-good, Else-not-good, Then-room-halves, Else-room-halves}
use Rattle.trace.proofs.trace_shaped.Goals as goal

bad : (c : Then-not-good) → all_in_range c.args.recording.now.samples.now ≡ false
bad c = sym c.all_in_range-good.ensures ∙ c.if-not-good.true

-- past the first test every sample is in range
fine : (c : Else-not-good) → all_in_range c.args.recording.now.samples.now ≡ true
fine c = sym c.all_in_range-good.ensures ∙ c.if-not-good.false

short : (c : Then-room-halves) → length c.args.out.now / 5 < c.args.recording.now.halves
short c = omega (arith, c.if-room-halves.true)

-- past the second there is room for all half-cycles
enough : (c : Else-room-halves) → c.args.recording.now.halves ≤ length c.args.out.now / 5
enough c = omega (arith, c.if-room-halves.false)

pub returns-then-not-good-clause-value : goal.returns-then-not-good-clause-value
returns-then-not-good-clause-value c =
    let r = c.args.recording.now in
    trace-bad _ _ r.good r.shaped c.args.out.now (bad (goal.at.returns-then-not-good-clause-value c).Then-not-good) _ c.bad_sample.ensures

pub returns-then-not-good-clause-out_after : goal.returns-then-not-good-clause-out_after
returns-then-not-good-clause-out_after c =
    let r = c.args.recording.now in
    run-bad _ _ r.good r.shaped c.args.out.now (bad (goal.at.returns-then-not-good-clause-out_after c).Then-not-good) _ c.bad_sample.ensures

pub returns-then-room-halves-clause-value : goal.returns-then-room-halves-clause-value
returns-then-room-halves-clause-value c =
    let r = c.args.recording.now in
    let at = goal.at.returns-then-room-halves-clause-value c in
    trace-short _ _ r.good r.shaped c.args.out.now (fine at.Else-not-good) _ r.counted (short at.Then-room-halves)

pub returns-then-room-halves-clause-out_after : goal.returns-then-room-halves-clause-out_after
returns-then-room-halves-clause-out_after c =
    let r = c.args.recording.now in
    let at = goal.at.returns-then-room-halves-clause-out_after c in
    run_short _ _ r.good r.shaped c.args.out.now (fine at.Else-not-good) _ r.counted (short at.Then-room-halves)

pub write_halves-requires : goal.write_halves-requires
write_halves-requires c =
    let r = c.args.recording.now in
    let at = goal.at.write_halves-requires c in
    record {
      accepted = accepted _ _ r.good r.shaped c.args.out.now (fine at.Else-not-good);
      enough = omega (arith, enough at.Else-room-halves);
    }

pub returns-clause-value : goal.returns-clause-value
returns-clause-value c =
    let r = c.args.recording.now in
    let at = goal.at.returns-clause-value c in
    trace-all _ _ r.good r.shaped c.args.out.now (fine at.Else-not-good) _ r.counted (enough at.Else-room-halves)

pub returns-clause-out_after : goal.returns-clause-out_after
returns-clause-out_after c =
    let r = c.args.recording.now in
    let at = goal.at.returns-clause-out_after c in
    c.write_halves.ensures ∙ run-all _ _ r.good r.shaped c.args.out.now (fine at.Else-not-good) _ r.counted (enough at.Else-room-halves)
