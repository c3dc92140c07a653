-- The first step and each half-cycle that the machine takes may hold a bad sample; past the last half-cycle the tally is that of the list,
-- and the notes miss nothing. Assumes nothing.
use Rattle.std.proofs.Common.{◌≡◌, ◌/◌, ◌≤◌, ◌<◌, length, refl, arith}
use Rattle.rules.proofs.Ranges.{good}
use Rattle.rules.specs.Halves.{half_at}
use Rattle.checks.specs.Flags.{as_read}
use Rattle.halves.proofs.Steps.{few_halves}
use Rattle.kinds.proofs.Followed.{inside_start}
use Rattle.counts.specs.Counting.{tally_of, CountedTo}
use Rattle.counts.proofs.Notes.{NotedBelow, noted_still, noted_more, noted_taken, has_note}
use Rattle.counts.proofs.Counting.{told-count, noted-all}
use Rattle.counts.proofs.count_events.Goals.{Start, in-Some, in_default}
use Rattle.counts.proofs.count_events.Goals as goal

-- no recording has more than 100,000 half-cycles
few : (c : Start) → c.args.recording.now.halves ≤ 100000
few c = let r = c.args.recording.now in omega (arith, r.counted, few_halves _ _ (good _ r.good) r.shaped)

pub loop-k-init : goal.loop-k-init
unfolding tally_of
loop-k-init c =
    let r = c.args.recording.now in (
      omega arith,
      rw (c.none.ensures, inside_start r.settings (half_at r.settings (as_read r.samples.now))) refl,
      c.step_at-step.ensures,
      c.in_ok-check_step.ensures,
      λ j l e. absurd (omega (arith, l)),
      c.requires,
    )

pub note-requires : goal.note-requires
note-requires c =
    let r = c.args.recording.now in
    let e : CountedTo r.settings r.samples.now c.loop-k.k c.in_ok-counted.counted = c.in_ok-counted.ensures in
    omega (arith, e.high, e.passed _ c.in-Some.is, r.counted, few (goal.at.note-requires c).Start)

pub loop-k-preserved : goal.loop-k-preserved
loop-k-preserved c =
    let r = c.args.recording.now in
    let l = c.loop-k in
    let e : CountedTo r.settings r.samples.now l.k c.in_ok-counted.counted = c.in_ok-counted.ensures in
    let h = half_at r.settings (as_read r.samples.now) in
    let noted : NotedBelow r.settings h c.match-counted.notes c.in_ok-counted.counted.k =
    elim c.match-counted.branch [
      | in-Some w ↦
          let k = w.in-Some.taken in
          let fits : k / 4 < length l.notes = omega (arith, l.invariant.5, few (goal.at.loop-k-preserved c).Start, r.counted, e.high, e.passed w.in-Some.taken w.in-Some.is) in
          rw (w.notes-is, w.note.ensures) (noted_taken l.notes k fits r.settings h _ l.k _ w.in-Some.is l.invariant.4 e.resting)
      | in_default w ↦ rw w.notes-is (noted_more r.settings h l.notes l.k _ l.invariant.4 (λ j m n q. e.resting j m n (w.in_default.not-Some j)))
    ] in (
      omega (arith, e.high, r.counted),
      e.tally,
      e.step,
      e.every_in_range,
      noted,
      c.match-counted.array_long,
    )

pub note-requires-2 : goal.note-requires-2
note-requires-2 c = omega (arith, few (goal.at.note-requires-2 c).Start)

pub returns-clause-value : goal.returns-clause-value
returns-clause-value c =
    let l = c.loop-k in
    let done : l.k ≡ c.args.recording.now.halves = omega (arith, c.loop-k-test.false) in
    told-count c.args.recording.now _ done l.invariant.3 _ l.invariant.1

pub returns-clause-noted : goal.returns-clause-noted
returns-clause-noted c =
    let l = c.loop-k in
    let r = c.args.recording.now in
    let done : l.k ≡ r.halves = omega (arith, c.loop-k-test.false) in
    let fits : r.halves / 4 < length l.notes = omega (arith, l.invariant.5, few (goal.at.returns-clause-noted c).Start) in
    λ e. rw c.note-2.ensures (noted-all r _ done l.invariant.3 _ (noted_still _ _ fits _ _ _ l.invariant.4) r.halves (omega (arith, done)) (has_note _ _ fits))
