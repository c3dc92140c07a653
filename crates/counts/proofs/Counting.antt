-- Counting on: after the quiet half-cycles and one by the machine the tally is that of the rules, the samples so far are in range or one is
-- bad, and nothing goes on at what was passed over. Assumes nothing.
use Rattle.std.specs.Prelude.{Ok, Err, Some, None}
use Prim.Native.Nat.{ℕ, suc, ◌+◌, ◌*◌, ◌/◌, ◌≤◌, ◌<◌}
use mathlib.Core.Path.{◌≡◌, sym, ap, ◌∙◌}
use mathlib.Core.Bool.{Bool, true, false, cond}
use mathlib.Core.List.{List}
use mathlib.Core.Logic.{⊎_elim}
use native.Mathlib.Nat.{eq-or-lt_of_le}
use native.Mathlib.Numerals.{add-one}
use native.Mathlib.Omega.{arith}
use lib.IntN.{ℤ}
use lib.ListN.{length, get_or}
use Rattle.std.proofs.lemmas.Option.{none-some, same_Some}
use Rattle.rules.specs.Halves.{Half, begin, half_at, halves_of}
use Rattle.rules.specs.EventList.{events_of}
use Rattle.rules.specs.Refusals.{recording_check, by_check}
use Rattle.rules.specs.declared.Settings.{Settings}
use Rattle.rules.specs.Demands.{Good}
use Rattle.rules.proofs.Booleans.{not_both}
use Rattle.rules.proofs.Ranges.{good}
use Rattle.rules.proofs.Samples.{accepted_recording}
use Rattle.checks.specs.Flags.{all_in_range, RangedBelow, as_read}
use Rattle.checks.proofs.Reading.{by_range, range_good, ranged_all, read_halves, read_itself}
use Rattle.halves.specs.Steps.{step_at, joined_of, Addable}
use Rattle.halves.specs.declared.Recording.{Recording}
use Rattle.halves.proofs.Steps.{few_halves, steps_all, step_addable}
use Rattle.kinds.specs.Machine.{Marked, Few}
use Rattle.kinds.proofs.Limits.{marked}
use Rattle.quiet.specs.Quiet.{quiet_till, Resting, Reading}
use Rattle.quiet.proofs.Stretches.{reads, half_here, few_here, stop_low, stop_high, calm_rests, calm_ranged}
use Rattle.counts.specs.declared.Tally.{Tally}
use Rattle.counts.specs.Counting.{tallied, tally_of, going_on, Counting, CountedTo, Noted}
use Rattle.counts.proofs.Tallies.{tally-next, tally-few, tally_stays, tally-all, none_open}
use Rattle.counts.proofs.Notes.{NotedBelow}

-- a recording that has a bad sample is not accepted
pub never_taken : (r : Recording) → all_in_range r.samples.now ≡ false → recording_check r.settings r.samples.now ≡ Ok tt → ⊥
never_taken r bad e =
    let xs = r.samples.now in not_both (all_in_range xs) (ranged_all xs (length xs) (omega arith) (accepted_recording r.settings xs e).every_in_range) bad

module _ {r : Recording} {t : Tally} {first : Half} {from : ℕ} (v : Counting r t first from)
    (stop : ℕ) (is : stop ≡ cond (going_on t) from (quiet_till r.settings r.samples.now from r.halves)) where
  abbrev s : Settings
  s = r.settings

  abbrev xs : List ℤ
  xs = r.samples.now

  abbrev h : ℕ → Half
  h = half_at s (as_read xs)

  g : Good s
  g = good s r.good

  reading : Reading s xs r.thresholds from r.halves first
  reading = reads r from r.halves first v.standing

  low : from ≤ stop
  low = stop_low reading (going_on t) stop is

  pub high : stop ≤ r.halves
  high = stop_high reading (going_on t) stop is

  rests : (k : ℕ) → from ≤ k → k < stop → Resting s h k
  rests = calm_rests reading (going_on t) stop is (λ kind e. none_open s h t from v.tally e kind)

  ranged : RangedBelow xs (3 * begin s (suc stop))
  ranged = calm_ranged reading (going_on t) stop is v.every_in_range

  pub next_ranged : RangedBelow xs (3 * begin s (stop + 1))
  next_ranged = rw add-one ranged

  pub tally-at : t ≡ tally_of s h stop
  tally-at = v.tally ∙ sym (tally_stays s h from stop low rests)

  -- all is passed over
  pub counted_all : (step : Half) → step ≡ step_at s xs stop → stop ≡ r.halves
      → CountedTo s xs from (record { tally = t; step = step; k = stop; taken = None })
  counted_all step e f =
      record {
        more = omega (arith, v.more);
        high = omega (arith, r.counted);
        tally = tally-at;
        step = e;
        every_in_range = ranged;
        passed = λ k n. absurd (none-some k n);
        resting = λ k l u n. rests k l u;
      }

  -- the machine takes half-cycle `stop`
  module _ (inside : stop < r.halves) where
    here : suc stop ≤ halves_of s xs
    here = omega (arith, inside, r.counted)

    pub step-sums : (step : Half) → step ≡ step_at s xs stop → Addable step
    step-sums step e = rw e (step_addable s xs g r.shaped stop (omega (arith, here)))

    pub next-sums : (next : Half) → next ≡ step_at s xs (stop + 1) → Addable next
    next-sums next e = rw e (step_addable s xs g r.shaped (stop + 1) (omega (arith, here)))

    pub half_is : (step next half : Half) → step ≡ step_at s xs stop → next ≡ step_at s xs (stop + 1) → half ≡ joined_of step next → half ≡ h stop
    half_is step next half e f i = i ∙ rw (e, f, add-one) (half_here reading stop inside)

    pub ask_turn : (half : Half) → half ≡ h stop → Marked r.thresholds × Few half × (t.n ≤ 300003)
    ask_turn half e =
        (rw r.marked (marked s g), rw e (few_here reading stop), few)
      where
        few : t.n ≤ 300003
        few = rw tally-at (omega (arith, tally-few s h stop, here, few_halves s xs g r.shaped))

    pub counted_one : (half : Half) (tally : Tally) (next : Half) → half ≡ h stop → tally ≡ tallied r.thresholds t half → next ≡ step_at s xs (stop + 1)
        → RangedBelow xs (3 * begin s (suc (stop + 1))) → CountedTo s xs from (record { tally = tally; step = next; k = stop + 1; taken = Some stop })
    counted_one half tally next e f i j =
        record {
          more = omega (arith, low);
          high = omega (arith, here);
          tally = f ∙ tally-next s h r.thresholds t half stop r.marked tally-at e;
          step = i;
          every_in_range = j;
          passed = λ k n. let q : stop ≡ k = same_Some stop k n in omega arith;
          resting = λ k l u n. ⊎_elim (λ q. absurd (n (ap Some (sym q)))) (λ m. rests k l m) (eq-or-lt_of_le (omega arith));
        }

-- ---- the ends of the pass

module _ (r : Recording) (k : ℕ) (done : k ≡ r.halves) (below : RangedBelow r.samples.now (3 * begin r.settings (suc k))) where
  -- past the last half-cycle all samples have been met
  all-good : all_in_range r.samples.now ≡ true
  all-good = ranged_all r.samples.now (3 * begin r.settings (suc k)) (rw (done, r.counted) (steps_all r.settings r.samples.now (good r.settings r.good) r.shaped)) below

  pub taken : recording_check r.settings r.samples.now ≡ Ok tt
  taken = by_range r.settings r.samples.now r.shaped ∙ range_good r.samples.now all-good

  pub told-count : (t : Tally) → t ≡ tally_of r.settings (half_at r.settings (as_read r.samples.now)) k → Ok t.n ≡ by_check (recording_check r.settings r.samples.now) (Ok (length (events_of r.settings r.samples.now))) (λ r. Err r)
  told-count t e = rw taken (ap Ok (ap (λ (x : Tally). x.n) e ∙ tally-all r.settings (as_read r.samples.now) k (done ∙ r.counted ∙ sym (read_halves r.settings r.samples.now)) ∙ ap (λ (ys : List ℤ). length (events_of r.settings ys)) (read_itself r.samples.now all-good)))

  pub noted-all : (notes : List Bool) → NotedBelow r.settings (half_at r.settings (as_read r.samples.now)) notes k → (m : ℕ) → m ≡ k → get_or notes (m / 4) false ≡ true → Noted r.settings r.samples.now notes
  noted-all notes all m e last =
      record {
        resting = λ j l e. rw (read_itself r.samples.now all-good) at (all j (omega (arith, done, r.counted)) e);
        last = rw (e ∙ done ∙ r.counted) at last;
      }
