-- Surveying on: after the quiet half-cycles and one by the machine the survey and the cells are those of the rules, and the samples so far
-- are in range. The recording is read as a pass reads it, so that nothing is asked of its samples. Assumes nothing.
use Rattle.std.specs.Prelude.{Ok}
use Prim.Native.Nat.{ℕ, suc, ◌+◌, ◌-◌, ◌*◌, ◌≤◌, ◌<◌}
use mathlib.Core.Path.{◌≡◌, sym, ap, ◌∙◌}
use mathlib.Core.Bool.{true, false, cond}
use mathlib.Core.List.{List}
use native.Mathlib.Numerals.{add-one}
use native.Mathlib.Omega.{arith}
use lib.IntN.{ℤ}
use Rattle.rules.specs.Bounded.{before}
use Rattle.rules.specs.Demands.{Good}
use Rattle.rules.specs.Halves.{Half, begin, half_at, halves_of}
use Rattle.rules.specs.Events.{in_event}
use Rattle.rules.specs.Refusals.{recording_check}
use Rattle.rules.specs.Borders.{known_set, borders_of}
use Rattle.rules.specs.declared.Settings.{Settings}
use Rattle.rules.specs.declared.Kind.{Kind}
use Rattle.rules.proofs.Ranges.{good}
use Rattle.checks.specs.Flags.{RangedBelow, as_read}
use Rattle.checks.proofs.Reading.{read_halves, read_taken, read_accepted}
use Rattle.halves.specs.Steps.{step_at, joined_of, Addable}
use Rattle.halves.specs.declared.Recording.{Recording}
use Rattle.halves.proofs.Steps.{step_addable}
use Rattle.quiet.specs.Quiet.{quiet_till, Resting, Standing, Reading}
use Rattle.quiet.proofs.Stretches.{reads, half_here, stop_low, stop_high, calm_rests, calm_ranged}
use Rattle.ledger.specs.declared.Survey.{Survey}
use Rattle.ledger.specs.Entries.{going_on, passed_over, surveyed_by, cells_turned, Turnable}
use Rattle.ledger.specs.State.{cells_at, survey_at}
use Rattle.survey.specs.declared.Surveyed.{Surveyed}
use Rattle.survey.specs.Pass.{Clear, Reached}
use Rattle.ledger.proofs.Passes.{classes-few, parts, turnable, turn_made, turn_cells}
use Rattle.survey.proofs.Rests.{nothing_open, over_survey, over-all-cells}

-- where the pass over the quiet half-cycles stops
abbrev pub Stops : Recording → Surveyed → ℕ → Type 0
Stops r on stop = stop ≡ cond (going_on on.survey.track) on.k (quiet_till r.settings r.samples.now on.k r.halves)

module _ {r : Recording} {set : ℕ} {on : Surveyed} {cs : List ℕ} (set_known : known_set set ≡ true) (more : on.k < r.halves) (v : Reached r set on cs) where
  -- what the pass over the quiet ones has to be told
  pub standing : Standing r on.k r.halves on.step
  standing = record { ordered = omega (arith, more); high = omega arith; step = v.step_is }

  module _ (stop : ℕ) (is : Stops r on stop) where
    abbrev s : Settings
    s = r.settings

    abbrev xs : List ℤ
    xs = r.samples.now

    abbrev halves : ℕ
    halves = r.halves

    abbrev p : Survey
    p = on.survey

    abbrev from : ℕ
    from = on.k

    abbrev h : ℕ → Half
    h = half_at s (as_read xs)

    abbrev n : ℕ
    n = halves_of s (as_read xs)

    reading : Reading s xs r.thresholds from halves on.step
    reading = reads r from halves on.step standing

    g : Good s
    g = good s r.good

    taken : recording_check s (as_read xs) ≡ Ok tt
    taken = read_taken s xs r.shaped

    halves_read : halves ≡ n
    halves_read = r.counted ∙ sym (read_halves s xs)

    -- ---- what is passed over

    pub low : from ≤ stop
    low = stop_low reading (going_on p.track) stop is

    pub high : stop ≤ halves
    high = stop_high reading (going_on p.track) stop is

    out : (kind : Kind) → going_on p.track ≡ false → before (in_event s h kind) from ≡ false
    out kind e = nothing_open s h n from (ap going_on (sym (parts s (as_read xs) r.good taken from p v.state).track) ∙ e) kind

    rests : (k : ℕ) → from ≤ k → k < stop → Resting s h k
    rests = calm_rests reading (going_on p.track) stop is out

    ranged : RangedBelow xs (3 * begin s (suc stop))
    ranged = calm_ranged reading (going_on p.track) stop is v.every_in_range

    pub ask_over : (p.classes.healthy ≤ 4000000) × (stop - from ≤ 4000000)
    ask_over =
        let few = classes-few s (as_read xs) r.good taken from (omega (arith, more, halves_read)) in
        let e = (parts s (as_read xs) r.good taken from p v.state).classes in
        (rw e few.0, omega (arith, high, halves_read, (read_accepted s xs r.shaped).few))

    -- ---- half-cycle `stop`, where there is one for the machine

    module _ (inside : stop < halves) where
      here : suc stop ≤ halves_of s xs
      here = omega (arith, inside, r.counted)

      pub ask_check : (next : Half) → next ≡ step_at s xs (stop + 1) → (stop + 1 ≤ halves) × (next ≡ step_at s xs (stop + 1)) × Clear r (stop + 1)
      ask_check next e = (omega (arith, inside), e, rw add-one ranged)

      pub step-sums : (step : Half) → step ≡ step_at s xs stop → Addable step
      step-sums step e = rw e (step_addable s xs g r.shaped stop (omega (arith, here)))

      pub next-sums : (next : Half) → next ≡ step_at s xs (stop + 1) → Addable next
      next-sums next e = rw e (step_addable s xs g r.shaped (stop + 1) (omega (arith, here)))

      pub half_is : (step next half : Half) → step ≡ step_at s xs stop → next ≡ step_at s xs (stop + 1) → half ≡ joined_of step next → half ≡ h stop
      half_is step next half e f i = i ∙ rw (e, f, add-one) (half_here reading stop inside)

    -- ---- the survey

    module _ (q : Survey) (q-is : q ≡ passed_over p (stop - from)) where
      state-at : q ≡ survey_at s h n stop
      state-at = q-is ∙ ap (λ (p : Survey). passed_over p (stop - from)) v.state ∙ over_survey s h n from stop low rests

      cells_at_lem : cs ≡ cells_at s (borders_of s set) h n stop
      cells_at_lem = v.cells_are ∙ over-all-cells s h n from stop low rests (borders_of s set)

      -- all is passed over
      pub surveyed_all : (step : Half) → step ≡ step_at s xs stop → stop ≡ halves
          → (from < stop) × Reached r set (record { survey = q; step = step; k = stop }) cs
      surveyed_all step e f = (
        omega (arith, more),
        record { high = omega arith; state = state-at; cells_are = cells_at_lem; step_is = e; every_in_range = ranged },
      )

      -- the machine takes half-cycle `stop`
      module _ (inside : stop < halves) (half : Half) (is-half : half ≡ h stop) where
        in_reading : stop ≤ n
        in_reading = omega (arith, inside, halves_read)

        pub ask_turn : Turnable s set r.thresholds half q stop cs
        ask_turn = turnable s (as_read xs) r.good taken set set_known r.thresholds half q stop cs r.marked is-half in_reading state-at cells_at_lem

        pub surveyed_one : (survey : Survey) (ds : List ℕ) (next : Half) → survey ≡ surveyed_by r.thresholds half q stop → ds ≡ cells_turned s set r.thresholds half q stop cs
            → next ≡ step_at s xs (stop + 1) → Clear r (suc (stop + 1))
            → (from < stop + 1) × Reached r set (record { survey = survey; step = next; k = stop + 1 }) ds
        surveyed_one survey ds next e f i clear = (
          omega (arith, low),
          record {
            high = omega (arith, inside);
            state = e ∙ rw add-one (turn_made s (as_read xs) r.good taken set set_known r.thresholds half q stop cs r.marked is-half in_reading state-at cells_at_lem);
            cells_are = f ∙ rw add-one (turn_cells s (as_read xs) r.good taken set set_known r.thresholds half q stop cs r.marked is-half in_reading state-at cells_at_lem);
            step_is = i;
            every_in_range = clear;
          },
        )
