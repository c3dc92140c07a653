-- The whole recording: what the survey has reached before half-cycle k, and what its end and a bad sample make of it.
-- Where the end is reached every sample is in range, so the recording as it is read is the recording. Assumes nothing.
use Rattle.std.specs.Prelude.{Ok, IfSome}
use Prim.Native.Nat.{ℕ, suc, ◌*◌, ◌≤◌}
use mathlib.Core.Path.{◌≡◌, sym, ◌∙◌}
use mathlib.Core.Bool.{true, false}
use mathlib.Core.List.{List}
use native.Mathlib.Omega.{arith}
use lib.ListN.{length, replicate}
use Rattle.rules.specs.Halves.{Half, begin, halves_of}
use Rattle.rules.specs.Borders.{known_set, borders_of}
use Rattle.rules.specs.Refusals.{recording_check}
use Rattle.rules.specs.Site.{cells, empty, grown}
use Rattle.rules.specs.declared.Table.{Table}
use Rattle.rules.proofs.Ranges.{good}
use Rattle.checks.specs.Flags.{all_in_range, as_read}
use Rattle.checks.proofs.Reading.{by_range, range_good, ranged_all, read_itself, read_halves, read_taken}
use Rattle.halves.specs.Steps.{step_at}
use Rattle.halves.specs.declared.Recording.{Recording}
use Rattle.halves.proofs.Looked.{begins_within}
use Rattle.halves.proofs.Steps.{steps_all}
use Rattle.kinds.specs.Machine.{Light}
use Rattle.ledger.specs.declared.Landed.{Landed}
use Rattle.ledger.specs.declared.Survey.{Survey}
use Rattle.ledger.specs.Entries.{landed_by, cells_by, Landable, start_survey}
use Rattle.ledger.proofs.Passes.{at_start, cells_start, ask_last, light-last, table_made}
use Rattle.survey.specs.declared.Surveyed.{Surveyed}
use Rattle.survey.specs.Pass.{Clear, Reached, table_with}

module _ (r : Recording) where
  -- ---- a step looked at

  -- where a bad sample is looked for; what comes of the look is a law of halves
  pub ask_bad : {k : ℕ} → k ≤ r.halves → Clear r k → (3 * begin r.settings k ≤ length r.samples.now) × Clear r k
  ask_bad high clear = (begins_within r high clear, clear)

  -- ---- the start

  pub ask_first : (step : Half) → step ≡ step_at r.settings r.samples.now 0 → (0 ≤ r.halves) × (step ≡ step_at r.settings r.samples.now 0) × Clear r 0
  ask_first step e = (omega arith, e, λ j l. absurd (omega arith))

  pub start_reached : (p : Survey) (step : Half) → p ≡ start_survey → step ≡ step_at r.settings r.samples.now 0 → Clear r (suc 0)
      → (set : ℕ) → Reached r set (record { survey = p; step = step; k = 0 }) (replicate cells 0)
  start_reached p step e f clear set =
      record {
        high = omega arith;
        state = e ∙ at_start r.settings (as_read r.samples.now) r.good (read_taken r.settings r.samples.now r.shaped);
        cells_are = cells_start r.settings (as_read r.samples.now) r.good (read_taken r.settings r.samples.now r.shaped) (borders_of r.settings set);
        step_is = f;
        every_in_range = clear;
      }

  -- ---- the end

  module _ (set : ℕ) (set_known : known_set set ≡ true) (on : Surveyed) (cs : List ℕ) (done : on.k ≡ r.halves) (v : Reached r set on cs) where
    counted : r.halves ≡ halves_of r.settings (as_read r.samples.now)
    counted = r.counted ∙ sym (read_halves r.settings r.samples.now)

    whole : all_in_range r.samples.now ≡ true
    whole =
        let e : on.k ≡ halves_of r.settings r.samples.now = done ∙ r.counted in
        ranged_all r.samples.now (3 * begin r.settings (suc (halves_of r.settings r.samples.now))) (steps_all r.settings r.samples.now (good _ r.good) r.shaped) (rw e at v.every_in_range)

    pub ask_end : IfSome on.survey.track.sag (λ o. Landable r.settings set on.survey.landed o r.halves cs)
    ask_end = ask_last r.settings (as_read r.samples.now) r.good (read_taken r.settings r.samples.now r.shaped) set set_known r.halves on.k on.survey cs counted (done ∙ counted) v.state v.cells_are

    pub ask_table : (d : Landed) → d ≡ landed_by on.survey.landed on.survey.track.sag false → Light d.parts
    ask_table d e = light-last r.settings (as_read r.samples.now) r.good (read_taken r.settings r.samples.now r.shaped) set set_known r.halves on.k on.survey cs counted (done ∙ counted) v.state v.cells_are d e

    pub end_made : (d : Landed) (cs' : List ℕ) (t : Table) → d ≡ landed_by on.survey.landed on.survey.track.sag false
        → cs' ≡ cells_by r.settings set on.survey.track.sag r.halves false cs
        → t ≡ table_with r.settings set r.halves on.survey d cs'
        → (recording_check r.settings r.samples.now ≡ Ok tt) × (t ≡ grown (empty r.settings set) r.samples.now)
    end_made d cs' t e f i = (
      by_range r.settings r.samples.now r.shaped ∙ range_good r.samples.now whole,
      i
          ∙ table_made r.settings (as_read r.samples.now) r.good (read_taken r.settings r.samples.now r.shaped) set set_known r.halves on.k on.survey cs counted (done ∙ counted) v.state v.cells_are d cs' e f
          ∙ rw (read_itself r.samples.now whole),
    )
