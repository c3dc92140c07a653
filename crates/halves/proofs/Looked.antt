-- A step looked at: one in range makes what is known to be in range longer; one that is not has the recording's first bad sample.
-- Assumes nothing.
use Rattle.std.specs.Prelude.{Err}
use Prim.Native.Nat.{ℕ, suc, ◌*◌, ◌≤◌}
use mathlib.Core.Path.{◌≡◌, ◌∙◌}
use mathlib.Core.Bool.{true, false}
use native.Mathlib.Omega.{arith}
use lib.ListN.{length}
use Rattle.rules.specs.Recorder.{first_bad}
use Rattle.rules.specs.Halves.{begin, halves_of}
use Rattle.rules.specs.Refusals.{recording_check}
use Rattle.rules.specs.declared.Refusal.{Refusal}
use Rattle.rules.specs.declared.Refusal.TheVariants.{Sample}
use Rattle.rules.proofs.Ranges.{good}
use Rattle.checks.specs.Flags.{all_in_range, RangedBelow}
use Rattle.checks.proofs.Reading.{by_range, range_bad}
use Rattle.halves.specs.Steps.{step_run}
use Rattle.halves.specs.declared.Recording.{Recording}
use Rattle.halves.proofs.Steps.{step_fits, ranged_next, step-bad}

module _ (r : Recording) {j : ℕ} (high : j ≤ r.halves) (clear : RangedBelow r.samples.now (3 * begin r.settings j)) where
  within : j ≤ halves_of r.settings r.samples.now
  within = omega (arith, r.counted)

  -- where it is looked for
  pub begins_within : 3 * begin r.settings j ≤ length r.samples.now
  begins_within = omega (arith, step_fits r.settings r.samples.now (good _ r.good) r.shaped j within)

  pub clear_next : all_in_range (step_run r.settings r.samples.now j) ≡ true → RangedBelow r.samples.now (3 * begin r.settings (suc j))
  clear_next e = ranged_next r.settings r.samples.now (good _ r.good) r.shaped j within clear e

  pub bad_here : all_in_range (step_run r.settings r.samples.now j) ≡ false → (q : Refusal) → q ≡ Sample (first_bad r.samples.now)
      → recording_check r.settings r.samples.now ≡ Err q
  bad_here e q f =
      by_range r.settings r.samples.now r.shaped
      ∙ range_bad r.samples.now (step-bad r.settings r.samples.now (good _ r.good) r.shaped j within e)
      ∙ rw f
