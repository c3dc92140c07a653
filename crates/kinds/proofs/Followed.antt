-- The kinds that a half-cycle is in an event of, by the machine, are those of the rules. Assumes nothing.
use Prim.Native.Nat.{ℕ, suc, ◌+◌}
use mathlib.Core.Path.{◌≡◌, refl, ◌∙◌}
use native.Mathlib.Numerals.{add-one}
use Rattle.rules.specs.Halves.{Half}
use Rattle.rules.specs.declared.Settings.{Settings}
use Rattle.rules.specs.declared.Kind.TheVariants.{Sag, Interruption, Swell}
use Rattle.kinds.specs.Machine.{thresholds_of, level_from, level_of, outside, inside_at, followed_by}
use Rattle.kinds.specs.declared.Thresholds.{Thresholds}
use Rattle.kinds.specs.declared.Inside.{Inside}
use Rattle.kinds.proofs.Machine.{goes_here}

module _ (s : Settings) (h : ℕ → Half) where
  -- nothing goes on before half-cycle 0
  pub inside_start : outside ≡ inside_at s h 0
  unfolding inside_at
  inside_start = refl

  followed : (k : ℕ) → followed_by (thresholds_of s) (inside_at s h k) (level_of s (h k)) ≡ inside_at s h (suc k)
  unfolding followed_by inside_at
  followed k = rw (goes_here s h Sag k, goes_here s h Interruption k, goes_here s h Swell k)

  -- THE LAW: one half-cycle on, the kinds are again those of the rules
  pub inside_next : (m : Thresholds) (was is : Inside) (v : Half) (k : ℕ) → m ≡ thresholds_of s → was ≡ inside_at s h k → v ≡ h k
      → is ≡ followed_by m was (level_from m.full m.sag.from v) → is ≡ inside_at s h (k + 1)
  unfolding level_of
  inside_next m was is v k a b c d = d ∙ rw (a, b, c, add-one) (followed k)
