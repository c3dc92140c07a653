-- The machine's kinds are those of the rules, and so are the five numbers that it tells. Assumes nothing.
use Prim.Native.Nat.{ℕ}
use mathlib.Core.Path.{◌≡◌}
use mathlib.Core.List.{List}
use lib.IntN.{ℤ}
use Rattle.rules.specs.Halves.{half_at}
use Rattle.rules.specs.Trace.{class_at, kinds_at, half_words}
use Rattle.rules.specs.Site.{is_healthy, is_disturbed, is_unknown}
use Rattle.rules.specs.declared.Settings.{Settings}
use Rattle.rules.specs.declared.Kind.TheVariants.{Sag, Interruption, Swell}
use Rattle.kinds.specs.Machine.{thresholds_of, level_of, inside_at, followed_by}
use Rattle.kinds.proofs.Machine.{goes_here, level-known}
use Rattle.tell.specs.Telling.{told_by}

module _ (s : Settings) (xs : List ℤ) where
  -- THE LAW: the numbers told are those of the rules
  pub told_is : (k : ℕ) → told_by (thresholds_of s) (inside_at s (half_at s xs) k) (half_at s xs k) ≡ half_words s xs k
  unfolding told_by followed_by inside_at level_of half_words class_at kinds_at is_healthy is_disturbed is_unknown
  told_is k =
      let h = half_at s xs in
      rw (goes_here s h Sag k, goes_here s h Interruption k, goes_here s h Swell k, level-known s (h k))
