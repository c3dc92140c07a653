-- The run while it is written: one half-cycle's numbers come behind those of all before it. Assumes nothing.
use Prim.Native.Nat.{ℕ, ◌+◌, ◌*◌, ◌≤◌}
use mathlib.Core.Path.{◌≡◌, refl, ap, ◌∙◌}
use mathlib.Core.List.{List}
use native.Mathlib.Numerals.{add-one}
use native.Mathlib.Omega.{arith}
use lib.IntN.{ℤ}
use lib.ListN.{length}
use lib.Seq.{sets}
use Rattle.rules.specs.Halves.{Half, half_at}
use Rattle.rules.specs.Trace.{half_words}
use Rattle.rules.specs.Refusals.{over}
use Rattle.rules.specs.declared.Settings.{Settings}
use Rattle.rules.proofs.Fronts.{over-length, put_next}
use Rattle.rules.proofs.Trace.{joined_length}
use Rattle.kinds.specs.Machine.{thresholds_of, inside_at}
use Rattle.kinds.specs.declared.Inside.{Inside}
use Rattle.kinds.specs.declared.Thresholds.{Thresholds}
use Rattle.tell.specs.Telling.{told_by}
use Rattle.tell.proofs.Telling.{told_is}
use Rattle.trace.specs.Pass.{told_below}

module _ (s : Settings) (xs : List ℤ) where
  fives : (k : ℕ) → length (half_words s xs k) ≡ 5
  unfolding half_words
  fives k = refl

  pub below_length : (k : ℕ) → length (told_below s xs k) ≡ 5 * k
  below_length = joined_length (half_words s xs) fives

  -- the run keeps its length while there is room
  pub keeps_length : (k : ℕ) (out o : List ℕ) → 5 * k ≤ length o → out ≡ over (told_below s xs k) o → length out ≡ length o
  keeps_length k out o l e = ap length e ∙ over-length (told_below s xs k) o (omega (arith, below_length k))

  -- one half-cycle's numbers behind those of all before it
  pub told-next : (m : Thresholds) (was : Inside) (v : Half) (k : ℕ) (out out₁ o : List ℕ) → m ≡ thresholds_of s → was ≡ inside_at s (half_at s xs) k → v ≡ half_at s xs k
      → 5 * k + 5 ≤ length o → out ≡ over (told_below s xs k) o → out₁ ≡ sets out (5 * k) (told_by m was v) → out₁ ≡ over (told_below s xs (k + 1)) o
  told-next m was v k out out₁ o a b c l e f =
      f
      ∙ rw (a, b, c, e, told_is s xs k, add-one)
      (put_next (told_below s xs k) o (half_words s xs k) (5 * k) (below_length k) (omega (arith, fives k)))
