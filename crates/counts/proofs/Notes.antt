-- Notes: one more note leaves what the others say, and where there is no note nothing goes on. Assumes nothing.
use Rattle.std.specs.Prelude.{Option, Some}
use Rattle.std.proofs.lemmas.Option.{same_Some}
use Prim.Native.Nat.{ℕ, ◌/◌, ◌≤◌, ◌<◌}
use mathlib.Core.Path.{◌≡◌, sym, ◌∙◌}
use mathlib.Core.Bool.{Bool, true, false, false≢true}
use mathlib.Core.List.{List}
use mathlib.Core.Logic.{⊎_elim}
use borrow.Author.Tests.{eqb-true, eqb-false}
use lib.Dec.{eqb}
use lib.ListN.{length, get_or}
use lib.Seq.{get_or-set_same, get_or-set_other}
use Rattle.rules.specs.declared.Settings.{Settings}
use Rattle.rules.specs.Halves.{Half}
use Rattle.rules.proofs.Booleans.{cases}
use Rattle.rules.proofs.Choices.{lower}
use Rattle.quiet.specs.Quiet.{Resting}
use Rattle.counts.specs.Counting.{noted_at}

-- what is said of the half-cycles before k
abbrev pub NotedBelow : Settings → (ℕ → Half) → List Bool → ℕ → Type 0
NotedBelow s h notes k = (j : ℕ) → j < k → get_or notes (j / 4) false ≡ false → Resting s h j

-- a stretch more
pub noted_more : (s : Settings) (h : ℕ → Half) (notes : List Bool) (from k : ℕ) → NotedBelow s h notes from
    → ((j : ℕ) → from ≤ j → j < k → get_or notes (j / 4) false ≡ false → Resting s h j) → NotedBelow s h notes k
noted_more s h notes from k all rests j l e = ⊎_elim (λ m. all j m e) (λ m. rests j m l e) (lower j from)

module _ (notes : List Bool) (k : ℕ) (fits : k / 4 < length notes) where
  -- the group noted has its note
  pub has_note : get_or (noted_at notes k) (k / 4) false ≡ true
  unfolding noted_at
  has_note = get_or-set_same notes (k / 4) true false fits

  -- no note after it was none before
  no_note : (j : ℕ) → get_or (noted_at notes k) j false ≡ false → get_or notes j false ≡ false
  unfolding noted_at
  no_note j e =
      ⊎_elim
      (λ f. let i : j ≡ k / 4 = eqb-true j (k / 4) f in absurd (false≢true (sym (rw i at e) ∙ has_note)))
      (λ f. sym (get_or-set_other notes (k / 4) j true false (λ z. eqb-false j (k / 4) f z)) ∙ e)
      (cases (eqb j (k / 4)))

  pub noted_still : (s : Settings) (h : ℕ → Half) (b : ℕ) → NotedBelow s h notes b → NotedBelow s h (noted_at notes k) b
  noted_still s h b all j l e = all j l (no_note (j / 4) e)

  -- a stretch more, of which half-cycle k was taken
  pub noted_taken : (s : Settings) (h : ℕ → Half) (taken : Option ℕ) (from to : ℕ) → taken ≡ Some k → NotedBelow s h notes from
      → ((j : ℕ) → from ≤ j → j < to → (taken ≡ Some j → ⊥) → Resting s h j) → NotedBelow s h (noted_at notes k) to
  noted_taken s h taken from to is all rests =
      noted_more s h (noted_at notes k) from to (noted_still s h from all)
      (λ j l m e. rests j l m (λ f. let q : k ≡ j = same_Some k j (sym is ∙ f) in absurd (false≢true (sym (rw (← q) at e) ∙ has_note))))
