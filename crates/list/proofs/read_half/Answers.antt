-- The half-cycle of two steps of an accepted recording is that of the rules, and past the last there is none. Assumes nothing.
use Prim.Native.Nat.{ℕ, ◌+◌, ◌≤◌}
use mathlib.Core.Path.{◌≡◌, sym, ap, ◌∙◌}
use mathlib.Core.List.{List}
use native.Mathlib.Numerals.{add-one}
use native.Mathlib.Omega.{arith}
use lib.IntN.{ℤ}
use Rattle.rules.specs.Halves.{Half, half_at, halves_of}
use Rattle.rules.proofs.Longest.{half_past}
use Rattle.rules.proofs.Ranges.{good}
use Rattle.checks.proofs.Reading.{accepted_itself}
use Rattle.halves.specs.Steps.{step_at, joined_of}
use Rattle.halves.specs.declared.Recording.{Recording}
use Rattle.halves.proofs.Steps.{step_addable, half_of_steps}
use Rattle.rules.specs.declared.Settings.{Settings}
use Rattle.list.specs.Listing.{Readable}
use Rattle.list.proofs.read_half.Goals as goal

-- a half-cycle that exists
module _ {r : Recording} {step : Half} {k : ℕ} (v : Readable r step k) (not_last : k ≡ r.halves → ⊥) where
  abbrev s : Settings
  s = r.settings

  abbrev xs : List ℤ
  xs = r.samples.now

  inside : k + 1 ≤ halves_of s xs
  inside = omega (arith, v.high, r.counted, not_last)

  half_is : (next half : Half) → next ≡ step_at s xs (k + 1) → half ≡ joined_of step next → half ≡ half_at s xs k
  half_is next half e f =
      f
      ∙ rw (v.step_is, e, add-one) (half_of_steps s xs (good s r.good) r.shaped k (omega (arith, inside)))
      ∙ ap (λ (ys : List ℤ). half_at s ys k) (accepted_itself s xs v.accepted)

pub returns-then-k-recording : goal.returns-then-k-recording
returns-then-k-recording c =
    let r = c.args.recording.now in
    (sym (half_past _ _ _ (omega (arith, r.counted, c.if-k-recording.true))), λ l. absurd (omega (arith, c.if-k-recording.true)))

pub step_at-next-requires : goal.step_at-next-requires
step_at-next-requires c =
    omega (arith, c.requires.high, c.if-k-recording.false)

pub joined-requires : goal.joined-requires
joined-requires c =
    let v = c.requires in
    let r = c.args.recording.now in
    let g = good _ r.good in (
      rw v.step_is (step_addable _ _ g r.shaped _ (omega (arith, v.high, r.counted))),
      rw c.step_at-next.ensures (step_addable _ _ g r.shaped _ (inside v c.if-k-recording.false)),
    )

pub returns : goal.returns
returns c =
    (half_is c.requires c.if-k-recording.false _ _ c.step_at-next.ensures c.joined.ensures, λ l. c.step_at-next.ensures)
