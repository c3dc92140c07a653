-- The invariant: the first half-cycle from k on that is not quiet is the first of all, and the step is that of k. Assumes
-- nothing.
use Prim.Native.Nat.{ℕ, ◌+◌, ◌<◌}
use mathlib.Core.Path.{◌≡◌, sym, ap, ◌∙◌}
use mathlib.Core.Bool.{Bool}
use mathlib.Core.List.{List}
use native.Mathlib.Numerals.{add-one}
use native.Mathlib.Omega.{arith}
use lib.IntN.{ℤ}
use Rattle.rules.specs.Halves.{half_at}
use Rattle.rules.specs.declared.Settings.{Settings}
use Rattle.rules.proofs.Ranges.{good}
use Rattle.rules.proofs.Runs.{first_go, first_stop}
use Rattle.checks.specs.Flags.{as_read}
use Rattle.halves.specs.Steps.{step_at, joined_of}
use Rattle.halves.proofs.Steps.{step_addable}
use Rattle.quiet.specs.Quiet.{is_quiet}
use Rattle.quiet.proofs.Quiet.{quiet_told}
use Rattle.quiet.proofs.Stretches.{reads, half_here, few_here}
use Rattle.quiet.proofs.pass_quiet.Goals.{After-is_quiet, After-joined, In-loop-k}
use Rattle.quiet.proofs.pass_quiet.Goals as goal

abbrev quiet : Settings → List ℤ → ℕ → Bool
quiet s xs k = is_quiet s (half_at s (as_read xs) k)

abbrev at : In-loop-k → ℕ
at t = t.loop-k.k

below : (t : In-loop-k) → at t < t.args.to
below t = omega (arith, t.loop-k-test.true)

-- the half-cycle that the two steps make
half_is : (c : After-joined)
    → c.joined.result ≡ half_at c.args.recording.now.settings (as_read c.args.recording.now.samples.now) (at c.before.before.before)
half_is c =
    c.joined.ensures
    ∙ ap (λ v. joined_of v c.step_at-next.result) c.loop-k.invariant.0
    ∙ ap (joined_of (step_at c.args.recording.now.settings c.args.recording.now.samples.now (at c.before.before.before))) (c.step_at-next.ensures ∙ ap (step_at c.args.recording.now.settings c.args.recording.now.samples.now) (add-one (at c.before.before.before)))
    ∙ half_here (reads _ _ _ _ c.requires) (at c.before.before.before) (below c.before.before.before)

told : (c : After-is_quiet)
    → c.is_quiet.result ≡ quiet c.args.recording.now.settings c.args.recording.now.samples.now (at c.before.before.before.before)
told c =
    quiet_told _ (good _ c.args.recording.now.good) _ _ _ _ c.args.recording.now.marked (half_is c.before) c.is_quiet.ensures

pub joined-requires : goal.joined-requires
joined-requires c =
    let g = good c.args.recording.now.settings c.args.recording.now.good in (
      rw c.loop-k.invariant.0 (step_addable c.args.recording.now.settings c.args.recording.now.samples.now g c.args.recording.now.shaped (at (goal.at.joined-requires c).In-loop-k) (omega (arith, below (goal.at.joined-requires c).In-loop-k, c.requires.high))),
      rw c.step_at-next.ensures (step_addable c.args.recording.now.settings c.args.recording.now.samples.now g c.args.recording.now.shaped (at (goal.at.joined-requires c).In-loop-k + 1) (omega (arith, below (goal.at.joined-requires c).In-loop-k, c.requires.high))),
    )

pub is_quiet-requires : goal.is_quiet-requires
is_quiet-requires c = rw (half_is c) (few_here (reads _ _ _ _ c.requires) _)

pub returns-then-not-is_quiet : goal.returns-then-not-is_quiet
returns-then-not-is_quiet c =
    record {
      k_is =
          sym (first_stop (quiet c.args.recording.now.settings c.args.recording.now.samples.now) (at (goal.at.returns-then-not-is_quiet c).In-loop-k) c.args.to (below (goal.at.returns-then-not-is_quiet c).In-loop-k) (sym (told (goal.at.returns-then-not-is_quiet c).After-is_quiet) ∙ c.if-not-is_quiet.true))
          ∙ c.loop-k.invariant.1;
      step = c.loop-k.invariant.0;
      next = λ l. c.step_at-next.ensures;
    }

pub loop-k-preserved : goal.loop-k-preserved
loop-k-preserved c = (
  c.step_at-next.ensures,
  sym (first_go (quiet c.args.recording.now.settings c.args.recording.now.samples.now) (at (goal.at.loop-k-preserved c).In-loop-k) c.args.to (below (goal.at.loop-k-preserved c).In-loop-k) (sym (told (goal.at.loop-k-preserved c).After-is_quiet) ∙ c.if-not-is_quiet.false))
      ∙ c.loop-k.invariant.1,
)
