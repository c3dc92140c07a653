-- The answers: what the checks say, and that room for a fifth as many half-cycles is room for their numbers. Assumes nothing.
use Rattle.std.specs.Prelude.{Ok, Err}
use Prim.Native.Nat.{ℕ, ◌*◌, ◌/◌, ◌≤◌, ◌<◌}
use mathlib.Core.Path.{◌≡◌, ◌∙◌}
use mathlib.Core.Bool.{true, false}
use mathlib.Core.List.{List}
use native.Mathlib.Omega.{arith}
use borrow.Author.Tests.{lt-ltb, le-ltb}
use lib.ListN.{length}
use lib.IntN.{ℤ}
use Rattle.rules.specs.Recorder.{settings_good, first_bad}
use Rattle.rules.specs.Halves.{halves_of}
use Rattle.rules.specs.Trace.{trace_of}
use Rattle.rules.specs.Refusals.{settings_check, recording_check, and_then, room_for, over, trace_room_check, trace_check, traced, trace_written}
use Rattle.rules.specs.declared.Settings.{Settings}
use Rattle.rules.specs.declared.Refusal.{Refusal}
use Rattle.rules.specs.declared.Refusal.TheVariants.{Sample, Room}
use Rattle.checks.specs.Flags.{shape_check, all_in_range}
use Rattle.checks.proofs.Given.{settings_good_lem, turned-before}
use Rattle.checks.proofs.Reading.{by_range, range_good, range_bad}

module _ (s : Settings) (xs : List ℤ) where
  -- where the checks refuse, nothing is written
  module _ (r : Refusal) (out : List ℕ) (no : trace_check s xs (length out) ≡ Err r) where
    told_no : Err r ≡ traced s xs (length out)
    unfolding traced
    told_no = rw no

    kept : out ≡ trace_written s xs out
    unfolding trace_written
    kept = rw no

  -- ---- a refusal before the samples are looked at

  module _ (r : Refusal) (out : List ℕ) (no : and_then (settings_check s) (shape_check s xs) ≡ Err r) where
    check_turned : trace_check s xs (length out) ≡ Err r
    unfolding trace_check
    check_turned = turned-before s xs r (trace_room_check s xs (length out)) no

    pub trace-turned : Err r ≡ traced s xs (length out)
    trace-turned = told_no r out check_turned

    pub run-turned : out ≡ trace_written s xs out
    run-turned = kept r out check_turned

  module _ (good : settings_good s ≡ true) (shaped : shape_check s xs ≡ Ok tt) (out : List ℕ) where
    -- ---- a bad sample

    module _ (bad : all_in_range xs ≡ false) (r : Refusal) (is : r ≡ Sample (first_bad xs)) where
      check_bad : trace_check s xs (length out) ≡ Err r
      unfolding trace_check
      check_bad = rw (settings_good_lem s good, by_range s xs shaped, range_bad xs bad, is)

      pub trace-bad : Err r ≡ traced s xs (length out)
      trace-bad = told_no r out check_bad

      pub run-bad : out ≡ trace_written s xs out
      run-bad = kept r out check_bad

    -- ---- an accepted recording

    module _ (fine : all_in_range xs ≡ true) where
      pub accepted : recording_check s xs ≡ Ok tt
      accepted = by_range s xs shaped ∙ range_good xs fine

      module _ (n : ℕ) (all : n ≡ halves_of s xs) where
        check_room : trace_check s xs (length out) ≡ room_for 5 n (length out)
        unfolding trace_check trace_room_check
        check_room = rw (settings_good_lem s good, accepted, all)

        module _ (short : length out / 5 < n) where
          check_short : trace_check s xs (length out) ≡ Err (Room n)
          check_short = check_room ∙ rw (lt-ltb (length out) (5 * n) (omega arith))

          pub trace-short : Err (Room n) ≡ traced s xs (length out)
          trace-short = told_no (Room n) out check_short

          pub run_short : out ≡ trace_written s xs out
          run_short = kept (Room n) out check_short

        module _ (enough : n ≤ length out / 5) where
          check_enough : trace_check s xs (length out) ≡ Ok tt
          check_enough = check_room ∙ rw (le-ltb (length out) (5 * n) (omega arith))

          pub trace-all : Ok n ≡ traced s xs (length out)
          unfolding traced
          trace-all = rw (check_enough, all)

          pub run-all : over (trace_of s xs) out ≡ trace_written s xs out
          unfolding trace_written
          run-all = rw check_enough
