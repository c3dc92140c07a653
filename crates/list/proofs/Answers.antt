-- The lister's answers: what the checks say, and that room for an eleventh as many events is room for their numbers. Assumes nothing.
use Rattle.std.specs.Prelude.{Result, Ok, Err, ⊤}
use Prim.Native.Nat.{ℕ, ◌*◌, ◌/◌, ◌≤◌, ◌<◌}
use mathlib.Core.Path.{◌≡◌, refl, sym, ◌∙◌}
use mathlib.Core.Bool.{true, cond}
use mathlib.Core.List.{List}
use native.Mathlib.Omega.{arith}
use borrow.Author.Tests.{lt-ltb, le-ltb}
use lib.Dec.{ltb}
use lib.ListN.{length}
use lib.IntN.{ℤ}
use Rattle.rules.specs.Recorder.{settings_good}
use Rattle.rules.specs.EventList.{events_of, flat}
use Rattle.rules.specs.Refusals.{settings_check, recording_check, room_check, list_check, and_then, by_check, over, listed, written}
use Rattle.checks.specs.Flags.{shape_check}
use Rattle.checks.proofs.Given.{settings_good_lem, turned-before}
use Rattle.rules.proofs.Order.{flat-length}
use Rattle.rules.specs.declared.Settings.{Settings}
use Rattle.rules.specs.declared.Refusal.{Refusal}
use Rattle.rules.specs.declared.Refusal.TheVariants.{Room}

module _ (s : Settings) (xs : List ℤ) where
  -- where the checks refuse, nothing is written
  module _ (r : Refusal) (out : List ℕ) (no : list_check s xs (length out) ≡ Err r) where
    told_no : Err r ≡ listed s xs (length out)
    unfolding listed
    told_no = rw no

    kept : out ≡ written s xs out
    unfolding written
    kept = rw no

  -- ---- a refusal before the samples are looked at

  module _ (r : Refusal) (out : List ℕ) (no : and_then (settings_check s) (shape_check s xs) ≡ Err r) where
    check_turned : list_check s xs (length out) ≡ Err r
    unfolding list_check
    check_turned = turned-before s xs r (room_check s xs (length out)) no

    pub list-turned : Err r ≡ listed s xs (length out)
    list-turned = told_no r out check_turned

    pub run-turned : out ≡ written s xs out
    run-turned = kept r out check_turned

  -- ---- what the counting pass tells: how many events there are, or refusal 6

  module _ (l : Result ℕ Refusal) (told : l ≡ by_check (recording_check s xs) (Ok (length (events_of s xs))) (λ q. Err q)) where
    pub counted : (n : ℕ) → l ≡ Ok n → (recording_check s xs ≡ Ok tt) × (n ≡ length (events_of s xs))
    counted n e = by (recording_check s xs) refl
      where
        by : (c : Result ⊤ Refusal) → recording_check s xs ≡ c → (c ≡ Ok tt) × (n ≡ length (events_of s xs))
        by (Ok _) f = let i : Ok n ≡ Ok (length (events_of s xs)) = sym e ∙ told ∙ rw f in (refl, cc)
        by (Err q) f = let i : Ok n ≡ Err q = sym e ∙ told ∙ rw f in let z : ◌≡◌ {A = ℕ} 0 1 = cc in absurd (omega arith)

    module _ (good : settings_good s ≡ true) (q : Refusal) (e : l ≡ Err q) where
      refused : recording_check s xs ≡ Err q
      refused = by (recording_check s xs) refl
        where
          by : (c : Result ⊤ Refusal) → recording_check s xs ≡ c → c ≡ Err q
          by (Ok _) f = let i : Err q ≡ Ok (length (events_of s xs)) = sym e ∙ told ∙ rw f in let z : ◌≡◌ {A = ℕ} 0 1 = cc in absurd (omega arith)
          by (Err r) f = let i : Err q ≡ Err r = sym e ∙ told ∙ rw f in cc

      module _ (out : List ℕ) where
        check_bad : list_check s xs (length out) ≡ Err q
        unfolding list_check
        check_bad = rw (settings_good_lem s good, refused)

        pub list-bad : Err q ≡ listed s xs (length out)
        list-bad = told_no q out check_bad

        pub run-bad : out ≡ written s xs out
        run-bad = kept q out check_bad

  -- ---- an accepted recording

  module _ (good : settings_good s ≡ true) (ok : recording_check s xs ≡ Ok tt) (n : ℕ) (all : n ≡ length (events_of s xs)) (out : List ℕ) where
    check_room : list_check s xs (length out) ≡ cond (ltb (length out) (11 * n)) (Err (Room n)) (Ok tt)
    unfolding list_check room_check
    check_room = rw (settings_good_lem s good, ok, all)

    module _ (short : length out / 11 < n) where
      check_no : list_check s xs (length out) ≡ Err (Room n)
      check_no = check_room ∙ rw (lt-ltb (length out) (11 * n) (omega arith))

      pub list_no : Err (Room n) ≡ listed s xs (length out)
      list_no = told_no (Room n) out check_no

      pub run_no : out ≡ written s xs out
      run_no = kept (Room n) out check_no

    module _ (enough : n ≤ length out / 11) where
      check_yes : list_check s xs (length out) ≡ Ok tt
      check_yes = check_room ∙ rw (le-ltb (length out) (11 * n) (omega arith))

      pub list_yes : Ok n ≡ listed s xs (length out)
      unfolding listed
      list_yes = rw (check_yes, all)

      pub run_yes : over (flat (events_of s xs)) out ≡ written s xs out
      unfolding written
      run_yes = rw check_yes

      pub room_enough : length (flat (events_of s xs)) ≤ length out
      room_enough = omega (arith, flat-length (events_of s xs))
