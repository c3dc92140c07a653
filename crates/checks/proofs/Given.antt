-- Settings and length, which every call checks first: what it says that they are accepted, and that their refusal comes before all that
-- is checked later. Assumes nothing.
use Rattle.std.specs.Prelude.{Result, Ok, Err, ⊤}
use Prim.Native.Nat.{ℕ}
use mathlib.Core.Path.{◌≡◌, refl, sym}
use mathlib.Core.Bool.{Bool, true, false, cond}
use mathlib.Core.List.{List}
use native.Mathlib.Omega.{arith}
use lib.IntN.{ℤ}
use Rattle.rules.specs.Recorder.{bad_setting, settings_good}
use Rattle.rules.specs.Refusals.{settings_check, recording_check, and_then}
use Rattle.rules.specs.declared.Settings.{Settings}
use Rattle.rules.specs.declared.Refusal.{Refusal}
use Rattle.rules.specs.declared.Refusal.TheVariants.{Setting}
use Rattle.checks.specs.Flags.{shape_check, range_check}
use Rattle.checks.proofs.Reading.{check_parts}

never : (r : Refusal) → ◌≡◌ {A = Result ⊤ Refusal} (Err r) (Ok tt) → ⊥
never r e = let z : ◌≡◌ {A = ℕ} 0 1 = cc in omega arith

pub settings-accepted : (s : Settings) → settings_check s ≡ Ok tt → settings_good s ≡ true
unfolding settings_check
settings-accepted s e = either (settings_good s) e
  where
    either : (b : Bool) → cond {A = Result ⊤ Refusal} b (Ok tt) (Err (Setting (bad_setting s))) ≡ Ok tt → b ≡ true
    either true e = refl
    either false e = absurd (never (Setting (bad_setting s)) e)

pub settings_good_lem : (s : Settings) → settings_good s ≡ true → settings_check s ≡ Ok tt
unfolding settings_check
settings_good_lem s e = rw e

-- whatever the last check is
pub turned-before : (s : Settings) (xs : List ℤ) (r : Refusal) (last : Result ⊤ Refusal) → and_then (settings_check s) (shape_check s xs) ≡ Err r
    → and_then (settings_check s) (and_then (recording_check s xs) last) ≡ Err r
turned-before s xs r last e = rw (check_parts s xs) (either (settings_check s) (shape_check s xs) e)
  where
    either : (a b : Result ⊤ Refusal) → and_then a b ≡ Err r → and_then a (and_then (and_then b (range_check xs)) last) ≡ Err r
    either (Ok _) (Ok _) e = absurd (never r (sym e))
    either (Ok _) (Err q) e = e
    either (Err q) b e = e
