-- Where neither the settings nor the length is refused, each is accepted. Assumes nothing.
use Rattle.std.specs.Prelude.{Result, Ok, Err, ⊤}
use Prim.Native.Nat.{ℕ}
use mathlib.Core.Path.{◌≡◌, refl, sym, ◌∙◌}
use native.Mathlib.Omega.{arith}
use Rattle.rules.specs.Refusals.{and_then}
use Rattle.rules.specs.declared.Refusal.{Refusal}
use Rattle.checks.proofs.Given.{settings-accepted}
use Rattle.halves.proofs.Recording.new.Goals as goal

each : (a b : Result ⊤ Refusal) → and_then a b ≡ Ok tt → (a ≡ Ok tt) × (b ≡ Ok tt)
each (Ok _) b e = (refl, e)
each (Err r) b e = let z : ◌≡◌ {A = ℕ} 0 1 = cc in absurd (omega arith)

pub accepted-requires : goal.accepted-requires
accepted-requires c =
    let v = each _ _ (sym c.check.ensures ∙ c.in_ok-check.was) in
    (settings-accepted _ v.0, v.1)
