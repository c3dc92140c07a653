-- Cases: of a choice by a test, of a disjunction, of two numbers. Assumes nothing.
use Prim.Native.Nat.{ℕ, ◌≤◌, ◌<◌}
use mathlib.Core.Path.{◌≡◌, refl}
use mathlib.Core.Bool.{Bool, true, false, ◌||◌, cond}
use mathlib.Core.Logic.{◌⊎◌, inl, inr, ⊎_elim}
use borrow.Author.Tests.{ltb-true, ltb-false}
use lib.Dec.{ltb}
use Rattle.rules.proofs.Booleans.{cases}

-- a fact of what a test chose, told by both cases
pub of_cond : {A : Type 0} (P : A → Type 0) (b : Bool) (x y : A) → (b ≡ true → P x) → (b ≡ false → P y) → P (cond b x y)
of_cond P true x y p q = p refl
of_cond P false x y p q = q refl

-- a disjunction holds where its second part does whenever the first does not
pub or_by : (a b : Bool) → (a ≡ false → b ≡ true) → a || b ≡ true
or_by true b h = refl
or_by false b h = h refl

pub or_else : (a b : Bool) → a || b ≡ true → a ≡ false → b ≡ true
or_else a b h e = rw e at h

-- which of two numbers is the lower
pub lower : (a b : ℕ) → (a < b) ⊎ (b ≤ a)
lower a b = ⊎_elim (λ e. inl (ltb-true a b e)) (λ e. inr (ltb-false a b e)) (cases (ltb a b))
