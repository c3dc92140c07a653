-- The tests of one signed sample, and what the flags over a whole run say of its first bad one. Assumes nothing.
use Prim.Native.Nat.{ℕ, zero, suc, ◌-◌, ◌≤◌}
use mathlib.Core.Path.{◌≡◌, refl, sym, ap, ◌∙◌}
use mathlib.Core.Bool.{Bool, true, false, not, ◌||◌}
use mathlib.Core.List.{List}
use mathlib.Core.Logic.{⊎_elim}
use Rattle.rules.proofs.Booleans.{cases}
use native.Mathlib.Numerals.{add-one}
use native.Mathlib.Omega.{arith}
use borrow.Author.Tests.{eq-eqb, ne_eqb, eqb-true, eqb-false, ltb-true, ltb-false, lt-leb, le-leb}
use lib.Dec.{leb, ltb, eqb, leb-suc-suc}
use lib.IntN.{ℤ, pos, negsuc}
use lib.ListN.{length, get_or}
use lib.Signed.{lt_z}
use mir.Syntax.{w32}
use mir.Val.{SFits, of_z}
use Rattle.rules.specs.Recorder.{missing, in_range, first_bad}
use Rattle.rules.specs.Bounded.{first_not}
use Rattle.rules.proofs.Runs.{first_go}
use Rattle.rules.proofs.Samples.{first_found}
use Rattle.checks.specs.Flags.{outside, too_low, too_high, all_in_range, RangedBelow}

-- ---- the test against MISSING, whose bits are 2 ^ 31

is_missing : (x : ℤ) → SFits w32 x → of_z w32 x ≡ 2147483648 → missing x ≡ true
is_missing (pos n) f e = absurd (omega (arith, f.sfits))
is_missing (negsuc n) f e = eq-eqb n 2147483647 (omega (arith, f.sfits))

not_missing : (x : ℤ) → (of_z w32 x ≡ 2147483648 → ⊥) → missing x ≡ false
not_missing (pos n) h = refl
not_missing (negsuc n) h = ne_eqb n 2147483647 (λ e. h (omega arith))

pub missing_is : (x : ℤ) → SFits w32 x → eqb (of_z w32 x) 2147483648 ≡ missing x
missing_is x f = by (eqb (of_z w32 x) 2147483648) refl
  where
    by : (t : Bool) → eqb (of_z w32 x) 2147483648 ≡ t → t ≡ missing x
    by true e = sym (is_missing x f (eqb-true _ _ e))
    by false e = sym (not_missing x (eqb-false _ _ e))

-- ---- the tests against the limits

pub low_is : (x : ℤ) → lt_z x (negsuc 99999) ≡ too_low x
low_is (pos n) = refl
low_is (negsuc n) = refl

pub high_is : (x : ℤ) → lt_z (pos 100000) x ≡ too_high x
high_is (pos n) = refl
high_is (negsuc n) = refl

at_most : (n m : ℕ) → not (ltb m n) ≡ leb n m
at_most n m = ⊎_elim (λ e. ap not e ∙ sym (lt-leb n m (ltb-true m n e))) (λ e. ap not e ∙ sym (le-leb n m (ltb-false m n e))) (cases (ltb m n))

pub outside_is : (x : ℤ) → too_low x || too_high x ≡ outside x
outside_is (pos n) = twice (ltb 100000 n) ∙ ap not (at_most n 100000)
  where
    twice : (b : Bool) → b ≡ not (not b)
    twice true = refl
    twice false = refl
outside_is (negsuc n) = or_false (ltb 99999 n) ∙ ap not (at_most n 99999 ∙ sym (leb-suc-suc n 99999))
  where
    or_false : (b : Bool) → b || false ≡ not (not b)
    or_false true = refl
    or_false false = refl

-- ---- a whole run: a bad sample is found exactly where the flags say that there is one

pub bad_is : (xs : List ℤ) → ltb (first_bad xs) (length xs) ≡ not (all_in_range xs)
unfolding first_bad all_in_range
bad_is xs = first_found (λ i. in_range (get_or xs i (pos 0))) (length xs)

-- the search may begin at any index before which no sample is bad
pub first_from : (xs : List ℤ) (a : ℕ) → a ≤ length xs → RangedBelow xs a → first_not (λ i. in_range (get_or xs i (pos 0))) a (length xs - a) ≡ first_bad xs
unfolding first_bad
first_from xs zero l h = let e : length xs - 0 ≡ length xs = omega arith in rw e
first_from xs (suc a) l h =
    sym (first_go (λ i. in_range (get_or xs i (pos 0))) a (length xs) l (h a (omega arith)) ∙ rw add-one)
    ∙ first_from xs a (omega arith) (λ i m. h i (omega arith))
