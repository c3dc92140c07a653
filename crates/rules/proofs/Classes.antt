-- Every half-cycle is exactly one of healthy, disturbed, unknown, and every sag exactly one of placed, unplaced, so the counts of the
-- classes add up: one test cuts another's class in two, and a test and its opposite make up all. Assumes nothing.
use Prim.Native.Nat.{ℕ, zero, suc, ◌+◌}
use mathlib.Core.Path.{◌≡◌, refl}
use mathlib.Core.Bool.{Bool, true, false, not, ◌&&◌, ◌||◌}
use native.Mathlib.Omega.{arith}
use Rattle.rules.specs.Bounded.{bit, count}
use Rattle.rules.specs.Halves.{Half, known}
use Rattle.rules.specs.Events.{in_event, starts, end_of, start_seen, end_seen}
use Rattle.rules.specs.Site.{in_any, is_healthy, is_disturbed, is_unknown, is_placed, is_unplaced}
use Rattle.rules.specs.declared.Settings.{Settings}
use Rattle.rules.specs.declared.Kind.TheVariants.{Sag, Interruption, Swell}
use Rattle.rules.proofs.Longest.{in_known}

-- ---- of any tests

-- a class cut in two by a test
bits-cut : (a b : Bool) → bit (a && b) + bit (a && not b) ≡ bit a
bits-cut true true = refl
bits-cut true false = refl
bits-cut false b = refl

pub count_cut : (p q : ℕ → Bool) (n : ℕ) → count (λ k. p k && q k) n + count (λ k. p k && not (q k)) n ≡ count p n
count_cut p q zero = refl
count_cut p q (suc n) = omega (arith, count_cut p q n, bits-cut (p n) (q n))

-- a test and its opposite
bits-all : (a : Bool) → bit a + bit (not a) ≡ 1
bits-all true = refl
bits-all false = refl

pub count-all : (p : ℕ → Bool) (n : ℕ) → count p n + count (λ k. not (p k)) n ≡ n
count-all p zero = refl
count-all p (suc n) = omega (arith, count-all p n, bits-all (p n))

-- ---- half-cycles

pub one_class : (s : Settings) (h : ℕ → Half) (k : ℕ)
    → bit (is_healthy s h k) + bit (is_disturbed s h k) + bit (is_unknown s h k) ≡ 1
unfolding is_healthy is_disturbed is_unknown
one_class s h k = omega (arith, bits-cut (known (h k)) (in_any s h k), bits-all (known (h k)))

-- one that is known is healthy or disturbed, and never both
pub not_both_classes : (s : Settings) (h : ℕ → Half) (k : ℕ) → is_healthy s h k && is_disturbed s h k ≡ false
unfolding is_healthy is_disturbed
not_both_classes s h k = go (known (h k)) (in_any s h k)
  where
    go : (a b : Bool) → (a && not b) && (a && b) ≡ false
    go true true = refl
    go true false = refl
    go false b = refl

pub known_class : (s : Settings) (h : ℕ → Half) (k : ℕ) → is_healthy s h k || is_disturbed s h k ≡ known (h k)
unfolding is_healthy is_disturbed
known_class s h k = go (known (h k)) (in_any s h k)
  where
    go : (a b : Bool) → (a && not b) || (a && b) ≡ a
    go true true = refl
    go true false = refl
    go false b = refl

-- one that is in an event is known, and so disturbed
pub in_disturbed : (s : Settings) (h : ℕ → Half) (k : ℕ) → in_any s h k ≡ is_disturbed s h k
unfolding is_disturbed
in_disturbed s h k =
    go (in_event s h Sag k) (in_event s h Interruption k) (in_event s h Swell k) (known (h k)) (in_known s h Sag k) (in_known s h Interruption k) (in_known s h Swell k)
  where
    go : (a b c d : Bool) → (a ≡ true → d ≡ true) → (b ≡ true → d ≡ true) → (c ≡ true → d ≡ true) → a || b || c ≡ d && (a || b || c)
    go true b c d x y z = rw (x refl)
    go false true c d x y z = rw (y refl)
    go false false true d x y z = rw (z refl)
    go false false false true x y z = refl
    go false false false false x y z = refl

pub three-classes : (s : Settings) (h : ℕ → Half) (n : ℕ)
    → count (is_healthy s h) n + count (is_disturbed s h) n + count (is_unknown s h) n ≡ n
unfolding is_healthy is_disturbed is_unknown
three-classes s h n = omega (arith, count_cut (λ k. known (h k)) (in_any s h) n, count-all (λ k. known (h k)) n)

-- ---- sags

pub one_place : (s : Settings) (h : ℕ → Half) (n k : ℕ)
    → bit (is_placed s h n k) + bit (is_unplaced s h n k) ≡ bit (starts s h Sag k)
unfolding is_placed is_unplaced
one_place s h n k = bits-cut (starts s h Sag k) (start_seen h k && end_seen h (end_of s h n Sag k))

pub placed_or_not : (s : Settings) (h : ℕ → Half) (n m : ℕ)
    → count (is_placed s h n) m + count (is_unplaced s h n) m ≡ count (starts s h Sag) m
unfolding is_placed is_unplaced
placed_or_not s h n m = count_cut (starts s h Sag) (λ k. start_seen h k && end_seen h (end_of s h n Sag k)) m
