-- Laws of sums over the numbers below a bound. Assumes nothing.
use Prim.Native.Nat.{ℕ, zero, suc, ◌+◌, ◌<◌}
use mathlib.Core.Path.{◌≡◌, refl, sym, ap, ◌∙◌}
use mathlib.Core.Bool.{Bool, true, false, ◌&&◌}
use mathlib.Core.Logic.{⊎_elim}
use native.Mathlib.Nat.{eq-or-lt_of_le}
use native.Mathlib.Omega.{arith}
use borrow.Author.Tests.{eq-eqb, ne_eqb}
use lib.Dec.{eqb}
use Rattle.rules.specs.Bounded.{bit, count, sum}

pub sum-plus : (f g : ℕ → ℕ) (n : ℕ) → sum (λ k. f k + g k) n ≡ sum f n + sum g n
sum-plus f g zero = refl
sum-plus f g (suc n) = omega (arith, sum-plus f g n)

pub sum-none : (f : ℕ → ℕ) (n : ℕ) → ((k : ℕ) → k < n → f k ≡ 0) → sum f n ≡ 0
sum-none f zero h = refl
sum-none f (suc n) h = omega (arith, sum-none f n (λ k l. h k (omega arith)), h n (omega arith))

-- where only x counts
pub sum_one : (f : ℕ → ℕ) (x n : ℕ) → x < n → ((k : ℕ) → k < n → (k ≡ x → ⊥) → f k ≡ 0) → sum f n ≡ f x
sum_one f x zero l h = absurd (omega arith)
sum_one f x (suc n) l h =
    ⊎_elim
    (λ e. rw e (omega (arith, sum-none f n (λ k u. h k (omega arith) (λ q. omega arith)))))
    (λ u. omega (arith, sum_one f x n u (λ k v. h k (omega arith)), h n (omega arith) (λ q. omega arith)))
    (eq-or-lt_of_le {n = x} {m = n} (omega arith))

-- the counts of a class by a number below c make up the class
pub parts-make_up : (p : ℕ → Bool) (g : ℕ → ℕ) (c m : ℕ) → ((k : ℕ) → g k < c)
    → sum (λ i. count (λ k. p k && eqb (g k) i) m) c ≡ count p m
parts-make_up p g c zero h = sum-none (λ i. 0) c (λ k l. refl)
parts-make_up p g c (suc m) h =
    sum-plus (λ i. count (λ k. p k && eqb (g k) i) m) (λ i. bit (p m && eqb (g m) i)) c
    ∙ rw (parts-make_up p g c m h)
    (ap (λ x. count p m + x)
    (sum_one (λ i. bit (p m && eqb (g m) i)) (g m) c (h m) (λ k l e. other (p m) k e) ∙ same (p m)))
  where
    other : (b : Bool) (k : ℕ) → (k ≡ g m → ⊥) → bit (b && eqb (g m) k) ≡ 0
    other true k e = rw (ne_eqb (g m) k (λ q. e (sym q)))
    other false k e = refl

    same : (b : Bool) → bit (b && eqb (g m) (g m)) ≡ bit b
    same true = rw (eq-eqb (g m) (g m) refl)
    same false = refl
