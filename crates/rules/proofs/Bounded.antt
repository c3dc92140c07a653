-- Laws of the bounded tests, counts and sums. Assumes nothing.
use Prim.Native.Nat.{ℕ, zero, suc, ◌+◌, ◌≤◌, ◌<◌}
use mathlib.Core.Path.{◌≡◌, refl}
use mathlib.Core.Bool.{Bool, true, false}
use mathlib.Core.Logic.{⊎_elim}
use native.Mathlib.Nat.{eq-or-lt_of_le}
use native.Mathlib.Numerals.{add-one}
use native.Mathlib.Omega.{arith}
use Rattle.rules.specs.Bounded.{any, all, count, sum}
use Rattle.rules.proofs.Booleans.{bit_le, both}

-- two tests that agree below n
pub any_same : (p q : ℕ → Bool) (n : ℕ) → ((j : ℕ) → j < n → p j ≡ q j) → any p n ≡ any q n
any_same p q zero h = refl
any_same p q (suc n) h = rw (any_same p q n (λ j l. h j (omega arith)), h n (omega arith))

pub all_same : (p q : ℕ → Bool) (n : ℕ) → ((j : ℕ) → j < n → p j ≡ q j) → all p n ≡ all q n
all_same p q zero h = refl
all_same p q (suc n) h = rw (all_same p q n (λ j l. h j (omega arith)), h n (omega arith))

pub count_same : (p q : ℕ → Bool) (n : ℕ) → ((j : ℕ) → j < n → p j ≡ q j) → count p n ≡ count q n
count_same p q zero h = refl
count_same p q (suc n) h = rw (count_same p q n (λ j l. h j (omega arith)), h n (omega arith))

pub sum_same : (f g : ℕ → ℕ) (n : ℕ) → ((j : ℕ) → j < n → f j ≡ g j) → sum f n ≡ sum g n
sum_same f g zero h = refl
sum_same f g (suc n) h = rw (sum_same f g n (λ j l. h j (omega arith)), h n (omega arith))

pub all_true : (p : ℕ → Bool) (n : ℕ) → ((j : ℕ) → j < n → p j ≡ true) → all p n ≡ true
all_true p zero h = refl
all_true p (suc n) h = rw (all_true p n (λ j l. h j (omega arith)), h n (omega arith))

pub any_false : (p : ℕ → Bool) (n : ℕ) → ((j : ℕ) → j < n → p j ≡ false) → any p n ≡ false
any_false p zero h = refl
any_false p (suc n) h = rw (any_false p n (λ j l. h j (omega arith)), h n (omega arith))

-- what "every" says of each
pub all-at : (p : ℕ → Bool) (n : ℕ) → all p n ≡ true → (j : ℕ) → j < n → p j ≡ true
all-at p zero h j l = absurd (omega arith)
all-at p (suc n) h j l =
    ⊎_elim (λ e. rw e (both (all p n) (p n) h).1) (λ m. all-at p n (both (all p n) (p n) h).0 j m)
    (eq-or-lt_of_le (omega arith))

pub count_le : (p : ℕ → Bool) (n : ℕ) → count p n ≤ n
count_le p zero = omega arith
count_le p (suc n) = omega (arith, count_le p n, bit_le (p n))

pub count-more : (p : ℕ → Bool) (k n : ℕ) → k ≤ n → count p k ≤ count p n
count-more p k zero l = let e : k ≡ 0 = omega arith in rw e (omega arith)
count-more p k (suc n) l =
    ⊎_elim (λ e. rw e (omega arith)) (λ m. omega (arith, count-more p k n (omega arith))) (eq-or-lt_of_le l)

pub sum-next : (f : ℕ → ℕ) (k : ℕ) → sum f (k + 1) ≡ sum f k + f k
sum-next f k = rw add-one
