-- "Some", "every", "how many", "the sum" and "the first" over the whole numbers below a bound, as tests that compute.
use Rattle.std.specs.Prelude.{ℕ, zero, suc, ◌+◌, Bool, true, false, ◌&&◌, ◌||◌, cond, List, [], ◌++◌}

-- some j below n passes p
abbrev pub any : (ℕ → Bool) → ℕ → Bool
any p zero = false
any p (suc n) = any p n || p n

-- every j below n passes p
abbrev pub all : (ℕ → Bool) → ℕ → Bool
all p zero = true
all p (suc n) = all p n && p n

-- 1 where it holds
abbrev pub bit : Bool → ℕ
bit true = 1
bit false = 0

-- how many j below n pass p
abbrev pub count : (ℕ → Bool) → ℕ → ℕ
count p zero = 0
count p (suc n) = count p n + bit (p n)

-- f 0 + .. + f (n - 1)
abbrev pub sum : (ℕ → ℕ) → ℕ → ℕ
sum f zero = 0
sum f (suc n) = sum f n + f n

-- f 0 ++ .. ++ f (n - 1)
abbrev pub join : {A : Type 0} → (ℕ → List A) → ℕ → List A
join f zero = []
join f (suc n) = join f n ++ f n

-- what p says of the number before k, of which 0 has none
abbrev pub before : (ℕ → Bool) → ℕ → Bool
before p zero = false
before p (suc k) = p k

-- the first k from s on that p refuses, or s + n where the n of them pass
abbrev pub first_not : (ℕ → Bool) → ℕ → ℕ → ℕ
first_not p s zero = s
first_not p s (suc n) = let r = first_not p (suc s) n in cond (p s) r s
