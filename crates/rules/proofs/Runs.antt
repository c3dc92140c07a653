-- In an event at k, told by the half-cycle before: the machine that the code runs. Stated once, over any three tests, and so for
-- every kind. Assumes nothing.
use Prim.Native.Nat.{ℕ, zero, suc, ◌+◌, ◌-◌, ◌≤◌, ◌<◌}
use mathlib.Core.Path.{◌≡◌, refl, ◌∙◌}
use mathlib.Core.Bool.{Bool, true, false, not, ◌&&◌, ◌||◌}
use mathlib.Core.Logic.{⊎_elim}
use native.Mathlib.Nat.{eq-or-lt_of_le}
use native.Mathlib.Numerals.{add-one}
use native.Mathlib.Omega.{arith}
use borrow.Author.Tests.{lt-ltb, le-ltb}
use lib.Dec.{ltb}
use Rattle.rules.specs.Bounded.{any, all, before, first_not}
use Rattle.rules.specs.Halves.{Half, known}
use Rattle.rules.specs.Events.{begins, ends, carries, in_run, in_event}
use Rattle.rules.specs.Demands.{goes_on}
use Rattle.rules.specs.declared.Settings.{Settings}
use Rattle.rules.specs.declared.Kind.{Kind}
use Rattle.rules.proofs.Bounded.{any_same, all_true, any_false}

or_and : (a b c : Bool) → (a && c) || (b && c) ≡ (a || b) && c
or_and true b true = refl
or_and true true false = refl
or_and true false false = refl
or_and false b c = refl

any_and : (p : ℕ → Bool) (c : Bool) (n : ℕ) → any (λ j. p j && c) n ≡ any p n && c
any_and p c zero = refl
any_and p c (suc n) = rw (any_and p c n) (or_and (any p n) (p n) c)

regroup : (a b c x y : Bool) → a && (b && x) && not (c || y) ≡ (a && b && not c) && (x && not y)
regroup false b c x y = refl
regroup true false c x y = refl
regroup true true true true y = refl
regroup true true true false y = refl
regroup true true false x y = refl

shape : (i b n e : Bool) → (i && (n && not e)) || (b && n) ≡ n && (b || (i && not e))
shape true true true true = refl
shape true true true false = refl
shape true true false e = refl
shape true false true true = refl
shape true false true false = refl
shape true false false e = refl
shape false true true e = refl
shape false true false e = refl
shape false false true e = refl
shape false false false e = refl

here : (a b : Bool) → a && b && true ≡ a && b
here true true = refl
here true false = refl
here false b = refl

module _ (begins known ends : ℕ → Bool) where
  -- what carries to k and goes on to the next
  carries-next : (k j : ℕ) → j < suc k → carries begins known ends (suc k) j ≡ carries begins known ends k j && (known (suc k) && not (ends (suc k)))
  unfolding carries
  carries-next k j l =
      rw (le-ltb (suc k) j (omega arith), lt-ltb j (suc k) l)
      (regroup (begins j) (all (λ m. ltb m j || known m) (suc k)) (any (λ m. ltb j m && ends m) (suc k)) (known (suc k)) (ends (suc k)))

  carries_here : (k : ℕ) → carries begins known ends k k ≡ begins k && known k
  unfolding carries
  carries_here k =
      rw (
        le-ltb k k (omega arith),
        all_true (λ m. ltb m k || known m) k (λ m l. rw (lt-ltb m k l)),
        any_false (λ m. ltb k m && ends m) k (λ m l. rw (le-ltb k m (omega arith))),
      )
      (here (begins k) (known k))

  -- THE LAW: in an event at k
  pub in_step : (k : ℕ) → in_run begins known ends k ≡ known k && (begins k || (before (in_run begins known ends) k && not (ends k)))
  unfolding in_run
  in_step zero = carries_here 0 ∙ shape false (begins 0) (known 0) (ends 0)
  in_step (suc k) =
      rw (
        any_same (carries begins known ends (suc k)) (λ j. carries begins known ends k j && (known (suc k) && not (ends (suc k)))) (suc k) (carries-next k),
        any_and (carries begins known ends k) (known (suc k) && not (ends (suc k))) (suc k),
        carries_here (suc k),
      )
      (shape (any (carries begins known ends k) (suc k)) (begins (suc k)) (known (suc k)) (ends (suc k)))

pub in_next : (s : Settings) (h : ℕ → Half) (kind : Kind) (k : ℕ)
    → in_event s h kind k ≡ goes_on s kind (before (in_event s h kind) k) (h k)
unfolding in_event
in_next s h kind k = in_step (λ j. begins s kind (h j)) (λ j. known (h j)) (λ j. ends s kind (h j)) k

-- ---- the walk to a run's end, a turn at a time

module _ (p : ℕ → Bool) (k n : ℕ) where
  pub first_go : k < n → p k ≡ true → first_not p k (n - k) ≡ first_not p (k + 1) (n - (k + 1))
  first_go l e = let s : n - k ≡ suc (n - (k + 1)) = omega arith in rw (s, e, add-one)

  pub first_stop : k < n → p k ≡ false → first_not p k (n - k) ≡ k
  first_stop l e = let s : n - k ≡ suc (n - (k + 1)) = omega arith in rw (s, e)

  pub first_end : k ≡ n → first_not p k (n - k) ≡ k
  first_end e = let s : n - k ≡ 0 = omega arith in rw s

-- where the walk stops: at t, if all before pass and t does not; at its end, if all pass
pub first_is : (p : ℕ → Bool) (s n t : ℕ) → s ≤ t → t < s + n → ((m : ℕ) → s ≤ m → m < t → p m ≡ true) → p t ≡ false → first_not p s n ≡ t
first_is p s zero t l u h e = absurd (omega arith)
first_is p s (suc n) t l u h e =
    ⊎_elim (λ q. let f : p s ≡ false = rw q e in rw f q) (λ q. rw (h s (omega arith) q) (first_is p (suc s) n t q (omega arith) (λ m a b. h m (omega arith) b) e))
    (eq-or-lt_of_le l)

pub first_all : (p : ℕ → Bool) (s n : ℕ) → ((m : ℕ) → s ≤ m → m < s + n → p m ≡ true) → first_not p s n ≡ s + n
first_all p s zero h = omega arith
first_all p s (suc n) h =
    rw (h s (omega arith) (omega arith)) (first_all p (suc s) n (λ m a b. h m (omega arith) (omega arith)) ∙ omega arith)

-- the run from s through k - 1 that k is not in ends at k
pub first_ends : (p : ℕ → Bool) (s k n : ℕ) → s ≤ k → k ≤ n → ((m : ℕ) → s ≤ m → m < k → p m ≡ true) → p k ≡ false → first_not p s (n - s) ≡ k
first_ends p s k n l u h e =
    ⊎_elim (λ q. first_all p s (n - s) (λ m a b. h m a (omega arith)) ∙ omega arith) (λ q. first_is p s (n - s) k l (omega arith) h e)
    (eq-or-lt_of_le u)
