-- Runs of numbers: two added place by place, and what a pass that writes from the front has not reached yet. Assumes nothing.
use Prim.Native.Nat.{ℕ, zero, suc, ◌+◌, ◌≤◌, ◌<◌}
use mathlib.Core.Path.{◌≡◌, refl, ap, subst}
use mathlib.Core.List.{List, [], ◌∷◌, append-nil}
use native.Mathlib.Nat.{zero-add}
use native.Mathlib.Numerals.{add-one}
use native.Mathlib.Omega.{arith}
use lib.ListN.{length, get_or, set, take, drop, drop_of_length-le}
use lib.Seq.{paste, paste-suc, drop-cons, get_or_at, take_all, length-take-le}
use Rattle.rules.specs.Events.{plus}

-- as long as both
pub plus-length : (xs ys : List ℕ) → length xs ≡ length ys → length (plus xs ys) ≡ length ys
plus-length [] [] h = refl
plus-length [] (y ∷ ys) h = absurd (omega arith)
plus-length (x ∷ xs) [] h = absurd (omega arith)
plus-length (x ∷ xs) (y ∷ ys) h = ap suc (plus-length xs ys (omega arith))

-- at each place the sum of the two
plus-at : (xs ys : List ℕ) (i : ℕ) → length xs ≡ length ys → get_or xs i 0 + get_or ys i 0 ≡ get_or (plus xs ys) i 0
plus-at [] [] i h = omega arith
plus-at [] (y ∷ ys) i h = absurd (omega arith)
plus-at (x ∷ xs) [] i h = absurd (omega arith)
plus-at (x ∷ xs) (y ∷ ys) zero h = refl
plus-at (x ∷ xs) (y ∷ ys) (suc i) h = plus-at xs ys i (omega arith)

-- ---- the first i of d are those of s: what stands at i is still d's

pub rest_at : (d s : List ℕ) (i : ℕ) → i < length d → i < length s → get_or (paste d 0 s i) i 0 ≡ get_or d i 0
rest_at d s i hd hs =
    rw (zero-add, drop-cons d i 0) (get_or_at (take i s) (get_or d i 0) (drop (suc i) d) 0 i (length-take-le i s (omega arith)))

module _ (d m : List ℕ) (same : length d ≡ length m) where
  -- one place more
  pub added_next : (i : ℕ) (r : List ℕ) → i < length m → r ≡ paste d 0 (plus d m) i
      → set r i (get_or r i 0 + get_or m i 0) ≡ paste d 0 (plus d m) (i + 1)
  added_next i r l e =
      let long : i < length (plus d m) = omega (arith, plus-length d m same) in
      let short : i < length d = omega arith in
      let value : get_or r i 0 + get_or m i 0 ≡ get_or (plus d m) i 0 = rw (e, rest_at d (plus d m) i short long) (plus-at d m i same) in
      rw (value, e, add-one)
      (subst (λ (j : ℕ). set (paste d 0 (plus d m) i) j (get_or (plus d m) i 0) ≡ paste d 0 (plus d m) (suc i)) (zero-add i)
      (paste-suc d 0 (plus d m) i 0 (omega arith) long))

  pub added-all : (i : ℕ) → i ≡ length m → paste d 0 (plus d m) i ≡ plus d m
  added-all i e =
      let all : length (plus d m) ≤ i = omega (arith, plus-length d m same) in
      rw (take_all i (plus d m) all, drop_of_length-le d {i = 0 + i} (omega arith), append-nil)
