-- The extreme of an event is the worst S of its half-cycles and channels, and its earliest half-cycle is the first at which that
-- occurs. Stated once over the kind, of any half-cycles that are known, and so of an event of a recording. Assumes nothing.
use Rattle.std.specs.Prelude.{Some}
use Prim.Native.Nat.{ℕ, zero, suc, ◌+◌, ◌-◌, ◌*◌, ◌/◌, ◌≤◌, ◌<◌}
use mathlib.Core.Path.{◌≡◌, refl, sym, ◌∙◌}
use mathlib.Core.Bool.{Bool, true, false, not}
use mathlib.Core.List.{List}
use mathlib.Core.Logic.{◌↔◌, ◌⊎◌, inl, inr, ⊎_elim}
use native.Mathlib.Nat.{eq-or-lt_of_le, le_antisymm}
use native.Mathlib.Omega.{arith}
use borrow.Author.Tests.{lt-ltb, le-ltb, eqb-true, eq-eqb, not-false}
use lib.Dec.{eqb}
use lib.IntN.{ℤ, pos, negsuc, ◌*ℤ◌}
use lib.ListN.{get_or}
use Rattle.rules.specs.Bounded.{any, sum, first_not}
use Rattle.rules.specs.Recorder.{missing}
use Rattle.rules.specs.Halves.{Half, of_channel, channels, half_at, halves_of, any_missing, sums_at, squares, square, known}
use Rattle.rules.specs.Events.{starts, end_of, level_by, level, worse, worst, extreme_of, earliest, six_sums, type_of}
use Rattle.rules.specs.EventList.{event_from}
use Rattle.rules.specs.Meanings.{SomeChannel, Every, AsBad, IsExtreme, IsEarliest}
use Rattle.rules.specs.declared.Settings.{Settings}
use Rattle.rules.specs.declared.Sums.{Sums}
use Rattle.rules.specs.declared.Kind.{Kind}
use Rattle.rules.specs.declared.Kind.TheVariants.{Sag, Interruption, Swell}
use Rattle.rules.proofs.Booleans.{not_both, cases}
use Rattle.rules.proofs.Bounded.{any_false}
use Rattle.rules.proofs.Choices.{lower}
use Rattle.rules.proofs.Longest.{first_low, first_between, first_refused, in_known, starts_before_end, unbroken, half_past}
use Rattle.rules.proofs.Refusals.{missing_is}
use Rattle.rules.proofs.Samples.{any_at, knows, known_is}

-- ---- as bad as

bad_same : (kind : Kind) (x : ℕ) → AsBad kind x x
bad_same Sag x = omega arith
bad_same Interruption x = omega arith
bad_same Swell x = omega arith

bad-through : (kind : Kind) (x y z : ℕ) → AsBad kind x y → AsBad kind y z → AsBad kind x z
bad-through Sag x y z h k = omega arith
bad-through Interruption x y z h k = omega arith
bad-through Swell x y z h k = omega arith

bad_both : (kind : Kind) (x y : ℕ) → AsBad kind x y → AsBad kind y x → x ≡ y
bad_both Sag x y h k = omega arith
bad_both Interruption x y h k = omega arith
bad_both Swell x y h k = omega arith

-- the worse of two is as bad as both, and one of them
worse_first : (kind : Kind) (x y : ℕ) → AsBad kind (worse kind x y) x
worse_first Sag x y = omega arith
worse_first Interruption x y = omega arith
worse_first Swell x y = omega arith

worse_second : (kind : Kind) (x y : ℕ) → AsBad kind (worse kind x y) y
worse_second Sag x y = omega arith
worse_second Interruption x y = omega arith
worse_second Swell x y = omega arith

worse-one : (kind : Kind) (x y : ℕ) → (worse kind x y ≡ x) ⊎ (worse kind x y ≡ y)
worse-one Sag x y = ⊎_elim (λ l. inl (omega arith)) (λ l. inr (omega arith)) (lower x y)
worse-one Interruption x y = ⊎_elim (λ l. inl (omega arith)) (λ l. inr (omega arith)) (lower x y)
worse-one Swell x y = ⊎_elim (λ l. inr (omega arith)) (λ l. inl (omega arith)) (lower x y)

-- ---- of one half-cycle

level-worse : (kind : Kind) (v : Sums) → level_by kind v ≡ worse kind (worse kind v.a v.b) v.c
level-worse Sag v = refl
level-worse Interruption v = refl
level-worse Swell v = refl

level_bounds : (kind : Kind) (v : Sums) → Every v (λ S. AsBad kind (level_by kind v) S)
level_bounds kind v zero l =
    rw (level-worse kind v)
    (bad-through kind (worse kind (worse kind v.a v.b) v.c) (worse kind v.a v.b) v.a
    (worse_first kind (worse kind v.a v.b) v.c) (worse_first kind v.a v.b))
level_bounds kind v (suc zero) l =
    rw (level-worse kind v)
    (bad-through kind (worse kind (worse kind v.a v.b) v.c) (worse kind v.a v.b) v.b
    (worse_first kind (worse kind v.a v.b) v.c) (worse_second kind v.a v.b))
level_bounds kind v (suc (suc c)) l = rw (level-worse kind v) (worse_second kind (worse kind v.a v.b) v.c)

level_occurs : (kind : Kind) (v : Sums) → SomeChannel v (λ S. S ≡ level_by kind v)
level_occurs kind v =
    rw (level-worse kind v)
    (⊎_elim
    (λ e. ⊎_elim (λ f. (0, omega arith, sym (e ∙ f))) (λ f. (1, omega arith, sym (e ∙ f))) (worse-one kind v.a v.b))
    (λ e. (2, omega arith, sym e))
    (worse-one kind (worse kind v.a v.b) v.c))

-- ---- the worst of many numbers

module _ (kind : Kind) (f : ℕ → ℕ) (a : ℕ) where
  worst-next : (b : ℕ) → a < b → worst (worse kind) f a (suc b) ≡ worse kind (worst (worse kind) f a b) (f b)
  worst-next b l = rw (lt-ltb a b l)

  worst_first : (b : ℕ) → b ≤ a → worst (worse kind) f a (suc b) ≡ f a
  worst_first b l = rw (le-ltb a b l)

  worst_bounds : (b k : ℕ) → a ≤ k → k < b → AsBad kind (worst (worse kind) f a b) (f k)
  worst_bounds zero k l u = absurd (omega arith)
  worst_bounds (suc b) k l u =
      ⊎_elim
      (λ m.
      rw (worst-next b m)
      (⊎_elim
      (λ e. rw e (worse_second kind (worst (worse kind) f a b) (f b)))
      (λ w.
      bad-through kind (worse kind (worst (worse kind) f a b) (f b)) (worst (worse kind) f a b) (f k)
      (worse_first kind (worst (worse kind) f a b) (f b)) (worst_bounds b k l w))
      (eq-or-lt_of_le (omega arith))))
      (λ m. let e : k ≡ a = omega arith in rw (worst_first b m, e) (bad_same kind (f a)))
      (lower a b)

  worst_occurs : (b : ℕ) → a < b → (k : ℕ) × (a ≤ k) × (k < b) × (f k ≡ worst (worse kind) f a b)
  worst_occurs zero l = absurd (omega arith)
  worst_occurs (suc b) l =
      ⊎_elim
      (λ m.
      rw (worst-next b m)
      (⊎_elim
      (λ e. let r = worst_occurs b m in (r.0, r.1, omega (arith, r.2), r.3 ∙ sym e))
      (λ e. (b, omega arith, omega arith, sym e))
      (worse-one kind (worst (worse kind) f a b) (f b))))
      (λ m. rw (worst_first b m) (a, omega arith, omega arith, refl))
      (lower a b)

-- ---- one extreme, one earliest

extreme-only : (kind : Kind) (v : ℕ → Sums) (a b x y : ℕ) → IsExtreme kind v a b x → IsExtreme kind v a b y → x ≡ y
extreme-only kind v a b x y p q = bad_both kind x y (at x y p q) (at y x q p)
  where
    at : (x y : ℕ) → IsExtreme kind v a b x → IsExtreme kind v a b y → AsBad kind x y
    at x y p q =
        let o = q.1 in
        rw o.3.2 at (p.0 o.0 o.1 o.2 o.3.0 o.3.1)

earliest-only : (v : ℕ → Sums) (a b x k m : ℕ) → IsEarliest v a b x k → IsEarliest v a b x m → k ≡ m
earliest-only v a b x k m p q = le_antisymm (at k m p q) (at m k q p)
  where
    at : (k m : ℕ) → IsEarliest v a b x k → IsEarliest v a b x m → k ≤ m
    at k m p q = ⊎_elim (λ l. absurd (p.3 m q.0 l q.2.0 q.2.1 q.2.2)) (λ l. l) (lower m k)

-- ---- of half-cycles that are all known

module _ (h : ℕ → Half) (v : ℕ → Sums) (kind : Kind) (a b : ℕ) (some : a < b) (all_Known : (k : ℕ) → a ≤ k → k < b → h k ≡ Some (v k)) where
  level_is : (k : ℕ) → a ≤ k → k < b → level kind (h k) ≡ level_by kind (v k)
  level_is k l u = rw (all_Known k l u)

  is_extreme : IsExtreme kind v a b (extreme_of h kind a b)
  unfolding extreme_of
  is_extreme = (
    λ k l u c m.
        bad-through kind (worst (worse kind) (λ k. level kind (h k)) a b) (level_by kind (v k)) (of_channel c (v k))
        (rw (level_is k l u) at (worst_bounds kind (λ k. level kind (h k)) a b k l u)) (level_bounds kind (v k) c m),
    let w = worst_occurs kind (λ k. level kind (h k)) a b some in
        let o = level_occurs kind (v w.0) in
        (w.0, w.1, w.2, (o.0, o.1, o.2 ∙ sym (level_is w.0 w.1 w.2) ∙ w.3)),
  )

  -- THE LAW: the extreme is the smallest S over the half-cycles and channels, for a swell the largest
  pub extreme_is : (x : ℕ) → (extreme_of h kind a b ≡ x) ↔ IsExtreme kind v a b x
  extreme_is x = (λ e. rw e at is_extreme, λ p. extreme-only kind v a b (extreme_of h kind a b) x is_extreme p)

  -- the extreme occurs where the half-cycle's level is the extreme, and only there
  occurs : (k : ℕ) → a ≤ k → k < b → level kind (h k) ≡ extreme_of h kind a b → SomeChannel (v k) (λ S. S ≡ extreme_of h kind a b)
  occurs k l u e = let o = level_occurs kind (v k) in (o.0, o.1, o.2 ∙ sym (level_is k l u) ∙ e)

  occurs_only : (k : ℕ) → a ≤ k → k < b → SomeChannel (v k) (λ S. S ≡ extreme_of h kind a b) → level kind (h k) ≡ extreme_of h kind a b
  occurs_only k l u o =
      let t = level_occurs kind (v k) in
      level_is k l u
      ∙ bad_both kind (level_by kind (v k)) (extreme_of h kind a b)
      (rw o.2 at (level_bounds kind (v k) o.0 o.1))
      (rw t.2 at (is_extreme.0 k l u t.0 t.1))

  -- where the walk to the earliest goes by
  passes : ℕ → Bool
  passes k = not (eqb (level kind (h k)) (extreme_of h kind a b))

  occurs_stops : (k : ℕ) → a ≤ k → k < b → SomeChannel (v k) (λ S. S ≡ extreme_of h kind a b) → passes k ≡ false
  unfolding passes
  occurs_stops k l u o = rw (eq-eqb (level kind (h k)) (extreme_of h kind a b) (occurs_only k l u o))

  stops_occurs : (k : ℕ) → a ≤ k → k < b → passes k ≡ false → SomeChannel (v k) (λ S. S ≡ extreme_of h kind a b)
  unfolding passes
  stops_occurs k l u e = occurs k l u (eqb-true (level kind (h k)) (extreme_of h kind a b) (not-false _ e))

  walk_ends : first_not passes a (b - a) < b
  walk_ends =
      let o = is_extreme.1 in
      ⊎_elim (λ u. u)
      (λ u. absurd (not_both (passes o.0) (first_between passes a (b - a) o.0 o.1 (omega (arith, o.2))) (occurs_stops o.0 o.1 o.2 o.3)))
      (lower (first_not passes a (b - a)) b)

  walk_is_earliest : IsEarliest v a b (extreme_of h kind a b) (first_not passes a (b - a))
  walk_is_earliest =
      let low = first_low passes a (b - a) in
      let end = walk_ends in (
        low,
        end,
        stops_occurs (first_not passes a (b - a)) low end (first_refused passes a (b - a) (omega arith)),
        λ m l u c i e.
            not_both (passes m) (first_between passes a (b - a) m l u) (occurs_stops m l (omega arith) (c, i, e)),
      )

  is_earliest : IsEarliest v a b (extreme_of h kind a b) (earliest h kind a b)
  unfolding earliest passes
  is_earliest = walk_is_earliest

  -- THE LAW: the earliest half-cycle is the first at which the extreme occurs, on whatever channel
  pub earliest_is : (k : ℕ) → (earliest h kind a b ≡ k) ↔ IsEarliest v a b (extreme_of h kind a b) k
  earliest_is k = (
    λ e. rw e at is_earliest,
    λ p. earliest-only v a b (extreme_of h kind a b) (earliest h kind a b) k is_earliest p,
  )

-- ---- of the half-cycles of a recording

-- a square is the product of the sample with itself
pub square_is : (x : ℤ) → pos (square x) ≡ x *ℤ x
square_is (pos n) = refl
square_is (negsuc n) = refl

-- S of channel c of half-cycle k is the sum of the squares of the N samples of that channel that begin at sample k x N/2
pub sums_are : (s : Settings) (xs : List ℤ) (k c : ℕ) → c < 3
    → of_channel c (sums_at s xs k) ≡ sum (λ i. square (get_or xs (3 * (k * (s.n / 2) + i) + c) (pos 0))) s.n
unfolding sums_at squares
sums_are s xs k zero l = refl
sums_are s xs k (suc zero) l = refl
sums_are s xs k (suc (suc zero)) l = refl
sums_are s xs k (suc (suc (suc c))) l = absurd (omega arith)

-- it is unknown if any of its samples, on any channel, is missing
none-missing : (s : Settings) (xs : List ℤ) (k : ℕ)
    → (any_missing s xs k ≡ false)
    ↔ ((i c : ℕ) → i < s.n → c < 3 → get_or xs (3 * (k * (s.n / 2) + i) + c) (pos 0) ≡ negsuc 2147483647 → ⊥)
unfolding any_missing
none-missing s xs k = (
  λ h i c l m e.
      not_both (gone i c) ((missing_is (get_or xs (3 * (k * (s.n / 2) + i) + c) (pos 0))).1 e)
      (any_at (gone i) 3 (any_at (λ i. any (gone i) 3) s.n h i l) c m),
  λ w.
      any_false (λ i. any (gone i) 3) s.n
      (λ i l. any_false (gone i) 3
      (λ c m.
      ⊎_elim (λ e. absurd (w i c l m ((missing_is (get_or xs (3 * (k * (s.n / 2) + i) + c) (pos 0))).0 e))) (λ e. e) (cases (gone i c)))),
)
  where
    gone : ℕ → ℕ → Bool
    gone i c = missing (get_or xs (3 * (k * (s.n / 2) + i) + c) (pos 0))

-- THE LAW: a half-cycle is known exactly if it exists and none of its samples, on any channel, is the one value -2,147,483,648
pub known_exactly : (s : Settings) (xs : List ℤ) (k : ℕ)
    → (known (half_at s xs k) ≡ true)
    ↔ ((k < halves_of s xs)
    × ((i c : ℕ) → i < s.n → c < 3 → get_or xs (3 * (k * (s.n / 2) + i) + c) (pos 0) ≡ negsuc 2147483647 → ⊥))
unfolding half_at
known_exactly s xs k = (
  λ h.
      let w = knows s xs k (sums_at s xs k) (known_is s xs k h) in
      (w.exists, (none-missing s xs k).0 w.whole),
  λ w. rw (lt-ltb k (halves_of s xs) w.0, (none-missing s xs k).1 w.1),
)

module _ (s : Settings) (xs : List ℤ) (kind : Kind) (a : ℕ) (begun : starts s (half_at s xs) kind a ≡ true) where
  end : ℕ
  end = end_of s (half_at s xs) (halves_of s xs) kind a

  event-known : (k : ℕ) → a ≤ k → k < end → half_at s xs k ≡ Some (sums_at s xs k)
  unfolding end
  event-known k l u =
      known_is s xs k (in_known s (half_at s xs) kind k (unbroken s (half_at s xs) (halves_of s xs) (half_past s xs) kind a begun k l u))

  not_empty : a < end
  unfolding end
  not_empty = starts_before_end s (half_at s xs) (halves_of s xs) (half_past s xs) kind a begun

  -- THE LAW: an event's fifth number is the smallest S over its half-cycles and channels, for a swell the largest
  pub event_extreme_is : (x : ℕ) → ((event_from s xs kind a).extreme ≡ x) ↔ IsExtreme kind (sums_at s xs) a (event_from s xs kind a).end x
  unfolding event_from end
  event_extreme_is = extreme_is (half_at s xs) (sums_at s xs) kind a end not_empty event-known

-- THE LAW: a sag's type is that of the six sums of the earliest of its half-cycles at which its extreme occurs
pub sag_type_is : (s : Settings) (xs : List ℤ) (a : ℕ) → starts s (half_at s xs) Sag a ≡ true
    → (k : ℕ)
    × IsEarliest (sums_at s xs) a (event_from s xs Sag a).end (event_from s xs Sag a).extreme k
    × ((event_from s xs Sag a).class ≡ type_of (six_sums s xs k))
unfolding event_from end
sag_type_is s xs a e =
    let n = end s xs Sag a e in
    (earliest (half_at s xs) Sag a n, is_earliest (half_at s xs) (sums_at s xs) Sag a n (not_empty s xs Sag a e) (event-known s xs Sag a e), refl)

-- shortfall, type and the shortfall of each channel are 0 for the other kinds
pub only_a_sag_has_a_type : (s : Settings) (xs : List ℤ) (kind : Kind) (a : ℕ) → (kind ≡ Sag → ⊥)
    → ((event_from s xs kind a).shortfall ≡ 0) × ((event_from s xs kind a).class ≡ 0) × ((event_from s xs kind a).parts ≡ channels (λ c. 0))
unfolding event_from
only_a_sag_has_a_type s xs Sag a f = absurd (f refl)
only_a_sag_has_a_type s xs Interruption a f = (refl, refl, refl)
only_a_sag_has_a_type s xs Swell a f = (refl, refl, refl)
