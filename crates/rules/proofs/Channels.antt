-- What begins, ends and keeps going an event, channel by channel, in plain sums; and so what is in an event. Assumes nothing.
use Rattle.std.specs.Prelude.{Some, None}
use Prim.Native.Nat.{ℕ, zero, suc, ◌+◌, ◌-◌, ◌*◌, ◌≤◌, ◌<◌}
use mathlib.Core.Path.{◌≡◌, refl, ◌∙◌}
use mathlib.Core.Bool.{Bool, true, false, not, ◌&&◌, ◌||◌}
use mathlib.Core.Logic.Iff
use mathlib.Core.Logic.{◌↔◌, ◌⊎◌, inl, inr, ⊎_elim}
use native.Mathlib.Nat.{eq-or-lt_of_le, mul-le-mul, mul-le-mul_right}
use native.Mathlib.Omega.{arith}
use borrow.Author.Tests.{ltb-true, leb-true, leb-false, lt-ltb, le-leb, lt-leb, not-true}
use Rattle.rules.specs.Bounded.{before}
use Rattle.rules.specs.Halves.{Half, of_channel, full, below, above, at_least, at_most, some_channel, all_channels}
use Rattle.rules.specs.Events.{begins_by, ends_by, in_event}
use Rattle.rules.specs.Demands.{goes_on}
use Rattle.rules.specs.Meanings.{SomeChannel, Every, percent, Begins, Ends, Keeps, Inside}
use Rattle.rules.specs.declared.Settings.{Settings}
use Rattle.rules.specs.declared.Sums.{Sums}
use Rattle.rules.specs.declared.Kind.{Kind}
use Rattle.rules.specs.declared.Kind.TheVariants.{Sag, Interruption, Swell}
use Rattle.rules.proofs.Booleans.{both, not_both, cases}
use Rattle.rules.proofs.Runs.{in_next}

-- ---- some channel, every channel, over any test that says what P says

or_right : (a b : Bool) → b ≡ true → a || b ≡ true
or_right true b h = refl
or_right false b h = h

or_left : (a b : Bool) → a ≡ true → a || b ≡ true
or_left a b h = rw h

module _ (t : ℕ → Bool) (P : ℕ → Type 0) (says : (S : ℕ) → (t S ≡ true) ↔ P S) (v : Sums) where
  some_to : (x y z : Bool) → t v.a ≡ x → t v.b ≡ y → t v.c ≡ z → x || y || z ≡ true → SomeChannel v P
  some_to true y z e f g h = (0, omega arith, (says v.a).0 e)
  some_to false true z e f g h = (1, omega arith, (says v.b).0 f)
  some_to false false z e f g h = (2, omega arith, (says v.c).0 (g ∙ h))

  some-from : (c : ℕ) → c < 3 → P (of_channel c v) → some_channel t v ≡ true
  some-from zero l p = or_left (t v.a || t v.b) (t v.c) (or_left (t v.a) (t v.b) ((says v.a).1 p))
  some-from (suc zero) l p = or_left (t v.a || t v.b) (t v.c) (or_right (t v.a) (t v.b) ((says v.b).1 p))
  some-from (suc (suc c)) l p = or_right (t v.a || t v.b) (t v.c) ((says v.c).1 p)

  some_channel_lem : (some_channel t v ≡ true) ↔ SomeChannel v P
  some_channel_lem = (some_to (t v.a) (t v.b) (t v.c) refl refl refl, λ w. some-from w.0 w.1 w.2)

  every_to : all_channels t v ≡ true → (c : ℕ) → c < 3 → P (of_channel c v)
  every_to h zero l = (says v.a).0 (both (t v.a) (t v.b) (both (t v.a && t v.b) (t v.c) h).0).0
  every_to h (suc zero) l = (says v.b).0 (both (t v.a) (t v.b) (both (t v.a && t v.b) (t v.c) h).0).1
  every_to h (suc (suc c)) l = (says v.c).0 (both (t v.a && t v.b) (t v.c) h).1

  every_channel : (all_channels t v ≡ true) ↔ Every v P
  every_channel =
      (every_to, λ w. rw ((says v.a).1 (w 0 (omega arith)), (says v.b).1 (w 1 (omega arith)), (says v.c).1 (w 2 (omega arith))))

-- a test that fails is one whose opposite holds
fails : (a b : Bool) → not a ≡ b → (a ≡ false) ↔ (b ≡ true)
fails a b e = (λ h. rw (← e, h), λ h. not-true a (e ∙ h))

-- what not all pass some channel fails, and what no channel passes every one fails
not_all : (a b c : Bool) → not (a && b && c) ≡ not a || not b || not c
not_all true true c = refl
not_all true false c = refl
not_all false b c = refl

not_some : (a b c : Bool) → not (a || b || c) ≡ not a && not b && not c
not_some true b c = refl
not_some false true c = refl
not_some false false c = refl

module _ (t : ℕ → Bool) (P : ℕ → Type 0) (says : (S : ℕ) → (t S ≡ false) ↔ P S) (v : Sums) where
  opposite : (S : ℕ) → (not (t S) ≡ true) ↔ P S
  opposite S = (λ h. (says S).0 (not-true (t S) h), λ p. rw ((says S).1 p))

  some_fails : (all_channels t v ≡ false) ↔ SomeChannel v P
  some_fails =
      Iff.trans (fails (all_channels t v) (some_channel (λ S. not (t S)) v) (not_all (t v.a) (t v.b) (t v.c)))
      (some_channel_lem (λ S. not (t S)) P opposite v)

  every_fails : (some_channel t v ≡ false) ↔ Every v P
  every_fails =
      Iff.trans (fails (some_channel t v) (all_channels (λ S. not (t S)) v) (not_some (t v.a) (t v.b) (t v.c)))
      (every_channel (λ S. not (t S)) P opposite v)

-- ---- the comparisons, in plain arithmetic

-- p x p x N x R x R, written out
pub percent_is : (s : Settings) (p : ℕ) → p * p * full s ≡ percent s p
unfolding full
percent_is s p = omega arith

pub percent_rises : (s : Settings) (p q : ℕ) → p ≤ q → percent s p ≤ percent s q
percent_rises s p q h =
    let squares : p * p * full s ≤ q * q * full s = mul-le-mul_right (full s) (mul-le-mul h h) in
    omega (arith, percent_is s p, percent_is s q)

module _ (s : Settings) (p S : ℕ) where
  below_is : (below s p S ≡ true) ↔ (10000 * S < percent s p)
  below_is = rw (percent_is s p) (ltb-true (10000 * S) (percent s p), lt-ltb (10000 * S) (percent s p))

  above_is : (above s p S ≡ true) ↔ (percent s p < 10000 * S)
  above_is = rw (percent_is s p) (ltb-true (percent s p) (10000 * S), lt-ltb (percent s p) (10000 * S))

  at_least_is : (at_least s p S ≡ true) ↔ (percent s p ≤ 10000 * S)
  at_least_is = rw (percent_is s p) (leb-true (percent s p) (10000 * S), le-leb (percent s p) (10000 * S))

  pub at_most_is : (at_most s p S ≡ true) ↔ (10000 * S ≤ percent s p)
  at_most_is = rw (percent_is s p) (leb-true (10000 * S) (percent s p), le-leb (10000 * S) (percent s p))

  not_at_least : (at_least s p S ≡ false) ↔ (10000 * S < percent s p)
  not_at_least = rw (percent_is s p) (leb-false (percent s p) (10000 * S), lt-leb (percent s p) (10000 * S))

  pub not_at_most : (at_most s p S ≡ false) ↔ (percent s p < 10000 * S)
  not_at_most = rw (percent_is s p) (leb-false (10000 * S) (percent s p), lt-leb (10000 * S) (percent s p))

-- ---- what begins an event, ends it and keeps it going

-- THE LAW: a sag begins by some channel below its threshold, whatever the other two are; an interruption by every channel below
-- its own; a swell by some channel above its own
pub begins_is : (s : Settings) (kind : Kind) (v : Sums) → (begins_by s kind v ≡ true) ↔ Begins s kind v
begins_is s Sag v = let p = s.sag in some_channel_lem (below s p) (λ S. 10000 * S < percent s p) (below_is s p) v
begins_is s Interruption v = let p = s.interruption in every_channel (below s p) (λ S. 10000 * S < percent s p) (below_is s p) v
begins_is s Swell v = let p = s.swell in some_channel_lem (above s p) (λ S. percent s p < 10000 * S) (above_is s p) v

-- THE LAW: a sag ends by every channel at or above threshold plus hysteresis; an interruption by some channel at or above its
-- own; a swell by every channel at or below threshold minus hysteresis
pub ends_is : (s : Settings) (kind : Kind) (v : Sums) → (ends_by s kind v ≡ true) ↔ Ends s kind v
ends_is s Sag v = let p = s.sag + s.hysteresis in every_channel (at_least s p) (λ S. percent s p ≤ 10000 * S) (at_least_is s p) v
ends_is s Interruption v =
    let p = s.interruption + s.hysteresis in some_channel_lem (at_least s p) (λ S. percent s p ≤ 10000 * S) (at_least_is s p) v
ends_is s Swell v = let p = s.swell - s.hysteresis in every_channel (at_most s p) (λ S. 10000 * S ≤ percent s p) (at_most_is s p) v

-- THE LAW: what does not end a sag is one channel still below threshold plus hysteresis, whatever the other two are; what does
-- not end an interruption, every channel still below; what does not end a swell, one channel still above threshold minus
-- hysteresis
pub keeps_is : (s : Settings) (kind : Kind) (v : Sums) → (ends_by s kind v ≡ false) ↔ Keeps s kind v
keeps_is s Sag v = let p = s.sag + s.hysteresis in some_fails (at_least s p) (λ S. 10000 * S < percent s p) (not_at_least s p) v
keeps_is s Interruption v =
    let p = s.interruption + s.hysteresis in every_fails (at_least s p) (λ S. 10000 * S < percent s p) (not_at_least s p) v
keeps_is s Swell v = let p = s.swell - s.hysteresis in some_fails (at_most s p) (λ S. percent s p < 10000 * S) (not_at_most s p) v

-- with any hysteresis, what begins an event does not end it
pub not_at_once : (s : Settings) (kind : Kind) (v : Sums) → Begins s kind v → Ends s kind v → ⊥
not_at_once s Sag v b e =
    omega (arith, b.2, e b.0 b.1, percent_rises s s.sag (s.sag + s.hysteresis) (omega arith))
not_at_once s Interruption v b e =
    omega (arith, e.2, b e.0 e.1, percent_rises s s.interruption (s.interruption + s.hysteresis) (omega arith))
not_at_once s Swell v b e =
    omega (arith, b.2, e b.0 b.1, percent_rises s (s.swell - s.hysteresis) s.swell (omega arith))

-- ---- in an event, told by the half-cycle before

-- half-cycle x is in an event, where `inside` says it of the one before
step : (s : Settings) (kind : Kind) (inside : Bool) (x : Half)
    → (goes_on s kind inside x ≡ true) ↔ ((v : Sums) × (x ≡ Some v) × (Begins s kind v ⊎ ((inside ≡ true) × Keeps s kind v)))
step s kind inside None = (λ h. absurd (not_both false h refl), λ w. let z : ◌≡◌ {A = ℕ} 0 1 = cc w.1 in absurd (omega arith))
step s kind inside (Some v) = (to (begins_by s kind v) inside (ends_by s kind v) refl refl refl, λ w. from w.0 w.1 w.2)
  where
    to : (b i e : Bool) → begins_by s kind v ≡ b → inside ≡ i → ends_by s kind v ≡ e → b || (i && not e) ≡ true
        → (w : Sums) × (Some v ≡ Some w) × (Begins s kind w ⊎ ((inside ≡ true) × Keeps s kind w))
    to true i e p q r h = (v, refl, inl ((begins_is s kind v).0 p))
    to false true false p q r h = (v, refl, inr (q, (keeps_is s kind v).0 r))
    to false true true p q r h = absurd (not_both false h refl)
    to false false e p q r h = absurd (not_both false h refl)

    from : (w : Sums) → Some v ≡ Some w → Begins s kind w ⊎ ((inside ≡ true) × Keeps s kind w)
        → begins_by s kind v || (inside && not (ends_by s kind v)) ≡ true
    from w e f =
        let same : w ≡ v = cc in
        ⊎_elim
        (λ b. or_left (begins_by s kind v) (inside && not (ends_by s kind v)) ((begins_is s kind v).1 (rw same at b)))
        (λ k. or_right (begins_by s kind v) (inside && not (ends_by s kind v)) (on k.0 ((keeps_is s kind v).1 (rw same at k.1))))
        f
      where
        on : inside ≡ true → ends_by s kind v ≡ false → inside && not (ends_by s kind v) ≡ true
        on p q = rw (p, q)

-- THE LAW: a half-cycle is in an event exactly if it is known and begins one, or the one before is in one and it keeps that going
pub in_by_the_one_before : (s : Settings) (h : ℕ → Half) (kind : Kind) (k : ℕ)
    → (in_event s h kind k ≡ true)
    ↔ ((v : Sums) × (h k ≡ Some v) × (Begins s kind v ⊎ ((before (in_event s h kind) k ≡ true) × Keeps s kind v)))
in_by_the_one_before s h kind k = rw (in_next s h kind k) (step s kind (before (in_event s h kind) k) (h k))

module _ (s : Settings) (h : ℕ → Half) (kind : Kind) where
  -- in no event, told by what it would mean
  not_in : (k : ℕ) → (in_event s h kind k ≡ true → ⊥) → in_event s h kind k ≡ false
  not_in k f = ⊎_elim (λ e. absurd (f e)) (λ e. e) (cases (in_event s h kind k))

  same_sums : (k : ℕ) (v w : Sums) → h k ≡ Some v → h k ≡ Some w → w ≡ v
  same_sums k v w p q = cc

  -- a half-cycle that begins an event is in one, whatever went before
  pub inside_where_it_begins : (k : ℕ) (v : Sums) → h k ≡ Some v → Begins s kind v → in_event s h kind k ≡ true
  inside_where_it_begins k v e b = (in_by_the_one_before s h kind k).1 (v, e, inl b)

  -- an event goes on while it is kept going
  pub keeps_going : (k : ℕ) (v : Sums) → in_event s h kind k ≡ true → h (suc k) ≡ Some v → Keeps s kind v → in_event s h kind (suc k) ≡ true
  keeps_going k v i e b = (in_by_the_one_before s h kind (suc k)).1 (v, e, inr (i, b))

  -- a half-cycle that ends an event is in none of its kind, whatever went before
  pub outside_where_it_ends : (k : ℕ) (v : Sums) → h k ≡ Some v → Ends s kind v → in_event s h kind k ≡ false
  outside_where_it_ends k v e d = not_in k (λ i. no ((in_by_the_one_before s h kind k).0 i))
    where
      no : (w : Sums) × (h k ≡ Some w) × (Begins s kind w ⊎ ((before (in_event s h kind) k ≡ true) × Keeps s kind w)) → ⊥
      no w =
          let same = same_sums k v w.0 e w.1 in
          ⊎_elim
          (λ b. not_at_once s kind v (rw same at b) d)
          (λ b. not_both (ends_by s kind v) ((ends_is s kind v).1 d) ((keeps_is s kind v).1 (rw same at b.1)))
          w.2

  -- outside an event only a half-cycle that begins one is in one
  pub starts_only_by_beginning : (k : ℕ) (v : Sums) → before (in_event s h kind) k ≡ false → h k ≡ Some v → (in_event s h kind k ≡ true) ↔ Begins s kind v
  starts_only_by_beginning k v o e = (λ i. only ((in_by_the_one_before s h kind k).0 i), inside_where_it_begins k v e)
    where
      only : (w : Sums) × (h k ≡ Some w) × (Begins s kind w ⊎ ((before (in_event s h kind) k ≡ true) × Keeps s kind w)) → Begins s kind v
      only w =
          rw (← same_sums k v w.0 e w.1)
          (⊎_elim (λ b. b) (λ b. absurd (not_both (before (in_event s h kind) k) b.0 o)) w.2)

  -- an unknown half-cycle is in no event, and the one after it only in an event that it begins itself
  pub unknown_in_none : (k : ℕ) → h k ≡ None → in_event s h kind k ≡ false
  unknown_in_none k e = in_next s h kind k ∙ rw e

  pub after-unknown : (k : ℕ) (v : Sums) → h k ≡ None → h (suc k) ≡ Some v → (in_event s h kind (suc k) ≡ true) ↔ Begins s kind v
  after-unknown k v u e = starts_only_by_beginning (suc k) v (unknown_in_none k u) e

-- with one channel at or above the interruption threshold, whatever the other two are, no interruption begins
pub not_by_one : (s : Settings) (h : ℕ → Half) (k : ℕ) (v : Sums) → before (in_event s h Interruption) k ≡ false → h k ≡ Some v
    → SomeChannel v (λ S. percent s s.interruption ≤ 10000 * S) → in_event s h Interruption k ≡ false
not_by_one s h k v o e w =
    not_in s h Interruption k (λ i. let b = (starts_only_by_beginning s h Interruption k v o e).0 i w.0 w.1 in omega (arith, w.2, b))

-- ---- in an event, as the rules word it

module _ (s : Settings) (h : ℕ → Half) (kind : Kind) where
  -- what does not end an event keeps it going
  kept : (v : Sums) → Keeps s kind v ↔ (Ends s kind v → ⊥)
  kept v = (
    λ k e. not_both (ends_by s kind v) ((ends_is s kind v).1 e) ((keeps_is s kind v).1 k),
    λ f. ⊎_elim (λ e. absurd (f ((ends_is s kind v).0 e))) (λ e. (keeps_is s kind v).0 e) (cases (ends_by s kind v)),
  )

  to_inside : (k : ℕ) → (before (in_event s h kind) k ≡ true → Inside s h kind (k - 1)) → in_event s h kind k ≡ true → Inside s h kind k
  to_inside k earlier i =
      let w = (in_by_the_one_before s h kind k).0 i in
      ⊎_elim
      (λ b. (k, w.0, omega arith, w.1, b, λ m l u. absurd (omega arith)))
      (λ b.
      let e = earlier b.0 in (
        e.0,
        e.1,
        omega (arith, e.2),
        e.3,
        e.4,
        λ m l u.
            ⊎_elim (λ q. (w.0, rw q w.1, (kept w.0).0 b.1)) (λ q. e.5 m l (omega arith)) (eq-or-lt_of_le u),
      ))
      w.2

  inside : (k : ℕ) → in_event s h kind k ≡ true → Inside s h kind k
  inside zero i = to_inside 0 (λ b. absurd (not_both false b refl)) i
  inside (suc k) i = to_inside (suc k) (λ b. let e : suc k - 1 ≡ k = omega arith in rw e (inside k b)) i

  from_inside : (k : ℕ) → Inside s h kind k → in_event s h kind k ≡ true
  from_inside zero w = let q : w.0 ≡ 0 = omega (arith, w.2) in rw (← q) (inside_where_it_begins s h kind w.0 w.1 w.3 w.4)
  from_inside (suc k) w =
      ⊎_elim
      (λ q. rw (← q) (inside_where_it_begins s h kind w.0 w.1 w.3 w.4))
      (λ q.
      let g = w.5 (suc k) q (omega arith) in
      keeps_going s h kind k g.0 (from_inside k (w.0, w.1, omega arith, w.3, w.4, λ m x y. w.5 m x (omega arith))) g.1 ((kept g.0).1 g.2))
      (eq-or-lt_of_le w.2)

  -- THE LAW: in an event at k exactly if some j up to k begins one, all from there to k are known, and none after j ends it
  pub in_event_is : (k : ℕ) → (in_event s h kind k ≡ true) ↔ Inside s h kind k
  in_event_is k = (inside k, from_inside k)
