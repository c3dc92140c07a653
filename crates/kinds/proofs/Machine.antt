-- The machine of a kind says what the rules say: its state before half-cycle k is the event that is going on there. Assumes nothing.
use Rattle.std.specs.Prelude.{Option, Some, None, is_some}
use Prim.Native.Nat.{ℕ, zero, suc, ◌+◌, ◌-◌, ◌*◌, min, max}
use mathlib.Core.Path.{◌≡◌, refl, sym, ap, ◌∙◌}
use mathlib.Core.Bool.{Bool, true, false, not, ◌&&◌, ◌||◌, cond, false≢true}
use native.Mathlib.Omega.{arith}
use borrow.Author.Tests.{ltb-true, ltb-false, lt-ltb, le-ltb, leb-true, leb-false}
use lib.Dec.{ltb, leb}
use Rattle.rules.specs.Bounded.{before}
use Rattle.rules.specs.Halves.{Half, known, full}
use Rattle.rules.specs.Events.{in_event, level, shorts}
use Rattle.rules.specs.Demands.{goes_on}
use Rattle.rules.proofs.Longest.{in_known}
use Rattle.rules.proofs.Runs.{in_next}
use Rattle.rules.specs.declared.Settings.{Settings}
use Rattle.rules.specs.declared.Sums.{Sums}
use Rattle.rules.specs.declared.Kind.{Kind}
use Rattle.rules.specs.declared.Kind.TheVariants.{Sag, Interruption, Swell}
use Rattle.kinds.specs.declared.Marks.{Marks}
use Rattle.kinds.specs.declared.Thresholds.{Thresholds}
use Rattle.kinds.specs.declared.Level.{Level}
use Rattle.kinds.specs.declared.Open.{Open}
use Rattle.kinds.specs.Machine.{mark_of, marks_of, thresholds_of, level_sums, level_from, level_of, peak_of, goes_level, goes_by, step_by, carried, lasting, launched, opens}

-- the level by the thresholds of a pass is that by the settings
pub level_is : (s : Settings) (m : Thresholds) (v w : Half) (l : Option Level) → m ≡ thresholds_of s → v ≡ w → l ≡ level_from m.full m.sag.from v → l ≡ level_of s w
unfolding level_of
level_is s m v w l e f g = g ∙ rw (e, f)

-- ---- the three cases of a step
module _ (kind : Kind) (m : Marks) (seen : Bool) (k : ℕ) where
  pub step-closed : (o : Option Open) (l : Option Level) → goes_by kind m (is_some o) l ≡ false → step_by kind m seen k o l ≡ None
  unfolding step_by
  step-closed o None p = refl
  step-closed o (Some l) p = rw p

  pub step_carries : (o : Option Open) (l : Level) → goes_by kind m (is_some o) (Some l) ≡ true → step_by kind m seen k o (Some l) ≡ Some (carried kind seen k o l)
  unfolding step_by
  step_carries o l p = rw p

  -- what is carried on, of a known half-cycle
  pub step-made : (o : Option Open) (level : Option Level) (l : Level) (r : Open) → level ≡ Some l → goes_by kind m (is_some o) level ≡ true
      → r ≡ carried kind seen k o l → Some r ≡ step_by kind m seen k o level
  step-made o level l r e p q = rw e (ap Some q ∙ sym (step_carries o l (rw e at p)))

-- ---- a step's test is the rules' test

some-least : (a b c m : ℕ) (p q r : Bool) → ltb (10000 * a) m ≡ p → ltb (10000 * b) m ≡ q → ltb (10000 * c) m ≡ r
    → ltb (10000 * min (min a b) c) m ≡ p || q || r
some-least a b c m true q r e f g = lt-ltb (10000 * min (min a b) c) m (omega (arith, ltb-true (10000 * a) m e))
some-least a b c m false true r e f g = lt-ltb (10000 * min (min a b) c) m (omega (arith, ltb-true (10000 * b) m f))
some-least a b c m false false true e f g = lt-ltb (10000 * min (min a b) c) m (omega (arith, ltb-true (10000 * c) m g))
some-least a b c m false false false e f g = le-ltb (10000 * min (min a b) c) m (omega (arith, ltb-false (10000 * a) m e, ltb-false (10000 * b) m f, ltb-false (10000 * c) m g))

all-greatest : (a b c m : ℕ) (p q r : Bool) → ltb (10000 * a) m ≡ p → ltb (10000 * b) m ≡ q → ltb (10000 * c) m ≡ r
    → ltb (10000 * max (max a b) c) m ≡ p && q && r
all-greatest a b c m true true true e f g = lt-ltb (10000 * max (max a b) c) m (omega (arith, ltb-true (10000 * a) m e, ltb-true (10000 * b) m f, ltb-true (10000 * c) m g))
all-greatest a b c m true true false e f g = le-ltb (10000 * max (max a b) c) m (omega (arith, ltb-false (10000 * c) m g))
all-greatest a b c m true false r e f g = le-ltb (10000 * max (max a b) c) m (omega (arith, ltb-false (10000 * b) m f))
all-greatest a b c m false q r e f g = le-ltb (10000 * max (max a b) c) m (omega (arith, ltb-false (10000 * a) m e))

some-greatest : (a b c m : ℕ) (p q r : Bool) → ltb m (10000 * a) ≡ p → ltb m (10000 * b) ≡ q → ltb m (10000 * c) ≡ r
    → ltb m (10000 * max (max a b) c) ≡ p || q || r
some-greatest a b c m true q r e f g = lt-ltb m (10000 * max (max a b) c) (omega (arith, ltb-true m (10000 * a) e))
some-greatest a b c m false true r e f g = lt-ltb m (10000 * max (max a b) c) (omega (arith, ltb-true m (10000 * b) f))
some-greatest a b c m false false true e f g = lt-ltb m (10000 * max (max a b) c) (omega (arith, ltb-true m (10000 * c) g))
some-greatest a b c m false false false e f g = le-ltb m (10000 * max (max a b) c) (omega (arith, ltb-false m (10000 * a) e, ltb-false m (10000 * b) f, ltb-false m (10000 * c) g))

-- and that it is not yet back
least_back : (a b c m : ℕ) (p q r : Bool) → leb m (10000 * a) ≡ p → leb m (10000 * b) ≡ q → leb m (10000 * c) ≡ r
    → ltb (10000 * min (min a b) c) m ≡ not (p && q && r)
least_back a b c m true true true e f g = le-ltb (10000 * min (min a b) c) m (omega (arith, leb-true m (10000 * a) e, leb-true m (10000 * b) f, leb-true m (10000 * c) g))
least_back a b c m true true false e f g = lt-ltb (10000 * min (min a b) c) m (omega (arith, leb-false m (10000 * c) g))
least_back a b c m true false r e f g = lt-ltb (10000 * min (min a b) c) m (omega (arith, leb-false m (10000 * b) f))
least_back a b c m false q r e f g = lt-ltb (10000 * min (min a b) c) m (omega (arith, leb-false m (10000 * a) e))

greatest_back : (a b c m : ℕ) (p q r : Bool) → leb m (10000 * a) ≡ p → leb m (10000 * b) ≡ q → leb m (10000 * c) ≡ r
    → ltb (10000 * max (max a b) c) m ≡ not (p || q || r)
greatest_back a b c m true q r e f g = le-ltb (10000 * max (max a b) c) m (omega (arith, leb-true m (10000 * a) e))
greatest_back a b c m false true r e f g = le-ltb (10000 * max (max a b) c) m (omega (arith, leb-true m (10000 * b) f))
greatest_back a b c m false false true e f g = le-ltb (10000 * max (max a b) c) m (omega (arith, leb-true m (10000 * c) g))
greatest_back a b c m false false false e f g = lt-ltb (10000 * max (max a b) c) m (omega (arith, leb-false m (10000 * a) e, leb-false m (10000 * b) f, leb-false m (10000 * c) g))

greatest_down : (a b c m : ℕ) (p q r : Bool) → leb (10000 * a) m ≡ p → leb (10000 * b) m ≡ q → leb (10000 * c) m ≡ r
    → ltb m (10000 * max (max a b) c) ≡ not (p && q && r)
greatest_down a b c m true true true e f g = le-ltb m (10000 * max (max a b) c) (omega (arith, leb-true (10000 * a) m e, leb-true (10000 * b) m f, leb-true (10000 * c) m g))
greatest_down a b c m true true false e f g = lt-ltb m (10000 * max (max a b) c) (omega (arith, leb-false (10000 * c) m g))
greatest_down a b c m true false r e f g = lt-ltb m (10000 * max (max a b) c) (omega (arith, leb-false (10000 * b) m f))
greatest_down a b c m false q r e f g = lt-ltb m (10000 * max (max a b) c) (omega (arith, leb-false (10000 * a) m e))

module _ (s : Settings) (inside : Bool) where
  goes_known : (kind : Kind) (v : Sums) → goes_by kind (marks_of s kind) inside (level_of s (Some v)) ≡ goes_on s kind inside (Some v)
  unfolding goes_by level_of
  goes_known Sag v =
      rw (
        some-least v.a v.b v.c (mark_of s s.sag) _ _ _ refl refl refl,
        least_back v.a v.b v.c (mark_of s (s.sag + s.hysteresis)) _ _ _ refl refl refl,
      )
  goes_known Interruption v =
      rw (
        all-greatest v.a v.b v.c (mark_of s s.interruption) _ _ _ refl refl refl,
        greatest_back v.a v.b v.c (mark_of s (s.interruption + s.hysteresis)) _ _ _ refl refl refl,
      )
  goes_known Swell v =
      rw (
        some-greatest v.a v.b v.c (mark_of s s.swell) _ _ _ refl refl refl,
        greatest_down v.a v.b v.c (mark_of s (s.swell - s.hysteresis)) _ _ _ refl refl refl,
      )

  pub goes_is : (kind : Kind) (v : Half) → goes_by kind (marks_of s kind) inside (level_of s v) ≡ goes_on s kind inside v
  unfolding goes_by level_of
  goes_is Sag None = refl
  goes_is Interruption None = refl
  goes_is Swell None = refl
  goes_is kind (Some v) = goes_known kind v

-- ---- what the machine asks of a level is what the rules say of the half-cycle

module _ (s : Settings) where
  abbrev level_for : Sums → Level
  level_for v = level_sums (full s) (mark_of s s.sag) v

  peak_known : (kind : Kind) (v : Sums) → peak_of kind (level_for v) ≡ level kind (Some v)
  peak_known Sag v = refl
  peak_known Interruption v = refl
  peak_known Swell v = refl

  pub peak_is : (kind : Kind) (v : Half) (l : Level) → level_of s v ≡ Some l → peak_of kind l ≡ level kind v
  unfolding level_of
  peak_is kind None l e = let z : ◌≡◌ {A = ℕ} 0 1 = cc in absurd (omega arith)
  peak_is kind (Some v) l e = let i : l ≡ level_for v = cc in rw i (peak_known kind v)

  pub short_is : (v : Half) (l : Level) → level_of s v ≡ Some l → l.short ≡ shorts s v
  unfolding level_of
  short_is None l e = let z : ◌≡◌ {A = ℕ} 0 1 = cc in absurd (omega arith)
  short_is (Some v) l e = let i : l ≡ level_for v = cc in rw i

  pub level-known : (v : Half) → is_some (level_of s v) ≡ known v
  unfolding level_of
  level-known None = refl
  level-known (Some v) = refl

  -- a known half-cycle has a level
  pub has_level : (v : Half) → known v ≡ true → (l : Level) × (level_of s v ≡ Some l)
  unfolding level_of
  has_level None e = absurd (false≢true e)
  has_level (Some v) e = (level_for v, refl)

step_inside : (kind : Kind) (m : Marks) (seen : Bool) (k : ℕ) (o : Option Open) (l : Option Level)
    → is_some (step_by kind m seen k o l) ≡ goes_by kind m (is_some o) l
unfolding step_by goes_by
step_inside kind m seen k o None = refl
step_inside kind m seen k o (Some l) = by (goes_level kind m (is_some o) l)
  where
    by : (b : Bool) → is_some (cond b (Some (carried kind seen k o l)) None) ≡ b
    by true = refl
    by false = refl

module _ (s : Settings) (h : ℕ → Half) (kind : Kind) where
  -- the test at half-cycle k, from where the kind stood before
  pub goes_here : (k : ℕ) → goes_by kind (marks_of s kind) (before (in_event s h kind) k) (level_of s (h k)) ≡ in_event s h kind k
  goes_here k = goes_is s (before (in_event s h kind) k) kind (h k) ∙ sym (in_next s h kind k)

  -- THE LAW: the machine is inside an event before half-cycle k exactly if half-cycle k - 1 is in one
  pub inside_is : (k : ℕ) → is_some (opens s h kind k) ≡ before (in_event s h kind) k
  unfolding opens
  inside_is zero = refl
  inside_is (suc k) =
      step_inside kind (marks_of s kind) (before (λ j. known (h j)) k) k (opens s h kind k) (level_of s (h k))
      ∙ goes_is s (is_some (opens s h kind k)) kind (h k)
      ∙ rw (inside_is k) (sym (in_next s h kind k))

  -- the same of a state that stands there
  pub inside_of : (k : ℕ) {o : Option Open} → o ≡ opens s h kind k → is_some o ≡ before (in_event s h kind) k
  inside_of k e = ap is_some e ∙ inside_is k

  -- where half-cycle k is in an event or not, what the step does
  goes_at : (k : ℕ) → goes_by kind (marks_of s kind) (is_some (opens s h kind k)) (level_of s (h k)) ≡ in_event s h kind k
  goes_at k = goes_is s (is_some (opens s h kind k)) kind (h k) ∙ rw (inside_is k) (sym (in_next s h kind k))

  pub opens-closed : (k : ℕ) → in_event s h kind k ≡ false → opens s h kind (suc k) ≡ None
  unfolding opens
  opens-closed k e = step-closed kind (marks_of s kind) _ k (opens s h kind k) (level_of s (h k)) (goes_at k ∙ e)

  pub opens_carries : (k : ℕ) → in_event s h kind k ≡ true
      → (l : Level) × (level_of s (h k) ≡ Some l) × (opens s h kind (suc k) ≡ Some (carried kind (before (λ j. known (h j)) k) k (opens s h kind k) l))
  unfolding opens
  opens_carries k e =
      let l = has_level s (h k) (in_known s h kind k e) in
      let g : goes_by kind (marks_of s kind) (is_some (opens s h kind k)) (Some l.0) ≡ true =
      ap (goes_by kind (marks_of s kind) (is_some (opens s h kind k))) (sym l.1) ∙ goes_at k ∙ e in
      (l.0, l.1, rw l.1 (step_carries kind (marks_of s kind) (before (λ j. known (h j)) k) k (opens s h kind k) l.0 g))

  pub opens_lasts : (k : ℕ) (o : Open) → in_event s h kind k ≡ true → opens s h kind k ≡ Some o
      → (l : Level) × (level_of s (h k) ≡ Some l) × (opens s h kind (suc k) ≡ Some (lasting kind k o l))
  opens_lasts k o e i = let c = opens_carries k e in (c.0, c.1, c.2 ∙ rw i)

  pub opens_launches : (k : ℕ) → in_event s h kind k ≡ true → opens s h kind k ≡ None
      → (l : Level) × (level_of s (h k) ≡ Some l) × (opens s h kind (suc k) ≡ Some (launched kind (before (λ j. known (h j)) k) k l))
  opens_launches k e i = let c = opens_carries k e in (c.0, c.1, c.2 ∙ rw i)

  -- where the half-cycle before is in no event, none is going on
  pub opens-out : (k : ℕ) → before (in_event s h kind) k ≡ false → opens s h kind k ≡ None
  unfolding opens
  opens-out zero e = refl
  opens-out (suc k) e = opens-closed k e
