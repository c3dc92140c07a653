-- The event that is going on before half-cycle k: where it started, all that it has met so far, and what it comes to when k ends
-- it. Assumes nothing.
use Rattle.std.specs.Prelude.{Option, Some, None, is_some}
use Prim.Native.Nat.{ℕ, zero, suc, ◌-◌, ◌≤◌, ◌<◌, min, max}
use mathlib.Core.Path.{◌≡◌, refl, sym, ap, subst, ◌∙◌}
use mathlib.Core.Bool.{true, false, not, cond}
use mathlib.Core.Logic.{⊎_elim}
use mathlib.Core.List.{List}
use native.Mathlib.Nat.{eq-or-lt_of_le}
use native.Mathlib.Omega.{arith}
use borrow.Author.Tests.{ltb-true, ltb-false, eqb-true, eqb-false, eq-eqb, ne_eqb, lt-ltb, le-ltb}
use lib.Dec.{ltb, eqb}
use lib.IntN.{ℤ}
use Rattle.rules.specs.Bounded.{before}
use Rattle.rules.specs.Halves.{Half, known, half_at, halves_of}
use Rattle.rules.specs.Events.{in_event, starts, end_of, seen_of, level, worse, worst, extreme_of, earliest, shorts, shorts_of}
use Rattle.rules.specs.EventList.{event_from}
use Rattle.rules.proofs.Booleans.{cases}
use Rattle.rules.proofs.Choices.{of_cond}
use Rattle.rules.proofs.Runs.{first_is, first_ends}
use Rattle.rules.proofs.Shortfall.{from_one, from_more}
use Rattle.rules.specs.declared.Settings.{Settings}
use Rattle.rules.specs.declared.Kind.{Kind}
use Rattle.rules.specs.declared.Kind.TheVariants.{Sag, Interruption, Swell}
use Rattle.kinds.specs.declared.Level.{Level}
use Rattle.kinds.specs.declared.Open.{Open}
use Rattle.kinds.specs.Machine.{peak_of, add_sums, lasting, launched, opens, Going, finished_by}
use Rattle.kinds.proofs.Machine.{peak_is, short_is, inside_is, opens_lasts, opens_launches}

-- ---- the worst of a range, a turn at a time

worst-one : (pick : ℕ → ℕ → ℕ) (f : ℕ → ℕ) (s : ℕ) → worst pick f s (suc s) ≡ f s
worst-one pick f s = rw (le-ltb s s (omega arith))

worst-next : (pick : ℕ → ℕ → ℕ) (f : ℕ → ℕ) (s k : ℕ) → s < k → worst pick f s (suc k) ≡ pick (worst pick f s k) (f k)
worst-next pick f s k l = rw (lt-ltb s k l)

-- ---- the worse of two levels, over the kind

worse_self : (kind : Kind) (x : ℕ) → worse kind x x ≡ x
worse_self Sag x = omega arith
worse_self Interruption x = omega arith
worse_self Swell x = omega arith

-- it is one of the two
min_pick : (x y : ℕ) → (min x y ≡ x → ⊥) → min x y ≡ y
min_pick x y h = ⊎_elim (λ e. absurd (h (omega (arith, ltb-true x y e)))) (λ e. omega (arith, ltb-false x y e)) (cases (ltb x y))

max_pick : (x y : ℕ) → (max x y ≡ x → ⊥) → max x y ≡ y
max_pick x y h = ⊎_elim (λ e. omega (arith, ltb-true x y e)) (λ e. absurd (h (omega (arith, ltb-false x y e)))) (cases (ltb x y))

worse_pick : (kind : Kind) (x y : ℕ) → (worse kind x y ≡ x → ⊥) → worse kind x y ≡ y
worse_pick Sag x y h = min_pick x y h
worse_pick Interruption x y h = min_pick x y h
worse_pick Swell x y h = max_pick x y h

-- what the old extreme covers, the new one covers
worse_still : (kind : Kind) (x y z : ℕ) → worse kind x z ≡ x → worse kind (worse kind x y) z ≡ worse kind x y
worse_still Sag x y z e = omega arith
worse_still Interruption x y z e = omega arith
worse_still Swell x y z e = omega arith

worse_new : (kind : Kind) (x y : ℕ) → worse kind (worse kind x y) y ≡ worse kind x y
worse_new Sag x y = omega arith
worse_new Interruption x y = omega arith
worse_new Swell x y = omega arith

-- and a new extreme occurs nowhere before
worse_never : (kind : Kind) (x y z : ℕ) → worse kind x z ≡ x → (worse kind x y ≡ x → ⊥) → z ≡ worse kind x y → ⊥
worse_never Sag x y z e n f = n (omega arith)
worse_never Interruption x y z e n f = n (omega arith)
worse_never Swell x y z e n f = n (omega arith)

module _ (s : Settings) (h : ℕ → Half) (kind : Kind) where
  -- from s up to k + 1 is s up to k, or k
  reach : (P : ℕ → Type 0) (a k : ℕ) → ((m : ℕ) → a ≤ m → m < k → P m) → P k → (m : ℕ) → a ≤ m → m < suc k → P m
  reach P a k f g m l u = ⊎_elim (λ e. subst P (sym e) g) (λ q. f m l q) (eq-or-lt_of_le (omega arith))

  at-launch : (k : ℕ) (l : Level) → peak_of kind l ≡ level kind (h k) → l.short ≡ shorts s (h k)
      → in_event s h kind k ≡ true → before (in_event s h kind) k ≡ false
      → Going s h kind (suc k) (launched kind (before (λ j. known (h j)) k) k l)
  unfolding starts extreme_of shorts_of
  at-launch k l p q i b =
      record {
        started = omega arith;
        launch = rw (i, b);
        through = λ m x y. let e : m ≡ k = omega arith in rw e i;
        seen = refl;
        extreme = p ∙ sym (worst-one (worse kind) (λ j. level kind (h j)) k);
        at_low = omega arith;
        at_high = omega arith;
        at_is = sym p;
        at_first = λ m x y z. absurd (omega arith);
        no_worse = λ m x y. let e : m ≡ k = omega arith in rw (e, p) (worse_self kind (level kind (h k)));
        short =
            q
            ∙ sym (rw (
              from_one (λ j. (shorts s (h j)).a) k,
              from_one (λ j. (shorts s (h j)).b) k,
              from_one (λ j. (shorts s (h j)).c) k,
            ));
      }

  -- an event that lasts: its extreme stays where it was, or is new at k
  at_last : (k : ℕ) (o : Open) (l : Level) → peak_of kind l ≡ level kind (h k) → l.short ≡ shorts s (h k)
      → in_event s h kind k ≡ true → Going s h kind k o → Going s h kind (suc k) (lasting kind k o l)
  unfolding extreme_of shorts_of
  at_last k o l p q i g =
      let f : ℕ → ℕ = λ j. level kind (h j) in
      let new = worse kind o.extreme (peak_of kind l) in
      let is : new ≡ worst (worse kind) f o.start (suc k) =
      rw (p, g.extreme) (sym (worst-next (worse kind) f o.start k g.started)) in
      let short : add_sums o.short l.short ≡ shorts_of s h o.start (suc k) =
      rw (g.short, q) (sym (rw (
        from_more (λ j. (shorts s (h j)).a) o.start k (omega (arith, g.started)),
        from_more (λ j. (shorts s (h j)).b) o.start k (omega (arith, g.started)),
        from_more (λ j. (shorts s (h j)).c) o.start k (omega (arith, g.started)),
      ))) in
      let no_worse : (m : ℕ) → o.start ≤ m → m < suc k → worse kind new (level kind (h m)) ≡ new =
      reach (λ m. worse kind new (level kind (h m)) ≡ new) o.start k
      (λ m x y. worse_still kind o.extreme (peak_of kind l) (level kind (h m)) (g.no_worse m x y))
      (rw (← p) (worse_new kind o.extreme (peak_of kind l))) in
      let place : (P : ℕ → Type 0) → (new ≡ o.extreme → P o.at) → ((new ≡ o.extreme → ⊥) → P k) → P (cond (eqb new o.extreme) o.at k) =
      λ P old late. of_cond P (eqb new o.extreme) o.at k (λ e. old (eqb-true new o.extreme e)) (λ e. late (eqb-false new o.extreme e)) in
      record {
        started = omega (arith, g.started);
        launch = g.launch;
        through = reach (λ m. in_event s h kind m ≡ true) o.start k g.through i;
        seen = g.seen;
        extreme = is;
        at_low = place (λ x. o.start ≤ x) (λ e. g.at_low) (λ n. omega (arith, g.started));
        at_high = place (λ x. x < suc k) (λ e. omega (arith, g.at_high)) (λ n. omega arith);
        at_is = place (λ x. level kind (h x) ≡ new) (λ e. g.at_is ∙ sym e) (λ n. sym (worse_pick kind o.extreme (peak_of kind l) n ∙ p));
        at_first =
            place (λ x. (m : ℕ) → o.start ≤ m → m < x → level kind (h m) ≡ new → ⊥)
            (λ e m x y z. g.at_first m x y (z ∙ e))
            (λ n m x y z. worse_never kind o.extreme (peak_of kind l) (level kind (h m)) (g.no_worse m x y) n z);
        no_worse = no_worse;
        short = short;
      }

  -- THE LAW: what the machine holds before half-cycle k is the event that is going on
  pub open_is_going : (k : ℕ) (o : Open) → opens s h kind k ≡ Some o → Going s h kind k o
  unfolding opens
  open_is_going zero o e = let z : ◌≡◌ {A = ℕ} 0 1 = cc in absurd (omega arith)
  open_is_going (suc k) o e =
      let i : in_event s h kind k ≡ true = sym (inside_is s h kind (suc k)) ∙ ap is_some e in
      by (λ w f. open_is_going k w f) (opens s h kind k) refl i
    where
      by : ((w : Open) → opens s h kind k ≡ Some w → Going s h kind k w)
          → (was : Option Open) → opens s h kind k ≡ was → in_event s h kind k ≡ true → Going s h kind (suc k) o
      by before_is (Some w) f i =
          let n = opens_lasts s h kind k w i f in
          let same : o ≡ lasting kind k w n.0 = let q : Some o ≡ Some (lasting kind k w n.0) = sym e ∙ n.2 in cc in
          rw same (at_last k w n.0 (peak_is s kind (h k) n.0 n.1) (short_is s (h k) n.0 n.1) i (before_is w f))
      by before_is None f i =
          let n = opens_launches s h kind k i f in
          let same : o ≡ launched kind (before (λ j. known (h j)) k) k n.0 =
          let q : Some o ≡ Some (launched kind (before (λ j. known (h j)) k) k n.0) = sym e ∙ n.2 in cc in
          rw same (at-launch k n.0 (peak_is s kind (h k) n.0 n.1) (short_is s (h k) n.0 n.1) i (sym (inside_is s h kind k) ∙ ap is_some f))

  -- an event that half-cycle k ends: it ends there, and its extreme is where the machine says
  module _ (n k : ℕ) (o : Open) (g : Going s h kind k o) (u : k ≤ n) (out : in_event s h kind k ≡ false) where
    pub ends_here : end_of s h n kind o.start ≡ k
    unfolding end_of
    ends_here = first_ends (in_event s h kind) o.start k n (omega (arith, g.started)) u g.through out

    pub first_at : earliest h kind o.start k ≡ o.at
    unfolding earliest
    first_at =
        first_is (λ j. not (eqb (level kind (h j)) (extreme_of h kind o.start k))) o.start (k - o.start) o.at
        g.at_low (omega (arith, g.at_high))
        (λ m x y. rw (ne_eqb (level kind (h m)) (extreme_of h kind o.start k) (λ z. g.at_first m x y (z ∙ sym g.extreme))))
        (rw (eq-eqb (level kind (h o.at)) (extreme_of h kind o.start k) (g.at_is ∙ g.extreme)))

-- what the event comes to
module _ (s : Settings) (xs : List ℤ) (kind : Kind) (k : ℕ) (o : Open) (g : Going s (half_at s xs) kind k o) (u : k ≤ halves_of s xs) (out : in_event s (half_at s xs) kind k ≡ false) where
  pub finished_is_event : event_from s xs kind o.start ≡ finished_by s xs kind o k (known (half_at s xs k))
  unfolding event_from seen_of finished_by
  finished_is_event =
      rw (
        ends_here s (half_at s xs) kind (halves_of s xs) k o g u out,
        first_at s (half_at s xs) kind (halves_of s xs) k o g u out,
        g.extreme,
        g.short,
        g.seen,
      )
