-- An event is a longest unbroken run. The walk `first_not` is told by its bounds and by what it passes; with a bound past which the
-- test refuses, the run that starts at a number is the one that `starts` and `end_of` name, and there is no other. Stated over any
-- test, then for every kind. Assumes nothing.
use Rattle.std.specs.Prelude.{None}
use Prim.Native.Nat.{ℕ, zero, suc, ◌+◌, ◌-◌, ◌≤◌, ◌<◌}
use mathlib.Core.Path.{◌≡◌, sym, ◌∙◌}
use mathlib.Core.Bool.{Bool, true, false, not, ◌&&◌, ◌||◌}
use mathlib.Core.Logic.{⊎_elim}
use native.Mathlib.Nat.{eq-or-lt_of_le, le_antisymm}
use native.Mathlib.Omega.{arith}
use borrow.Author.Tests.{lt-ltb, le-ltb, ltb-true, ltb-false, not-true}
use lib.Dec.{ltb}
use Rattle.rules.specs.Bounded.{all, before, first_not}
use mathlib.Core.List.{List}
use lib.IntN.{ℤ}
use Rattle.rules.specs.Halves.{Half, known, half_at, halves_of}
use Rattle.rules.specs.Events.{in_event, is_run, starts, end_of}
use Rattle.rules.specs.declared.Settings.{Settings}
use Rattle.rules.specs.declared.Kind.{Kind}
use Rattle.rules.proofs.Booleans.{both, not_both}
use Rattle.rules.proofs.Bounded.{all-at, all_true}
use Rattle.rules.proofs.Choices.{of_cond, or_by, lower}
use Rattle.rules.proofs.Runs.{in_next}

-- ---- the walk

pub first_low : (p : ℕ → Bool) (s d : ℕ) → s ≤ first_not p s d
first_low p s zero = omega arith
first_low p s (suc d) = let r = first_low p (suc s) d in of_cond (λ x. s ≤ x) (p s) (first_not p (suc s) d) s (λ e. omega arith) (λ e. omega arith)

pub first_high : (p : ℕ → Bool) (s d : ℕ) → first_not p s d ≤ s + d
first_high p s zero = omega arith
first_high p s (suc d) = let r = first_high p (suc s) d in of_cond (λ x. x ≤ s + suc d) (p s) (first_not p (suc s) d) s (λ e. omega arith) (λ e. omega arith)

-- every number that it passes by
pub first_between : (p : ℕ → Bool) (s d m : ℕ) → s ≤ m → m < first_not p s d → p m ≡ true
first_between p s zero m l u = absurd (omega arith)
first_between p s (suc d) m l u =
    let r = first_between p (suc s) d m in
    of_cond (λ x. m < x → p m ≡ true) (p s) (first_not p (suc s) d) s
    (λ e v. ⊎_elim (λ q. rw (← q) e) (λ k. r k v) (eq-or-lt_of_le l))
    (λ e v. absurd (omega arith)) u

-- where it stops before the end, it is refused
pub first_refused : (p : ℕ → Bool) (s d : ℕ) → first_not p s d < s + d → p (first_not p s d) ≡ false
first_refused p s zero u = absurd (omega arith)
first_refused p s (suc d) u =
    let r = first_refused p (suc s) d in
    of_cond (λ x. x < s + suc d → p x ≡ false) (p s) (first_not p (suc s) d) s (λ e v. r (omega arith)) (λ e v. e) u

-- ---- runs, over any test

-- at or above a, `m below a, or passes` says only that m passes
from_start : (p : ℕ → Bool) (a m : ℕ) → a ≤ m → ltb m a || p m ≡ p m
from_start p a m l = rw (le-ltb m a l)

-- what a run is, part by part
pub record Run (p : ℕ → Bool) (a b : ℕ) : Type 0 where
  pub some : a < b
  pub unbroken : (m : ℕ) → a ≤ m → m < b → p m ≡ true
  pub not_before : before p a ≡ false
  pub not_after : p b ≡ false

pub run-parts : (p : ℕ → Bool) (a b : ℕ) → is_run p a b ≡ true → Run p a b
unfolding is_run
run-parts p a b h =
    let x = both (ltb a b && all (λ m. ltb m a || p m) b && not (before p a)) (not (p b)) h in
    let y = both (ltb a b && all (λ m. ltb m a || p m) b) (not (before p a)) x.0 in
    let z = both (ltb a b) (all (λ m. ltb m a || p m) b) y.0 in
    record {
      some = ltb-true a b z.0;
      unbroken = λ m l u. sym (from_start p a m l) ∙ all-at (λ m. ltb m a || p m) b z.1 m u;
      not_before = not-true (before p a) y.1;
      not_after = not-true (p b) x.1;
    }

pub run_made : (p : ℕ → Bool) (a b : ℕ) → Run p a b → is_run p a b ≡ true
unfolding is_run
run_made p a b r =
    let every : all (λ m. ltb m a || p m) b ≡ true = all_true (λ m. ltb m a || p m) b (λ m u. or_by (ltb m a) (p m) (λ e. r.unbroken m (ltb-false m a e) u)) in
    rw (lt-ltb a b r.some, every, r.not_before, r.not_after)

-- a number starts a run: it passes, and the one before does not
abbrev pub is_start : (ℕ → Bool) → ℕ → Bool
is_start p a = p a && not (before p a)

module _ (p : ℕ → Bool) (n : ℕ) (past : (k : ℕ) → n ≤ k → p k ≡ false) where
  -- nothing at or past the bound passes
  pub within_bound : (a : ℕ) → p a ≡ true → a < n
  within_bound a e = ⊎_elim (λ l. l) (λ l. absurd (not_both (p a) e (past a l))) (lower a n)

  -- the walk from a goes to the bound at most, and stops at what is refused
  pub walk_stops : (a : ℕ) → a ≤ n → p (first_not p a (n - a)) ≡ false
  walk_stops a l =
      let high = first_high p a (n - a) in
      ⊎_elim (λ u. first_refused p a (n - a) (omega arith)) (λ u. past (first_not p a (n - a)) (omega arith)) (lower (first_not p a (n - a)) n)

  pub run_of_start : (a : ℕ) → is_start p a ≡ true → is_run p a (first_not p a (n - a)) ≡ true
  run_of_start a h =
      let x = both (p a) (not (before p a)) h in
      let l = within_bound a x.0 in
      let r = walk_stops a (omega arith) in
      run_made p a (first_not p a (n - a))
      record {
        some = ⊎_elim (λ q. absurd (not_both (p a) x.0 (rw (← q) at r))) (λ u. u) (eq-or-lt_of_le (first_low p a (n - a)));
        unbroken = first_between p a (n - a);
        not_before = not-true (before p a) x.1;
        not_after = r;
      }

  -- a run's start is one, and its end is where the walk stops
  pub start_of_run : (a b : ℕ) → is_run p a b ≡ true → (is_start p a ≡ true) × (first_not p a (n - a) ≡ b)
  start_of_run a b h =
      let r = run-parts p a b h in
      let e = r.unbroken a (omega arith) r.some in
      let l = within_bound a e in
      let stop = walk_stops a (omega arith) in
      let low = first_low p a (n - a) in
      let not_more = ⊎_elim (λ u. absurd (not_both (p b) (first_between p a (n - a) b (omega arith) u) r.not_after)) (λ u. u) (lower b (first_not p a (n - a))) in
      let not_less = ⊎_elim (λ u. absurd (not_both (p (first_not p a (n - a))) (r.unbroken (first_not p a (n - a)) low u) stop)) (λ u. u) (lower (first_not p a (n - a)) b) in
      (rw (e, r.not_before), le_antisymm not_more not_less)

before_is : (p : ℕ → Bool) (k : ℕ) → 0 < k → before p k ≡ p (k - 1)
before_is p zero l = absurd (omega arith)
before_is p (suc k) l = let e : suc k - 1 ≡ k = omega arith in rw e

-- two runs never touch: the number at the first one's end lies in neither
pub runs_apart : (p : ℕ → Bool) (a b c d : ℕ) → is_run p a b ≡ true → is_run p c d ≡ true → a < c → b < c
runs_apart p a b c d h k l =
    let r = run-parts p a b h in
    let t = run-parts p c d k in
    let at_c = t.unbroken c (omega arith) t.some in
    let not-inside : c < b → ⊥ =
    λ u. not_both (p (c - 1)) (r.unbroken (c - 1) (omega arith) (omega arith)) (sym (before_is p c (omega arith)) ∙ t.not_before) in
    let not_end : c ≡ b → ⊥ = λ e. not_both (p b) (rw e at at_c) r.not_after in
    ⊎_elim (λ u. u) (λ u. absurd (⊎_elim not_end not-inside (eq-or-lt_of_le u))) (lower b c)

-- ---- events of every kind

pub in_known : (s : Settings) (h : ℕ → Half) (kind : Kind) (k : ℕ) → in_event s h kind k ≡ true → known (h k) ≡ true
in_known s h kind k e = (both (known (h k)) _ (sym (in_next s h kind k) ∙ e)).0

module _ (s : Settings) (h : ℕ → Half) (n : ℕ) (past : (k : ℕ) → n ≤ k → h k ≡ None) (kind : Kind) where
  -- nothing past the end is in an event
  pub in_past : (k : ℕ) → n ≤ k → in_event s h kind k ≡ false
  in_past k l = in_next s h kind k ∙ rw (past k l)

  -- THE LAW: what starts at a is a longest unbroken run up to its end
  pub starts-run : (a : ℕ) → starts s h kind a ≡ true → is_run (in_event s h kind) a (end_of s h n kind a) ≡ true
  unfolding starts end_of
  starts-run a e = run_of_start (in_event s h kind) n in_past a e

  -- and every longest unbroken run is one that starts so
  pub run-starts : (a b : ℕ) → is_run (in_event s h kind) a b ≡ true → (starts s h kind a ≡ true) × (end_of s h n kind a ≡ b)
  unfolding starts end_of
  run-starts a b e = start_of_run (in_event s h kind) n in_past a b e

  -- its parts
  pub event-run : (a : ℕ) → starts s h kind a ≡ true → Run (in_event s h kind) a (end_of s h n kind a)
  event-run a e = run-parts (in_event s h kind) a (end_of s h n kind a) (starts-run a e)

  pub starts_before_end : (a : ℕ) → starts s h kind a ≡ true → a < end_of s h n kind a
  starts_before_end a e = (event-run a e).some

  pub unbroken : (a : ℕ) → starts s h kind a ≡ true → (k : ℕ) → a ≤ k → k < end_of s h n kind a → in_event s h kind k ≡ true
  unbroken a e = (event-run a e).unbroken

  -- what stands on both sides is not in it
  pub outside-before : (a : ℕ) → starts s h kind a ≡ true → before (in_event s h kind) a ≡ false
  outside-before a e = (event-run a e).not_before

  pub outside-after : (a : ℕ) → starts s h kind a ≡ true → in_event s h kind (end_of s h n kind a) ≡ false
  outside-after a e = (event-run a e).not_after

  pub start_in : (a : ℕ) → starts s h kind a ≡ true → in_event s h kind a ≡ true
  start_in a e = unbroken a e a (omega arith) (starts_before_end a e)

  pub start_high : (a : ℕ) → starts s h kind a ≡ true → a < n
  start_high a e = within_bound (in_event s h kind) n in_past a (start_in a e)

  pub end_high : (a : ℕ) → starts s h kind a ≡ true → end_of s h n kind a ≤ n
  unfolding end_of
  end_high a e = let l = start_high a e in let high = first_high (in_event s h kind) a (n - a) in omega arith

  -- two of one kind never touch
  pub never_touch : (a b : ℕ) → starts s h kind a ≡ true → starts s h kind b ≡ true → a < b → end_of s h n kind a < b
  never_touch a b e f l =
      runs_apart (in_event s h kind) a (end_of s h n kind a) b (end_of s h n kind b) (starts-run a e) (starts-run b f) l

-- a recording's half-cycles are unknown past their number
pub half_past : (s : Settings) (xs : List ℤ) (k : ℕ) → halves_of s xs ≤ k → half_at s xs k ≡ None
unfolding half_at
half_past s xs k l = rw (le-ltb k (halves_of s xs) l)
