-- What a pass may say of the half-cycles that it passed over: nothing goes on at them, and all their samples are in range. Assumes
-- nothing.
use Rattle.std.specs.Prelude.{Some, None}
use Prim.Native.Nat.{ℕ, zero, suc, ◌-◌, ◌*◌, ◌≤◌, ◌<◌}
use mathlib.Core.Path.{◌≡◌, refl}
use mathlib.Core.Bool.{Bool, true, false, cond, false≢true}
use mathlib.Core.List.{List}
use mathlib.Core.Logic.{⊎_elim}
use native.Mathlib.Nat.{eq-or-lt_of_le}
use native.Mathlib.Omega.{arith}
use lib.IntN.{ℤ}
use Rattle.rules.specs.Bounded.{before}
use Rattle.rules.specs.Halves.{Half, begin, known, half_at, halves_of}
use Rattle.rules.specs.Events.{in_event}
use Rattle.rules.specs.declared.Settings.{Settings}
use Rattle.rules.specs.declared.Kind.{Kind}
use Rattle.rules.proofs.Longest.{first_low, first_high, first_between}
use Rattle.rules.proofs.Ranges.{good}
use Rattle.checks.specs.Flags.{RangedBelow, as_read}
use Rattle.checks.proofs.Reading.{read_accepted}
use Rattle.halves.specs.Steps.{step_at, joined_of}
use Rattle.halves.specs.declared.Recording.{Recording}
use Rattle.halves.proofs.Steps.{half_of_steps, known_step, ranged_next}
use Rattle.kinds.specs.Machine.{Few}
use Rattle.kinds.specs.declared.Thresholds.{Thresholds}
use Rattle.kinds.proofs.Limits.{few-half}
use Rattle.quiet.specs.Quiet.{is_quiet, quiet_till, Resting, Reading, Standing}
use Rattle.quiet.proofs.Quiet.{quietly, stretch_rests}

-- the second of two steps that make a known half-cycle is known
second_known : (p q : Half) → known (joined_of p q) ≡ true → known q ≡ true
unfolding joined_of
second_known None q e = absurd (false≢true e)
second_known (Some u) None e = absurd (false≢true e)
second_known (Some u) (Some v) e = refl

-- a recording of good length is read by the thresholds of its settings
pub reads : (r : Recording) (from to : ℕ) (first : Half) → Standing r from to first → Reading r.settings r.samples.now r.thresholds from to first
reads r from to first q =
    record {
      good-settings = r.good;
      shaped = r.shaped;
      thresholds = r.marked;
      ordered = q.ordered;
      high = omega (arith, q.high, r.counted);
      step = q.step;
    }

module _ {s : Settings} {xs : List ℤ} {m : Thresholds} {from to : ℕ} {first : Half} (r : Reading s xs m from to first) where
  abbrev h : ℕ → Half
  h = half_at s (as_read xs)

  -- half-cycle k of the recording as read, from the two steps that the pass holds
  pub half_here : (k : ℕ) → k < to → joined_of (step_at s xs k) (step_at s xs (suc k)) ≡ h k
  half_here k l = half_of_steps s xs (good s r.good-settings) r.shaped k (omega (arith, r.high))

  pub few_here : (k : ℕ) → Few (h k)
  few_here k = few-half s (as_read xs) (good s r.good-settings) (read_accepted s xs r.shaped) k

  -- one half-cycle more, known, is one step more in range
  ranged_more : (k : ℕ) → k < to → known (h k) ≡ true → RangedBelow xs (3 * begin s (suc k)) → RangedBelow xs (3 * begin s (suc (suc k)))
  ranged_more k l e below =
      let g = good s r.good-settings in
      let u : suc k ≤ halves_of s xs = omega (arith, r.high) in
      ranged_next s xs g r.shaped (suc k) u below
      (known_step s xs g r.shaped (suc k) u (second_known (step_at s xs k) (step_at s xs (suc k)) (rw (half_here k l) e)))

  -- where the pass over quiet half-cycles stops
  module _ (going : Bool) (stop : ℕ) (is : stop ≡ cond going from (quiet_till s xs from to)) where
    pub stop_low : from ≤ stop
    stop_low = rw is (by going)
      where
        by : (b : Bool) → from ≤ cond b from (quiet_till s xs from to)
        by true = omega arith
        by false = first_low (λ k. is_quiet s (h k)) from (to - from)

    pub stop_high : stop ≤ to
    stop_high = rw is (by going)
      where
        by : (b : Bool) → cond b from (quiet_till s xs from to) ≤ to
        by true = r.ordered
        by false = omega (arith, first_high (λ k. is_quiet s (h k)) from (to - from), r.ordered)

    quiet_till_lem : (k : ℕ) → from ≤ k → k < stop → is_quiet s (h k) ≡ true
    quiet_till_lem k l u = by going is
      where
        by : (b : Bool) → stop ≡ cond b from (quiet_till s xs from to) → is_quiet s (h k) ≡ true
        by true e = absurd (omega arith)
        by false e = first_between (λ k. is_quiet s (h k)) from (to - from) k l (omega arith)

    -- where nothing was going on, nothing goes on up to there
    pub calm_rests : ((kind : Kind) → going ≡ false → before (in_event s h kind) from ≡ false) → (k : ℕ) → from ≤ k → k < stop → Resting s h k
    calm_rests out k l u = by going refl
      where
        by : (b : Bool) → going ≡ b → Resting s h k
        by true e = absurd (omega (arith, rw e at is))
        by false e = stretch_rests s h from stop (λ kind. out kind e) quiet_till_lem k l u

    pub calm_ranged : RangedBelow xs (3 * begin s (suc from)) → RangedBelow xs (3 * begin s (suc stop))
    calm_ranged below = upto stop stop_low (omega arith)
      where
        upto : (k : ℕ) → from ≤ k → k ≤ stop → RangedBelow xs (3 * begin s (suc k))
        upto zero l u = let e : from ≡ 0 = omega arith in rw e at below
        upto (suc k) l u =
            ⊎_elim (λ e. rw e at below)
            (λ v. ranged_more k (omega (arith, stop_high)) (quietly s (h k) (quiet_till_lem k (omega arith) u)).is_known (upto k (omega arith) (omega arith)))
            (eq-or-lt_of_le l)
