-- The counting pass counts the list: the tally before half-cycle k has the events that start before it. Assumes nothing.
use Prim.Native.Nat.{ℕ, zero, suc, ◌+◌, ◌*◌, ◌≤◌, ◌<◌}
use mathlib.Core.Path.{◌≡◌, refl, sym, ap, ◌∙◌}
use mathlib.Core.Bool.{false, not, ◌&&◌, ◌||◌}
use mathlib.Core.List.{List}
use mathlib.Core.Logic.{⊎_elim}
use native.Mathlib.Nat.{eq-or-lt_of_le}
use native.Mathlib.Numerals.{add-one}
use native.Mathlib.Omega.{arith}
use lib.ListN.{length}
use lib.IntN.{ℤ}
use Rattle.rules.specs.Halves.{Half, half_at, halves_of}
use Rattle.rules.specs.Events.{in_event, starts}
use Rattle.rules.specs.EventList.{events_of}
use Rattle.rules.specs.Bounded.{before, bit}
use Rattle.rules.proofs.Booleans.{neither}
use Rattle.rules.proofs.Bounded.{count_le}
use Rattle.rules.proofs.Order.{events-length}
use Rattle.rules.specs.declared.Settings.{Settings}
use Rattle.rules.specs.declared.Kind.{Kind}
use Rattle.rules.specs.declared.Kind.TheVariants.{Sag, Interruption, Swell}
use Rattle.counts.specs.declared.Tally.{Tally}
use Rattle.kinds.specs.Machine.{thresholds_of, outside, inside_at}
use Rattle.kinds.specs.declared.Inside.{Inside}
use Rattle.kinds.specs.declared.Thresholds.{Thresholds}
use Rattle.counts.specs.Counting.{tallied, tally_of, going_on}
use Rattle.quiet.specs.Quiet.{Resting}
use Rattle.kinds.proofs.Followed.{inside_next}

module _ (s : Settings) (h : ℕ → Half) where
  -- the tally after half-cycle k, where the kinds are those of the rules
  counted : (k : ℕ) (is : Inside) → is ≡ inside_at s h (k + 1)
      → ◌≡◌ {A = Tally} (record {
        inside = is;
        n =
            (tally_of s h k).n
            + (bit (is.sag && not (inside_at s h k).sag) + bit (is.interruption && not (inside_at s h k).interruption) + bit (is.swell && not (inside_at s h k).swell));
      })
      (tally_of s h (k + 1))
  unfolding tally_of inside_at starts
  counted k is e = rw (e, add-one) (same (omega arith))
    where
      same : {x y : ℕ} → x ≡ y → ◌≡◌ {A = Tally} (record { inside = inside_at s h (suc k); n = x }) (record { inside = inside_at s h (suc k); n = y })
      same e = rw e

  pub tally-next : (m : Thresholds) (t : Tally) (v : Half) (k : ℕ) → m ≡ thresholds_of s → t ≡ tally_of s h k → v ≡ h k → tallied m t v ≡ tally_of s h (k + 1)
  unfolding tallied tally_of
  tally-next m t v k a b c = rw (a, b, c) (counted k _ (inside_next s h _ _ _ (h k) k refl refl refl refl))

  pub tally-few : (k : ℕ) → (tally_of s h k).n ≤ 3 * k
  unfolding tally_of
  tally-few k = omega (arith, count_le (starts s h Sag) k, count_le (starts s h Interruption) k, count_le (starts s h Swell) k)

  -- where nothing goes on it stays
  tally_rests : (k : ℕ) → Resting s h k → tally_of s h (suc k) ≡ tally_of s h k
  unfolding tally_of inside_at starts
  tally_rests k r =
      rw (r.out Sag, r.out Interruption, r.out Swell, r.out-before Sag, r.out-before Interruption, r.out-before Swell) (same (omega arith))
    where
      same : {x y : ℕ} → x ≡ y → ◌≡◌ {A = Tally} (record { inside = outside; n = x }) (record { inside = outside; n = y })
      same e = rw e

  pub tally_stays : (a b : ℕ) → a ≤ b → ((k : ℕ) → a ≤ k → k < b → Resting s h k) → tally_of s h b ≡ tally_of s h a
  tally_stays a zero l r = let e : a ≡ 0 = omega arith in rw e
  tally_stays a (suc b) l r =
      ⊎_elim (λ e. rw e)
      (λ m. tally_rests b (r b (omega arith) (omega arith)) ∙ tally_stays a b (omega arith) (λ k x y. r k x (omega arith)))
      (eq-or-lt_of_le l)

  -- nothing goes on where the tally says so
  pub none_open : (t : Tally) (k : ℕ) → t ≡ tally_of s h k → going_on t ≡ false → (kind : Kind) → before (in_event s h kind) k ≡ false
  unfolding tally_of inside_at
  none_open t k e f =
      let g : before (in_event s h Sag) k || before (in_event s h Interruption) k || before (in_event s h Swell) k ≡ false = sym (ap going_on e) ∙ f in
      let i = neither (before (in_event s h Sag) k || before (in_event s h Interruption) k) (before (in_event s h Swell) k) g in
      by i.0 i.1
    where
      by : before (in_event s h Sag) k || before (in_event s h Interruption) k ≡ false → before (in_event s h Swell) k ≡ false
          → (kind : Kind) → before (in_event s h kind) k ≡ false
      by p q Sag = (neither (before (in_event s h Sag) k) (before (in_event s h Interruption) k) p).0
      by p q Interruption = (neither (before (in_event s h Sag) k) (before (in_event s h Interruption) k) p).1
      by p q Swell = q

pub tally-all : (s : Settings) (xs : List ℤ) (k : ℕ) → k ≡ halves_of s xs → (tally_of s (half_at s xs) k).n ≡ length (events_of s xs)
unfolding tally_of
tally-all s xs k e = rw e (sym (events-length s xs))
