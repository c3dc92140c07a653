-- Half-cycles at which nothing goes on: each is healthy and changes nothing else, so a stretch of them is passed over at once. Assumes
-- nothing.
use Rattle.std.specs.Prelude.{is_some}
use Prim.Native.Nat.{ℕ, zero, suc, ◌+◌, ◌-◌, ◌≤◌, ◌<◌}
use mathlib.Core.Path.{◌≡◌, refl, sym, ap, ◌∙◌}
use mathlib.Core.Bool.{Bool, true, false, not, ◌&&◌, ◌||◌}
use native.Mathlib.Nat.{add-zero}
use native.Mathlib.Omega.{arith}
use borrow.Author.Tests.{lt-ltb}
use lib.Dec.{ltb, eqb}
use lib.ListN.{replicate}
use Rattle.rules.specs.Bounded.{before, bit}
use Rattle.rules.specs.Halves.{Half, known}
use Rattle.rules.specs.Events.{in_event, starts}
use Rattle.rules.specs.Borders.{Borders}
use Rattle.rules.specs.Site.{cells, is_healthy, is_disturbed, is_unknown, sag_cell}
use Rattle.rules.specs.declared.Settings.{Settings}
use Rattle.rules.specs.declared.Kind.{Kind}
use Rattle.rules.specs.declared.Kind.TheVariants.{Sag, Interruption, Swell}
use Rattle.rules.proofs.Booleans.{neither}
use Rattle.kinds.specs.Machine.{opens}
use Rattle.kinds.proofs.Machine.{inside_is, opens-closed, opens-out}
use Rattle.quiet.specs.Quiet.{Resting}
use Rattle.ledger.specs.declared.Track.{Track}
use Rattle.ledger.specs.declared.Classes.{Classes}
use Rattle.ledger.specs.declared.Survey.{Survey}
use Rattle.ledger.specs.Entries.{going_on, passed_over}
use Rattle.ledger.specs.State.{track_at, classes_at, starts_at, landed, landed_at, seen_both, part_from, cells_at, survey_at}
use Rattle.ledger.proofs.Gains.{cells_same}

or_true : (b : Bool) → b || true ≡ true
or_true true = refl
or_true false = refl

or_false : (b : Bool) → b || false ≡ b
or_false true = refl
or_false false = refl

-- ---- passing over none, and over one more

pub over_none : (p : Survey) → passed_over p 0 ≡ p
over_none p = rw (or_false p.track.known, add-zero p.classes.healthy)

over-more : (p : Survey) (d : ℕ) → passed_over (passed_over p d) 1 ≡ passed_over p (suc d)
over-more p d =
    let e : p.classes.healthy + d + 1 ≡ p.classes.healthy + suc d = omega arith in
    rw (or_true (p.track.known || ltb 0 d), lt-ltb 0 (suc d) (omega arith), or_true p.track.known, e)

module _ (s : Settings) (h : ℕ → Half) (n : ℕ) where
  -- where the track holds no event, none is going on
  pub nothing_open : (k : ℕ) → going_on (track_at s h k) ≡ false → (kind : Kind) → before (in_event s h kind) k ≡ false
  unfolding track_at
  nothing_open k e = by (neither (is_some (opens s h Sag k) || before (in_event s h Interruption) k) (before (in_event s h Swell) k) e)
    where
      by : (is_some (opens s h Sag k) || before (in_event s h Interruption) k ≡ false) × (before (in_event s h Swell) k ≡ false)
          → (kind : Kind) → before (in_event s h kind) k ≡ false
      by w Sag = sym (inside_is s h Sag k) ∙ (neither (is_some (opens s h Sag k)) (before (in_event s h Interruption) k) w.0).0
      by w Interruption = (neither (is_some (opens s h Sag k)) (before (in_event s h Interruption) k) w.0).1
      by w Swell = w.1

  -- ---- one half-cycle

  module _ (k : ℕ) (r : Resting s h k) where
    over_track : ◌≡◌ {A = Track} (record {
      known = (track_at s h k).known || true;
      sag = (track_at s h k).sag;
      interruption = (track_at s h k).interruption;
      swell = (track_at s h k).swell;
    }) (track_at s h (suc k))
    unfolding track_at
    over_track =
        rw (
          or_true (before (λ j. known (h j)) k),
          r.is_known,
          opens-out s h Sag k (r.out-before Sag),
          opens-closed s h Sag k (r.out Sag),
          r.out-before Interruption,
          r.out-before Swell,
          r.out Interruption,
          r.out Swell,
        )

    over-classes : ◌≡◌ {A = Classes} (record {
      healthy = (classes_at s h k).healthy + 1;
      disturbed = (classes_at s h k).disturbed;
      unknown = (classes_at s h k).unknown;
    }) (classes_at s h (suc k))
    unfolding classes_at is_healthy is_disturbed is_unknown
    over-classes = rw (r.is_known, r.out Sag, r.out Interruption, r.out Swell) (simp add-zero)

    over-starts : starts_at s h k ≡ starts_at s h (suc k)
    unfolding starts_at starts
    over-starts = rw (r.out Sag, r.out Interruption, r.out Swell) (simp add-zero)

    over-landed : (g : ℕ → ℕ) → landed s h Sag g k ≡ landed s h Sag g (suc k)
    unfolding landed
    over-landed g = rw (r.out-before Sag) (sym (add-zero (landed s h Sag g k)))

    over-one : passed_over (survey_at s h n k) 1 ≡ survey_at s h n (suc k)
    unfolding survey_at landed_at
    over-one =
        rw (
          over_track,
          over-classes,
          over-starts,
          over-landed (λ a. bit (not (seen_both s h n a))),
          over-landed (part_from s h n 0),
          over-landed (part_from s h n 1),
          over-landed (part_from s h n 2),
        )

    over-cells : (b : Borders) → cells_at s b h n k ≡ cells_at s b h n (suc k)
    unfolding cells_at
    over-cells b =
        cells_same _ (λ i. landed s h Sag (λ a. bit (seen_both s h n a && eqb (sag_cell s b h n a) i)) (suc k))
        (λ i. over-landed (λ a. bit (seen_both s h n a && eqb (sag_cell s b h n a) i))) (replicate cells 0) 0

  -- ---- a stretch

  module _ (a : ℕ) where
    over_many : (d : ℕ) → ((k : ℕ) → a ≤ k → k < a + d → Resting s h k)
        → (passed_over (survey_at s h n a) d ≡ survey_at s h n (a + d)) × ((b : Borders) → cells_at s b h n a ≡ cells_at s b h n (a + d))
    over_many zero r = let e : a + 0 ≡ a = omega arith in rw e (over_none (survey_at s h n a), λ b. refl)
    over_many (suc d) r =
        let e : a + suc d ≡ suc (a + d) = omega arith in
        let so_far = over_many d (λ k l u. r k l (omega arith)) in
        let here = r (a + d) (omega arith) (omega arith) in
        rw e (
          sym (over-more (survey_at s h n a) d) ∙ ap (λ (p : Survey). passed_over p 1) so_far.0 ∙ over-one (a + d) here,
          λ b. so_far.1 b ∙ over-cells (a + d) here b,
        )

    module _ (z : ℕ) (low : a ≤ z) (rests : (k : ℕ) → a ≤ k → k < z → Resting s h k) where
      there : a + (z - a) ≡ z
      there = omega arith

      all : (passed_over (survey_at s h n a) (z - a) ≡ survey_at s h n (a + (z - a))) × ((b : Borders) → cells_at s b h n a ≡ cells_at s b h n (a + (z - a)))
      all = over_many (z - a) (λ k l u. rests k l (omega (arith, there)))

      -- THE LAW
      pub over_survey : passed_over (survey_at s h n a) (z - a) ≡ survey_at s h n z
      over_survey = all.0 ∙ ap (survey_at s h n) there

      pub over-all-cells : (b : Borders) → cells_at s b h n a ≡ cells_at s b h n z
      over-all-cells b = all.1 b ∙ ap (cells_at s b h n) there
