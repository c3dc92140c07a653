-- What the tests of an event say of its numbers, and what an event has that has no reason against it. Assumes nothing.
use Rattle.std.specs.Prelude.{Option, Some}
use Prim.Native.Nat.{ℕ, zero, suc, ◌+◌, ◌-◌, ◌*◌, ◌≤◌, ◌<◌}
use mathlib.Core.Path.{◌≡◌, refl}
use mathlib.Core.Bool.{Bool, true, false, not, ◌&&◌, cond}
use native.Mathlib.Omega.{arith}
use borrow.Author.Tests.{leb-true, ltb-true, eqb-true}
use lib.Dec.{leb, ltb, eqb}
use Rattle.rules.specs.declared.Settings.{Settings}
use Rattle.rules.specs.declared.Event.{Event}
use Rattle.rules.specs.declared.Reason.{Reason}
use Rattle.rules.specs.declared.Reason.TheVariants.{NotASag, NotAnEvent, BadSettings}
use Rattle.rules.specs.Recorder.{within, settings_good}
use Rattle.rules.specs.Halves.{full, below}
use Rattle.rules.specs.Events.{retained_of, three, make_up}
use Rattle.rules.specs.Scores.{in_bounds, is_sag, sag_good, other_good, is_event, reason_number, unseen_of, why_of, reason_of}
use Rattle.rules.specs.Demands.{Scorable}
use Rattle.rules.proofs.Booleans.{both}
use Rattle.rules.proofs.Ranges.{good, full-least}
use Rattle.rules.proofs.Retained.{retained_below}

-- ---- an event of any kind

pub record InBounds (s : Settings) (e : Event) : Type 0 where
  pub start : e.start < e.end
  pub end : e.end ≤ 100000
  pub seen : e.seen ≤ 3
  pub extreme : e.extreme ≤ s.n * 10000000000

pub in_bounds_lem : (s : Settings) (e : Event) → in_bounds s e ≡ true → InBounds s e
unfolding in_bounds
in_bounds_lem s e h =
    let kind = within 1 3 e.kind in
    let start = ltb e.start e.end in
    let end = leb e.end 100000 in
    let seen = leb e.seen 3 in
    let extreme = leb e.extreme (s.n * 10000000000) in
    let h3 = both (kind && start && end && seen) extreme h in
    let h2 = both (kind && start && end) seen h3.0 in
    let h1 = both (kind && start) end h2.0 in
    record {
      start = ltb-true e.start e.end (both kind start h1.0).1;
      end = leb-true e.end 100000 h1.1;
      seen = leb-true e.seen 3 h2.1;
      extreme = leb-true e.extreme (s.n * 10000000000) h3.1;
    }

-- the four tests: ranges, the retained value, the shortfalls of the channels, and what the kind adds
tests : (s : Settings) (e : Event) → is_event s e ≡ true
    → (in_bounds s e ≡ true) × (e.retained ≡ retained_of s e.extreme) × (three e.parts ≡ e.shortfall)
    × (cond (is_sag e) (sag_good s e) (other_good e) ≡ true)
unfolding is_event
tests s e h =
    let kept = eqb e.retained (retained_of s e.extreme) in
    let made_up = make_up e.parts e.shortfall in
    let by_kind = cond (is_sag e) (sag_good s e) (other_good e) in
    let h0 = both (in_bounds s e) (kept && made_up && by_kind) h in
    let h1 = both (kept && made_up) by_kind h0.1 in
    let h2 = both kept made_up h1.0 in (
      h0.0,
      eqb-true e.retained (retained_of s e.extreme) h2.0,
      eqb-true (three e.parts) e.shortfall h2.1,
      h1.1,
    )

pub event_bounds : (s : Settings) (e : Event) → is_event s e ≡ true → InBounds s e
event_bounds s e h = in_bounds_lem s e (tests s e h).0

-- THE LAW: of what passes for an event, of whatever kind, the shortfalls of the channels make up the shortfall, with no number that
-- is too large
pub event-parts : (s : Settings) (e : Event) → is_event s e ≡ true → e.parts.a + e.parts.b + e.parts.c ≡ e.shortfall
event-parts s e h = (tests s e h).2

-- the reason of a sag is what is unseen of it, as `seen` counts it: 1 for the start plus 2 for the end
pub unseen_is : (seen : ℕ) → seen ≤ 3 → reason_number (unseen_of seen) ≡ 3 - seen
unseen_is zero h = refl
unseen_is (suc zero) h = refl
unseen_is (suc (suc zero)) h = refl
unseen_is (suc (suc (suc zero))) h = refl
unseen_is (suc (suc (suc (suc k)))) h = absurd (omega arith)

-- ---- no reason

no_reason : (good event sag : Bool) (unseen : Option Reason)
    → reason_number (cond (not good) (Some BadSettings) (cond (not event) (Some NotAnEvent) (cond (not sag) (Some NotASag) unseen))) ≡ 0
    → (good ≡ true) × (event ≡ true) × (sag ≡ true) × (reason_number unseen ≡ 0)
no_reason true true true unseen h = (refl, refl, refl, h)
no_reason true true false unseen h = absurd (omega arith)
no_reason true false sag unseen h = absurd (omega arith)
no_reason false event sag unseen h = absurd (omega arith)

pub scorable : (s : Settings) (e : Event) → reason_of s e ≡ 0 → Scorable s e
unfolding reason_of why_of
scorable s e h =
    let n = no_reason (settings_good s) (is_event s e) (is_sag e) (unseen_of e.seen) h in
    let high = (event_bounds s e n.1).seen in
    record {
      settings = n.0;
      event = n.1;
      sag = n.2;
      seen = omega (arith, high, unseen_is e.seen high, n.3);
    }

sag-low : (s : Settings) (e : Event) → sag_good s e ≡ true → below s s.sag e.extreme ≡ true
unfolding sag_good
sag-low s e h =
    let low = below s s.sag e.extreme in
    let short = leb e.shortfall (3 * full s * (e.end - e.start)) in
    (both low short (both (low && short) (leb e.class 6) h).0).0

-- its extreme is below the sag threshold, and that is at most 95 percent
pub sag_retained : (s : Settings) (e : Event) → Scorable s e → e.retained ≤ 950
sag_retained s e c =
    let g = good s c.settings in
    let p = tests s e c.event in
    let low = sag-low s e (rw c.sag at p.3) in
    omega (arith, p.1, retained_below s s.sag e.extreme (omega (arith, full-least s g)) low, g.sag-high)
