-- What keeps the machine's numbers within 64 bits, for an accepted recording. Assumes nothing.
use Rattle.std.specs.Prelude.{Option, Some, None, is_some, IfSome}
use Prim.Native.Nat.{ℕ, zero, suc, ◌+◌, ◌*◌, ◌≤◌}
use mathlib.Core.Path.{◌≡◌, refl, sym, ap, ◌∙◌}
use mathlib.Core.Bool.{true}
use mathlib.Core.List.{List}
use native.Mathlib.Nat.{mul-le-mul, mul-le-mul_right, suc-mul}
use native.Mathlib.Omega.{arith}
use lib.Dec.{ltb}
use lib.IntN.{ℤ}
use Rattle.rules.specs.Bounded.{before}
use Rattle.rules.specs.Halves.{Half, known, half_at, full}
use Rattle.rules.specs.Events.{in_event}
use Rattle.rules.specs.Demands.{Good, AcceptedRecording}
use Rattle.rules.proofs.DemandTwo.{extreme-high, short-high}
use Rattle.rules.proofs.Ranges.{full-high}
use Rattle.rules.proofs.Samples.{sums-low}
use Rattle.rules.proofs.Longest.{in_known}
use Rattle.rules.specs.declared.Settings.{Settings}
use Rattle.rules.specs.declared.Sums.{Sums}
use Rattle.rules.specs.declared.Kind.{Kind}
use Rattle.kinds.specs.declared.Level.{Level}
use Rattle.kinds.specs.declared.Open.{Open}
use Rattle.kinds.specs.Machine.{mark_of, thresholds_of, short_by, level_sums, level_from, level_of, launched, lasting, opens, Going, Marked, Few, Light, Finishable}
use Rattle.kinds.proofs.Machine.{inside_is, opens_lasts, opens_launches}
use Rattle.kinds.proofs.Going.{open_is_going}

-- a half-cycle's shortfall of a channel is at most N x R x R
abbrev pub Small : Sums → ℕ → Type 0
Small v b = (v.a ≤ b) × (v.b ≤ b) × (v.c ≤ b)

pub level_small : (full from : ℕ) (v : Half) (l : Level) → level_from full from v ≡ Some l → Small l.short full
level_small full from None l e = let z : ◌≡◌ {A = ℕ} 0 1 = cc in absurd (omega arith)
level_small full from (Some v) l e = let i : l ≡ level_sums full from v = cc in rw i (high v.a, high v.b, high v.c)
  where
    high : (x : ℕ) → short_by full from x ≤ full
    high x = short-high (ltb (10000 * x) from) full x

pub light : (v : Sums) (b : ℕ) → b ≤ 1000000000000000000 → Small v b → Light v
light v b h f = (omega (arith, f.0), omega (arith, f.1), omega (arith, f.2))

pub marked : (s : Settings) → Good s → Marked (thresholds_of s)
marked s g =
    let h : s.sag * s.sag * full s ≤ 9025 * full s = mul-le-mul_right (full s) (mul-le-mul g.sag-high g.sag-high) in omega arith

module _ (s : Settings) (xs : List ℤ) (g : Good s) (ok : AcceptedRecording s xs) where
  n_high : s.n * 10000000000 ≤ 5120000000000
  n_high = omega (arith, g.n_high)

  few-known : (v : Half) → ((w : Sums) → v ≡ Some w → Small w (s.n * 10000000000)) → Few v
  few-known None f = tt
  few-known (Some w) f = let r = f w refl in (omega (arith, n_high, r.0), omega (arith, n_high, r.1), omega (arith, n_high, r.2))

  pub few-half : (k : ℕ) → Few (half_at s xs k)
  few-half k = few-known (half_at s xs k) (λ w e. sums-low s xs g ok k w e)

  -- ---- the level of the extreme

  pub extreme-low : (kind : Kind) (k : ℕ) (o : Open) → Going s (half_at s xs) kind k o → o.extreme ≤ s.n * 10000000000
  extreme-low kind k o w = rw w.extreme (extreme-high s xs g ok kind o.start k)

  -- ---- shortfalls grow by N x R x R a half-cycle at the most

  abbrev h : ℕ → Half
  h = half_at s xs

  small_more : (x y : Sums) (k : ℕ) → Small x (k * full s) → Small y (full s) → Small (record { a = x.a + y.a; b = x.b + y.b; c = x.c + y.c }) (suc k * full s)
  small_more x y k p q =
      let e : suc k * full s ≡ k * full s + full s = suc-mul k (full s) in
      (omega (arith, p.0, q.0), omega (arith, p.1, q.1), omega (arith, p.2, q.2))

  small_first : (y : Sums) (k : ℕ) → Small y (full s) → Small y (suc k * full s)
  small_first y k q =
      let e : suc k * full s ≡ k * full s + full s = suc-mul k (full s) in (omega (arith, q.0), omega (arith, q.1), omega (arith, q.2))

  level_at_small : (k : ℕ) (l : Level) → level_of s (h k) ≡ Some l → Small l.short (full s)
  unfolding level_of
  level_at_small k l e = level_small (full s) (mark_of s s.sag) (h k) l e

  pub opens_small : (kind : Kind) (k : ℕ) (o : Open) → opens s h kind k ≡ Some o → Small o.short (k * full s)
  unfolding opens
  opens_small kind zero o e = let z : ◌≡◌ {A = ℕ} 0 1 = cc in absurd (omega arith)
  opens_small kind (suc k) o e =
      by (λ w f. opens_small kind k w f) (opens s h kind k) refl (sym (inside_is s h kind (suc k)) ∙ ap is_some e)
    where
      by : ((w : Open) → opens s h kind k ≡ Some w → Small w.short (k * full s))
          → (was : Option Open) → opens s h kind k ≡ was → in_event s h kind k ≡ true → Small o.short (suc k * full s)
      by before_is (Some w) f i =
          let n = opens_lasts s h kind k w i f in
          let same : o ≡ lasting kind k w n.0 = let q : Some o ≡ Some (lasting kind k w n.0) = sym e ∙ n.2 in cc in
          rw same (small_more w.short n.0.short k (before_is w f) (level_at_small k n.0 n.1))
      by before_is None f i =
          let n = opens_launches s h kind k i f in
          let same : o ≡ launched kind (before (λ j. known (h j)) k) k n.0 =
          let q : Some o ≡ Some (launched kind (before (λ j. known (h j)) k) k n.0) = sym e ∙ n.2 in cc in
          rw same (small_first n.0.short k (level_at_small k n.0 n.1))

  k_high : (k : ℕ) → k ≤ 100001 → k * full s ≤ 1000000000000000000
  k_high k l = let r : k * full s ≤ 100001 * 1280000000000 = mul-le-mul l (full-high s g) in omega arith

  pub opens-light : (kind : Kind) (k : ℕ) → k ≤ 100001 → IfSome (opens s h kind k) (λ o. Light o.short)
  opens-light kind k u = by (opens s h kind k) refl
    where
      by : (was : Option Open) → opens s h kind k ≡ was → IfSome was (λ o. Light o.short)
      by None e = tt
      by (Some o) e = light o.short (k * full s) (k_high k u) (opens_small kind k o e)

  pub level-light : (k : ℕ) → IfSome (level_of s (h k)) (λ l. Light l.short)
  level-light k = by (level_of s (h k)) refl
    where
      by : (level : Option Level) → level_of s (h k) ≡ level → IfSome level (λ l. Light l.short)
      by None e = tt
      by (Some l) e = light l.short (full s) (omega (arith, full-high s g)) (level_at_small k l e)

  pub finishable : (kind : Kind) (k : ℕ) (o : Open) → k ≤ 100001 → opens s h kind k ≡ Some o → Finishable s xs o
  finishable kind k o l i =
      let w = open_is_going s h kind k o i in
      record {
        light = light o.short (k * full s) (k_high k l) (opens_small kind k o i);
        extreme = extreme-low kind k o w;
        at = in_known s h kind o.at (w.through o.at w.at_low w.at_high);
      }
