-- What good settings are: each in its range, and the bounds that keep every product within 64 bits. Assumes nothing.
use Prim.Native.Nat.{ℕ, ◌*◌, ◌%◌, ◌≤◌}
use mathlib.Core.Path.{◌≡◌, refl}
use mathlib.Core.Bool.{Bool, true, false, not, ◌||◌, cond, false≢true}
use mathlib.Core.Logic.{◌⊎◌, inl, inr}
use native.Mathlib.Nat.{le_refl, mul-le-mul}
use native.Mathlib.Omega.{arith}
use borrow.Author.Tests.{leb-true, eqb-true}
use lib.Dec.{leb, eqb}
use Rattle.rules.specs.declared.Settings.{Settings}
use Rattle.rules.specs.Recorder.{within, n_good, f_good, bad_setting, settings_good}
use Rattle.rules.specs.Halves.{full}
use Rattle.rules.specs.Demands.{Good}
use Rattle.rules.proofs.Booleans.{both}

ranged : (low high x : ℕ) → within low high x ≡ true → (low ≤ x) × (x ≤ high)
ranged low high x h = let p = both (leb low x) (leb x high) h in (leb-true low x p.0, leb-true x high p.1)

fifty : (f : ℕ) (a b : Bool) → eqb f 50 ≡ a → eqb f 60 ≡ b → a || b ≡ true → (50 ≤ f) × (f ≤ 60)
fifty f true b p q h = omega (arith, eqb-true f 50 p)
fifty f false true p q h = omega (arith, eqb-true f 60 q)
fifty f false false p q h = absurd (false≢true h)

-- where no setting is bad, each test passes
all_pass : (a b c d e f g : Bool)
    → ◌≡◌ {A = ℕ} (cond (not a) 1 (cond (not b) 2 (cond (not c) 3 (cond (not d) 4 (cond (not e) 5 (cond (not f) 6 (cond (not g) 7 0))))))) 0
    → (a ≡ true) × (b ≡ true) × (c ≡ true) × (d ≡ true) × (e ≡ true) × (f ≡ true) × (g ≡ true)
all_pass true true true true true true true h = (refl, refl, refl, refl, refl, refl, refl)
all_pass true true true true true true false h = absurd (omega arith)
all_pass true true true true true false g h = absurd (omega arith)
all_pass true true true true false f g h = absurd (omega arith)
all_pass true true true false e f g h = absurd (omega arith)
all_pass true true false d e f g h = absurd (omega arith)
all_pass true false c d e f g h = absurd (omega arith)
all_pass false b c d e f g h = absurd (omega arith)

pub good : (s : Settings) → settings_good s ≡ true → Good s
unfolding settings_good bad_setting
good s h =
    let p =
    all_pass (n_good s.n) (within 1000 50000 s.r) (f_good s.f) (within 50 95 s.sag) (within 1 20 s.interruption) (within 105 150 s.swell) (leb s.hysteresis 5) (eqb-true (bad_setting s) 0 h) in
    let n = both (within 8 512 s.n) (eqb (s.n % 2) 0) p.0 in
    let n-in = ranged 8 512 s.n n.0 in
    let r = ranged 1000 50000 s.r p.1 in
    let f = fifty s.f (eqb s.f 50) (eqb s.f 60) refl refl p.2 in
    let sag = ranged 50 95 s.sag p.3 in
    let interruption = ranged 1 20 s.interruption p.4 in
    let swell = ranged 105 150 s.swell p.5 in
    record {
      n_low = n-in.0;
      n_high = n-in.1;
      n_even = eqb-true (s.n % 2) 0 n.1;
      r_low = r.0;
      r_high = r.1;
      f_low = f.0;
      f_high = f.1;
      sag-low = sag.0;
      sag-high = sag.1;
      interruption-low = interruption.0;
      interruption-high = interruption.1;
      swell-low = swell.0;
      swell-high = swell.1;
      hysteresis_high = leb-true s.hysteresis 5 p.6;
    }

-- f is one of two
pub two_frequencies : (s : Settings) → settings_good s ≡ true → (s.f ≡ 50) ⊎ (s.f ≡ 60)
unfolding settings_good bad_setting
two_frequencies s h =
    let p =
    all_pass (n_good s.n) (within 1000 50000 s.r) (f_good s.f) (within 50 95 s.sag) (within 1 20 s.interruption) (within 105 150 s.swell) (leb s.hysteresis 5) (eqb-true (bad_setting s) 0 h) in
    go (eqb s.f 50) refl p.2
  where
    go : (b : Bool) → eqb s.f 50 ≡ b → b || eqb s.f 60 ≡ true → (s.f ≡ 50) ⊎ (s.f ≡ 60)
    go true e q = inl (eqb-true s.f 50 e)
    go false e q = inr (eqb-true s.f 60 q)

-- ---- N x R x R

pub nr_high : (s : Settings) → Good s → s.n * s.r ≤ 25600000
nr_high s g = mul-le-mul g.n_high g.r_high

pub full-high : (s : Settings) → Good s → full s ≤ 1280000000000
unfolding full
full-high s g = mul-le-mul (nr_high s g) g.r_high

-- from below by N alone: R is at least 1,000
pub full-low : (s : Settings) → Good s → 1000000 * s.n ≤ full s
unfolding full
full-low s g =
    let h : s.n * 1000 * 1000 ≤ s.n * s.r * s.r = mul-le-mul (mul-le-mul (le_refl s.n) g.r_low) g.r_low in
    omega arith

pub full-least : (s : Settings) → Good s → 8000000 ≤ full s
full-least s g = omega (arith, full-low s g, g.n_low)

pub full_is : (s : Settings) → s.n * s.r * s.r ≡ full s
unfolding full
full_is s = refl

-- a percentage squared, and its share of N x R x R
pub square-high : (p : ℕ) → p ≤ 200 → p * p ≤ 40000
square-high p h = mul-le-mul h h

pub share_high : (m p : ℕ) → m ≤ 1280000000000 → p ≤ 200 → p * p * m ≤ 51200000000000000
share_high m p hm hp = mul-le-mul (square-high p hp) hm
