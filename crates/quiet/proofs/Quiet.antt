-- A half-cycle is quiet by the marks of a sag and a swell exactly where it is quiet by the rules; and where nothing was going on before
-- it, nothing goes on at it. Assumes nothing.
use Rattle.std.specs.Prelude.{Some, None}
use Prim.Native.Nat.{ℕ, zero, suc, ◌+◌, ◌-◌, ◌*◌, ◌≤◌, ◌<◌}
use mathlib.Core.Path.{◌≡◌, refl, sym, ap, ◌∙◌}
use mathlib.Core.Bool.{Bool, true, false, not, ◌&&◌, ◌||◌}
use mathlib.Core.Logic.{⊎_elim}
use native.Mathlib.Nat.{eq-or-lt_of_le, mul-le-mul, mul-le-mul_right}
use native.Mathlib.Omega.{arith}
use borrow.Author.Tests.{ltb-true, ltb-false, lt-leb, le-leb, le-ltb, not-true}
use lib.Dec.{leb, ltb}
use Rattle.rules.specs.Bounded.{before}
use Rattle.rules.specs.Halves.{Half, known, full}
use Rattle.rules.specs.Events.{begins, ends, in_event, least, greatest}
use Rattle.rules.specs.Demands.{Good}
use Rattle.rules.specs.declared.Settings.{Settings}
use Rattle.rules.specs.declared.Sums.{Sums}
use Rattle.rules.specs.declared.Kind.{Kind}
use Rattle.rules.specs.declared.Kind.TheVariants.{Sag, Interruption, Swell}
use Rattle.rules.proofs.Booleans.{cases, both}
use Rattle.rules.proofs.Runs.{in_next}
use Rattle.kinds.specs.Machine.{mark_of, thresholds_of, goes_by, level_of}
use Rattle.kinds.specs.declared.Thresholds.{Thresholds}
use Rattle.kinds.proofs.Machine.{goes_is}
use Rattle.quiet.specs.Quiet.{is_quiet, quiet_by, Resting}

-- ---- the code's two tests are the rules' three

at_or_not : (x m : ℕ) → leb m x ≡ not (ltb x m)
at_or_not x m =
    ⊎_elim (λ e. lt-leb m x (ltb-true x m e) ∙ sym (ap not e)) (λ e. le-leb m x (ltb-false x m e) ∙ sym (ap not e)) (cases (ltb x m))

or_none : (a b : Bool) → a || (false && b) ≡ a
or_none true b = refl
or_none false b = refl

module _ (s : Settings) (v : Sums) where
  -- where nothing is going on, an event begins by one mark
  begins-sag : ltb (10000 * least v) (mark_of s s.sag) ≡ begins s Sag (Some v)
  unfolding goes_by level_of
  begins-sag =
      sym (or_none (ltb (10000 * least v) (mark_of s s.sag)) (ltb (10000 * least v) (mark_of s (s.sag + s.hysteresis))))
      ∙ goes_is s false Sag (Some v)
      ∙ or_none (begins s Sag (Some v)) (not (ends s Sag (Some v)))

  begins-interruption : ltb (10000 * greatest v) (mark_of s s.interruption) ≡ begins s Interruption (Some v)
  unfolding goes_by level_of
  begins-interruption =
      sym (or_none (ltb (10000 * greatest v) (mark_of s s.interruption)) (ltb (10000 * greatest v) (mark_of s (s.interruption + s.hysteresis))))
      ∙ goes_is s false Interruption (Some v)
      ∙ or_none (begins s Interruption (Some v)) (not (ends s Interruption (Some v)))

  begins-swell : ltb (mark_of s s.swell) (10000 * greatest v) ≡ begins s Swell (Some v)
  unfolding goes_by level_of
  begins-swell =
      sym (or_none (ltb (mark_of s s.swell) (10000 * greatest v)) (ltb (mark_of s (s.swell - s.hysteresis)) (10000 * greatest v)))
      ∙ goes_is s false Swell (Some v)
      ∙ or_none (begins s Swell (Some v)) (not (ends s Swell (Some v)))

  -- no interruption begins where no sag does
  no_interruption : Good s → begins s Sag (Some v) ≡ false → begins s Interruption (Some v) ≡ false
  no_interruption g e =
      let squares : s.interruption * s.interruption ≤ s.sag * s.sag =
      let l : s.interruption ≤ s.sag = omega (arith, g.interruption-high, g.sag-low) in mul-le-mul l l in
      let marks : mark_of s s.interruption ≤ mark_of s s.sag = mul-le-mul_right (full s) squares in
      let at : mark_of s s.sag ≤ 10000 * least v = ltb-false (10000 * least v) (mark_of s s.sag) (begins-sag ∙ e) in
      sym begins-interruption ∙ le-ltb (10000 * greatest v) (mark_of s s.interruption) (omega arith)

pub quiet_is : (s : Settings) → Good s → (v : Half) → quiet_by (thresholds_of s) v ≡ is_quiet s v
unfolding quiet_by is_quiet
quiet_is s g None = refl
quiet_is s g (Some v) =
    rw (
      at_or_not (10000 * least v) (mark_of s s.sag),
      at_or_not (mark_of s s.swell) (10000 * greatest v),
      begins-sag s v,
      begins-swell s v,
    )
    (three (begins s Sag (Some v)) (begins s Interruption (Some v)) (begins s Swell (Some v)) (no_interruption s v g))
  where
    three : (a b c : Bool) → (a ≡ false → b ≡ false) → not a && not c ≡ (not a && not b) && not c
    three true b c h = refl
    three false b c h = rw (h refl)

pub quiet_told : (s : Settings) → Good s → (m : Thresholds) (v w : Half) (b : Bool) → m ≡ thresholds_of s → v ≡ w → b ≡ quiet_by m v → b ≡ is_quiet s w
quiet_told s g m v w b e f q = q ∙ rw (e, f) (quiet_is s g w)

-- the test on the lowest and the highest of the three
pub quiet_made : (m : Thresholds) (v : Half) (w : Sums) (l g : ℕ) → v ≡ Some w → l ≡ least w → g ≡ greatest w
    → leb m.sag.from (10000 * l) && leb (10000 * g) m.swell.from ≡ quiet_by m v
unfolding quiet_by
quiet_made m v w l g e f i = rw (e, f, i)

-- ---- what quiet says

pub record Quietly (s : Settings) (v : Half) : Type 0 where
  pub is_known : known v ≡ true
  pub begins-none : (kind : Kind) → begins s kind v ≡ false

pub quietly : (s : Settings) (v : Half) → is_quiet s v ≡ true → Quietly s v
unfolding is_quiet
quietly s v e =
    let p = both (known v && not (begins s Sag v) && not (begins s Interruption v)) (not (begins s Swell v)) e in
    let q = both (known v && not (begins s Sag v)) (not (begins s Interruption v)) p.0 in
    let r = both (known v) (not (begins s Sag v)) q.0 in
    record { is_known = r.0; begins-none = none (not-true _ r.1) (not-true _ q.1) (not-true _ p.1) }
  where
    none : begins s Sag v ≡ false → begins s Interruption v ≡ false → begins s Swell v ≡ false → (kind : Kind) → begins s kind v ≡ false
    none a b c Sag = a
    none a b c Interruption = b
    none a b c Swell = c

-- ---- a stretch of quiet half-cycles

module _ (s : Settings) (h : ℕ → Half) where
  quiet_out : (kind : Kind) (k : ℕ) → is_quiet s (h k) ≡ true → before (in_event s h kind) k ≡ false → in_event s h kind k ≡ false
  quiet_out kind k q b = let e = quietly s (h k) q in in_next s h kind k ∙ rw (b, e.is_known, e.begins-none kind)

  module _ (a b : ℕ) (out : (kind : Kind) → before (in_event s h kind) a ≡ false) (quiet : (k : ℕ) → a ≤ k → k < b → is_quiet s (h k) ≡ true) where
    still_out : (kind : Kind) (k : ℕ) → a ≤ k → k ≤ b → before (in_event s h kind) k ≡ false
    still_out kind zero l u = refl
    still_out kind (suc k) l u =
        ⊎_elim (λ e. sym (ap (before (in_event s h kind)) e) ∙ out kind) (λ m. quiet_out kind k (quiet k (omega arith) u) (still_out kind k (omega arith) (omega arith)))
        (eq-or-lt_of_le l)

    -- THE LAW: nothing goes on in it
    pub stretch_rests : (k : ℕ) → a ≤ k → k < b → Resting s h k
    stretch_rests k l u =
        record {
          is_known = (quietly s (h k) (quiet k l u)).is_known;
          out = λ kind. quiet_out kind k (quiet k l u) (still_out kind k l (omega arith));
          out-before = λ kind. still_out kind k l (omega arith);
        }
