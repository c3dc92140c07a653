-- A table is sound exactly if it meets each part of `Sound`. Assumes nothing.
use Prim.Native.Nat.{◌+◌, ◌*◌}
use mathlib.Core.Path.{◌≡◌}
use mathlib.Core.Bool.{Bool, false, not, ◌||◌}
use borrow.Author.Tests.{ltb-false, le-ltb, eqb-true, eq-eqb, not-false}
use lib.Dec.{ltb, eqb}
use Rattle.rules.specs.Recorder.{settings_good}
use Rattle.rules.specs.Halves.{full}
use Rattle.rules.specs.Events.{three, make_up}
use Rattle.rules.specs.Borders.{known_set, borders_of}
use Rattle.rules.specs.Site.{total, most_halves, unused_zero, is_unsound}
use Rattle.rules.specs.Demands.{Sound}
use Rattle.rules.specs.declared.Table.{Table}
use Rattle.rules.proofs.Booleans.{neither}
use Rattle.rules.proofs.Unused.{unused_zero_lem, zero_unused}

none_of : (a b c d e f g h i j k : Bool) → a || b || c || d || e || f || (g || h || i) || j || k ≡ false
    → (a ≡ false) × (b ≡ false) × (c ≡ false) × (d ≡ false) × (e ≡ false) × (f ≡ false) × (g ≡ false) × (h ≡ false) × (i ≡ false) × (j ≡ false) × (k ≡ false)
none_of a b c d e f g h i j k q =
    let x = neither (a || b || c || d || e || f || (g || h || i) || j) k q in
    let y = neither (a || b || c || d || e || f || (g || h || i)) j x.0 in
    let z = neither (a || b || c || d || e || f) (g || h || i) y.0 in
    let r = neither (a || b || c || d || e) f z.0 in
    let s = neither (a || b || c || d) e r.0 in
    let u = neither (a || b || c) d s.0 in
    let v = neither (a || b) c u.0 in
    let w = neither a b v.0 in
    let m = neither (g || h) i z.1 in
    let l = neither g h m.0 in
    (w.0, w.1, v.1, u.1, s.1, r.1, l.0, l.1, m.1, y.1, x.1)

pub sound-parts : (t : Table) → is_unsound t ≡ false → Sound t
unfolding is_unsound
sound-parts t h =
    let b = borders_of t.settings t.set in
    let p =
    none_of (not (settings_good t.settings)) (not (known_set t.set)) (ltb most_halves t.total) (not (eqb (t.healthy + t.disturbed + t.unknown) t.total))
    (not (eqb (total t.cells + t.unplaced) t.sags)) (not (unused_zero b t.cells)) (ltb t.total t.sags) (ltb t.total t.interruptions) (ltb t.total t.swells)
    (ltb (3 * full t.settings * t.total) t.shortfall) (not (make_up t.parts t.shortfall)) h in
    record {
      good-settings = not-false (settings_good t.settings) p.0;
      set_known = not-false (known_set t.set) p.1;
      total-high = ltb-false most_halves t.total p.2;
      classes = eqb-true (t.healthy + t.disturbed + t.unknown) t.total (not-false (eqb (t.healthy + t.disturbed + t.unknown) t.total) p.3);
      places = eqb-true (total t.cells + t.unplaced) t.sags (not-false (eqb (total t.cells + t.unplaced) t.sags) p.4);
      unused = unused_zero_lem b t.cells (not-false (unused_zero b t.cells) p.5);
      sags-high = ltb-false t.total t.sags p.6;
      interruptions-high = ltb-false t.total t.interruptions p.7;
      swells-high = ltb-false t.total t.swells p.8;
      shortfall-high = ltb-false (3 * full t.settings * t.total) t.shortfall p.9;
      parts = eqb-true (three t.parts) t.shortfall (not-false (make_up t.parts t.shortfall) p.10);
    }

pub sound_made : (t : Table) → Sound t → is_unsound t ≡ false
unfolding is_unsound
sound_made t r =
    rw (
      r.good-settings,
      r.set_known,
      le-ltb most_halves t.total r.total-high,
      eq-eqb (t.healthy + t.disturbed + t.unknown) t.total r.classes,
      eq-eqb (total t.cells + t.unplaced) t.sags r.places,
      zero_unused (borders_of t.settings t.set) t.cells r.unused,
      le-ltb t.total t.sags r.sags-high,
      le-ltb t.total t.interruptions r.interruptions-high,
      le-ltb t.total t.swells r.swells-high,
      le-ltb (3 * full t.settings * t.total) t.shortfall r.shortfall-high,
      eq-eqb (three t.parts) t.shortfall r.parts,
    )
