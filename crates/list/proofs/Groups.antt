-- The writing pass goes from one noted group to the next: what lies between is turns at which nothing goes on, and the groups that follow one
-- behind the other are one run of turns. Assumes nothing.
use Prim.Native.Nat.{ℕ, suc, ◌+◌, ◌-◌, ◌*◌, ◌/◌, ◌≤◌, ◌<◌, min}
use mathlib.Core.Path.{◌≡◌, refl, sym, ap, subst, ◌∙◌}
use mathlib.Core.Bool.{Bool, true, false, false≢true}
use mathlib.Core.List.{List}
use mathlib.Core.Logic.{◌⊎◌, ⊎_elim}
use native.Mathlib.Nat.{eq-or-lt_of_le}
use native.Mathlib.Omega.{arith}
use borrow.Author.Tests.{lt-ltb, le-ltb}
use lib.Dec.{ltb}
use lib.IntN.{ℤ}
use lib.ListN.{get_or}
use Rattle.rules.specs.Bounded.{first_not}
use Rattle.rules.specs.Halves.{half_at, halves_of}
use Rattle.rules.specs.declared.Settings.{Settings}
use Rattle.rules.proofs.Choices.{lower}
use Rattle.rules.proofs.Longest.{first_low, first_high, first_between, first_refused}
use Rattle.rules.proofs.Runs.{first_go}
use Rattle.halves.specs.declared.Recording.{Recording}
use Rattle.quiet.specs.Quiet.{Resting}
use Rattle.list.specs.declared.Pass.{Pass}
use Rattle.list.specs.Listing.{ReadyAll, turns, turns_out, rested, differs, Running, WritingOn, WrittenTo}
use Rattle.list.proofs.Turns.{rested-some, rested-none, turns_rest, outs_rest, turns-add, outs_add, turns_start}

-- ---- turns from a to b, at which nothing goes on, and then from b to c

module _ (s : Settings) (xs : List ℤ) (a b : ℕ) (low : a ≤ b) (p calm : Pass) (is : calm ≡ turns s xs a (b - a) p) where
  there : a + (b - a) ≡ b
  there = omega arith

  joins : (d : ℕ) → turns s xs b d calm ≡ turns s xs a (b - a + d) p
  joins d =
      ap (turns s xs b d) is
      ∙ ap (λ (x : ℕ). turns s xs x d (turns s xs a (b - a) p)) (sym there)
      ∙ turns-add s xs a (b - a) p d

  module _ (c : ℕ) (high : b ≤ c) where
    whole : b - a + (c - b) ≡ c - a
    whole = omega arith

    pub turns-join : (q : Pass) → q ≡ turns s xs b (c - b) calm → q ≡ turns s xs a (c - a) p
    turns-join q e = e ∙ joins (c - b) ∙ ap (λ (x : ℕ). turns s xs a x p) whole

    pub outs_join : (out o : List ℕ) → turns_out s xs a (b - a) p out ≡ out → o ≡ turns_out s xs b (c - b) calm out → o ≡ turns_out s xs a (c - a) p out
    outs_join out o still e =
        e
        ∙ ap (λ (q : Pass). turns_out s xs b (c - b) q out) is
        ∙ ap (λ (x : ℕ). turns_out s xs x (c - b) (turns s xs a (b - a) p) out) (sym there)
        ∙ ap (turns_out s xs (a + (b - a)) (c - b) (turns s xs a (b - a) p)) (sym still)
        ∙ outs_add s xs a (b - a) p (c - b) out
        ∙ ap (λ (x : ℕ). turns_out s xs a x p out) whole

  pub ready-join : (halves room : ℕ) → ((d : ℕ) → a + d ≤ halves → ReadyAll s xs (a + d) (turns s xs a d p) room)
      → (d : ℕ) → b + d ≤ halves → ReadyAll s xs (b + d) (turns s xs b d calm) room
  ready-join halves room ready d l =
      let e : a + (b - a + d) ≡ b + d = omega arith in
      rw (joins d) (subst (λ (x : ℕ). ReadyAll s xs x (turns s xs a (b - a + d) p) room) e (ready (b - a + d) (omega arith)))

-- ---- from note to note

-- what a note says
noted_is : (b : Bool) → differs b true ≡ false → b ≡ true
noted_is true e = refl
noted_is false e = absurd (false≢true (sym e))

not_noted : (b : Bool) → differs b true ≡ true → b ≡ false
not_noted true e = absurd (false≢true e)
not_noted false e = refl

module _ {r : Recording} {notes : List Bool} {g : ℕ} {p : Pass} {room : ℕ} (v : WritingOn r notes g p room)
    (groups : ℕ) (all : groups ≡ suc (r.halves / 4))
    (from : ℕ) (from_is : from ≡ first_not (λ i. differs (get_or notes i false) true) g (groups - g)) where
  abbrev s : Settings
  s = r.settings

  abbrev xs : List ℤ
  xs = r.samples.now

  abbrev halves : ℕ
  halves = r.halves

  abbrev quiet : ℕ → Bool
  quiet i = differs (get_or notes i false) true

  pub from_low : g ≤ from
  from_low = rw from_is (first_low quiet g (groups - g))

  not_between : (i : ℕ) → g ≤ i → i < from → get_or notes i false ≡ false
  not_between i l u = not_noted (get_or notes i false) (first_between quiet g (groups - g) i l (omega (arith, from_is)))

  -- the last group is noted, so there is one
  pub from-high : from ≤ halves / 4
  from-high =
      ⊎_elim
      (λ l. absurd (false≢true (sym (not_between (halves / 4) (omega (arith, v.low)) l) ∙ last)))
      (λ l. l)
      (lower (halves / 4) from)
    where
      last : get_or notes (halves / 4) false ≡ true
      last = rw r.counted v.noted.last

  is_noted : get_or notes from false ≡ true
  is_noted =
      noted_is (get_or notes from false)
      (rw from_is (first_refused quiet g (groups - g) (omega (arith, from_is, from-high, all, v.low))))

  -- before it nothing goes on
  rests : (k : ℕ) → 4 * g ≤ k → k < 4 * from → Resting s (half_at s xs) k
  rests k l u = v.noted.resting k (omega (arith, r.counted, from-high)) (not_between (k / 4) (omega arith) (omega arith))

  ready : (d : ℕ) → 4 * g + d < 4 * from → ReadyAll s xs (4 * g + d) (turns s xs (4 * g) d p) room
  ready d l = v.ready d (omega (arith, from-high))

  pub still : (out : List ℕ) → turns_out s xs (4 * g) (4 * from - 4 * g) p out ≡ out
  still out = outs_rest s xs (4 * g) (4 * from) p room rests ready out (4 * from - 4 * g) (omega (arith, from_low))

  -- the pass that has rested there
  pub calm_is : (calm : Pass) → calm ≡ rested p (ltb g from) → calm ≡ turns s xs (4 * g) (4 * from - 4 * g) p
  calm_is calm e = ⊎_elim at later here
    where
      here : (g ≡ from) ⊎ (g < from)
      here = eq-or-lt_of_le from_low

      at : g ≡ from → calm ≡ turns s xs (4 * g) (4 * from - 4 * g) p
      at q =
          let z : 4 * from - 4 * g ≡ 4 * g - 4 * g = omega (arith, q) in
          e
          ∙ ap (rested p) (le-ltb g from (omega (arith, q)))
          ∙ rested-none p
          ∙ sym (turns_start s xs (4 * g) p)
          ∙ sym (ap (λ (x : ℕ). turns s xs (4 * g) x p) z)

      later : g < from → calm ≡ turns s xs (4 * g) (4 * from - 4 * g) p
      later q =
          let z : 4 * from - 4 * g ≡ suc (4 * from - 4 * g - 1) = omega (arith, q) in
          e
          ∙ ap (rested p) (lt-ltb g from q)
          ∙ rested-some p
          ∙ sym (turns_rest s xs (4 * g) (4 * from) p room rests ready (4 * from - 4 * g - 1) (omega (arith, q)))
          ∙ sym (ap (λ (x : ℕ). turns s xs (4 * g) x p) z)

  module _ (to : ℕ) (to_is : to ≡ first_not (λ i. differs (get_or notes i false) false) from (groups - from)) where
    abbrev busy : ℕ → Bool
    busy i = differs (get_or notes i false) false

    pub to_low : from < to
    to_low =
        let goes : busy from ≡ true = ap (λ (b : Bool). differs b false) is_noted in
        let e : first_not busy from (groups - from) ≡ first_not busy (from + 1) (groups - (from + 1)) =
        first_go busy from groups (omega (arith, from-high, all)) goes in
        omega (arith, to_is, e, first_low busy (from + 1) (groups - (from + 1)))

    pub to_high : to ≤ groups
    to_high = omega (arith, to_is, first_high busy from (groups - from), from-high, all)

    -- the run of turns
    module _ (end : ℕ) (end_is : end ≡ min (4 * to) (halves + 1)) (calm : Pass) (e : calm ≡ rested p (ltb g from)) where
      pub run_asks : Running r (4 * from) end calm room
      run_asks =
          record {
            accepted = v.accepted;
            some = omega (arith, end_is, to_low, from-high);
            high = omega (arith, end_is);
            ready = λ d l. ready-join s xs (4 * g) (4 * from) (omega (arith, from_low)) p calm (calm_is calm e) halves room v.ready d (omega (arith, end_is));
          }

      pub written : (q : Pass) (out o : List ℕ) → q ≡ turns s xs (4 * from) (end - 4 * from) calm → o ≡ turns_out s xs (4 * from) (end - 4 * from) calm out
          → WrittenTo s xs g p out (record { pass = q; group = to }) o
      written q out o f i =
          let start : end ≡ min (4 * to) (suc (halves_of s xs)) = omega (arith, end_is, r.counted) in
          let low : 4 * g ≤ 4 * from = omega (arith, from_low) in
          let high : 4 * from ≤ end = omega (arith, end_is, to_low, from-high) in
          record {
            later = omega (arith, from_low, to_low);
            high = omega (arith, to_high, all, r.counted);
            pass = turns-join s xs (4 * g) (4 * from) low p calm (calm_is calm e) end high q f ∙ ap (λ (x : ℕ). turns s xs (4 * g) (x - 4 * g) p) start;
            run =
                outs_join s xs (4 * g) (4 * from) low p calm (calm_is calm e) end high out o (still out) i
                ∙ ap (λ (x : ℕ). turns_out s xs (4 * g) (x - 4 * g) p out) start;
          }
