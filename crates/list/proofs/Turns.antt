-- A turn of the writing pass: what each of its three visits asks, and what they make together. Assumes nothing.
use Rattle.std.specs.Prelude.{Option, Some, None, is_some}
use Prim.Native.Nat.{ℕ, zero, suc, ◌+◌, ◌-◌, ◌≤◌, ◌<◌}
use mathlib.Core.Path.{◌≡◌, refl, sym, ap, subst, ◌∙◌}
use native.Mathlib.Nat.{add-zero}
use mathlib.Core.Bool.{Bool, true, false, ◌||◌, false≢true}
use mathlib.Core.List.{List}
use native.Mathlib.Omega.{arith}
use lib.IntN.{ℤ}
use Rattle.rules.specs.Halves.{Half, half_at}
use Rattle.rules.specs.Events.{starts}
use Rattle.rules.proofs.Booleans.{bit_le}
use Rattle.rules.proofs.Samples.{accepted_recording}
use Rattle.rules.specs.declared.Settings.{Settings}
use Rattle.rules.specs.declared.Kind.{Kind}
use Rattle.rules.specs.declared.Kind.TheVariants.{Sag, Interruption, Swell}
use Rattle.halves.specs.declared.Recording.{Recording}
use Rattle.kinds.specs.declared.Marks.{Marks}
use Rattle.kinds.specs.declared.Level.{Level}
use Rattle.list.specs.declared.Pending.{Pending}
use Rattle.list.specs.declared.Visited.{Visited}
use Rattle.list.specs.declared.Pass.{Pass}
use Rattle.kinds.specs.Machine.{marks_of, level_of}
use Rattle.list.specs.Listing.{Ready, Visiting, ReadyAll, Turning, going, visited, closes, turned, turned_out, turns, turns_out, rested}
use Rattle.kinds.proofs.Machine.{level-known, opens-out, opens-closed}
use Rattle.quiet.specs.Quiet.{Resting}

-- a visit gives out one slot at the most
pub visited-few : (s : Settings) (xs : List ℤ) (kind : Kind) (k : ℕ) (q : Option Pending) (n : ℕ) (v : Visited) → v ≡ visited s xs kind k q n → v.n ≤ n + 1
unfolding visited
visited-few s xs kind k q n v e = rw e (omega (arith, bit_le (starts s (half_at s xs) kind k)))

module _ {r : Recording} {half : Half} {k : ℕ} {p : Pass} {room : ℕ} (t : Turning r half k p room)
    {l : Option Level} (is : l ≡ level_of r.settings (half_at r.settings r.samples.now k)) where
  -- what the visit of a kind asks, where the visits before it have given out two slots at the most
  pub visits : {kind : Kind} {marks : Marks} {q : Option Pending} {n room' : ℕ} → marks ≡ marks_of r.settings kind → Ready r.settings r.samples.now kind k q room → n ≤ p.n + 2
      → room' ≡ room → Visiting r kind marks p.known k q l n room'
  visits of_kind ready few same =
      record {
        accepted = t.accepted;
        marks = of_kind;
        known-before = t.ready.known-before;
        high = t.high;
        ready = rw same ready;
        levels = is;
        few = omega (arith, few, t.ready.few, t.high, r.counted, (accepted_recording r.settings r.samples.now t.accepted).few);
      }

  -- the three visits together
  module _ {a b c : Visited} (ea : a ≡ visited r.settings r.samples.now Sag k p.sag p.n) (eb : b ≡ visited r.settings r.samples.now Interruption k p.interruption a.n)
      (ec : c ≡ visited r.settings r.samples.now Swell k p.swell b.n) where
    pub turn_made : ◌≡◌ {A = Pass} (record { known = is_some l; n = c.n; sag = a.pending; interruption = b.pending; swell = c.pending }) (turned r.settings r.samples.now k p)
    unfolding turned
    turn_made = rw (ec, eb, ea, is, level-known r.settings (half_at r.settings r.samples.now k))

  pub turn_out : (out o₁ o₂ o₃ : List ℕ) → o₁ ≡ closes r.settings r.samples.now Sag k p.sag out → o₂ ≡ closes r.settings r.samples.now Interruption k p.interruption o₁
      → o₃ ≡ closes r.settings r.samples.now Swell k p.swell o₂ → o₃ ≡ turned_out r.settings r.samples.now k p out
  unfolding turned_out
  turn_out out o₁ o₂ o₃ e f g = rw (g, f, e)

-- ---- turns at half-cycles at which nothing goes on

-- where no event is going on, no slot waits
pub none-waits : (q : Option Pending) → going q ≡ None → q ≡ None
none-waits None e = refl
none-waits (Some p) e = absurd (false≢true (sym (ap is_some e)))

-- nothing has changed but that the half-cycle before is known
abbrev pub calmed : Pass → Pass
calmed p = record { known = true; n = p.n; sag = p.sag; interruption = p.interruption; swell = p.swell }

pub rested-some : (p : Pass) → rested p true ≡ calmed p
rested-some p = rw (or_true p.known)
  where
    or_true : (b : Bool) → b || true ≡ true
    or_true true = refl
    or_true false = refl

pub rested-none : (p : Pass) → rested p false ≡ p
rested-none p = rw (or_false p.known)
  where
    or_false : (b : Bool) → b || false ≡ b
    or_false true = refl
    or_false false = refl

module _ (s : Settings) (xs : List ℤ) (k : ℕ) (p : Pass) (room : ℕ) (r : Resting s (half_at s xs) k) (ready : ReadyAll s xs k p room) where
  was_none : {kind : Kind} {q : Option Pending} → Ready s xs kind k q room → q ≡ None
  was_none {kind} {q} ok = none-waits q (ok.state ∙ opens-out s (half_at s xs) kind k (r.out-before kind))

  visit_rests : {kind : Kind} {q : Option Pending} → Ready s xs kind k q room → (n : ℕ) → visited s xs kind k q n ≡ record { pending = q; n = n }
  unfolding visited starts
  visit_rests {kind} ok n = rw (r.out kind, opens-closed s (half_at s xs) kind k (r.out kind), add-zero, was_none ok)

  close_rests : {kind : Kind} {q : Option Pending} → Ready s xs kind k q room → (out : List ℕ) → closes s xs kind k q out ≡ out
  unfolding closes
  close_rests ok out = rw (was_none ok)

  pub turn_rests : turned s xs k p ≡ calmed p
  unfolding turned
  turn_rests =
      rw (visit_rests ready.sag p.n, visit_rests ready.interruption p.n, visit_rests ready.swell p.n, r.is_known)

  pub out_rests : (out : List ℕ) → turned_out s xs k p out ≡ out
  unfolding turned_out
  out_rests out = rw (close_rests ready.sag out, close_rests ready.interruption out, close_rests ready.swell out)

module _ (s : Settings) (xs : List ℤ) (from to : ℕ) (p : Pass) (room : ℕ) (r : (k : ℕ) → from ≤ k → k < to → Resting s (half_at s xs) k)
    (ready : (d : ℕ) → from + d < to → ReadyAll s xs (from + d) (turns s xs from d p) room) where
  pub turns_rest : (d : ℕ) → from + d < to → turns s xs from (suc d) p ≡ calmed p
  unfolding turns
  turns_rest zero l = turn_rests s xs (from + 0) p room (r (from + 0) (omega arith) l) (ready 0 l)
  turns_rest (suc d) l =
      turn_rests s xs (from + suc d) (turns s xs from (suc d) p) room (r (from + suc d) (omega arith) l) (ready (suc d) l)
      ∙ ap calmed (turns_rest d (omega arith))

  pub outs_rest : (out : List ℕ) (d : ℕ) → from + d ≤ to → turns_out s xs from d p out ≡ out
  unfolding turns_out
  outs_rest out zero l = refl
  outs_rest out (suc d) l =
      out_rests s xs (from + d) (turns s xs from d p) room (r (from + d) (omega arith) (omega arith)) (ready d (omega arith)) (turns_out s xs from d p out)
      ∙ outs_rest out d (omega arith)

-- turns one behind the other
module _ (s : Settings) (xs : List ℤ) (k d : ℕ) (p : Pass) where
  pub turns-add : (e : ℕ) → turns s xs (k + d) e (turns s xs k d p) ≡ turns s xs k (d + e) p
  unfolding turns
  turns-add zero = sym (ap (λ (x : ℕ). turns s xs k x p) (add-zero d))
  turns-add (suc e) =
      let f : d + suc e ≡ suc (d + e) = omega arith in
      let i : k + d + e ≡ k + (d + e) = omega arith in
      ap (turned s xs (k + d + e)) (turns-add e)
      ∙ ap (λ (x : ℕ). turned s xs x (turns s xs k (d + e) p)) i
      ∙ sym (ap (λ (x : ℕ). turns s xs k x p) f)

  pub outs_add : (e : ℕ) (out : List ℕ) → turns_out s xs (k + d) e (turns s xs k d p) (turns_out s xs k d p out) ≡ turns_out s xs k (d + e) p out
  unfolding turns_out
  outs_add zero out = sym (ap (λ (x : ℕ). turns_out s xs k x p out) (add-zero d))
  outs_add (suc e) out =
      let f : d + suc e ≡ suc (d + e) = omega arith in
      let i : k + d + e ≡ k + (d + e) = omega arith in
      ap (turned_out s xs (k + d + e) (turns s xs (k + d) e (turns s xs k d p))) (outs_add e out)
      ∙ ap (λ (q : Pass). turned_out s xs (k + d + e) q (turns_out s xs k (d + e) p out)) (turns-add e)
      ∙ ap (λ (x : ℕ). turned_out s xs x (turns s xs k (d + e) p) (turns_out s xs k (d + e) p out)) i
      ∙ sym (ap (λ (x : ℕ). turns_out s xs k x p out) f)

-- one turn more, told by the half-cycle that it stands before
module _ (s : Settings) (xs : List ℤ) (from k : ℕ) (p : Pass) (low : from ≤ k) where
  one_more : k + 1 - from ≡ suc (k - from)
  one_more = omega arith

  here : from + (k - from) ≡ k
  here = omega arith

  pub turns-step : turned s xs k (turns s xs from (k - from) p) ≡ turns s xs from (k + 1 - from) p
  unfolding turns
  turns-step =
      ap (λ (x : ℕ). turned s xs x (turns s xs from (k - from) p)) (sym here) ∙ sym (ap (λ (x : ℕ). turns s xs from x p) one_more)

  pub outs_step : (out : List ℕ) → turned_out s xs k (turns s xs from (k - from) p) (turns_out s xs from (k - from) p out) ≡ turns_out s xs from (k + 1 - from) p out
  unfolding turns_out
  outs_step out =
      ap (λ (x : ℕ). turned_out s xs x (turns s xs from (k - from) p) (turns_out s xs from (k - from) p out)) (sym here)
      ∙ sym (ap (λ (x : ℕ). turns_out s xs from x p out) one_more)

  -- of what a pass holds
  pub pass-more : (q q' : Pass) → q ≡ turns s xs from (k - from) p → q' ≡ turned s xs k q → q' ≡ turns s xs from (k + 1 - from) p
  pass-more q q' e f = f ∙ ap (turned s xs k) e ∙ turns-step

  pub out-more : (out o o' : List ℕ) (q : Pass) → q ≡ turns s xs from (k - from) p → o ≡ turns_out s xs from (k - from) p out → o' ≡ turned_out s xs k q o
      → o' ≡ turns_out s xs from (k + 1 - from) p out
  out-more out o o' q e f i = i ∙ ap (λ (x : Pass). turned_out s xs k x o) e ∙ ap (turned_out s xs k (turns s xs from (k - from) p)) f ∙ outs_step out

-- no turn yet
turns-none : (s : Settings) (xs : List ℤ) (from : ℕ) (p : Pass) → turns s xs from 0 p ≡ p
unfolding turns
turns-none s xs from p = refl

outs_none : (s : Settings) (xs : List ℤ) (from : ℕ) (p : Pass) (out : List ℕ) → turns_out s xs from 0 p out ≡ out
unfolding turns_out
outs_none s xs from p out = refl

module _ (s : Settings) (xs : List ℤ) (from : ℕ) (p : Pass) where
  none : from - from ≡ 0
  none = omega arith

  pub turns_start : turns s xs from (from - from) p ≡ p
  turns_start = ap (λ (x : ℕ). turns s xs from x p) none ∙ turns-none s xs from p

  pub outs_start : (out : List ℕ) → turns_out s xs from (from - from) p out ≡ out
  outs_start out = ap (λ (x : ℕ). turns_out s xs from x p out) none ∙ outs_none s xs from p out

-- what the turn of half-cycle k asks
pub ready_here : (s : Settings) (xs : List ℤ) (from k : ℕ) (p q : Pass) (room room' : ℕ) → from ≤ k → q ≡ turns s xs from (k - from) p → room' ≡ room
    → ReadyAll s xs (from + (k - from)) (turns s xs from (k - from) p) room → ReadyAll s xs k q room'
ready_here s xs from k p q room room' l e f r =
    let i : from + (k - from) ≡ k = omega arith in
    rw (e, f) (subst (λ (x : ℕ). ReadyAll s xs x (turns s xs from (k - from) p) room) i r)
