-- Words stored in slots of a run: stores in different slots commute, and a slot behind what is written makes it longer. Assumes
-- nothing.
use Rattle.std.specs.Prelude.{Option, Some, None, IfSome}
use Prim.Native.Nat.{ℕ, suc, ◌+◌, ◌*◌, ◌≤◌, ◌<◌}
use mathlib.Core.Path.{◌≡◌, refl, sym, ap, ◌∙◌}
use mathlib.Core.Logic.{◌⊎◌, inl, inr, ⊎_elim}
use mathlib.Core.List.{List, [], ◌∷◌, ◌++◌, append_assoc}
use native.Mathlib.Omega.{arith}
use Rattle.rules.proofs.Choices.{lower}
use Rattle.rules.specs.Refusals.{over}
use Rattle.list.specs.declared.Pending.{Pending}
use lib.ListN.{length, drop, set, length-append, length-drop}
use lib.Seq.{sets, sets-eq, set_comm, take-append_seam, drop-append-add, drop-drop}

-- a store beside a run of stores
sets-set : (vs l : List ℕ) (i j b : ℕ) → (j < i) ⊎ (i + length vs ≤ j) → sets (set l j b) i vs ≡ set (sets l i vs) j b
sets-set [] l i j b a = refl
sets-set (v ∷ vs) l i j b a =
    rw (set_comm l j i b v (λ e. ⊎_elim (λ x. omega arith) (λ x. omega arith) a))
    (sets-set vs (set l i v) (suc i) j b (⊎_elim (λ x. inl (omega arith)) (λ x. inr (omega arith)) a))

-- two runs of stores that lie apart
abbrev pub Apart : ℕ → List ℕ → ℕ → List ℕ → Type 0
Apart i us j vs = (i + length us ≤ j) ⊎ (j + length vs ≤ i)

pub sets_comm : (us vs l : List ℕ) (i j : ℕ) → Apart i us j vs → sets (sets l i us) j vs ≡ sets (sets l j vs) i us
sets_comm [] vs l i j a = refl
sets_comm (u ∷ us) vs l i j a =
    sets_comm us vs (set l i u) (suc i) j (⊎_elim (λ x. inl (omega arith)) (λ x. inr (omega arith)) a)
    ∙ ap (λ (r : List ℕ). sets r (suc i) us)
    (sets-set vs l j i u (⊎_elim (λ x. inl (omega arith)) (λ x. inr (omega arith)) a))

-- ---- a slot that waits for its words

-- the run as it will be once a slot that waits has its words
abbrev pub fill : (Pending → List ℕ) → Option Pending → List ℕ → List ℕ
fill w None o = o
fill w (Some p) o = sets o (11 * p.slot) (w p)

-- two slots that wait are not the same
abbrev pub Different : Option Pending → Option Pending → Type 0
Different q r = IfSome q (λ a. IfSome r (λ b. a.slot ≡ b.slot → ⊥))

-- two slots that are not the same lie apart
slots_apart : (u v : List ℕ) (a b : ℕ) → length u ≡ 11 → length v ≡ 11 → (a ≡ b → ⊥) → Apart (11 * a) u (11 * b) v
slots_apart u v a b l m n =
    ⊎_elim (λ x. inl (omega (arith, l))) (λ x. ⊎_elim (λ y. inr (omega (arith, m))) (λ y. absurd (n (omega arith))) (lower b a)) (lower a b)

module _ (w : Pending → List ℕ) (eleven : (p : Pending) → length (w p) ≡ 11) where
  -- a store in another slot
  pub fill_sets : (q : Option Pending) (o : List ℕ) (a : ℕ) (v : List ℕ) → length v ≡ 11 → IfSome q (λ p. p.slot ≡ a → ⊥)
      → fill w q (sets o (11 * a) v) ≡ sets (fill w q o) (11 * a) v
  fill_sets None o a v m n = refl
  fill_sets (Some p) o a v m n = sets_comm v (w p) o (11 * a) (11 * p.slot) (slots_apart v (w p) a p.slot m (eleven p) (λ e. n (sym e)))

  -- two slots that wait
  pub fill_fill : (w' : Pending → List ℕ) → ((p : Pending) → length (w' p) ≡ 11) → (q r : Option Pending) (o : List ℕ) → Different q r
      → fill w q (fill w' r o) ≡ fill w' r (fill w q o)
  fill_fill w' eleven' None r o n = refl
  fill_fill w' eleven' (Some a) None o n = refl
  fill_fill w' eleven' (Some a) (Some b) o n = fill_sets (Some a) o b.slot (w' b) (eleven' b) n

-- ---- words behind words

pub put_next : (e o w : List ℕ) (at : ℕ) → length e ≡ at → at + length w ≤ length o → sets (over e o) at w ≡ over (e ++ w) o
put_next e o w at l room =
    let fits : at + length w ≤ length (over e o) = omega (arith, length-append e (drop (length e) o), length-drop (length e) o) in
    sets-eq w (over e o) at fits ∙ rw (← l, take-append_seam, drop-append-add, drop-drop, length-append, append_assoc)
