-- The survey of a recording says what the rules count: half-cycle by half-cycle, with what an event adds told when it ends.
-- Assumes nothing.
use Rattle.std.specs.Prelude.{Option, Some, None, is_some}
use Prim.Native.Nat.{ℕ, zero, suc, ◌+◌, ◌≤◌}
use mathlib.Core.Path.{◌≡◌, refl, sym, ap, ◌∙◌}
use mathlib.Core.Bool.{Bool, true, false, not, ◌&&◌, cond, false≢true}
use mathlib.Core.Logic.{⊎_elim}
use native.Mathlib.Nat.{add-zero}
use native.Mathlib.Omega.{arith}
use Rattle.rules.specs.Bounded.{before, bit, sum}
use Rattle.rules.specs.Halves.{Half, of_channel, channels, known}
use Rattle.rules.specs.Events.{in_event, starts, end_of}
use Rattle.rules.specs.Site.{in_any, is_healthy, is_disturbed, is_unknown}
use Rattle.rules.proofs.Booleans.{cases}
use Rattle.rules.specs.declared.Settings.{Settings}
use Rattle.rules.specs.declared.Sums.{Sums}
use Rattle.rules.specs.declared.Kind.{Kind}
use Rattle.rules.specs.declared.Kind.TheVariants.{Sag, Interruption, Swell}
use Rattle.kinds.specs.declared.Open.{Open}
use Rattle.ledger.specs.declared.Track.{Track}
use Rattle.ledger.specs.declared.Landed.{Landed}
use Rattle.kinds.specs.Machine.{thresholds_of, level_of, opens, Going}
use Rattle.ledger.specs.Entries.{tracked_by, classed_by, started_by, ended_by, landed_by}
use Rattle.ledger.specs.State.{start_of, landed, track_at, classes_at, starts_at, seen_both, part_from, landed_at}
use Rattle.kinds.proofs.Machine.{goes_here, level-known, inside_is, opens_lasts, opens_launches, opens-out}
use Rattle.kinds.proofs.Going.{open_is_going, ends_here}

same_track : {a b c d i j : Bool} {o p : Option Open} → a ≡ b → o ≡ p → c ≡ d → i ≡ j
    → ◌≡◌ {A = Track} (record { known = a; sag = o; interruption = c; swell = i }) (record { known = b; sag = p; interruption = d; swell = j })
same_track x y z u = rw (x, y, z, u)

pub bit_and : (b q : Bool) → bit (b && q) ≡ cond b (bit q) 0
bit_and true q = refl
bit_and false q = refl

-- what a sag's end adds to a sum of g
abbrev pub at_end : (ℕ → ℕ) → Option Open → ℕ
at_end g None = 0
at_end g (Some o) = g o.start

ends_as : (g : ℕ → ℕ) (was is : Option Open) → cond (is_some was && not (is_some is)) (g (start_of was)) 0 ≡ at_end g (ended_by was is)
ends_as g None None = refl
ends_as g None (Some p) = refl
ends_as g (Some o) None = refl
ends_as g (Some o) (Some p) = refl

-- one is ended where one went on and none does after
is_ended : (was is : Option Open) → is_some (ended_by was is) ≡ is_some was && not (is_some is)
is_ended None None = refl
is_ended None (Some p) = refl
is_ended (Some o) None = refl
is_ended (Some o) (Some p) = refl

-- the one that is ended went on, and none goes on after
pub ended_one : (was is : Option Open) (o : Open) → ended_by was is ≡ Some o → (was ≡ Some o) × (is ≡ None)
ended_one was None o e = (e, refl)
ended_one was (Some p) o e = let z : ◌≡◌ {A = ℕ} 0 1 = cc in absurd (omega arith)

same_landed : {a b : ℕ} {e f : Sums} → a ≡ b → e ≡ f → ◌≡◌ {A = Landed} (record { unplaced = a; parts = e }) (record { unplaced = b; parts = f })
same_landed x y = rw (x, y)

same_channels : (f g : ℕ → ℕ) → ((c : ℕ) → f c ≡ g c) → channels f ≡ channels g
same_channels f g e = rw (e 0, e 1, e 2)

module _ (s : Settings) (h : ℕ → Half) where
  -- ---- what goes on

  pub track_next : (k : ℕ) → tracked_by (thresholds_of s) k (track_at s h k) (level_of s (h k)) ≡ track_at s h (suc k)
  unfolding tracked_by track_at opens
  track_next k =
      same_track (level-known s (h k)) refl (goes_here s h Interruption k) (goes_here s h Swell k)

  -- ---- classes and starts

  pub classes-next : (k : ℕ) → classed_by (classes_at s h k) (known (h k)) (in_any s h k) ≡ classes_at s h (suc k)
  unfolding classes_at is_healthy is_disturbed is_unknown
  classes-next k = refl

  pub starts-next : (k : ℕ) → started_by (starts_at s h k) (track_at s h k) (track_at s h (suc k)) ≡ starts_at s h (suc k)
  unfolding starts_at track_at starts
  starts-next k = rw (inside_is s h Sag k, inside_is s h Sag (suc k))

  -- ---- what is told when an event ends

  module _ (kind : Kind) (g : ℕ → ℕ) (k : ℕ)
      (so_far : landed s h kind g k + cond (before (in_event s h kind) k) (g (start_of (opens s h kind k))) 0 ≡ sum (λ a. cond (starts s h kind a) (g a) 0) k) where
    abbrev Next : Type 0
    Next =
        landed s h kind g (suc k) + cond (in_event s h kind k) (g (start_of (opens s h kind (suc k)))) 0
        ≡ sum (λ a. cond (starts s h kind a) (g a) 0) (suc k)

    -- an event that lasts keeps its start, and one that begins has it at k
    start_lasts : before (in_event s h kind) k ≡ true → in_event s h kind k ≡ true → start_of (opens s h kind (suc k)) ≡ start_of (opens s h kind k)
    start_lasts w i = by (opens s h kind k) refl (inside_is s h kind k ∙ w)
      where
        by : (was : Option Open) → opens s h kind k ≡ was → is_some was ≡ true → start_of (opens s h kind (suc k)) ≡ start_of was
        by None e y = absurd (false≢true y)
        by (Some o) e y = ap start_of (opens_lasts s h kind k o i e).2

    start_launches : before (in_event s h kind) k ≡ false → in_event s h kind k ≡ true → start_of (opens s h kind (suc k)) ≡ k
    start_launches w i = ap start_of (opens_launches s h kind k i (opens-out s h kind k w)).2

    lasts : before (in_event s h kind) k ≡ true → in_event s h kind k ≡ true → Next
    unfolding landed starts
    lasts w i = rw (w, i, start_lasts w i) (omega (arith, rw w at so_far))

    ends : before (in_event s h kind) k ≡ true → in_event s h kind k ≡ false → Next
    unfolding landed starts
    ends w i = rw (w, i) (omega (arith, rw w at so_far))

    begins : before (in_event s h kind) k ≡ false → in_event s h kind k ≡ true → Next
    unfolding landed starts
    begins w i = rw (w, i, start_launches w i) (omega (arith, rw w at so_far))

    rests : before (in_event s h kind) k ≡ false → in_event s h kind k ≡ false → Next
    unfolding landed starts
    rests w i = rw (w, i) (omega (arith, rw w at so_far))

    landed-next : Next
    landed-next =
        ⊎_elim
        (λ w. ⊎_elim (lasts w) (ends w) (cases (in_event s h kind k)))
        (λ w. ⊎_elim (begins w) (rests w) (cases (in_event s h kind k)))
        (cases (before (in_event s h kind) k))

  -- with the event that is going on, told by where it started, all that started
  pub landed-starts : (kind : Kind) (g : ℕ → ℕ) (k : ℕ)
      → landed s h kind g k + cond (before (in_event s h kind) k) (g (start_of (opens s h kind k))) 0 ≡ sum (λ a. cond (starts s h kind a) (g a) 0) k
  unfolding landed starts
  landed-starts kind g zero = refl
  landed-starts kind g (suc k) = landed-next kind g k (landed-starts kind g k)

  -- ---- landings

  -- the event of the kind that half-cycle k ends
  abbrev pub ended_at : Kind → ℕ → Option Open
  ended_at kind k = ended_by (opens s h kind k) (opens s h kind (suc k))

  -- by the rules an event of the kind lands at half-cycle k
  abbrev pub lands : Kind → ℕ → Bool
  lands kind k = before (in_event s h kind) k && not (in_event s h kind k)

  -- the machine ends one exactly where the rules say that one lands
  pub ended_lands : (kind : Kind) (k : ℕ) → is_some (ended_at kind k) ≡ lands kind k
  ended_lands kind k = is_ended (opens s h kind k) (opens s h kind (suc k)) ∙ rw (inside_is s h kind k, inside_is s h kind (suc k))

  pub lands_one : (kind : Kind) (k : ℕ) → lands kind k ≡ true → (o : Open) × (ended_at kind k ≡ Some o)
  lands_one kind k e = by (ended_at kind k) refl (ended_lands kind k ∙ e)
    where
      by : (x : Option Open) → ended_at kind k ≡ x → is_some x ≡ true → (o : Open) × (ended_at kind k ≡ Some o)
      by None f y = absurd (false≢true y)
      by (Some o) f y = (o, f)

  pub landed_step : (kind : Kind) (g : ℕ → ℕ) (k : ℕ) → landed s h kind g (suc k) ≡ landed s h kind g k + at_end g (ended_at kind k)
  unfolding landed
  landed_step kind g k =
      let w = sym (inside_is s h kind k) in
      let i : in_event s h kind k ≡ is_some (opens s h kind (suc k)) = sym (inside_is s h kind (suc k)) in
      rw (w, i) (ap (λ (x : ℕ). landed s h kind g k + x) (ends_as g (opens s h kind k) (opens s h kind (suc k))))

  module _ (n : ℕ) (past : (k : ℕ) → n ≤ k → h k ≡ None) where
    module _ (kind : Kind) (k : ℕ) (high : k ≤ n) (o : Open) (lands : ended_at kind k ≡ Some o) where
      pub landing : Going s h kind k o
      landing = open_is_going s h kind k o (ended_one (opens s h kind k) (opens s h kind (suc k)) o lands).0

      pub lands_at : end_of s h n kind o.start ≡ k
      lands_at =
          ends_here s h kind n k o landing high
          (sym (inside_is s h kind (suc k)) ∙ ap is_some (ended_one (opens s h kind k) (opens s h kind (suc k)) o lands).1)

    module _ (k : ℕ) (high : k ≤ n) (o : Open) (lands : ended_at Sag k ≡ Some o) where
      pub seen_is : (o.seen && known (h k)) ≡ seen_both s h n o.start
      seen_is = rw ((landing Sag k high o lands).seen, lands_at Sag k high o lands)

      short_is : (c : ℕ) → of_channel c o.short ≡ part_from s h n c o.start
      short_is c = rw ((landing Sag k high o lands).short, lands_at Sag k high o lands)

    pub landed_at-next : (k : ℕ) → k ≤ n → landed_by (landed_at s h n k) (ended_at Sag k) (known (h k)) ≡ landed_at s h n (suc k)
    unfolding landed_at
    landed_at-next k high = by (ended_at Sag k) refl
      where
        next : (g : ℕ → ℕ) (e : Option Open) → ended_at Sag k ≡ e → landed s h Sag g k + at_end g e ≡ landed s h Sag g (suc k)
        next g e i = sym (landed_step Sag g k ∙ ap (λ (e : Option Open). landed s h Sag g k + at_end g e) i)

        by : (e : Option Open) → ended_at Sag k ≡ e → landed_by (landed_at s h n k) e (known (h k)) ≡ landed_at s h n (suc k)
        by None i =
            same_landed (sym (add-zero _) ∙ next (λ a. bit (not (seen_both s h n a))) None i)
            (same_channels (λ c. landed s h Sag (part_from s h n c) k) (λ c. landed s h Sag (part_from s h n c) (suc k))
            (λ c. sym (add-zero _) ∙ next (part_from s h n c) None i))
        by (Some o) i =
            same_landed
            (rw (seen_is k high o i) (next (λ a. bit (not (seen_both s h n a))) (Some o) i))
            (same_channels (λ c. landed s h Sag (part_from s h n c) k + of_channel c o.short) (λ c. landed s h Sag (part_from s h n c) (suc k))
            (λ c. rw (short_is k high o i c) (next (part_from s h n c) (Some o) i)))
