-- A visit, case by case: what the machine's step tells of half-cycle k, and what is handed back and written. Assumes nothing.
use Rattle.std.specs.Prelude.{Option, Some, None, is_some, IfSome}
use Prim.Native.Nat.{ℕ, suc, ◌+◌, ◌*◌, ◌≤◌}
use mathlib.Core.Path.{◌≡◌, sym, ap, ◌∙◌}
use mathlib.Core.Bool.{Bool, false, not, ◌&&◌}
use mathlib.Core.List.{List}
use native.Mathlib.Omega.{arith}
use lib.Seq.{sets}
use lib.IntN.{ℤ}
use Rattle.rules.specs.Bounded.{bit}
use Rattle.rules.specs.Halves.{Half, half_at}
use Rattle.rules.specs.Events.{in_event, starts}
use Rattle.rules.specs.EventList.{event_from, words_of}
use Rattle.rules.specs.Demands.{Good, AcceptedRecording}
use Rattle.rules.proofs.Ranges.{good}
use Rattle.rules.proofs.Samples.{accepted_recording}
use Rattle.rules.specs.declared.Settings.{Settings}
use Rattle.rules.specs.declared.Kind.{Kind}
use Rattle.rules.specs.declared.Event.{Event}
use Rattle.halves.specs.declared.Recording.{Recording}
use Rattle.kinds.specs.declared.Marks.{Marks}
use Rattle.kinds.specs.declared.Level.{Level}
use Rattle.kinds.specs.declared.Open.{Open}
use Rattle.list.specs.declared.Pending.{Pending}
use Rattle.list.specs.declared.Visited.{Visited}
use Rattle.kinds.specs.Machine.{step_by, opens, Light, Finishable, finished_by}
use Rattle.list.specs.Listing.{Visiting, going, pend, visited, closes}
use Rattle.kinds.proofs.Machine.{level-known, inside_of}
use Rattle.kinds.proofs.Going.{open_is_going, finished_is_event}
use Rattle.kinds.proofs.Limits.{opens-light, level-light, finishable}

module _ {r : Recording} {kind : Kind} {m : Marks} {seen : Bool} {k : ℕ} {q : Option Pending} {l : Option Level} {n room : ℕ}
    (v : Visiting r kind m seen k q l n room) where
  abbrev s : Settings
  s = r.settings

  abbrev xs : List ℤ
  xs = r.samples.now

  abbrev h : ℕ → Half
  h = half_at s xs

  g : Good s
  g = good s r.good

  ok : AcceptedRecording s xs
  ok = accepted_recording s xs v.accepted

  k_high : k ≤ 100001
  k_high = omega (arith, v.high, r.counted, ok.few)

  -- where none is going on, nothing is written
  pub rests_out : q ≡ None → (out : List ℕ) → out ≡ closes s xs kind k q out
  unfolding closes
  rests_out e out = rw e

  -- the event that is going on
  module _ {p : Pending} (waits : q ≡ Some p) where
    opens_is : opens s h kind k ≡ Some p.event
    opens_is = sym v.ready.state ∙ ap going waits

    pub finish_ready : Finishable s xs p.event
    finish_ready = finishable s xs g ok kind k p.event k_high opens_is

  module _ {o : Option Open} (was : o ≡ going q) where
    was_opens : o ≡ opens s h kind k
    was_opens = was ∙ v.ready.state

    pub step-ready : IfSome o (λ o. Light o.short) × IfSome l (λ l. Light l.short)
    step-ready = (rw was_opens (opens-light s xs g ok kind k k_high), rw v.levels (level-light s xs g ok k))

    module _ {is : Option Open} (stepped : is ≡ step_by kind m seen k o l) where
      pub is_next : is ≡ opens s h kind (suc k)
      unfolding opens
      is_next = stepped ∙ rw (v.marks, v.known-before, was_opens, v.levels)

      is_in : is_some is ≡ in_event s h kind k
      is_in = inside_of s h kind (suc k) is_next

      -- what is handed back
      pub made : (x : Option Pending) (y : Option Open) (n' : ℕ) → q ≡ x → is ≡ y → n' ≡ n + bit (is_some y && not (is_some (going x)))
          → ◌≡◌ {A = Visited} (record { pending = pend x n y; n = n' }) (visited s xs kind k q n)
      unfolding visited starts
      made x y n' e f i =
          rw (i, ← e, ← f, ← inside_of s h kind k v.ready.state, ← is_next, ← is_in)

      -- what is written
      module _ {p : Pending} (waits : q ≡ Some p) where
        pub lasts_out : {y : Open} → is ≡ Some y → (out : List ℕ) → out ≡ closes s xs kind k q out
        unfolding closes
        lasts_out f out = rw (waits, sym is_in ∙ ap is_some f)

        pub ended_out : is ≡ None → (out : List ℕ) (e : Event) → e ≡ finished_by s xs kind p.event k (is_some l)
            → sets out (11 * p.slot) (words_of e) ≡ closes s xs kind k q out
        unfolding closes
        ended_out f out e i = rw (waits, not_in, event_is)
          where
            not_in : in_event s h kind k ≡ false
            not_in = sym is_in ∙ ap is_some f

            event_is : e ≡ event_from s xs kind p.event.start
            event_is =
                i
                ∙ rw (v.levels, level-known s (h k))
                (sym (finished_is_event s xs kind k p.event (open_is_going s h kind k p.event (opens_is waits)) (omega (arith, v.high, r.counted)) not_in))
