-- The writing pass, as the code runs it: over the machine's states, from noted group to noted group. proofs/ ties it to the rules.
use Rattle.std.specs.Prelude.{ℕ, zero, suc, ◌+◌, ◌-◌, ◌*◌, ◌/◌, ◌≤◌, ◌<◌, min, ◌≡◌, Bool, true, false, not, ◌||◌, cond, List, ℤ, Ok, Option, Some, None, option_map, IfSome}
use Rattle.std.proofs.lemmas.List.Edits.{sets}
use Rattle.rules.specs.Bounded.{before, bit}
use Rattle.rules.specs.Halves.{Half, known, half_at, halves_of}
use Rattle.rules.specs.Events.{in_event, starts}
use Rattle.rules.specs.EventList.{event_from, words_of}
use Rattle.rules.specs.Refusals.{recording_check}
use Rattle.rules.specs.declared.Settings.{Settings}
use Rattle.rules.specs.declared.Kind.{Kind}
use Rattle.rules.specs.declared.Kind.TheVariants.{Sag, Interruption, Swell}
use Rattle.halves.specs.Steps.{step_at}
use Rattle.halves.specs.declared.Recording.{Recording}
use Rattle.kinds.specs.Machine.{marks_of, level_of, opens}
use Rattle.kinds.specs.declared.Marks.{Marks}
use Rattle.kinds.specs.declared.Level.{Level}
use Rattle.kinds.specs.declared.Open.{Open}
use Rattle.counts.specs.Counting.{Noted}
use Rattle.list.specs.declared.Written.{Written}
use Rattle.list.specs.declared.Pending.{Pending}
use Rattle.list.specs.declared.Visited.{Visited}
use Rattle.list.specs.declared.Pass.{Pass}

-- ---- one half-cycle

-- the event of what waits for its words
abbrev pub going : Option Pending → Option Open
going q = option_map (λ p. p.event) q

-- the machine of a kind stands before half-cycle k, and a slot that waits lies within the room
pub record Ready (s : Settings) (xs : List ℤ) (kind : Kind) (k : ℕ) (q : Option Pending) (room : ℕ) : Type 0 where
  pub state : going q ≡ opens s (half_at s xs) kind k
  pub slot : IfSome q (λ p. 11 * p.slot + 11 ≤ room)

-- what a visit asks
pub record Visiting (r : Recording) (kind : Kind) (m : Marks) (seen : Bool) (k : ℕ) (q : Option Pending) (l : Option Level) (n room : ℕ) : Type 0 where
  pub accepted : recording_check r.settings r.samples.now ≡ Ok tt
  pub marks : m ≡ marks_of r.settings kind
  pub known-before : seen ≡ before (λ j. known (half_at r.settings r.samples.now j)) k
  pub high : k ≤ r.halves
  pub ready : Ready r.settings r.samples.now kind k q room
  pub levels : l ≡ level_of r.settings (half_at r.settings r.samples.now k)
  pub few : n ≤ 300003

-- the event that is going on, if there is one: one that went on before keeps its slot, a new one gets the next
abbrev pub pend : Option Pending → ℕ → Option Open → Option Pending
pend q n None = None
pend None n (Some o) = Some (record { event = o; slot = n })
pend (Some p) n (Some o) = Some (record { event = o; slot = p.slot })

unfoldable pub visited : Settings → List ℤ → Kind → ℕ → Option Pending → ℕ → Visited
visited s xs kind k q n =
    record {
      pending = pend q n (opens s (half_at s xs) kind (suc k));
      n = n + bit (starts s (half_at s xs) kind k);
    }

-- the run after a visit: the words of an event that half-cycle k ends are in its slot
unfoldable pub closes : Settings → List ℤ → Kind → ℕ → Option Pending → List ℕ → List ℕ
closes s xs kind k None out = out
closes s xs kind k (Some p) out =
    let w = words_of (event_from s xs kind p.event.start) in
    cond (in_event s (half_at s xs) kind k) out (sets out (11 * p.slot) w)

pub record ReadyAll (s : Settings) (xs : List ℤ) (k : ℕ) (p : Pass) (room : ℕ) : Type 0 where
  pub known-before : p.known ≡ before (λ j. known (half_at s xs j)) k
  pub few : p.n ≤ 3 * k
  pub sag : Ready s xs Sag k p.sag room
  pub interruption : Ready s xs Interruption k p.interruption room
  pub swell : Ready s xs Swell k p.swell room

-- before half-cycle 0 nothing goes on
abbrev pub start_pass : Pass
start_pass = record { known = false; n = 0; sag = None; interruption = None; swell = None }

unfoldable pub turned : Settings → List ℤ → ℕ → Pass → Pass
turned s xs k p =
    let a = visited s xs Sag k p.sag p.n in
    let b = visited s xs Interruption k p.interruption a.n in
    let c = visited s xs Swell k p.swell b.n in
    record {
      known = known (half_at s xs k);
      n = c.n;
      sag = a.pending;
      interruption = b.pending;
      swell = c.pending;
    }

unfoldable pub turned_out : Settings → List ℤ → ℕ → Pass → List ℕ → List ℕ
turned_out s xs k p out =
    closes s xs Swell k p.swell (closes s xs Interruption k p.interruption (closes s xs Sag k p.sag out))

-- what a turn asks
pub record Turning (r : Recording) (half : Half) (k : ℕ) (p : Pass) (room : ℕ) : Type 0 where
  pub accepted : recording_check r.settings r.samples.now ≡ Ok tt
  pub half_is : half ≡ half_at r.settings r.samples.now k
  pub high : k ≤ r.halves
  pub ready : ReadyAll r.settings r.samples.now k p room

-- d turns, from half-cycle k on
unfoldable pub turns : Settings → List ℤ → ℕ → ℕ → Pass → Pass
turns s xs k zero p = p
turns s xs k (suc d) p = turned s xs (k + d) (turns s xs k d p)

unfoldable pub turns_out : Settings → List ℤ → ℕ → ℕ → Pass → List ℕ → List ℕ
turns_out s xs k zero p out = out
turns_out s xs k (suc d) p out = turned_out s xs (k + d) (turns s xs k d p) (turns_out s xs k d p out)

-- where half-cycles are passed over the one before is known; nothing else changes
abbrev pub rested : Pass → Bool → Pass
rested p any = record { known = p.known || any; n = p.n; sag = p.sag; interruption = p.interruption; swell = p.swell }

-- what reading half-cycle k asks
pub record Readable (r : Recording) (step : Half) (k : ℕ) : Type 0 where
  pub accepted : recording_check r.settings r.samples.now ≡ Ok tt
  pub high : k ≤ r.halves
  pub step_is : step ≡ step_at r.settings r.samples.now k

-- what a run of half-cycles asks: each of its turns is ready. The slots of turns to come lie within the room, and only the caller knows
-- how many events there are (`turns-ready`, proofs/Writing)
pub record Running (r : Recording) (from to : ℕ) (p : Pass) (room : ℕ) : Type 0 where
  pub accepted : recording_check r.settings r.samples.now ≡ Ok tt
  pub some : from < to
  pub high : to ≤ suc r.halves
  pub ready : (d : ℕ) → from + d < to → ReadyAll r.settings r.samples.now (from + d) (turns r.settings r.samples.now from d p) room

abbrev pub differs : Bool → Bool → Bool
differs true b = not b
differs false b = b

-- what the pass asks that stands before group g: each turn from there on is ready, as above, and the notes are right
pub record WritingOn (r : Recording) (notes : List Bool) (g : ℕ) (p : Pass) (room : ℕ) : Type 0 where
  pub accepted : recording_check r.settings r.samples.now ≡ Ok tt
  pub low : g < suc (r.halves / 4)
  pub noted : Noted r.settings r.samples.now notes
  pub ready : (d : ℕ) → 4 * g + d ≤ r.halves → ReadyAll r.settings r.samples.now (4 * g + d) (turns r.settings r.samples.now (4 * g) d p) room

-- the first half-cycle of group g, or the one after H
abbrev pub group_start : Settings → List ℤ → ℕ → ℕ
group_start s xs g = min (4 * g) (suc (halves_of s xs))

-- where it stands then: at a later group, with each turn up to that one done
pub record WrittenTo (s : Settings) (xs : List ℤ) (g : ℕ) (p : Pass) (out : List ℕ) (r : Written) (out' : List ℕ) : Type 0 where
  pub later : g < r.group
  pub high : r.group ≤ suc (halves_of s xs / 4)
  pub pass : r.pass ≡ turns s xs (4 * g) (group_start s xs r.group - 4 * g) p
  pub run : out' ≡ turns_out s xs (4 * g) (group_start s xs r.group - 4 * g) p out
