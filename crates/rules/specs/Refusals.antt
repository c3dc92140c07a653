-- What is turned away, and in which order; what each call answers, and what all lent memory holds afterwards.
use Rattle.std.specs.Prelude.{ℕ, ◌+◌, ◌-◌, ◌*◌, ◌/◌, ◌%◌, not, cond, List, ◌++◌, length, drop, ℤ, ltb, eqb, Result, Ok, Err, ⊤}
use Rattle.rules.specs.Recorder.{bad_setting, settings_good, first_bad}
use Rattle.rules.specs.Halves.{samples_of, halves_of}
use Rattle.rules.specs.EventList.{event_size, events_of, flat}
use Rattle.rules.specs.Trace.{half_size, trace_of}
use Rattle.rules.specs.Borders.{known_set}
use Rattle.rules.specs.Site.{empty, zero_settings, grown, is_unsound, most_halves}
use Rattle.rules.specs.declared.Settings.{Settings}
use Rattle.rules.specs.declared.Table.{Table}
use Rattle.rules.specs.declared.Site.{Site as Handed}
use Rattle.rules.specs.declared.Refusal.{Refusal}
use Rattle.rules.specs.declared.Refusal.TheVariants.{Setting, Uneven, Short, Ragged, Long, Sample, Room, Full, Unsound}

-- ---- each refusal's number and place

abbrev pub number_of : Refusal → ℕ
number_of (Setting i) = 1
number_of Uneven = 2
number_of Short = 3
number_of Ragged = 4
number_of Long = 5
number_of (Sample i) = 6
number_of (Room n) = 7
number_of (Full n) = 8
number_of Unsound = 9

abbrev pub place_in : Refusal → ℕ
place_in (Setting i) = i
place_in Uneven = 0
place_in Short = 0
place_in Ragged = 0
place_in Long = 0
place_in (Sample i) = i
place_in (Room n) = n
place_in (Full n) = n
place_in Unsound = 0

-- ---- the checks, down the table

abbrev pub most_half_cycles : ℕ
most_half_cycles = 100000

-- 2 length not a multiple of 3; 3 fewer than N samples per channel; 4 L not a multiple of N/2; 5 H above 100,000; 6 a sample out of
-- range, at the first index in the run
unfoldable pub recording_check : Settings → List ℤ → Result ⊤ Refusal
recording_check s xs =
    cond (not (eqb (length xs % 3) 0)) (Err Uneven)
    (cond (ltb (samples_of xs) s.n) (Err Short)
    (cond (not (eqb (samples_of xs % (s.n / 2)) 0)) (Err Ragged)
    (cond (ltb most_half_cycles (halves_of s xs)) (Err Long)
    (cond (ltb (first_bad xs) (length xs)) (Err (Sample (first_bad xs))) (Ok tt)))))

-- 1 a setting is outside its range: the first such
unfoldable pub settings_check : Settings → Result ⊤ Refusal
settings_check s = cond (settings_good s) (Ok tt) (Err (Setting (bad_setting s)))

-- and as the eighth a set of borders that is not known
unfoldable pub set_check : ℕ → Result ⊤ Refusal
set_check set = cond (known_set set) (Ok tt) (Err (Setting 8))

-- one thing where a check accepts, another where it refuses
abbrev pub by_check : {A : Type 0} → Result ⊤ Refusal → A → (Refusal → A) → A
by_check (Ok _) taken turned = taken
by_check (Err r) taken turned = turned r

-- first one check and, where that accepts, the next
abbrev pub and_then : Result ⊤ Refusal → Result ⊤ Refusal → Result ⊤ Refusal
and_then first next = by_check first next (λ r. Err r)

-- ---- a lent run

-- 7 room below what n things of so many numbers each take
abbrev pub room_for : (size n room : ℕ) → Result ⊤ Refusal
room_for size n room = cond (ltb room (size * n)) (Err (Room n)) (Ok tt)

-- numbers written over the front of a run: those beyond stay unchanged
abbrev pub over : List ℕ → List ℕ → List ℕ
over w out = w ++ drop (length w) out

-- ---- listing: 1 to 7

-- 7 room below 11 x number of events
unfoldable pub room_check : Settings → List ℤ → ℕ → Result ⊤ Refusal
room_check s xs room =
    let n = length (events_of s xs) in cond (ltb room (event_size * n)) (Err (Room n)) (Ok tt)

unfoldable pub list_check : Settings → List ℤ → ℕ → Result ⊤ Refusal
list_check s xs room = and_then (settings_check s) (and_then (recording_check s xs) (room_check s xs room))

-- the answer is the number of events
unfoldable pub listed : Settings → List ℤ → ℕ → Result ℕ Refusal
listed s xs room = by_check (list_check s xs room) (Ok (length (events_of s xs))) (λ r. Err r)

-- numbers beyond the last event stay unchanged; a refusal writes nothing
unfoldable pub written : Settings → List ℤ → List ℕ → List ℕ
written s xs out =
    let w = flat (events_of s xs) in by_check (list_check s xs (length out)) (w ++ drop (length w) out) (λ r. out)

-- ---- telling each half-cycle: 1 to 6 as for listing, and 7 for its own room

-- 7 room below 5 x H
unfoldable pub trace_room_check : Settings → List ℤ → ℕ → Result ⊤ Refusal
trace_room_check s xs room = room_for half_size (halves_of s xs) room

unfoldable pub trace_check : Settings → List ℤ → ℕ → Result ⊤ Refusal
trace_check s xs room = and_then (settings_check s) (and_then (recording_check s xs) (trace_room_check s xs room))

-- the answer is H
unfoldable pub traced : Settings → List ℤ → ℕ → Result ℕ Refusal
traced s xs room = by_check (trace_check s xs room) (Ok (halves_of s xs)) (λ r. Err r)

-- numbers beyond the last half-cycle's stay unchanged; a refusal writes nothing
unfoldable pub trace_written : Settings → List ℤ → List ℕ → List ℕ
trace_written s xs out = by_check (trace_check s xs (length out)) (over (trace_of s xs) out) (λ r. out)

-- ---- making a fresh table: 1

-- the seven settings first, then the set of borders; a refused making hands back a table of zeros, its set among them
unfoldable pub freshened : Settings → ℕ → Handed
freshened s set =
    let check = and_then (settings_check s) (set_check set) in
    record { answer = check; table = by_check check (empty s set) (λ r. empty zero_settings 0) }

-- ---- adding to a table: 9, 2 to 6 and 8

unfoldable pub sound_check : Table → Result ⊤ Refusal
sound_check t = cond (is_unsound t) (Err Unsound) (Ok tt)

-- 8 total + H above 4,000,000
unfoldable pub full_check : Table → List ℤ → Result ⊤ Refusal
full_check t xs = cond (ltb most_halves (t.total + halves_of t.settings xs)) (Err (Full (most_halves - t.total))) (Ok tt)

unfoldable pub add_check : Table → List ℤ → Result ⊤ Refusal
add_check t xs = and_then (sound_check t) (and_then (recording_check t.settings xs) (full_check t xs))

-- a refusal hands back the same table
unfoldable pub added : Table → List ℤ → Handed
added t xs = let check = add_check t xs in record { answer = check; table = by_check check (grown t xs) (λ r. t) }
