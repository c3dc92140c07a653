-- A second table of cases, C1, C2, ..: one statement over one table, as the known answers are. K1 to K12 are the rules' own.
-- These are ours, and go where those don't: unequal channels, both sides of each mark and border, gaps, ties, refusals, unsound
-- tables.
--
-- The answers are the second program's. It was written from the rules alone, without a look at these definitions, and writes this
-- file:
--
--     cargo run -p oracle --bin cases
--
-- The questions are in oracle/src/cases. A test of oracle/ holds the file to what the second program writes, so that no number in
-- it is changed by hand, and puts the same questions to the proved library.
use Rattle.std.specs.Prelude.{ℕ, zero, suc, ◌-◌, ◌*◌, ◌/◌, ◌≡◌, refl, List, [], ◌∷◌, ◌++◌, map, replicate, set, get_or, ℤ, pos, negsuc, neg_ℤ, Result, Ok, Err, ⊤}
use Rattle.std.specs.Float.{binary64}
use Rattle.std.specs.Float.Ieee.{div, of_int, of_bits}
use Rattle.rules.specs.Recorder.{first_bad, bad_setting, settings_good}
use Rattle.rules.specs.Halves.{halves_of, any_missing, squares, sums_at, half_at, full}
use Rattle.rules.specs.Events.{carries, in_run, in_event, starts, end_of, seen_of, extreme_of, earliest, climb, retained_of, shorts_of, six_sums, type_of}
use Rattle.rules.specs.EventList.{event_from, event_at, events_of}
use Rattle.rules.specs.Trace.{class_at, kinds_at, half_words, trace_of}
use Rattle.rules.specs.Borders.{known_set, borders_of, row_of, column_of}
use Rattle.rules.specs.Scores.{in_bounds, sag_good, is_event, why_of, why_by, reason_of, reason_by, scoring, scoring_by}
use Rattle.rules.specs.Site.{cell_of, is_healthy, is_disturbed, is_unknown, is_placed, is_unplaced, sag_cell, sag_sum, sag_short, grown, is_unsound}
use Rattle.rules.specs.Refusals.{number_of, place_in, recording_check, settings_check, set_check, room_check, list_check, listed, written, trace_room_check, trace_check, traced, trace_written, freshened, sound_check, full_check, add_check, added}
use Rattle.rules.specs.declared.Settings.{Settings}
use Rattle.rules.specs.declared.Event.{Event}
use Rattle.rules.specs.declared.Table.{Table}
use Rattle.rules.specs.declared.Refusal.{Refusal}
use Rattle.rules.specs.declared.Score.{Score}
use Rattle.rules.specs.declared.Reason.{Reason}
use Rattle.rules.specs.declared.Reason.TheVariants.{StartUnseen, EndUnseen, BothUnseen, NotASag, NotAnEvent, BadSettings}

-- ---- questions and answers

-- what is lent or handed over: the run that events or half-cycles go to, a site table
data Lent : Type 0 where
  run : List ℕ → Lent
  site : Table → Lent

-- the list of a recording, into a lent run of so many numbers that are all 9; each of its half-cycles told, into such a run; a
-- recording added to a table; a fresh table for a set of borders; the score of an event by a set; the shortfalls of a, b and c
-- straight from the samples
data Asked : Type 0 where
  list : Settings → (room : ℕ) → List ℤ → Asked
  halves : Settings → (room : ℕ) → List ℤ → Asked
  add : Table → List ℤ → Asked
  fresh : Settings → (set : ℕ) → Asked
  score : Settings → (set : ℕ) → Event → Asked
  straight : Settings → List ℤ → Asked

-- so many events; so many half-cycles; taken; a refusal with its number and place: each with what the run or the table holds
-- afterwards. Or an event's reason, its score and its cell. Or three sums
data Answer : Type 0 where
  events : ℕ → Lent → Answer
  told : ℕ → Lent → Answer
  taken : Lent → Answer
  refused : (number place : ℕ) → Lent → Answer
  judged : (reason : ℕ) → Result Score Reason → (cell : ℕ) → Answer
  sums : List ℕ → Answer

infix 70 ◌⟶◌
data Case : Type 0 where
  ◌⟶◌ : Asked → Answer → Case

abbrev nines : ℕ → List ℕ
nines n = replicate n 9

abbrev told_of_list : Result ℕ Refusal → Lent → Answer
told_of_list (Ok n) holds = events n holds
told_of_list (Err r) holds = refused (number_of r) (place_in r) holds

abbrev told_of_trace : Result ℕ Refusal → Lent → Answer
told_of_trace (Ok n) holds = told n holds
told_of_trace (Err r) holds = refused (number_of r) (place_in r) holds

abbrev told_of_site : Result ⊤ Refusal → Lent → Answer
told_of_site (Ok _) holds = taken holds
told_of_site (Err r) holds = refused (number_of r) (place_in r) holds

-- what the rules say
answer_to : Asked → Answer
answer_to (list s room xs) = told_of_list (listed s xs room) (run (written s xs (nines room)))
answer_to (halves s room xs) = told_of_trace (traced s xs room) (run (trace_written s xs (nines room)))
answer_to (add t xs) = let handed = added t xs in told_of_site handed.answer (site handed.table)
answer_to (fresh s set) = let handed = freshened s set in told_of_site handed.answer (site handed.table)
answer_to (score s set e) = judged (reason_by s set e) (scoring_by s set e) (cell_of s set e)
answer_to (straight s xs) = sums (sag_short s xs 0 ∷ sag_short s xs 1 ∷ sag_short s xs 2 ∷ [])

asked_again : Case → Case
asked_again (asked ⟶ answer) = asked ⟶ answer_to asked

-- ---- settings, events, scores and tables by their numbers

abbrev settings : (n r f sag interruption swell hysteresis : ℕ) → Settings
settings n r f sag interruption swell hysteresis =
    record {
      n = n;
      r = r;
      f = f;
      sag = sag;
      interruption = interruption;
      swell = swell;
      hysteresis = hysteresis;
    }

-- those of the known answers; without hysteresis; f 60 with other thresholds and the largest hysteresis; N 10 and R 1,001, where
-- no mark is a whole number of S; R 50,000, half of the largest sample
abbrev house : Settings
house = settings 8 1000 50 90 10 110 2

abbrev sharp : Settings
sharp = settings 8 1000 50 90 10 110 0

abbrev wide : Settings
wide = settings 8 1000 60 80 20 120 5

abbrev ten : Settings
ten = settings 10 1001 60 85 7 113 3

abbrev high : Settings
high = settings 8 50000 50 90 10 110 2

abbrev event : (kind start end seen extreme retained shortfall class a b c : ℕ) → Event
event kind start end seen extreme retained shortfall class a b c =
    record {
      kind = kind;
      start = start;
      end = end;
      seen = seen;
      extreme = extreme;
      retained = retained;
      shortfall = shortfall;
      class = class;
      parts = record { a = a; b = b; c = c };
    }

-- the same eleven numbers in a run
abbrev words : (kind start end seen extreme retained shortfall class a b c : ℕ) → List ℕ
words kind start end seen extreme retained shortfall class a b c =
    kind ∷ start ∷ end ∷ seen ∷ extreme ∷ retained ∷ shortfall ∷ class ∷ a ∷ b ∷ c ∷ []

-- the five numbers of a half-cycle; with the same sum on all channels
abbrev five : (class kinds a b c : ℕ) → List ℕ
five class kinds a b c = class ∷ kinds ∷ a ∷ b ∷ c ∷ []

abbrev balanced : (class kinds sum : ℕ) → List ℕ
balanced class kinds sum = five class kinds sum sum sum

-- a score by the bits of its two floats, and its cell; a reason by its number, from 1 on, and the cell beside it
abbrev scored : (severity energy cell : ℕ) → Answer
scored severity energy cell =
    judged 0 (Ok (record { severity = of_bits binary64 severity; energy = of_bits binary64 energy })) cell

abbrev reasons : List Reason
reasons = StartUnseen ∷ EndUnseen ∷ BothUnseen ∷ NotASag ∷ NotAnEvent ∷ BadSettings ∷ []

abbrev unscored : (reason cell : ℕ) → Answer
unscored reason cell = judged reason (Err (get_or reasons (reason - 1) BadSettings)) cell

abbrev table :
    Settings
    → (set total healthy disturbed unknown : ℕ)
    → List ℕ
    → (unplaced sags interruptions swells shortfall a b c : ℕ)
    → Table
table s set total healthy disturbed unknown cells unplaced sags interruptions swells shortfall a b c =
    record {
      settings = s;
      set = set;
      total = total;
      healthy = healthy;
      disturbed = disturbed;
      unknown = unknown;
      cells = cells;
      unplaced = unplaced;
      sags = sags;
      interruptions = interruptions;
      swells = swells;
      shortfall = shortfall;
      parts = record { a = a; b = b; c = c };
    }

-- forty cells with nothing in them; so many in one cell; n counts that rise by one; the 25 cells of set 1 with such counts, and
-- those that it does not use
abbrev none : List ℕ
none = replicate 40 0

abbrev put : (cell count : ℕ) → List ℕ → List ℕ
put cell count cells = set cells cell count

abbrev rising : (n from : ℕ) → List ℕ
rising zero from = []
rising (suc n) from = from ∷ rising n (suc from)

abbrev few : (from : ℕ) → List ℕ
few from = rising 25 from ++ replicate 15 0

-- a table with nothing in it but its settings and its set; with nothing but healthy half-cycles; with a number of its own in each
-- place; the same for set 1; with so large a shortfall that three sums below it can be 2^64 above it
abbrev blank : Settings → (set : ℕ) → Table
blank s set = table s set 0 0 0 0 none 0 0 0 0 0 0 0 0

abbrev healthy_only : ℕ → Table
healthy_only n = table house 0 n n 0 0 none 0 0 0 0 0 0 0 0

abbrev various : Table
various = table house 0 10012 5003 3001 2008 (rising 40 101) 57 4877 611 713 1234567 123456 345678 765433

abbrev other_various : Table
other_various = table house 1 10012 5003 3001 2008 (few 101) 57 2882 611 713 1234567 123456 345678 765433

abbrev vast : (a b c : ℕ) → Table
vast a b c = table (settings 512 50000 50 90 10 110 2) 0 4000000 0 4000000 0 none 0 0 0 0 15000000000000000000 a b c

-- ---- recordings

-- n samples, the same of each channel; n blocks of four with a level for each channel; with one level for all
abbrev alike : (n a b c : ℕ) → List ℤ
alike zero a b c = []
alike (suc n) a b c = pos a ∷ pos b ∷ pos c ∷ alike n a b c

abbrev uneven : (n a b c : ℕ) → List ℤ
uneven n a b c = alike (4 * n) a b c

abbrev even : (n v : ℕ) → List ℤ
even n v = uneven n v v v

-- three channels interleaved
abbrev weave : (a b c : List ℤ) → List ℤ
weave [] ys zs = []
weave (x ∷ xs) [] zs = []
weave (x ∷ xs) (y ∷ ys) [] = []
weave (x ∷ xs) (y ∷ ys) (z ∷ zs) = x ∷ y ∷ z ∷ weave xs ys zs

-- samples of one channel: n at a level, or four of them
abbrev level : (n v : ℕ) → List ℤ
level n v = replicate n (pos v)

abbrev quad : (p q r s : ℕ) → List ℤ
quad p q r s = pos p ∷ pos q ∷ pos r ∷ pos s ∷ []

-- a negative sample; the one that means "missing"; samples with the other sign
abbrev minus : ℕ → ℤ
minus n = neg_ℤ (pos n)

abbrev lost : ℤ
lost = negsuc 2147483647

abbrev mirror : List ℤ → List ℤ
mirror xs = map neg_ℤ xs

-- a cycle of three sines, eight samples each, with an rms value for each channel
abbrev scaled : ℕ → ℤ → ℤ
scaled v (pos n) = pos (n * v / 1000)
scaled v (negsuc n) = minus (suc n * v / 1000)

abbrev sines : (a b c : ℕ) → List ℤ
sines a b c = half ++ mirror half
  where
    half : List ℤ
    half =
        weave (map (scaled a) (quad 0 1000 1414 1000))
        (map (scaled b) (minus 1225 ∷ minus 1366 ∷ minus 707 ∷ pos 366 ∷ []))
        (map (scaled c) (pos 1225 ∷ pos 366 ∷ minus 707 ∷ minus 1366 ∷ []))

-- ---- sags on unequal channels

sags : List Case
sags =
    -- C1: a sag begun by channel a goes on while b alone is below sag threshold plus hysteresis, the others back
    list house 12 (even 2 1000 ++ uneven 1 500 1000 1000 ++ uneven 2 1000 915 1000 ++ even 2 1000)
    ⟶ events 1 (run (words 1 1 4 3 5000000 791 6000000 4 6000000 0 0 ++ nines 1))
    -- C2: begun by channel b, kept by c
    ∷ list house 12 (even 2 1000 ++ uneven 1 1000 500 1000 ++ uneven 2 1000 1000 915 ++ even 2 1000)
    ⟶ events 1 (run (words 1 1 4 3 5000000 791 6000000 5 0 6000000 0 ++ nines 1))
    -- C3: begun by channel c, kept by a
    ∷ list house 12 (even 2 1000 ++ uneven 1 1000 1000 500 ++ uneven 2 915 1000 1000 ++ even 2 1000)
    ⟶ events 1 (run (words 1 1 4 3 5000000 791 6000000 6 0 0 6000000 ++ nines 1))
    -- C4: hysteresis 5: channel b keeps its own sag at 84 percent, and a surplus of c is no shortfall taken away
    ∷ list wide 12 (even 2 1000 ++ uneven 1 1000 300 1000 ++ uneven 2 1000 840 1000 ++ uneven 1 1000 1000 1100 ++ even 2 1000)
    ⟶ events 1 (run (words 1 1 4 3 3182400 631 8457600 5 0 8457600 0 ++ nines 1))
    -- C5: a sag ends only when all are back: a first, then b, last c
    ∷ list house 12 (even 2 1000 ++ uneven 1 500 600 700 ++ uneven 1 1000 600 700 ++ uneven 1 1000 1000 700 ++ even 2 1000)
    ⟶ events 1 (run (words 1 1 5 3 2880000 600 28480000 4 6000000 10240000 12240000 ++ nines 1))
    -- C6: the same, in the table
    ∷ add (blank house 0) (even 2 1000 ++ uneven 1 500 600 700 ++ uneven 1 1000 600 700 ++ uneven 1 1000 1000 700 ++ even 2 1000)
    ⟶ taken (site (table house 0 6 2 4 0 (put 17 1 none) 0 1 0 0 28480000 6000000 10240000 12240000))
    -- C7: c first, then b, last a
    ∷ list house 12 (even 2 1000 ++ uneven 1 500 600 700 ++ uneven 1 500 600 1000 ++ uneven 1 500 1000 1000 ++ even 2 1000)
    ⟶ events 1 (run (words 1 1 5 3 2000000 500 32320000 6 18000000 10240000 4080000 ++ nines 1))
    -- C8: the extreme is channel b's, and a later half-cycle's than the first
    ∷ list house 12 (even 2 1000 ++ uneven 2 700 1000 1000 ++ uneven 2 700 300 1000 ++ uneven 1 700 1000 1000 ++ even 2 1000)
    ⟶ events 1 (run (words 1 1 7 3 720000 300 34960000 1 20400000 14560000 0 ++ nines 1))
    -- C9: the extreme is channel c's, in the last half-cycles
    ∷ list house 12 (even 2 1000 ++ uneven 2 700 1000 1000 ++ uneven 2 1000 800 200 ++ even 2 1000)
    ⟶ events 1 (run (words 1 1 6 3 320000 200 26400000 6 8160000 2880000 15360000 ++ nines 1))
    -- C10: two sags, on a and on c, with one calm half-cycle between
    ∷ list house 23 (even 2 1000 ++ uneven 1 700 1000 1000 ++ even 2 1000 ++ uneven 1 1000 1000 700 ++ even 2 1000)
    ⟶ events 2 (run (words 1 1 3 3 5960000 863 4080000 4 4080000 0 0 ++ words 1 4 6 3 5960000 863 4080000 6 0 0 4080000
    ++ nines 1))
    ∷ []

-- ---- interruptions on unequal channels

interruptions : List Case
interruptions =
    -- C11: one channel below the threshold is no interruption
    list house 12 (even 2 1000 ++ uneven 2 0 1000 1000 ++ even 2 1000)
    ⟶ events 1 (run (words 1 1 4 3 0 0 16000000 4 16000000 0 0 ++ nines 1))
    -- C12: nor are two, with c up
    ∷ list house 12 (even 2 1000 ++ uneven 2 0 0 1000 ++ even 2 1000)
    ⟶ events 1 (run (words 1 1 4 3 0 0 32000000 6 16000000 16000000 0 ++ nines 1))
    -- C13: nor are two, with b up
    ∷ list house 12 (even 2 1000 ++ uneven 2 0 1000 0 ++ even 2 1000)
    ⟶ events 1 (run (words 1 1 4 3 0 0 32000000 5 16000000 0 16000000 ++ nines 1))
    -- C14: nor are two, with a up
    ∷ list house 12 (even 2 1000 ++ uneven 2 1000 0 0 ++ even 2 1000)
    ⟶ events 1 (run (words 1 1 4 3 0 0 32000000 4 0 16000000 16000000 ++ nines 1))
    -- C15: all three are one, its extreme the smallest: a's
    ∷ list house 23 (even 2 1000 ++ uneven 2 50 60 70 ++ even 2 1000)
    ⟶ events 2 (run (words 1 1 4 3 20000 50 47824000 2 15960000 15942400 15921600 ++ words 2 2 3 3 20000 50 0 0 0 0 0 ++ nines 1))
    -- C16: b's
    ∷ list house 23 (even 2 1000 ++ uneven 2 60 50 70 ++ even 2 1000)
    ⟶ events 2 (run (words 1 1 4 3 20000 50 47824000 1 15942400 15960000 15921600 ++ words 2 2 3 3 20000 50 0 0 0 0 0 ++ nines 1))
    -- C17: c's
    ∷ list house 23 (even 2 1000 ++ uneven 2 70 60 50 ++ even 2 1000)
    ⟶ events 2 (run (words 1 1 4 3 20000 50 47824000 2 15921600 15942400 15960000 ++ words 2 2 3 3 20000 50 0 0 0 0 0 ++ nines 1))
    -- C18: the smallest over all half-cycles: the extreme is channel c's, in the middle
    ∷ list house 23 (even 2 1000 ++ uneven 1 90 80 85 ++ uneven 2 85 90 30 ++ uneven 1 80 70 90 ++ even 2 1000)
    ⟶ events 2 (run (words 1 1 6 3 7200 30 95411400 6 31768400 31780000 31863000 ++ words 2 2 5 3 7200 30 0 0 0 0 0 ++ nines 1))
    -- C19: it ends when a is back, b and c still down
    ∷ list house 23 (even 2 1000 ++ even 2 0 ++ uneven 2 500 0 0 ++ even 2 1000)
    ⟶ events 2 (run (words 1 1 6 3 0 0 92000000 0 28000000 32000000 32000000 ++ words 2 2 3 3 0 0 0 0 0 0 0 ++ nines 1))
    -- C20: it ends when b is back, a and c still down; a second one in the same sag
    ∷ list house 34 (even 2 1000 ++ even 2 0 ++ uneven 2 0 500 0 ++ even 2 0 ++ even 2 1000)
    ⟶ events 3 (run (words 1 1 8 3 0 0 140000000 0 48000000 44000000 48000000 ++ words 2 2 3 3 0 0 0 0 0 0 0
    ++ words 2 6 7 3 0 0 0 0 0 0 0 ++ nines 1))
    -- C21: it ends when c is back, a and b still down
    ∷ list house 23 (even 2 1000 ++ even 2 0 ++ uneven 2 0 0 130 ++ even 2 1000)
    ⟶ events 2 (run (words 1 1 6 3 0 0 95729600 0 32000000 32000000 31729600 ++ words 2 2 4 3 0 0 0 0 0 0 0 ++ nines 1))
    -- C22: channels above the threshold and below threshold plus hysteresis do not end it
    ∷ list house 23 (even 2 1000 ++ even 2 0 ++ uneven 2 0 110 119 ++ even 1 0 ++ even 2 1000)
    ⟶ events 2 (run (words 1 1 7 3 0 0 119579824 0 40000000 39806400 39773424 ++ words 2 2 6 3 0 0 0 0 0 0 0 ++ nines 1))
    -- C23: two interruptions in one sag, in the table
    ∷ add (blank house 0) (even 2 1000 ++ even 2 0 ++ uneven 2 0 500 0 ++ even 2 0 ++ even 2 1000)
    ⟶ taken (site (table house 0 9 2 7 0 (put 1 1 none) 0 1 2 0 140000000 48000000 44000000 48000000))
    ∷ []

-- ---- swells on unequal channels

swells : List Case
swells =
    -- C24: a swell begun by channel a goes on while b alone is above swell threshold minus hysteresis
    list house 12 (even 2 1000 ++ uneven 1 1300 1000 1000 ++ uneven 2 1000 1090 1000 ++ even 2 1000)
    ⟶ events 1 (run (words 3 1 4 3 10760000 1160 0 0 0 0 0 ++ nines 1))
    -- C25: begun by channel b, kept by c
    ∷ list house 12 (even 2 1000 ++ uneven 1 1000 1300 1000 ++ uneven 2 1000 1000 1090 ++ even 2 1000)
    ⟶ events 1 (run (words 3 1 4 3 10760000 1160 0 0 0 0 0 ++ nines 1))
    -- C26: begun by channel c, kept by a
    ∷ list house 12 (even 2 1000 ++ uneven 1 1000 1000 1300 ++ uneven 2 1090 1000 1000 ++ even 2 1000)
    ⟶ events 1 (run (words 3 1 4 3 10760000 1160 0 0 0 0 0 ++ nines 1))
    -- C27: it ends only when all are back: a first, then b, last c
    ∷ list house 12 (even 2 1000 ++ uneven 1 1500 1400 1300 ++ uneven 1 1000 1400 1300 ++ uneven 1 1000 1000 1300 ++ even 2 1000)
    ⟶ events 1 (run (words 3 1 5 3 15680000 1400 0 0 0 0 0 ++ nines 1))
    -- C28: the extreme is the largest over channels and half-cycles: c's, in the middle
    ∷ list house 12 (even 2 1000 ++ uneven 2 1200 1150 1150 ++ uneven 2 1150 1150 1250 ++ uneven 1 1150 1220 1150 ++ even 2 1000)
    ⟶ events 1 (run (words 3 1 7 3 12500000 1250 0 0 0 0 0 ++ nines 1))
    -- C29: channel b's
    ∷ list house 12 (even 2 1000 ++ uneven 2 1100 1250 1200 ++ even 2 1000)
    ⟶ events 1 (run (words 3 1 4 3 12500000 1250 0 0 0 0 0 ++ nines 1))
    -- C30: hysteresis 5: channel b keeps the swell at 116 percent; in the table
    ∷ add (blank wide 0) (even 2 1000 ++ uneven 1 1600 1000 1000 ++ uneven 2 1000 1160 1000 ++ even 2 1000)
    ⟶ taken (site (table wide 0 6 3 3 0 none 0 0 0 1 0 0 0 0))
    ∷ []

-- ---- events of different kinds at once: by start, then kind

overlaps : List Case
overlaps =
    -- C31: a sag and an interruption from end to end of the recording
    list house 23 (even 3 0)
    ⟶ events 2 (run (words 1 0 2 0 0 0 48000000 0 16000000 16000000 16000000 ++ words 2 0 2 0 0 0 0 0 0 0 0 ++ nines 1))
    -- C32: a sag and an interruption both begin the recording
    ∷ list house 23 (even 3 0 ++ even 2 1000)
    ⟶ events 2 (run (words 1 0 3 2 0 0 60000000 0 20000000 20000000 20000000 ++ words 2 0 2 2 0 0 0 0 0 0 0 ++ nines 1))
    -- C33: a sag and an interruption start at one half-cycle, after a swell
    ∷ list house 34 (even 2 1000 ++ even 1 1280 ++ even 3 0 ++ even 2 1000)
    ⟶ events 3 (run (words 3 1 2 3 10553600 1149 0 0 0 0 0 ++ words 1 3 6 3 0 0 60000000 0 20000000 20000000 20000000
    ++ words 2 3 5 3 0 0 0 0 0 0 0 ++ nines 1))
    -- C34: the same, in the table
    ∷ add (blank house 0) (even 2 1000 ++ even 1 1280 ++ even 3 0 ++ even 2 1000)
    ⟶ taken (site (table house 0 7 3 4 0 (put 1 1 none) 0 1 1 1 60000000 20000000 20000000 20000000))
    -- C35: a sag and a swell start and end together: the sag is first
    ∷ list house 23 (even 2 1000 ++ uneven 2 1200 500 1000 ++ even 2 1000)
    ⟶ events 2 (run (words 1 1 4 3 2000000 500 12000000 3 0 12000000 0 ++ words 3 1 4 3 11520000 1200 0 0 0 0 0 ++ nines 1))
    -- C36: a sag starts and ends within a swell: the swell is first
    ∷ list house 23 (even 2 1000 ++ uneven 1 1300 1000 1000 ++ uneven 2 1300 500 1000 ++ uneven 1 1300 1000 1000 ++ even 2 1000)
    ⟶ events 2 (run (words 3 1 6 3 13520000 1300 0 0 0 0 0 ++ words 1 2 5 3 2000000 500 12000000 3 0 12000000 0 ++ nines 1))
    -- C37: the same, in the table: each half-cycle is counted once
    ∷ add (blank house 0) (even 2 1000 ++ uneven 1 1300 1000 1000 ++ uneven 2 1300 500 1000 ++ uneven 1 1300 1000 1000
    ++ even 2 1000)
    ⟶ taken (site (table house 0 7 2 5 0 (put 17 1 none) 0 1 0 1 12000000 0 12000000 0))
    -- C38: a swell starts in a sag and outlasts it
    ∷ list house 23 (even 2 1000 ++ uneven 2 1000 500 1000 ++ uneven 1 1000 500 1300 ++ uneven 2 1000 1000 1300 ++ even 2 1000)
    ⟶ events 2 (run (words 1 1 5 3 2000000 500 18000000 5 0 18000000 0 ++ words 3 3 7 3 13520000 1300 0 0 0 0 0 ++ nines 1))
    -- C39: the same, in the table
    ∷ add (blank house 0) (even 2 1000 ++ uneven 2 1000 500 1000 ++ uneven 1 1000 500 1300 ++ uneven 2 1000 1000 1300
    ++ even 2 1000)
    ⟶ taken (site (table house 0 8 2 6 0 (put 17 1 none) 0 1 0 1 18000000 0 18000000 0))
    -- C40: a sag with an interruption and a swell in it
    ∷ list house 34 (even 2 1000 ++ even 2 0 ++ uneven 2 0 0 1500 ++ even 2 1000)
    ⟶ events 3 (run (words 1 1 6 3 0 0 76000000 0 32000000 32000000 12000000 ++ words 2 2 3 3 0 0 0 0 0 0 0
    ++ words 3 4 6 3 18000000 1500 0 0 0 0 0 ++ nines 1))
    -- C41: the same, in the table
    ∷ add (blank house 0) (even 2 1000 ++ even 2 0 ++ uneven 2 0 0 1500 ++ even 2 1000)
    ⟶ taken (site (table house 0 7 2 5 0 (put 1 1 none) 0 1 1 1 76000000 32000000 32000000 12000000))
    ∷ []

-- ---- on each mark, one unit of S above it and one below

marks : List Case
marks =
    -- C42: hysteresis 0: channel a one unit below the sag threshold is a sag
    list sharp 12 (even 2 1000 ++ weave (quad 1799 59 9 6) (level 4 1000) (level 4 1000) ++ uneven 1 900 1000 1000 ++ even 2 1000)
    ⟶ events 1 (run (words 1 2 3 3 6479999 900 1520001 4 1520001 0 0 ++ nines 1))
    -- C43: hysteresis 0: on the sag threshold, and one unit above, it is none
    ∷ list sharp 1 (even 2 1000 ++ uneven 2 900 1000 1000 ++ weave (quad 1800 1 0 0) (level 4 1000) (level 4 1000)
    ++ uneven 1 900 1000 1000 ++ even 2 1000)
    ⟶ events 0 (run (nines 1))
    -- C44: hysteresis 0: b one unit below sag threshold plus hysteresis keeps the sag, on it ends it
    ∷ list sharp 12 (even 2 1000 ++ uneven 1 1000 500 1000 ++ uneven 1 1000 900 1000
    ++ weave (level 4 1000) (quad 1799 59 9 6) (level 4 1000) ++ uneven 2 1000 900 1000)
    ⟶ events 1 (run (words 1 1 5 3 4240000 728 9800002 5 0 9800002 0 ++ nines 1))
    -- C45: hysteresis 0: one unit above ends it too
    ∷ list sharp 12 (even 2 1000 ++ uneven 1 1000 500 1000 ++ weave (level 4 1000) (quad 1800 1 0 0) (level 4 1000)
    ++ uneven 2 1000 900 1000)
    ⟶ events 1 (run (words 1 1 3 3 4240001 728 6759999 5 0 6759999 0 ++ nines 1))
    -- C46: hysteresis 0: channel b one unit below the interruption threshold, the others at 0, is an interruption
    ∷ list sharp 23 (even 2 1000 ++ weave (level 4 0) (quad 199 19 6 1) (level 4 0) ++ uneven 1 0 100 0 ++ even 2 1000)
    ⟶ events 2 (run (words 1 1 4 3 0 0 47840002 5 16000000 15840002 16000000 ++ words 2 2 3 3 0 0 0 0 0 0 0 ++ nines 1))
    -- C47: hysteresis 0: on the interruption threshold, and one unit above, it is none
    ∷ list sharp 12 (even 2 1000 ++ uneven 2 0 100 0 ++ weave (level 4 0) (quad 200 1 0 0) (level 4 0) ++ uneven 1 0 100 0
    ++ even 2 1000)
    ⟶ events 1 (run (words 1 1 6 3 0 0 95679998 5 32000000 31679998 32000000 ++ nines 1))
    -- C48: hysteresis 0: c one unit below interruption threshold plus hysteresis keeps it, on it ends it
    ∷ list sharp 23 (even 2 1000 ++ even 1 0 ++ uneven 1 0 0 100 ++ weave (level 4 0) (level 4 0) (quad 199 19 6 1)
    ++ uneven 2 0 0 100 ++ even 1 1000)
    ⟶ events 2 (run (words 1 1 7 1 0 0 119680002 6 40000000 40000000 39680002 ++ words 2 2 5 3 0 0 0 0 0 0 0 ++ nines 1))
    -- C49: hysteresis 0: one unit above ends it too
    ∷ list sharp 23 (even 2 1000 ++ even 1 0 ++ weave (level 4 0) (level 4 0) (quad 200 1 0 0) ++ uneven 2 0 0 100 ++ even 1 1000)
    ⟶ events 2 (run (words 1 1 6 1 0 0 95759998 6 32000000 32000000 31759998 ++ words 2 2 3 3 0 0 0 0 0 0 0 ++ nines 1))
    -- C50: hysteresis 0: channel c one unit above the swell threshold is a swell
    ∷ list sharp 12 (even 2 1000 ++ weave (level 4 1000) (level 4 1000) (quad 2200 1 0 0) ++ uneven 1 1000 1000 1100
    ++ even 2 1000)
    ⟶ events 1 (run (words 3 2 3 3 9680001 1100 0 0 0 0 0 ++ nines 1))
    -- C51: hysteresis 0: on the swell threshold, and one unit below, it is none
    ∷ list sharp 1 (even 2 1000 ++ uneven 2 1000 1000 1100 ++ weave (level 4 1000) (level 4 1000) (quad 2199 65 13 2)
    ++ uneven 1 1000 1000 1100 ++ even 2 1000)
    ⟶ events 0 (run (nines 1))
    -- C52: hysteresis 0: a one unit above swell threshold minus hysteresis keeps the swell, on it ends it
    ∷ list sharp 12 (even 2 1000 ++ uneven 1 1500 1000 1000 ++ uneven 1 1100 1000 1000
    ++ weave (quad 2200 1 0 0) (level 4 1000) (level 4 1000) ++ uneven 2 1100 1000 1000)
    ⟶ events 1 (run (words 3 1 5 3 13840000 1315 0 0 0 0 0 ++ nines 1))
    -- C53: hysteresis 0: one unit below ends it too
    ∷ list sharp 12 (even 2 1000 ++ uneven 1 1500 1000 1000 ++ weave (quad 2199 65 13 2) (level 4 1000) (level 4 1000)
    ++ uneven 2 1100 1000 1000)
    ⟶ events 1 (run (words 3 1 3 3 13839999 1315 0 0 0 0 0 ++ nines 1))
    -- C54: hysteresis 2: channel a one unit below the sag threshold is a sag
    ∷ list house 12 (even 2 1000 ++ weave (quad 1799 59 9 6) (level 4 1000) (level 4 1000) ++ uneven 1 900 1000 1000
    ++ even 2 1000)
    ⟶ events 1 (run (words 1 2 3 3 6479999 900 1520001 4 1520001 0 0 ++ nines 1))
    -- C55: hysteresis 2: on the sag threshold, and one unit above, it is none
    ∷ list house 1 (even 2 1000 ++ uneven 2 900 1000 1000 ++ weave (quad 1800 1 0 0) (level 4 1000) (level 4 1000)
    ++ uneven 1 900 1000 1000 ++ even 2 1000)
    ⟶ events 0 (run (nines 1))
    -- C56: hysteresis 2: b one unit below sag threshold plus hysteresis keeps the sag, on it ends it
    ∷ list house 12 (even 2 1000 ++ uneven 1 1000 500 1000 ++ uneven 1 1000 920 1000
    ++ weave (level 4 1000) (quad 1839 59 14 1) (level 4 1000) ++ uneven 2 1000 920 1000)
    ⟶ events 1 (run (words 1 1 5 3 4385600 740 6614400 5 0 6614400 0 ++ nines 1))
    -- C57: hysteresis 2: one unit above ends it too
    ∷ list house 12 (even 2 1000 ++ uneven 1 1000 500 1000 ++ weave (level 4 1000) (quad 1840 1 0 0) (level 4 1000)
    ++ uneven 2 1000 920 1000)
    ⟶ events 1 (run (words 1 1 3 3 4385601 740 6614399 5 0 6614399 0 ++ nines 1))
    -- C58: hysteresis 2: channel b one unit below the interruption threshold, the others at 0, is an interruption
    ∷ list house 23 (even 2 1000 ++ weave (level 4 0) (quad 199 19 6 1) (level 4 0) ++ uneven 1 0 100 0 ++ even 2 1000)
    ⟶ events 2 (run (words 1 1 4 3 0 0 47840002 5 16000000 15840002 16000000 ++ words 2 2 3 3 0 0 0 0 0 0 0 ++ nines 1))
    -- C59: hysteresis 2: on the interruption threshold, and one unit above, it is none
    ∷ list house 12 (even 2 1000 ++ uneven 2 0 100 0 ++ weave (level 4 0) (quad 200 1 0 0) (level 4 0) ++ uneven 1 0 100 0
    ++ even 2 1000)
    ⟶ events 1 (run (words 1 1 6 3 0 0 95679998 5 32000000 31679998 32000000 ++ nines 1))
    -- C60: hysteresis 2: c one unit below interruption threshold plus hysteresis keeps it, on it ends it
    ∷ list house 23 (even 2 1000 ++ even 1 0 ++ uneven 1 0 0 120 ++ weave (level 4 0) (level 4 0) (quad 239 21 6 1)
    ++ uneven 2 0 0 120 ++ even 1 1000)
    ⟶ events 2 (run (words 1 1 7 1 0 0 119539202 6 40000000 40000000 39539202 ++ words 2 2 5 3 0 0 0 0 0 0 0 ++ nines 1))
    -- C61: hysteresis 2: one unit above ends it too
    ∷ list house 23 (even 2 1000 ++ even 1 0 ++ weave (level 4 0) (level 4 0) (quad 240 1 0 0) ++ uneven 2 0 0 120 ++ even 1 1000)
    ⟶ events 2 (run (words 1 1 6 1 0 0 95654398 6 32000000 32000000 31654398 ++ words 2 2 3 3 0 0 0 0 0 0 0 ++ nines 1))
    -- C62: hysteresis 2: channel c one unit above the swell threshold is a swell
    ∷ list house 12 (even 2 1000 ++ weave (level 4 1000) (level 4 1000) (quad 2200 1 0 0) ++ uneven 1 1000 1000 1100
    ++ even 2 1000)
    ⟶ events 1 (run (words 3 2 3 3 9680001 1100 0 0 0 0 0 ++ nines 1))
    -- C63: hysteresis 2: on the swell threshold, and one unit below, it is none
    ∷ list house 1 (even 2 1000 ++ uneven 2 1000 1000 1100 ++ weave (level 4 1000) (level 4 1000) (quad 2199 65 13 2)
    ++ uneven 1 1000 1000 1100 ++ even 2 1000)
    ⟶ events 0 (run (nines 1))
    -- C64: hysteresis 2: a one unit above swell threshold minus hysteresis keeps the swell, on it ends it
    ∷ list house 12 (even 2 1000 ++ uneven 1 1500 1000 1000 ++ uneven 1 1080 1000 1000
    ++ weave (quad 2160 1 0 0) (level 4 1000) (level 4 1000) ++ uneven 2 1080 1000 1000)
    ⟶ events 1 (run (words 3 1 5 3 13665600 1307 0 0 0 0 0 ++ nines 1))
    -- C65: hysteresis 2: one unit below ends it too
    ∷ list house 12 (even 2 1000 ++ uneven 1 1500 1000 1000 ++ weave (quad 2159 63 18 5) (level 4 1000) (level 4 1000)
    ++ uneven 2 1080 1000 1000)
    ⟶ events 1 (run (words 3 1 3 3 13665599 1307 0 0 0 0 0 ++ nines 1))
    -- C66: hysteresis 5: channel a one unit below the sag threshold is a sag
    ∷ list wide 12 (even 2 1000 ++ weave (quad 1599 55 13 2) (level 4 1000) (level 4 1000) ++ uneven 1 800 1000 1000
    ++ even 2 1000)
    ⟶ events 1 (run (words 1 2 3 3 5119999 800 2880001 4 2880001 0 0 ++ nines 1))
    -- C67: hysteresis 5: on the sag threshold, and one unit above, it is none
    ∷ list wide 1 (even 2 1000 ++ uneven 2 800 1000 1000 ++ weave (quad 1600 1 0 0) (level 4 1000) (level 4 1000)
    ++ uneven 1 800 1000 1000 ++ even 2 1000)
    ⟶ events 0 (run (nines 1))
    -- C68: hysteresis 5: b one unit below sag threshold plus hysteresis keeps the sag, on it ends it
    ∷ list wide 12 (even 2 1000 ++ uneven 1 1000 500 1000 ++ uneven 1 1000 850 1000
    ++ weave (level 4 1000) (quad 1699 58 5 3) (level 4 1000) ++ uneven 2 1000 850 1000)
    ⟶ events 1 (run (words 1 1 5 3 3890000 697 7110000 5 0 7110000 0 ++ nines 1))
    -- C69: hysteresis 5: one unit above ends it too
    ∷ list wide 12 (even 2 1000 ++ uneven 1 1000 500 1000 ++ weave (level 4 1000) (quad 1700 1 0 0) (level 4 1000)
    ++ uneven 2 1000 850 1000)
    ⟶ events 1 (run (words 1 1 3 3 3890001 697 7109999 5 0 7109999 0 ++ nines 1))
    -- C70: hysteresis 5: channel b one unit below the interruption threshold, the others at 0, is an interruption
    ∷ list wide 23 (even 2 1000 ++ weave (level 4 0) (quad 399 26 11 1) (level 4 0) ++ uneven 1 0 200 0 ++ even 2 1000)
    ⟶ events 2 (run (words 1 1 4 3 0 0 47360002 5 16000000 15360002 16000000 ++ words 2 2 3 3 0 0 0 0 0 0 0 ++ nines 1))
    -- C71: hysteresis 5: on the interruption threshold, and one unit above, it is none
    ∷ list wide 12 (even 2 1000 ++ uneven 2 0 200 0 ++ weave (level 4 0) (quad 400 1 0 0) (level 4 0) ++ uneven 1 0 200 0
    ++ even 2 1000)
    ⟶ events 1 (run (words 1 1 6 3 0 0 94719998 5 32000000 30719998 32000000 ++ nines 1))
    -- C72: hysteresis 5: c one unit below interruption threshold plus hysteresis keeps it, on it ends it
    ∷ list wide 23 (even 2 1000 ++ even 1 0 ++ uneven 1 0 0 250 ++ weave (level 4 0) (level 4 0) (quad 499 31 6 1)
    ++ uneven 2 0 0 250 ++ even 1 1000)
    ⟶ events 2 (run (words 1 1 7 1 0 0 118000002 6 40000000 40000000 38000002 ++ words 2 2 5 3 0 0 0 0 0 0 0 ++ nines 1))
    -- C73: hysteresis 5: one unit above ends it too
    ∷ list wide 23 (even 2 1000 ++ even 1 0 ++ weave (level 4 0) (level 4 0) (quad 500 1 0 0) ++ uneven 2 0 0 250 ++ even 1 1000)
    ⟶ events 2 (run (words 1 1 6 1 0 0 94499998 6 32000000 32000000 30499998 ++ words 2 2 3 3 0 0 0 0 0 0 0 ++ nines 1))
    -- C74: hysteresis 5: channel c one unit above the swell threshold is a swell
    ∷ list wide 12 (even 2 1000 ++ weave (level 4 1000) (level 4 1000) (quad 2400 1 0 0) ++ uneven 1 1000 1000 1200
    ++ even 2 1000)
    ⟶ events 1 (run (words 3 2 3 3 11520001 1200 0 0 0 0 0 ++ nines 1))
    -- C75: hysteresis 5: on the swell threshold, and one unit below, it is none
    ∷ list wide 1 (even 2 1000 ++ uneven 2 1000 1000 1200 ++ weave (level 4 1000) (level 4 1000) (quad 2399 69 6 1)
    ++ uneven 1 1000 1000 1200 ++ even 2 1000)
    ⟶ events 0 (run (nines 1))
    -- C76: hysteresis 5: a one unit above swell threshold minus hysteresis keeps the swell, on it ends it
    ∷ list wide 12 (even 2 1000 ++ uneven 1 1500 1000 1000 ++ uneven 1 1150 1000 1000
    ++ weave (quad 2300 1 0 0) (level 4 1000) (level 4 1000) ++ uneven 2 1150 1000 1000)
    ⟶ events 1 (run (words 3 1 5 3 14290000 1337 0 0 0 0 0 ++ nines 1))
    -- C77: hysteresis 5: one unit below ends it too
    ∷ list wide 12 (even 2 1000 ++ uneven 1 1500 1000 1000 ++ weave (quad 2299 67 10 3) (level 4 1000) (level 4 1000)
    ++ uneven 2 1150 1000 1000)
    ⟶ events 1 (run (words 3 1 3 3 14289999 1337 0 0 0 0 0 ++ nines 1))
    -- C78: N 10, R 1001: 85 percent is an S of 7239457.225, and the whole number below it a sag
    ∷ list ten 12 (alike 10 1001 1001 1001
    ++ weave (level 5 1001) (pos 1701 ∷ pos 29 ∷ pos 3 ∷ pos 0 ∷ pos 851 ∷ []) (level 5 1001)
    ++ weave (level 5 1001) (level 5 851) (level 5 1001) ++ alike 10 1001 1001 1001)
    ⟶ events 1 (run (words 1 2 3 3 7239457 850 2780553 5 0 2780553 0 ++ nines 1))
    -- C79: and the one above it none
    ∷ list ten 1 (alike 10 1001 1001 1001
    ++ weave (level 5 1001) (pos 1701 ∷ pos 29 ∷ pos 3 ∷ pos 1 ∷ pos 851 ∷ []) (level 5 1001)
    ++ weave (level 5 1001) (level 5 851) (level 5 1001) ++ alike 10 1001 1001 1001)
    ⟶ events 0 (run (nines 1))
    ∷ []

-- ---- missing samples

gaps : List Case
gaps =
    -- C80: a gap on channel b cuts a sag: neither part has both ends seen
    list house 23 (set (even 2 1000 ++ even 4 500 ++ even 2 1000) 49 lost)
    ⟶ events 2 (run (words 1 1 3 1 2000000 500 27000000 0 9000000 9000000 9000000
    ++ words 1 5 6 2 5000000 791 9000000 0 3000000 3000000 3000000 ++ nines 1))
    -- C81: a gap on channel c, in the last sample of the block
    ∷ list house 23 (set (even 2 1000 ++ even 4 500 ++ even 2 1000) 59 lost)
    ⟶ events 2 (run (words 1 1 3 1 2000000 500 27000000 0 9000000 9000000 9000000
    ++ words 1 5 6 2 5000000 791 9000000 0 3000000 3000000 3000000 ++ nines 1))
    -- C82: a gap on channel c cuts a sag and an interruption
    ∷ list house 45 (set (even 2 1000 ++ even 6 0 ++ even 2 1000) 65 lost)
    ⟶ events 4 (run (words 1 1 4 1 0 0 60000000 0 20000000 20000000 20000000 ++ words 2 2 4 1 0 0 0 0 0 0 0
    ++ words 1 6 8 2 0 0 36000000 0 12000000 12000000 12000000 ++ words 2 6 7 2 0 0 0 0 0 0 0 ++ nines 1))
    -- C83: the same, in the table: two of each, the sags unplaced
    ∷ add (blank house 0) (set (even 2 1000 ++ even 6 0 ++ even 2 1000) 65 lost)
    ⟶ taken (site (table house 0 9 2 5 2 none 2 2 2 0 96000000 32000000 32000000 32000000))
    -- C84: a gap on channel b cuts a swell
    ∷ list house 23 (set (even 2 1000 ++ even 4 1300 ++ even 2 1000) 55 lost)
    ⟶ events 2 (run (words 3 1 3 1 13520000 1300 0 0 0 0 0 ++ words 3 5 6 2 10760000 1160 0 0 0 0 0 ++ nines 1))
    -- C85: the same, in the table
    ∷ add (blank house 0) (set (even 2 1000 ++ even 4 1300 ++ even 2 1000) 55 lost)
    ⟶ taken (site (table house 0 7 2 3 2 none 0 0 0 2 0 0 0 0))
    -- C86: a gap in the block before a sag: its start is unseen
    ∷ list house 12 (set (even 2 1000 ++ uneven 2 1000 1000 500 ++ even 2 1000) 13 lost)
    ⟶ events 1 (run (words 1 2 4 2 2000000 500 9000000 6 0 0 9000000 ++ nines 1))
    -- C87: a gap a block earlier: the half-cycle before the start is unknown still
    ∷ list house 12 (set (even 2 1000 ++ uneven 2 1000 1000 500 ++ even 2 1000) 1 lost)
    ⟶ events 1 (run (words 1 1 4 2 2000000 500 12000000 6 0 0 12000000 ++ nines 1))
    -- C88: another block earlier: the start is seen
    ∷ list house 12 (set (even 3 1000 ++ uneven 2 1000 1000 500 ++ even 2 1000) 1 lost)
    ⟶ events 1 (run (words 1 2 5 3 2000000 500 12000000 6 0 0 12000000 ++ nines 1))
    -- C89: a gap in the block after a sag: its end is unseen
    ∷ list house 12 (set (even 2 1000 ++ uneven 2 1000 1000 500 ++ even 2 1000) 49 lost)
    ⟶ events 1 (run (words 1 1 3 1 2000000 500 9000000 6 0 0 9000000 ++ nines 1))
    -- C90: a gap a block later: the half-cycle at the end is unknown still
    ∷ list house 12 (set (even 2 1000 ++ uneven 2 1000 1000 500 ++ even 2 1000) 61 lost)
    ⟶ events 1 (run (words 1 1 4 1 2000000 500 12000000 6 0 0 12000000 ++ nines 1))
    -- C91: another block later: the end is seen
    ∷ list house 12 (set (even 2 1000 ++ uneven 2 1000 1000 500 ++ even 3 1000) 73 lost)
    ⟶ events 1 (run (words 1 1 4 3 2000000 500 12000000 6 0 0 12000000 ++ nines 1))
    -- C92: the same, in the table: the sag has its cell, and one half-cycle is unknown
    ∷ add (blank house 0) (set (even 2 1000 ++ uneven 2 1000 1000 500 ++ even 3 1000) 73 lost)
    ⟶ taken (site (table house 0 6 2 3 1 (put 17 1 none) 0 1 0 0 12000000 0 0 12000000))
    -- C93: a sag whose start is unseen is unplaced
    ∷ add (blank house 0) (set (even 2 1000 ++ uneven 2 1000 1000 500 ++ even 2 1000) 13 lost)
    ⟶ taken (site (table house 0 5 1 2 2 none 1 1 0 0 9000000 0 0 9000000))
    -- C94: a sag whose end is unseen is unplaced
    ∷ add (blank house 0) (set (even 2 1000 ++ uneven 2 1000 1000 500 ++ even 2 1000) 61 lost)
    ⟶ taken (site (table house 0 5 1 3 1 none 1 1 0 0 12000000 0 0 12000000))
    -- C95: after a gap, 91 percent is no sag: nothing is carried over it
    ∷ list house 12 (set (even 2 1000 ++ even 1 500 ++ even 4 910 ++ even 2 1000) 48 lost)
    ⟶ events 1 (run (words 1 1 3 1 4312400 734 20062800 0 6687600 6687600 6687600 ++ nines 1))
    -- C96: the same, in the table
    ∷ add (blank house 0) (set (even 2 1000 ++ even 1 500 ++ even 4 910 ++ even 2 1000) 48 lost)
    ⟶ taken (site (table house 0 8 4 2 2 none 1 1 0 0 20062800 6687600 6687600 6687600))
    -- C97: after a gap, 109 percent is no swell
    ∷ list house 12 (set (even 2 1000 ++ even 1 1500 ++ even 4 1090 ++ even 2 1000) 48 lost)
    ⟶ events 1 (run (words 3 1 3 1 13752400 1311 0 0 0 0 0 ++ nines 1))
    -- C98: one lost sample makes both half-cycles unknown: no event
    ∷ list house 1 (set (even 3 500) 16 lost) ⟶ events 0 (run (nines 1))
    -- C99: the same, in the table
    ∷ add (blank house 0) (set (even 3 500) 16 lost) ⟶ taken (site (table house 0 2 0 0 2 none 0 0 0 0 0 0 0 0))
    -- C100: the first sample of all lost
    ∷ list house 12 (set (even 4 500) 0 lost)
    ⟶ events 1 (run (words 1 1 3 0 2000000 500 36000000 0 12000000 12000000 12000000 ++ nines 1))
    -- C101: the last sample of all lost
    ∷ list wide 12 (set (even 4 500) 47 lost)
    ⟶ events 1 (run (words 1 0 2 0 2000000 500 36000000 0 12000000 12000000 12000000 ++ nines 1))
    -- C102: a gap at either end of a calm recording
    ∷ add (blank wide 0) (set (set (even 6 1000) 8 lost) 70 lost)
    ⟶ taken (site (table wide 0 5 3 0 2 none 0 0 0 0 0 0 0 0))
    ∷ []

-- ---- sag types

types : List Case
types =
    -- C103: a in the middle of b and c: type 1
    list house 12 (even 2 1000 ++ uneven 2 600 200 1000 ++ even 2 1000)
    ⟶ events 1 (run (words 1 1 4 3 320000 200 25600000 1 10240000 15360000 0 ++ nines 1))
    -- C104: b in the middle: type 2
    ∷ list house 12 (even 2 1000 ++ uneven 2 200 600 1000 ++ even 2 1000)
    ⟶ events 1 (run (words 1 1 4 3 320000 200 25600000 2 15360000 10240000 0 ++ nines 1))
    -- C105: c in the middle: type 3
    ∷ list house 12 (even 2 1000 ++ uneven 2 1000 200 600 ++ even 2 1000)
    ⟶ events 1 (run (words 1 1 4 3 320000 200 25600000 3 0 15360000 10240000 ++ nines 1))
    -- C106: b and c equal: type 4
    ∷ list house 12 (even 2 1000 ++ uneven 2 300 800 800 ++ even 2 1000)
    ⟶ events 1 (run (words 1 1 4 3 720000 300 20320000 4 14560000 2880000 2880000 ++ nines 1))
    -- C107: c and a equal: type 5
    ∷ list house 12 (even 2 1000 ++ uneven 2 800 300 800 ++ even 2 1000)
    ⟶ events 1 (run (words 1 1 4 3 720000 300 20320000 5 2880000 14560000 2880000 ++ nines 1))
    -- C108: a and b equal: type 6
    ∷ list house 12 (even 2 1000 ++ uneven 2 800 800 300 ++ even 2 1000)
    ⟶ events 1 (run (words 1 1 4 3 720000 300 20320000 6 2880000 2880000 14560000 ++ nines 1))
    -- C109: all samples negative: type 1 as with positive ones
    ∷ list house 12 (even 2 1000 ++ mirror (uneven 2 600 200 1000) ++ even 2 1000)
    ⟶ events 1 (run (words 1 1 4 3 320000 200 25600000 1 10240000 15360000 0 ++ nines 1))
    -- C110: b and c of opposite signs, a at 0: type 1
    ∷ list house 12 (even 2 1000 ++ weave (level 4 0) (level 4 800) (mirror (level 4 800))
    ++ weave (level 4 0) (level 4 800) (mirror (level 4 800)) ++ even 2 1000)
    ⟶ events 1 (run (words 1 1 4 3 0 0 21760000 1 16000000 2880000 2880000 ++ nines 1))
    -- C111: N 10: a and b equal, type 6
    ∷ list ten 12 (alike 10 1001 1001 1001 ++ alike 10 900 900 400 ++ alike 10 1001 1001 1001)
    ⟶ events 1 (run (words 1 1 4 3 1600000 400 16840020 6 0 0 16840020 ++ nines 1))
    -- C112: sines, all three lower: type 0
    ∷ list house 12 (sines 1000 1000 1000 ++ sines 600 600 600)
    ⟶ events 1 (run (words 1 1 3 1 2877446 600 23050182 0 7683292 7683445 7683445 ++ nines 1))
    -- C113: sines, a lower: type 1
    ∷ list house 12 (sines 1000 1000 1000 ++ sines 500 1000 1000)
    ⟶ events 1 (run (words 1 1 3 1 1999698 500 9001057 1 9001057 0 0 ++ nines 1))
    -- C114: sines, b lower: type 2
    ∷ list house 12 (sines 1000 1000 1000 ++ sines 1000 500 1000)
    ⟶ events 1 (run (words 1 1 3 1 1998262 500 9002221 2 0 9002221 0 ++ nines 1))
    -- C115: sines, c lower: type 3
    ∷ list house 12 (sines 1000 1000 1000 ++ sines 1000 1000 500)
    ⟶ events 1 (run (words 1 1 3 1 1998262 500 9002221 3 0 0 9002221 ++ nines 1))
    -- C116: sines, b and c lower: type 4
    ∷ list house 12 (sines 1000 1000 1000 ++ sines 1000 500 500)
    ⟶ events 1 (run (words 1 1 3 1 1998262 500 18004442 4 0 9002221 9002221 ++ nines 1))
    -- C117: sines, c and a lower: type 5
    ∷ list house 12 (sines 1000 1000 1000 ++ sines 500 1000 500)
    ⟶ events 1 (run (words 1 1 3 1 1998262 500 18003278 5 9001057 0 9002221 ++ nines 1))
    -- C118: sines, a and b lower: type 6
    ∷ list house 12 (sines 1000 1000 1000 ++ sines 500 500 1000)
    ⟶ events 1 (run (words 1 1 3 1 1998262 500 18003278 6 9001057 9002221 0 ++ nines 1))
    -- C119: 100 x smallest, a fourth sum, is exactly 81 x largest: type 0
    ∷ list house 12 (even 2 1000 ++ alike 3 500 0 0 ++ alike 1 450 900 0 ++ alike 3 500 0 0 ++ alike 1 450 900 0 ++ even 2 1000)
    ⟶ events 1 (run (words 1 1 4 3 0 0 40950000 0 12190000 12760000 16000000 ++ nines 1))
    -- C120: the largest a little larger: type 4
    ∷ list house 12 (even 2 1000 ++ alike 3 500 0 0 ++ alike 1 450 900 0 ++ alike 1 501 0 0 ++ alike 2 500 0 0
    ++ alike 1 450 900 0 ++ even 2 1000)
    ⟶ events 1 (run (words 1 1 4 3 0 0 40947998 4 12187998 12760000 16000000 ++ nines 1))
    -- C121: a little smaller: type 0
    ∷ list house 12 (even 2 1000 ++ alike 3 500 0 0 ++ alike 1 450 900 0 ++ alike 1 499 0 0 ++ alike 2 500 0 0
    ++ alike 1 450 900 0 ++ even 2 1000)
    ⟶ events 1 (run (words 1 1 4 3 0 0 40951998 0 12191998 12760000 16000000 ++ nines 1))
    -- C122: 100 x smallest, a first sum, is exactly 81 x largest: type 0
    ∷ list house 12 (even 2 1000 ++ alike 3 450 0 0 ++ alike 1 500 1000 0 ++ alike 3 450 0 0 ++ alike 1 500 1000 0 ++ even 2 1000)
    ⟶ events 1 (run (words 1 1 4 3 0 0 40570000 0 12570000 12000000 16000000 ++ nines 1))
    -- C123: the smallest a little smaller: type 1
    ∷ list house 12 (even 2 1000 ++ alike 3 450 0 0 ++ alike 1 500 1000 0 ++ alike 1 449 0 0 ++ alike 2 450 0 0
    ++ alike 1 500 1000 0 ++ even 2 1000)
    ⟶ events 1 (run (words 1 1 4 3 0 0 40571798 1 12571798 12000000 16000000 ++ nines 1))
    -- C124: a little larger: type 0
    ∷ list house 12 (even 2 1000 ++ alike 3 450 0 0 ++ alike 1 500 1000 0 ++ alike 1 451 0 0 ++ alike 2 450 0 0
    ++ alike 1 500 1000 0 ++ even 2 1000)
    ⟶ events 1 (run (words 1 1 4 3 0 0 40568198 0 12568198 12000000 16000000 ++ nines 1))
    -- C125: third and fourth sum equally small: type 3
    ∷ list house 12 (even 2 1000 ++ alike 1 0 600 300 ++ alike 3 300 0 0 ++ alike 1 0 600 300 ++ alike 3 300 0 0 ++ even 2 1000)
    ⟶ events 1 (run (words 1 1 4 3 180000 150 45120000 3 14920000 14560000 15640000 ++ nines 1))
    -- C126: first and fifth sum equally small: type 1
    ∷ list house 12 (even 2 1000 ++ alike 1 300 0 600 ++ alike 3 0 300 0 ++ alike 1 300 0 600 ++ alike 3 0 300 0 ++ even 2 1000)
    ⟶ events 1 (run (words 1 1 4 3 180000 150 45120000 1 15640000 14920000 14560000 ++ nines 1))
    -- C127: second and sixth sum equally small: type 2
    ∷ list house 12 (even 2 1000 ++ alike 1 600 300 0 ++ alike 3 0 0 300 ++ alike 1 600 300 0 ++ alike 3 0 0 300 ++ even 2 1000)
    ⟶ events 1 (run (words 1 1 4 3 180000 150 45120000 2 14560000 15640000 14920000 ++ nines 1))
    -- C128: the same extreme twice, first a's and then b's: the earliest decides, type 4
    ∷ list house 12 (even 2 1000 ++ uneven 2 500 1000 1000 ++ uneven 2 1000 500 1000 ++ even 2 1000)
    ⟶ events 1 (run (words 1 1 6 3 2000000 500 24000000 4 12000000 12000000 0 ++ nines 1))
    -- C129: first b's and then a's: type 5
    ∷ list house 12 (even 2 1000 ++ uneven 2 1000 500 1000 ++ uneven 2 500 1000 1000 ++ even 2 1000)
    ⟶ events 1 (run (words 1 1 6 3 2000000 500 24000000 5 12000000 12000000 0 ++ nines 1))
    -- C130: the sag begins as type 6, but its extreme decides: type 5
    ∷ list house 12 (even 2 1000 ++ uneven 2 1000 1000 800 ++ uneven 2 1000 400 1000 ++ even 2 1000)
    ⟶ events 1 (run (words 1 2 6 3 1280000 400 16320000 5 0 13440000 2880000 ++ nines 1))
    -- C131: the same extreme three times, of one channel: the earliest decides, type 1
    ∷ list house 12 (even 2 1000 ++ uneven 3 600 300 900 ++ uneven 2 500 300 500 ++ even 2 1000)
    ⟶ events 1 (run (words 1 1 7 3 720000 300 76520000 1 27360000 36400000 12760000 ++ nines 1))
    ∷ []

-- ---- retained values: the nearest thousandth, halves upward

nearest : List Case
nearest =
    -- C132: an extreme of 80802 is exactly 100.5: a sag with retained 101
    list house 12 (even 2 1000 ++ weave (quad 201 0 0 0) (quad 201 0 0 0) (quad 201 0 0 0)
    ++ weave (quad 201 0 0 0) (quad 201 0 0 0) (quad 201 0 0 0) ++ even 2 1000)
    ⟶ events 1 (run (words 1 1 4 3 80802 101 47515188 0 15838396 15838396 15838396 ++ nines 1))
    -- C133: one unit of S less: 100
    ∷ list house 12 (even 2 1000 ++ weave (quad 200 20 0 0) (quad 200 20 0 0) (quad 200 20 0 0)
    ++ weave (quad 201 0 0 0) (quad 201 0 0 0) (quad 201 0 0 0) ++ even 2 1000)
    ⟶ events 1 (run (words 1 1 4 3 80801 100 47515194 0 15838398 15838398 15838398 ++ nines 1))
    -- C134: exactly 99.5: an interruption and its sag, each with the 100 that 10 percent has
    ∷ list house 23 (even 2 1000 ++ weave (quad 199 0 0 0) (quad 199 0 0 0) (quad 199 0 0 0)
    ++ weave (quad 199 0 0 0) (quad 199 0 0 0) (quad 199 0 0 0) ++ even 2 1000)
    ⟶ events 2 (run (words 1 1 4 3 79202 100 47524788 0 15841596 15841596 15841596 ++ words 2 2 3 3 79202 100 0 0 0 0 0
    ++ nines 1))
    -- C135: one unit less: 99
    ∷ list house 23 (even 2 1000 ++ weave (quad 198 18 6 6) (quad 198 18 6 6) (quad 198 18 6 6)
    ++ weave (quad 199 0 0 0) (quad 199 0 0 0) (quad 199 0 0 0) ++ even 2 1000)
    ⟶ events 2 (run (words 1 1 4 3 79201 99 47524794 0 15841598 15841598 15841598 ++ words 2 2 3 3 79201 99 0 0 0 0 0 ++ nines 1))
    -- C136: exactly 899.5 on b: a sag with retained 900, as the threshold has
    ∷ list house 12 (even 2 1000 ++ weave (level 4 1000) (quad 1799 0 0 0) (level 4 1000)
    ++ weave (level 4 1000) (quad 1799 0 0 0) (level 4 1000) ++ even 2 1000)
    ⟶ events 1 (run (words 1 2 3 3 6472802 900 1527198 5 0 1527198 0 ++ nines 1))
    -- C137: one unit less: 899
    ∷ list house 12 (even 2 1000 ++ weave (level 4 1000) (quad 1798 58 14 6) (level 4 1000)
    ++ weave (level 4 1000) (quad 1799 0 0 0) (level 4 1000) ++ even 2 1000)
    ⟶ events 1 (run (words 1 2 3 3 6472801 899 1527199 5 0 1527199 0 ++ nines 1))
    -- C138: exactly 1200.5: a swell with retained 1201
    ∷ list house 12 (even 2 1000 ++ weave (quad 2401 0 0 0) (quad 2401 0 0 0) (quad 2401 0 0 0)
    ++ weave (quad 2401 0 0 0) (quad 2401 0 0 0) (quad 2401 0 0 0) ++ even 2 1000)
    ⟶ events 1 (run (words 3 1 4 3 11529602 1201 0 0 0 0 0 ++ nines 1))
    -- C139: one unit less: 1200
    ∷ list house 12 (even 2 1000 ++ weave (quad 2400 56 40 8) (quad 2400 56 40 8) (quad 2400 56 40 8)
    ++ weave (quad 2401 0 0 0) (quad 2401 0 0 0) (quad 2401 0 0 0) ++ even 2 1000)
    ⟶ events 1 (run (words 3 1 4 3 11529601 1200 0 0 0 0 0 ++ nines 1))
    -- C140: exactly a half: an interruption and its sag with retained 1
    ∷ list house 23 (even 2 1000 ++ weave (quad 1 0 0 0) (quad 1 0 0 0) (quad 1 0 0 0)
    ++ weave (quad 1 0 0 0) (quad 1 0 0 0) (quad 1 0 0 0) ++ even 2 1000)
    ⟶ events 2 (run (words 1 1 4 3 2 1 47999988 0 15999996 15999996 15999996 ++ words 2 2 3 3 2 1 0 0 0 0 0 ++ nines 1))
    -- C141: one unit less: 0
    ∷ list house 23 (even 2 1000 ++ weave (level 4 0) (level 4 0) (level 4 0)
    ++ weave (quad 1 0 0 0) (quad 1 0 0 0) (quad 1 0 0 0) ++ even 2 1000)
    ⟶ events 2 (run (words 1 1 4 3 1 0 47999994 0 15999998 15999998 15999998 ++ words 2 2 3 3 1 0 0 0 0 0 0 ++ nines 1))
    -- C142: exactly 100.5: the half goes upward (severity 0.899, energy 0)
    ∷ score house 0 (event 1 7 9 3 80802 101 0 0 0 0 0) ⟶ scored 0x3fec_c49b_a5e3_53f8 0x0000_0000_0000_0000 9
    -- C143: and not downward
    ∷ score house 0 (event 1 7 9 3 80802 100 0 0 0 0 0) ⟶ unscored 5 40
    -- C144: one unit of S less (severity 0.9, energy 0)
    ∷ score house 0 (event 1 7 9 3 80801 100 0 0 0 0 0) ⟶ scored 0x3fec_cccc_cccc_cccd 0x0000_0000_0000_0000 9
    -- C145: and not upward: the rest, 100.125 x N x R x R, is below the half, 100.25
    ∷ score house 0 (event 1 7 9 3 80801 101 0 0 0 0 0) ⟶ unscored 5 40
    -- C146: K7's extreme, 100.501 (severity 0.899, energy 0)
    ∷ score house 0 (event 1 7 9 3 80804 101 0 0 0 0 0) ⟶ scored 0x3fec_c49b_a5e3_53f8 0x0000_0000_0000_0000 9
    -- C147: and not the value rounded down
    ∷ score house 0 (event 1 7 9 3 80804 100 0 0 0 0 0) ⟶ unscored 5 40
    -- C148: exactly 1.5 (severity 0.998, energy 0)
    ∷ score house 0 (event 1 7 9 3 18 2 0 0 0 0 0) ⟶ scored 0x3fef_ef9d_b22d_0e56 0x0000_0000_0000_0000 1
    -- C149: one unit less (severity 0.999, energy 0)
    ∷ score house 0 (event 1 7 9 3 17 1 0 0 0 0 0) ⟶ scored 0x3fef_f7ce_d916_872b 0x0000_0000_0000_0000 1
    -- C150: exactly a half (severity 0.999, energy 0)
    ∷ score house 0 (event 1 7 9 3 2 1 0 0 0 0 0) ⟶ scored 0x3fef_f7ce_d916_872b 0x0000_0000_0000_0000 1
    -- C151: one unit less (severity 1, energy 0)
    ∷ score house 0 (event 1 7 9 3 1 0 0 0 0 0 0) ⟶ scored 0x3ff0_0000_0000_0000 0x0000_0000_0000_0000 1
    -- C152: one unit below the sag threshold: still a sag, though retained is what the threshold is (severity 0.1, energy 0)
    ∷ score house 0 (event 1 7 9 3 6479999 900 0 0 0 0 0) ⟶ scored 0x3fb9_9999_9999_999a 0x0000_0000_0000_0000 33
    -- C153: and not the value rounded down
    ∷ score house 0 (event 1 7 9 3 6479999 899 0 0 0 0 0) ⟶ unscored 5 40
    -- C154: a swell, exactly 1200.5
    ∷ score house 0 (event 3 7 9 3 11529602 1201 0 0 0 0 0) ⟶ unscored 4 40
    -- C155: and not the value rounded down
    ∷ score house 0 (event 3 7 9 3 11529602 1200 0 0 0 0 0) ⟶ unscored 5 40
    -- C156: one unit less
    ∷ score house 0 (event 3 7 9 3 11529601 1200 0 0 0 0 0) ⟶ unscored 4 40
    -- C157: N 10, R 1001: 100.5 is an S of 101204.6, and the whole number below it has 100 (severity 0.9, energy 0)
    ∷ score ten 0 (event 1 7 9 3 101204 100 0 0 0 0 0) ⟶ scored 0x3fec_cccc_cccc_cccd 0x0000_0000_0000_0000 9
    -- C158: the one above it 101 (severity 0.899, energy 0)
    ∷ score ten 0 (event 1 7 9 3 101205 101 0 0 0 0 0) ⟶ scored 0x3fec_c49b_a5e3_53f8 0x0000_0000_0000_0000 9
    -- C159: N 512, R 50000: exactly 1999.5, where 4,000,000 x S is beyond 2^64
    ∷ score (settings 512 50000 50 90 10 110 2) 0 (event 3 7 9 3 5117440320000 2000 0 0 0 0 0) ⟶ unscored 4 40
    -- C160: one unit less
    ∷ score (settings 512 50000 50 90 10 110 2) 0 (event 3 7 9 3 5117440319999 1999 0 0 0 0 0) ⟶ unscored 4 40
    -- C161: and not upward
    ∷ score (settings 512 50000 50 90 10 110 2) 0 (event 3 7 9 3 5117440319999 2000 0 0 0 0 0) ⟶ unscored 5 40
    -- C162: the largest S of all
    ∷ score (settings 512 50000 50 90 10 110 2) 0 (event 3 7 9 3 5120000000000 2000 0 0 0 0 0) ⟶ unscored 4 40
    ∷ []

-- ---- curve and columns on both sides of every border; the curve shows in the severity

durations : List Case
durations =
    -- C163: f 50, h 1: below 2, column 0 (severity 0.8, energy 0.015)
    score house 0 (event 1 7 8 3 320000 200 12000000 4 12000000 0 0)
    ⟶ scored 0x3fe9_9999_9999_999a 0x3f8e_b851_eb85_1eb8 8
    -- C164: f 50, h 2: column 1; the curve is 0 (severity 0.8, energy 0.015)
    ∷ score house 0 (event 1 7 9 3 320000 200 12000000 4 12000000 0 0)
    ⟶ scored 0x3fe9_9999_9999_999a 0x3f8e_b851_eb85_1eb8 9
    -- C165: f 50, h 3: the curve is 500 (severity 1.6, energy 0.015)
    ∷ score house 0 (event 1 7 10 3 320000 200 12000000 4 12000000 0 0)
    ⟶ scored 0x3ff9_9999_9999_999a 0x3f8e_b851_eb85_1eb8 9
    -- C166: f 50, h 9: 5h below f, column 1 (severity 1.6, energy 0.015)
    ∷ score house 0 (event 1 7 16 3 320000 200 12000000 4 12000000 0 0)
    ⟶ scored 0x3ff9_9999_9999_999a 0x3f8e_b851_eb85_1eb8 9
    -- C167: f 50, h 10: 5h = f, column 2 (severity 1.6, energy 0.015)
    ∷ score house 0 (event 1 7 17 3 320000 200 12000000 4 12000000 0 0)
    ⟶ scored 0x3ff9_9999_9999_999a 0x3f8e_b851_eb85_1eb8 10
    -- C168: f 50, h 20: 5h = 2f, the curve is 500 (severity 1.6, energy 0.015)
    ∷ score house 0 (event 1 7 27 3 320000 200 12000000 4 12000000 0 0)
    ⟶ scored 0x3ff9_9999_9999_999a 0x3f8e_b851_eb85_1eb8 10
    -- C169: f 50, h 21: the curve is 700 (severity 2.6666666666666665, energy 0.015)
    ∷ score house 0 (event 1 7 28 3 320000 200 12000000 4 12000000 0 0)
    ⟶ scored 0x4005_5555_5555_5555 0x3f8e_b851_eb85_1eb8 10
    -- C170: f 50, h 49: below f, column 2 (severity 2.6666666666666665, energy 0.015)
    ∷ score house 0 (event 1 7 56 3 320000 200 12000000 4 12000000 0 0)
    ⟶ scored 0x4005_5555_5555_5555 0x3f8e_b851_eb85_1eb8 10
    -- C171: f 50, h 50: h = f, column 3; the curve is 700 (severity 2.6666666666666665, energy 0.015)
    ∷ score house 0 (event 1 7 57 3 320000 200 12000000 4 12000000 0 0)
    ⟶ scored 0x4005_5555_5555_5555 0x3f8e_b851_eb85_1eb8 11
    -- C172: f 50, h 51: the curve is 800 (severity 4, energy 0.015)
    ∷ score house 0 (event 1 7 58 3 320000 200 12000000 4 12000000 0 0)
    ⟶ scored 0x4010_0000_0000_0000 0x3f8e_b851_eb85_1eb8 11
    -- C173: f 50, h 99: below 2f, column 3 (severity 4, energy 0.015)
    ∷ score house 0 (event 1 7 106 3 320000 200 12000000 4 12000000 0 0)
    ⟶ scored 0x4010_0000_0000_0000 0x3f8e_b851_eb85_1eb8 11
    -- C174: f 50, h 100: h = 2f, column 4 (severity 4, energy 0.015)
    ∷ score house 0 (event 1 7 107 3 320000 200 12000000 4 12000000 0 0)
    ⟶ scored 0x4010_0000_0000_0000 0x3f8e_b851_eb85_1eb8 12
    -- C175: f 50, h 299: below 6f, column 4 (severity 4, energy 0.015)
    ∷ score house 0 (event 1 7 306 3 320000 200 12000000 4 12000000 0 0)
    ⟶ scored 0x4010_0000_0000_0000 0x3f8e_b851_eb85_1eb8 12
    -- C176: f 50, h 300: h = 6f, column 5 (severity 4, energy 0.015)
    ∷ score house 0 (event 1 7 307 3 320000 200 12000000 4 12000000 0 0)
    ⟶ scored 0x4010_0000_0000_0000 0x3f8e_b851_eb85_1eb8 13
    -- C177: f 50, h 1000: h = 20f, the curve is 800 (severity 4, energy 0.015)
    ∷ score house 0 (event 1 7 1007 3 320000 200 12000000 4 12000000 0 0)
    ⟶ scored 0x4010_0000_0000_0000 0x3f8e_b851_eb85_1eb8 13
    -- C178: f 50, h 1001: the curve is 900 (severity 8, energy 0.015)
    ∷ score house 0 (event 1 7 1008 3 320000 200 12000000 4 12000000 0 0)
    ⟶ scored 0x4020_0000_0000_0000 0x3f8e_b851_eb85_1eb8 13
    -- C179: f 50, h 1999: below 40f, column 5 (severity 8, energy 0.015)
    ∷ score house 0 (event 1 7 2006 3 320000 200 12000000 4 12000000 0 0)
    ⟶ scored 0x4020_0000_0000_0000 0x3f8e_b851_eb85_1eb8 13
    -- C180: f 50, h 2000: h = 40f, column 6 (severity 8, energy 0.015)
    ∷ score house 0 (event 1 7 2007 3 320000 200 12000000 4 12000000 0 0)
    ⟶ scored 0x4020_0000_0000_0000 0x3f8e_b851_eb85_1eb8 14
    -- C181: f 50, h 5999: below 120f, column 6 (severity 8, energy 0.015)
    ∷ score house 0 (event 1 7 6006 3 320000 200 12000000 4 12000000 0 0)
    ⟶ scored 0x4020_0000_0000_0000 0x3f8e_b851_eb85_1eb8 14
    -- C182: f 50, h 6000: h = 120f, column 7 (severity 8, energy 0.015)
    ∷ score house 0 (event 1 7 6007 3 320000 200 12000000 4 12000000 0 0)
    ⟶ scored 0x4020_0000_0000_0000 0x3f8e_b851_eb85_1eb8 15
    -- C183: f 60, h 1: below 2, column 0 (severity 0.8, energy 0.012)
    ∷ score wide 0 (event 1 7 8 3 320000 200 12000000 4 12000000 0 0)
    ⟶ scored 0x3fe9_9999_9999_999a 0x3f88_9374_bc6a_7efa 8
    -- C184: f 60, h 2: column 1; the curve is 0 (severity 0.8, energy 0.012)
    ∷ score wide 0 (event 1 7 9 3 320000 200 12000000 4 12000000 0 0)
    ⟶ scored 0x3fe9_9999_9999_999a 0x3f88_9374_bc6a_7efa 9
    -- C185: f 60, h 3: the curve is 500 (severity 1.6, energy 0.012)
    ∷ score wide 0 (event 1 7 10 3 320000 200 12000000 4 12000000 0 0)
    ⟶ scored 0x3ff9_9999_9999_999a 0x3f88_9374_bc6a_7efa 9
    -- C186: f 60, h 11: 5h below f, column 1 (severity 1.6, energy 0.012)
    ∷ score wide 0 (event 1 7 18 3 320000 200 12000000 4 12000000 0 0)
    ⟶ scored 0x3ff9_9999_9999_999a 0x3f88_9374_bc6a_7efa 9
    -- C187: f 60, h 12: 5h = f, column 2 (severity 1.6, energy 0.012)
    ∷ score wide 0 (event 1 7 19 3 320000 200 12000000 4 12000000 0 0)
    ⟶ scored 0x3ff9_9999_9999_999a 0x3f88_9374_bc6a_7efa 10
    -- C188: f 60, h 24: 5h = 2f, the curve is 500 (severity 1.6, energy 0.012)
    ∷ score wide 0 (event 1 7 31 3 320000 200 12000000 4 12000000 0 0)
    ⟶ scored 0x3ff9_9999_9999_999a 0x3f88_9374_bc6a_7efa 10
    -- C189: f 60, h 25: the curve is 700 (severity 2.6666666666666665, energy 0.012)
    ∷ score wide 0 (event 1 7 32 3 320000 200 12000000 4 12000000 0 0)
    ⟶ scored 0x4005_5555_5555_5555 0x3f88_9374_bc6a_7efa 10
    -- C190: f 60, h 59: below f, column 2 (severity 2.6666666666666665, energy 0.012)
    ∷ score wide 0 (event 1 7 66 3 320000 200 12000000 4 12000000 0 0)
    ⟶ scored 0x4005_5555_5555_5555 0x3f88_9374_bc6a_7efa 10
    -- C191: f 60, h 60: h = f, column 3; the curve is 700 (severity 2.6666666666666665, energy 0.012)
    ∷ score wide 0 (event 1 7 67 3 320000 200 12000000 4 12000000 0 0)
    ⟶ scored 0x4005_5555_5555_5555 0x3f88_9374_bc6a_7efa 11
    -- C192: f 60, h 61: the curve is 800 (severity 4, energy 0.012)
    ∷ score wide 0 (event 1 7 68 3 320000 200 12000000 4 12000000 0 0)
    ⟶ scored 0x4010_0000_0000_0000 0x3f88_9374_bc6a_7efa 11
    -- C193: f 60, h 119: below 2f, column 3 (severity 4, energy 0.012)
    ∷ score wide 0 (event 1 7 126 3 320000 200 12000000 4 12000000 0 0)
    ⟶ scored 0x4010_0000_0000_0000 0x3f88_9374_bc6a_7efa 11
    -- C194: f 60, h 120: h = 2f, column 4 (severity 4, energy 0.012)
    ∷ score wide 0 (event 1 7 127 3 320000 200 12000000 4 12000000 0 0)
    ⟶ scored 0x4010_0000_0000_0000 0x3f88_9374_bc6a_7efa 12
    -- C195: f 60, h 359: below 6f, column 4 (severity 4, energy 0.012)
    ∷ score wide 0 (event 1 7 366 3 320000 200 12000000 4 12000000 0 0)
    ⟶ scored 0x4010_0000_0000_0000 0x3f88_9374_bc6a_7efa 12
    -- C196: f 60, h 360: h = 6f, column 5 (severity 4, energy 0.012)
    ∷ score wide 0 (event 1 7 367 3 320000 200 12000000 4 12000000 0 0)
    ⟶ scored 0x4010_0000_0000_0000 0x3f88_9374_bc6a_7efa 13
    -- C197: f 60, h 1200: h = 20f, the curve is 800 (severity 4, energy 0.012)
    ∷ score wide 0 (event 1 7 1207 3 320000 200 12000000 4 12000000 0 0)
    ⟶ scored 0x4010_0000_0000_0000 0x3f88_9374_bc6a_7efa 13
    -- C198: f 60, h 1201: the curve is 900 (severity 8, energy 0.012)
    ∷ score wide 0 (event 1 7 1208 3 320000 200 12000000 4 12000000 0 0)
    ⟶ scored 0x4020_0000_0000_0000 0x3f88_9374_bc6a_7efa 13
    -- C199: f 60, h 2399: below 40f, column 5 (severity 8, energy 0.012)
    ∷ score wide 0 (event 1 7 2406 3 320000 200 12000000 4 12000000 0 0)
    ⟶ scored 0x4020_0000_0000_0000 0x3f88_9374_bc6a_7efa 13
    -- C200: f 60, h 2400: h = 40f, column 6 (severity 8, energy 0.012)
    ∷ score wide 0 (event 1 7 2407 3 320000 200 12000000 4 12000000 0 0)
    ⟶ scored 0x4020_0000_0000_0000 0x3f88_9374_bc6a_7efa 14
    -- C201: f 60, h 7199: below 120f, column 6 (severity 8, energy 0.012)
    ∷ score wide 0 (event 1 7 7206 3 320000 200 12000000 4 12000000 0 0)
    ⟶ scored 0x4020_0000_0000_0000 0x3f88_9374_bc6a_7efa 14
    -- C202: f 60, h 7200: h = 120f, column 7 (severity 8, energy 0.012)
    ∷ score wide 0 (event 1 7 7207 3 320000 200 12000000 4 12000000 0 0)
    ⟶ scored 0x4020_0000_0000_0000 0x3f88_9374_bc6a_7efa 15
    ∷ []

-- ---- rows on both sides of every border

depths : List Case
depths =
    -- C203: nothing left: row 0 (severity 1, energy 0)
    score house 0 (event 1 7 9 3 0 0 1 4 1 0 0) ⟶ scored 0x3ff0_0000_0000_0000 0x0000_0000_0000_0000 1
    -- C204: exactly 10 percent: row 0 (severity 0.9, energy 0)
    ∷ score house 0 (event 1 7 9 3 80000 100 1 4 1 0 0) ⟶ scored 0x3fec_cccc_cccc_cccd 0x0000_0000_0000_0000 1
    -- C205: one unit above: row 1 (severity 0.9, energy 0)
    ∷ score house 0 (event 1 7 9 3 80001 100 1 4 1 0 0) ⟶ scored 0x3fec_cccc_cccc_cccd 0x0000_0000_0000_0000 9
    -- C206: exactly 40 percent: row 1 (severity 0.6, energy 0)
    ∷ score house 0 (event 1 7 9 3 1280000 400 1 4 1 0 0) ⟶ scored 0x3fe3_3333_3333_3333 0x0000_0000_0000_0000 9
    -- C207: one unit above: row 2 (severity 0.6, energy 0)
    ∷ score house 0 (event 1 7 9 3 1280001 400 1 4 1 0 0) ⟶ scored 0x3fe3_3333_3333_3333 0x0000_0000_0000_0000 17
    -- C208: exactly 70 percent: row 2 (severity 0.3, energy 0)
    ∷ score house 0 (event 1 7 9 3 3920000 700 1 4 1 0 0) ⟶ scored 0x3fd3_3333_3333_3333 0x0000_0000_0000_0000 17
    -- C209: one unit above: row 3 (severity 0.3, energy 0)
    ∷ score house 0 (event 1 7 9 3 3920001 700 1 4 1 0 0) ⟶ scored 0x3fd3_3333_3333_3333 0x0000_0000_0000_0000 25
    -- C210: exactly 85 percent: row 3 (severity 0.15, energy 0)
    ∷ score house 0 (event 1 7 9 3 5780000 850 1 4 1 0 0) ⟶ scored 0x3fc3_3333_3333_3333 0x0000_0000_0000_0000 25
    -- C211: one unit above: row 4 (severity 0.15, energy 0)
    ∷ score house 0 (event 1 7 9 3 5780001 850 1 4 1 0 0) ⟶ scored 0x3fc3_3333_3333_3333 0x0000_0000_0000_0000 33
    -- C212: one unit below the sag threshold: row 4 (severity 0.1, energy 0)
    ∷ score house 0 (event 1 7 9 3 6479999 900 1 4 1 0 0) ⟶ scored 0x3fb9_9999_9999_999a 0x0000_0000_0000_0000 33
    -- C213: 10 percent is an S of 100200.1, and the whole number below it in row 0 (severity 0.9, energy 0)
    ∷ score ten 0 (event 1 7 9 3 100200 100 1 4 1 0 0) ⟶ scored 0x3fec_cccc_cccc_cccd 0x0000_0000_0000_0000 1
    -- C214: the one above it in row 1 (severity 0.9, energy 0)
    ∷ score ten 0 (event 1 7 9 3 100201 100 1 4 1 0 0) ⟶ scored 0x3fec_cccc_cccc_cccd 0x0000_0000_0000_0000 9
    -- C215: 70 percent is an S of 4909804.9, and the whole number below it in row 2 (severity 0.3, energy 0)
    ∷ score ten 0 (event 1 7 9 3 4909804 700 1 4 1 0 0) ⟶ scored 0x3fd3_3333_3333_3333 0x0000_0000_0000_0000 17
    -- C216: the one above it in row 3 (severity 0.3, energy 0)
    ∷ score ten 0 (event 1 7 9 3 4909805 700 1 4 1 0 0) ⟶ scored 0x3fd3_3333_3333_3333 0x0000_0000_0000_0000 25
    ∷ []

-- ---- energies: whole milliseconds, rounded down

energies : List Case
energies =
    -- C217: no shortfall (severity 1, energy 0)
    score house 0 (event 1 7 10 3 2000000 500 0 4 0 0 0) ⟶ scored 0x3ff0_0000_0000_0000 0x0000_0000_0000_0000 17
    -- C218: one unit short of a millisecond: 0 (severity 1, energy 0)
    ∷ score house 0 (event 1 7 10 3 2000000 500 799999 4 799999 0 0)
    ⟶ scored 0x3ff0_0000_0000_0000 0x0000_0000_0000_0000 17
    -- C219: a millisecond (severity 1, energy 0.001)
    ∷ score house 0 (event 1 7 10 3 2000000 500 800000 4 800000 0 0)
    ⟶ scored 0x3ff0_0000_0000_0000 0x3f50_624d_d2f1_a9fc 17
    -- C220: one unit short of two: 1 (severity 1, energy 0.001)
    ∷ score house 0 (event 1 7 10 3 2000000 500 1599999 4 1599999 0 0)
    ⟶ scored 0x3ff0_0000_0000_0000 0x3f50_624d_d2f1_a9fc 17
    -- C221: the most that three half-cycles can lack (severity 1, energy 0.09)
    ∷ score house 0 (event 1 7 10 3 2000000 500 72000000 4 72000000 0 0)
    ⟶ scored 0x3ff0_0000_0000_0000 0x3fb7_0a3d_70a3_d70a 17
    -- C222: f 60: one unit short of a millisecond (severity 1, energy 0)
    ∷ score wide 0 (event 1 7 10 3 2000000 500 959999 4 959999 0 0)
    ⟶ scored 0x3ff0_0000_0000_0000 0x0000_0000_0000_0000 17
    -- C223: f 60: a millisecond (severity 1, energy 0.001)
    ∷ score wide 0 (event 1 7 10 3 2000000 500 960000 4 960000 0 0)
    ⟶ scored 0x3ff0_0000_0000_0000 0x3f50_624d_d2f1_a9fc 17
    -- C224: N 10, R 1001, f 60: 7 milliseconds are 8416808.4, the whole number below is 6 (severity 1.106, energy 0.006)
    ∷ score ten 0 (event 1 7 10 3 2000000 447 8416808 4 8416808 0 0)
    ⟶ scored 0x3ff1_b22d_0e56_0419 0x3f78_9374_bc6a_7efa 17
    -- C225: the one above is 7 (severity 1.106, energy 0.007)
    ∷ score ten 0 (event 1 7 10 3 2000000 447 8416809 4 8416809 0 0)
    ⟶ scored 0x3ff1_b22d_0e56_0419 0x3f7c_ac08_3126_e979 17
    -- C226: the longest and deepest sag of all: 3000 s (severity 10, energy 3000)
    ∷ score house 0 (event 1 0 100000 3 0 0 2400000000000 0 800000000000 800000000000 800000000000)
    ⟶ scored 0x4024_0000_0000_0000 0x40a7_7000_0000_0000 7
    ∷ []

-- ---- what is not an event, each condition broken by one; the order of reasons

not_events : List Case
not_events =
    -- C227: kind 0
    score house 0 (event 0 7 9 3 20000 50 0 0 0 0 0) ⟶ unscored 5 40
    -- C228: kind 1, and all else as it must be (severity 0.5, energy 0.015)
    ∷ score house 0 (event 1 30 32 3 2000000 500 12000000 4 7000000 4000000 1000000)
    ⟶ scored 0x3fe0_0000_0000_0000 0x3f8e_b851_eb85_1eb8 17
    -- C229: kind 2: not a sag
    ∷ score house 0 (event 2 7 9 3 20000 50 0 0 0 0 0) ⟶ unscored 4 40
    -- C230: kind 3: not a sag
    ∷ score house 0 (event 3 7 9 3 9680001 1100 0 0 0 0 0) ⟶ unscored 4 40
    -- C231: kind 4
    ∷ score house 0 (event 4 7 9 3 9680001 1100 0 0 0 0 0) ⟶ unscored 5 40
    -- C232: start one below end (severity 0.5, energy 0.015)
    ∷ score house 0 (event 1 31 32 3 2000000 500 12000000 4 7000000 4000000 1000000)
    ⟶ scored 0x3fe0_0000_0000_0000 0x3f8e_b851_eb85_1eb8 16
    -- C233: start at end
    ∷ score house 0 (event 1 32 32 3 2000000 500 0 4 0 0 0) ⟶ unscored 5 40
    -- C234: start above end
    ∷ score house 0 (event 1 33 32 3 2000000 500 0 4 0 0 0) ⟶ unscored 5 40
    -- C235: start at end, of an interruption
    ∷ score house 0 (event 2 9 9 3 20000 50 0 0 0 0 0) ⟶ unscored 5 40
    -- C236: end 100,000 (severity 0.5, energy 0.015)
    ∷ score house 0 (event 1 99998 100000 3 2000000 500 12000000 4 7000000 4000000 1000000)
    ⟶ scored 0x3fe0_0000_0000_0000 0x3f8e_b851_eb85_1eb8 17
    -- C237: end 100,001
    ∷ score house 0 (event 1 99999 100001 3 2000000 500 12000000 4 7000000 4000000 1000000) ⟶ unscored 5 40
    -- C238: seen 4
    ∷ score house 0 (event 1 30 32 4 2000000 500 12000000 4 7000000 4000000 1000000) ⟶ unscored 5 40
    -- C239: retained one more than that of the extreme
    ∷ score house 0 (event 1 30 32 3 2000000 501 12000000 4 7000000 4000000 1000000) ⟶ unscored 5 40
    -- C240: one less
    ∷ score house 0 (event 1 30 32 3 2000000 499 12000000 4 7000000 4000000 1000000) ⟶ unscored 5 40
    -- C241: the smallest S with retained 500 (severity 0.5, energy 0.015)
    ∷ score house 0 (event 1 30 32 3 1996002 500 12000000 4 7000000 4000000 1000000)
    ⟶ scored 0x3fe0_0000_0000_0000 0x3f8e_b851_eb85_1eb8 17
    -- C242: one unit of S less
    ∷ score house 0 (event 1 30 32 3 1996001 500 12000000 4 7000000 4000000 1000000) ⟶ unscored 5 40
    -- C243: the largest S with retained 500 (severity 0.5, energy 0.015)
    ∷ score house 0 (event 1 30 32 3 2004001 500 12000000 4 7000000 4000000 1000000)
    ⟶ scored 0x3fe0_0000_0000_0000 0x3f8e_b851_eb85_1eb8 17
    -- C244: one unit more
    ∷ score house 0 (event 1 30 32 3 2004002 500 12000000 4 7000000 4000000 1000000) ⟶ unscored 5 40
    -- C245: a sag's extreme one unit below the threshold (severity 0.1, energy 0.015)
    ∷ score house 0 (event 1 30 32 3 6479999 900 12000000 4 7000000 4000000 1000000)
    ⟶ scored 0x3fb9_9999_9999_999a 0x3f8e_b851_eb85_1eb8 33
    -- C246: on it
    ∷ score house 0 (event 1 30 32 3 6480000 900 12000000 4 7000000 4000000 1000000) ⟶ unscored 5 40
    -- C247: a sag's shortfall 3 x N x R x R x h (severity 0.5, energy 0.06)
    ∷ score house 0 (event 1 30 32 3 2000000 500 48000000 4 16000000 16000000 16000000)
    ⟶ scored 0x3fe0_0000_0000_0000 0x3fae_b851_eb85_1eb8 17
    -- C248: one more
    ∷ score house 0 (event 1 30 32 3 2000000 500 48000001 4 16000000 16000000 16000001) ⟶ unscored 5 40
    -- C249: type 6 (severity 0.5, energy 0.015)
    ∷ score house 0 (event 1 30 32 3 2000000 500 12000000 6 7000000 4000000 1000000)
    ⟶ scored 0x3fe0_0000_0000_0000 0x3f8e_b851_eb85_1eb8 17
    -- C250: type 7
    ∷ score house 0 (event 1 30 32 3 2000000 500 12000000 7 7000000 4000000 1000000) ⟶ unscored 5 40
    -- C251: a swell with a shortfall, a's
    ∷ score house 0 (event 3 7 9 3 9680001 1100 1 0 1 0 0) ⟶ unscored 5 40
    -- C252: a swell with a type
    ∷ score house 0 (event 3 7 9 3 9680001 1100 0 1 0 0 0) ⟶ unscored 5 40
    -- C253: an interruption with a shortfall, c's
    ∷ score house 0 (event 2 7 9 3 20000 50 1 0 0 0 1) ⟶ unscored 5 40
    -- C254: an interruption with a type
    ∷ score house 0 (event 2 7 9 3 20000 50 0 1 0 0 0) ⟶ unscored 5 40
    -- C255: extreme N x 10,000,000,000
    ∷ score high 0 (event 3 7 9 3 80000000000 2000 0 0 0 0 0) ⟶ unscored 4 40
    -- C256: one more
    ∷ score high 0 (event 3 7 9 3 80000000001 2000 0 0 0 0 0) ⟶ unscored 5 40
    -- C257: only the start unseen
    ∷ score house 0 (event 1 30 32 2 2000000 500 12000000 4 7000000 4000000 1000000) ⟶ unscored 1 40
    -- C258: only the end unseen
    ∷ score house 0 (event 1 30 32 1 2000000 500 12000000 4 7000000 4000000 1000000) ⟶ unscored 2 40
    -- C259: both unseen
    ∷ score house 0 (event 1 30 32 0 2000000 500 12000000 4 7000000 4000000 1000000) ⟶ unscored 3 40
    -- C260: a swell with both unseen: not a sag
    ∷ score house 0 (event 3 7 9 0 9680001 1100 0 0 0 0 0) ⟶ unscored 4 40
    -- C261: an interruption with its end unseen: not a sag
    ∷ score house 0 (event 2 7 9 1 20000 50 0 0 0 0 0) ⟶ unscored 4 40
    -- C262: a swell with a type and both unseen: not an event
    ∷ score house 0 (event 3 7 9 0 9680001 1100 0 1 0 0 0) ⟶ unscored 5 40
    -- C263: a sag of type 7, its start unseen: not an event
    ∷ score house 0 (event 1 30 32 2 2000000 500 12000000 7 7000000 4000000 1000000) ⟶ unscored 5 40
    -- C264: N 9 and kind 0: settings bad
    ∷ score (settings 9 1000 50 90 10 110 2) 0 (event 0 30 32 3 2000000 500 12000000 4 7000000 4000000 1000000)
    ⟶ unscored 6 40
    -- C265: N 9 and a swell: settings bad
    ∷ score (settings 9 1000 50 90 10 110 2) 0 (event 3 7 9 0 9680001 1100 0 0 0 0 0) ⟶ unscored 6 40
    -- C266: N 9 and a sag with both unseen: settings bad
    ∷ score (settings 9 1000 50 90 10 110 2) 0 (event 1 30 32 0 2000000 500 12000000 4 7000000 4000000 1000000)
    ⟶ unscored 6 40
    ∷ []

-- ---- events whose three parts make up the shortfall, and such whose parts don't

parts_of_events : List Case
parts_of_events =
    -- C267: any three parts that make it up will do: all of it c's (severity 0.5, energy 0.015)
    score house 0 (event 1 30 32 3 2000000 500 12000000 4 0 0 12000000)
    ⟶ scored 0x3fe0_0000_0000_0000 0x3f8e_b851_eb85_1eb8 17
    -- C268: a sag's part a one too large
    ∷ score house 0 (event 1 30 32 3 2000000 500 12000000 4 7000001 4000000 1000000) ⟶ unscored 5 40
    -- C269: part b one too small
    ∷ score house 0 (event 1 30 32 3 2000000 500 12000000 4 7000000 3999999 1000000) ⟶ unscored 5 40
    -- C270: part c one too large and both ends unseen: 5 before 3
    ∷ score house 0 (event 1 30 32 0 2000000 500 12000000 4 7000000 4000000 1000001) ⟶ unscored 5 40
    -- C271: an interruption with a part for a and no shortfall: 5 before 4
    ∷ score house 0 (event 2 7 9 3 20000 50 0 0 1 0 0) ⟶ unscored 5 40
    -- C272: for b
    ∷ score house 0 (event 2 7 9 3 20000 50 0 0 0 1 0) ⟶ unscored 5 40
    -- C273: for c
    ∷ score house 0 (event 2 7 9 3 20000 50 0 0 0 0 1) ⟶ unscored 5 40
    -- C274: a swell with a part for a
    ∷ score house 0 (event 3 7 9 3 9680001 1100 0 0 1 0 0) ⟶ unscored 5 40
    -- C275: for b
    ∷ score house 0 (event 3 7 9 3 9680001 1100 0 0 0 1 0) ⟶ unscored 5 40
    -- C276: for c
    ∷ score house 0 (event 3 7 9 3 9680001 1100 0 0 0 0 1) ⟶ unscored 5 40
    -- C277: a sag's parts that only make up the shortfall if the sum wraps round at 2^64
    ∷ score house 0 (event 1 30 32 3 2000000 500 12000000 4 9223372036854775808 9223372036854775808 12000000)
    ⟶ unscored 5 40
    -- C278: a swell's
    ∷ score house 0 (event 3 7 9 3 9680001 1100 0 0 9223372036854775808 9223372036854775808 0) ⟶ unscored 5 40
    ∷ []

-- ---- fresh tables; where a setting is bad, zeros

making : List Case
making =
    -- C279: each setting at the lower end of its range: a fresh table
    fresh (settings 8 1000 50 50 1 105 0) 0 ⟶ taken (site (blank (settings 8 1000 50 50 1 105 0) 0))
    -- C280: each at the upper end
    ∷ fresh (settings 512 50000 60 95 20 150 5) 0 ⟶ taken (site (blank (settings 512 50000 60 95 20 150 5) 0))
    -- C281: within
    ∷ fresh (settings 10 1000 50 51 10 110 2) 0 ⟶ taken (site (blank (settings 10 1000 50 51 10 110 2) 0))
    -- C282: N 7
    ∷ fresh (settings 7 1000 50 50 1 105 0) 0 ⟶ refused 1 1 (site (blank (settings 0 0 0 0 0 0 0) 0))
    -- C283: N 6, even
    ∷ fresh (settings 6 1000 50 50 1 105 0) 0 ⟶ refused 1 1 (site (blank (settings 0 0 0 0 0 0 0) 0))
    -- C284: N 9, odd
    ∷ fresh (settings 9 1000 50 90 10 110 2) 0 ⟶ refused 1 1 (site (blank (settings 0 0 0 0 0 0 0) 0))
    -- C285: N 511, odd
    ∷ fresh (settings 511 1000 50 90 10 110 2) 0 ⟶ refused 1 1 (site (blank (settings 0 0 0 0 0 0 0) 0))
    -- C286: N 513
    ∷ fresh (settings 513 50000 60 95 20 150 5) 0 ⟶ refused 1 1 (site (blank (settings 0 0 0 0 0 0 0) 0))
    -- C287: N 514, even
    ∷ fresh (settings 514 50000 60 95 20 150 5) 0 ⟶ refused 1 1 (site (blank (settings 0 0 0 0 0 0 0) 0))
    -- C288: N 0
    ∷ fresh (settings 0 1000 50 90 10 110 2) 0 ⟶ refused 1 1 (site (blank (settings 0 0 0 0 0 0 0) 0))
    -- C289: R 999
    ∷ fresh (settings 8 999 50 50 1 105 0) 0 ⟶ refused 1 2 (site (blank (settings 0 0 0 0 0 0 0) 0))
    -- C290: R 50,001
    ∷ fresh (settings 512 50001 60 95 20 150 5) 0 ⟶ refused 1 2 (site (blank (settings 0 0 0 0 0 0 0) 0))
    -- C291: f 49
    ∷ fresh (settings 8 1000 49 90 10 110 2) 0 ⟶ refused 1 3 (site (blank (settings 0 0 0 0 0 0 0) 0))
    -- C292: f 51
    ∷ fresh (settings 8 1000 51 90 10 110 2) 0 ⟶ refused 1 3 (site (blank (settings 0 0 0 0 0 0 0) 0))
    -- C293: f 55
    ∷ fresh (settings 8 1000 55 90 10 110 2) 0 ⟶ refused 1 3 (site (blank (settings 0 0 0 0 0 0 0) 0))
    -- C294: f 59
    ∷ fresh (settings 8 1000 59 90 10 110 2) 0 ⟶ refused 1 3 (site (blank (settings 0 0 0 0 0 0 0) 0))
    -- C295: f 61
    ∷ fresh (settings 8 1000 61 90 10 110 2) 0 ⟶ refused 1 3 (site (blank (settings 0 0 0 0 0 0 0) 0))
    -- C296: sag threshold 49
    ∷ fresh (settings 8 1000 50 49 1 105 0) 0 ⟶ refused 1 4 (site (blank (settings 0 0 0 0 0 0 0) 0))
    -- C297: sag threshold 96
    ∷ fresh (settings 512 50000 60 96 20 150 5) 0 ⟶ refused 1 4 (site (blank (settings 0 0 0 0 0 0 0) 0))
    -- C298: interruption threshold 0
    ∷ fresh (settings 8 1000 50 50 0 105 0) 0 ⟶ refused 1 5 (site (blank (settings 0 0 0 0 0 0 0) 0))
    -- C299: interruption threshold 21
    ∷ fresh (settings 512 50000 60 95 21 150 5) 0 ⟶ refused 1 5 (site (blank (settings 0 0 0 0 0 0 0) 0))
    -- C300: swell threshold 104
    ∷ fresh (settings 8 1000 50 50 1 104 0) 0 ⟶ refused 1 6 (site (blank (settings 0 0 0 0 0 0 0) 0))
    -- C301: swell threshold 151
    ∷ fresh (settings 512 50000 60 95 20 151 5) 0 ⟶ refused 1 6 (site (blank (settings 0 0 0 0 0 0 0) 0))
    -- C302: hysteresis 6
    ∷ fresh (settings 512 50000 60 95 20 150 6) 0 ⟶ refused 1 7 (site (blank (settings 0 0 0 0 0 0 0) 0))
    -- C303: N and R bad: the first is told
    ∷ fresh (settings 513 999 50 90 10 110 2) 0 ⟶ refused 1 1 (site (blank (settings 0 0 0 0 0 0 0) 0))
    -- C304: R and f bad
    ∷ fresh (settings 8 50001 55 90 10 110 2) 0 ⟶ refused 1 2 (site (blank (settings 0 0 0 0 0 0 0) 0))
    -- C305: R and hysteresis bad
    ∷ fresh (settings 8 999 50 90 10 110 6) 0 ⟶ refused 1 2 (site (blank (settings 0 0 0 0 0 0 0) 0))
    -- C306: f and sag threshold bad
    ∷ fresh (settings 8 1000 55 96 10 110 2) 0 ⟶ refused 1 3 (site (blank (settings 0 0 0 0 0 0 0) 0))
    -- C307: sag and interruption threshold bad
    ∷ fresh (settings 8 1000 50 49 21 110 2) 0 ⟶ refused 1 4 (site (blank (settings 0 0 0 0 0 0 0) 0))
    -- C308: interruption and swell threshold bad
    ∷ fresh (settings 8 1000 50 90 0 104 2) 0 ⟶ refused 1 5 (site (blank (settings 0 0 0 0 0 0 0) 0))
    -- C309: swell threshold and hysteresis bad
    ∷ fresh (settings 8 1000 50 90 10 151 6) 0 ⟶ refused 1 6 (site (blank (settings 0 0 0 0 0 0 0) 0))
    -- C310: all bad
    ∷ fresh (settings 0 0 0 0 0 0 9) 0 ⟶ refused 1 1 (site (blank (settings 0 0 0 0 0 0 0) 0))
    ∷ []

-- ---- sound and unsound tables, each condition broken by one

sound : List Case
sound =
    -- C311: each number as large as it may be beside the total: sound
    add (table house 0 2 1 1 0 (put 17 1 none) 1 2 2 2 48000000 48000000 0 0) (even 2 1000)
    ⟶ taken (site (table house 0 3 2 1 0 (put 17 1 none) 1 2 2 2 48000000 48000000 0 0))
    -- C312: two interruptions beside one sag: sound
    ∷ add (table house 0 2 1 1 0 (put 17 1 none) 0 1 2 2 48000000 48000000 0 0) (even 2 1000)
    ⟶ taken (site (table house 0 3 2 1 0 (put 17 1 none) 0 1 2 2 48000000 48000000 0 0))
    -- C313: and beside none: sound, since no condition speaks of both
    ∷ add (table house 0 2 1 1 0 none 0 0 2 2 48000000 48000000 0 0) (even 2 1000)
    ⟶ taken (site (table house 0 3 2 1 0 none 0 0 2 2 48000000 48000000 0 0))
    -- C314: its settings bad: f 51
    ∷ add (table (settings 8 1000 51 90 10 110 2) 0 2 1 1 0 (put 17 1 none) 1 2 2 2 48000000 48000000 0 0) (even 2 1000)
    ⟶ refused 9 0 (site (table (settings 8 1000 51 90 10 110 2) 0 2 1 1 0 (put 17 1 none) 1 2 2 2 48000000 48000000 0 0))
    -- C315: a healthy half-cycle too few
    ∷ add (table house 0 2 0 1 0 (put 17 1 none) 1 2 2 2 48000000 48000000 0 0) (even 2 1000)
    ⟶ refused 9 0 (site (table house 0 2 0 1 0 (put 17 1 none) 1 2 2 2 48000000 48000000 0 0))
    -- C316: a disturbed half-cycle too many
    ∷ add (table house 0 2 1 2 0 (put 17 1 none) 1 2 2 2 48000000 48000000 0 0) (even 2 1000)
    ⟶ refused 9 0 (site (table house 0 2 1 2 0 (put 17 1 none) 1 2 2 2 48000000 48000000 0 0))
    -- C317: an unknown half-cycle too many
    ∷ add (table house 0 2 1 1 1 (put 17 1 none) 1 2 2 2 48000000 48000000 0 0) (even 2 1000)
    ⟶ refused 9 0 (site (table house 0 2 1 1 1 (put 17 1 none) 1 2 2 2 48000000 48000000 0 0))
    -- C318: a total one above its parts
    ∷ add (table house 0 3 1 1 0 (put 17 1 none) 1 2 2 2 48000000 48000000 0 0) (even 2 1000)
    ⟶ refused 9 0 (site (table house 0 3 1 1 0 (put 17 1 none) 1 2 2 2 48000000 48000000 0 0))
    -- C319: a sag too many in cell 0
    ∷ add (table house 0 2 1 1 0 (put 17 1 (put 0 1 none)) 1 2 2 2 48000000 48000000 0 0) (even 2 1000)
    ⟶ refused 9 0 (site (table house 0 2 1 1 0 (put 17 1 (put 0 1 none)) 1 2 2 2 48000000 48000000 0 0))
    -- C320: a sag too many in cell 39
    ∷ add (table house 0 2 1 1 0 (put 39 1 (put 17 1 none)) 1 2 2 2 48000000 48000000 0 0) (even 2 1000)
    ⟶ refused 9 0 (site (table house 0 2 1 1 0 (put 39 1 (put 17 1 none)) 1 2 2 2 48000000 48000000 0 0))
    -- C321: an unplaced sag too few
    ∷ add (table house 0 2 1 1 0 (put 17 1 none) 0 2 2 2 48000000 48000000 0 0) (even 2 1000)
    ⟶ refused 9 0 (site (table house 0 2 1 1 0 (put 17 1 none) 0 2 2 2 48000000 48000000 0 0))
    -- C322: sags one below cells and unplaced
    ∷ add (table house 0 2 1 1 0 (put 17 1 none) 1 1 2 2 48000000 48000000 0 0) (even 2 1000)
    ⟶ refused 9 0 (site (table house 0 2 1 1 0 (put 17 1 none) 1 1 2 2 48000000 48000000 0 0))
    -- C323: sags one above the total
    ∷ add (table house 0 2 1 1 0 (put 17 1 none) 2 3 2 2 48000000 48000000 0 0) (even 2 1000)
    ⟶ refused 9 0 (site (table house 0 2 1 1 0 (put 17 1 none) 2 3 2 2 48000000 48000000 0 0))
    -- C324: interruptions one above the total
    ∷ add (table house 0 2 1 1 0 (put 17 1 none) 1 2 3 2 48000000 48000000 0 0) (even 2 1000)
    ⟶ refused 9 0 (site (table house 0 2 1 1 0 (put 17 1 none) 1 2 3 2 48000000 48000000 0 0))
    -- C325: swells one above the total
    ∷ add (table house 0 2 1 1 0 (put 17 1 none) 1 2 2 3 48000000 48000000 0 0) (even 2 1000)
    ⟶ refused 9 0 (site (table house 0 2 1 1 0 (put 17 1 none) 1 2 2 3 48000000 48000000 0 0))
    -- C326: shortfall one above 3 x N x R x R x total
    ∷ add (table house 0 2 1 1 0 (put 17 1 none) 1 2 2 2 48000001 48000000 1 0) (even 2 1000)
    ⟶ refused 9 0 (site (table house 0 2 1 1 0 (put 17 1 none) 1 2 2 2 48000001 48000000 1 0))
    -- C327: N 10, R 1001: shortfall on its bound
    ∷ add (table ten 0 2 1 1 0 (put 17 1 none) 1 2 2 2 60120060 60120060 0 0) (alike 10 1001 1001 1001)
    ⟶ taken (site (table ten 0 3 2 1 0 (put 17 1 none) 1 2 2 2 60120060 60120060 0 0))
    -- C328: one above
    ∷ add (table ten 0 2 1 1 0 (put 17 1 none) 1 2 2 2 60120061 20040020 20040020 20040021) (alike 10 1001 1001 1001)
    ⟶ refused 9 0 (site (table ten 0 2 1 1 0 (put 17 1 none) 1 2 2 2 60120061 20040020 20040020 20040021))
    -- C329: room for one half-cycle more: filled to 4,000,000
    ∷ add (healthy_only 3999999) (even 2 1000) ⟶ taken (site (healthy_only 4000000))
    -- C330: a total of 4,000,000 is sound, and full
    ∷ add (healthy_only 4000000) (even 2 1000) ⟶ refused 8 0 (site (healthy_only 4000000))
    -- C331: a total of 4,000,001 is unsound
    ∷ add (healthy_only 4000001) (even 2 1000) ⟶ refused 9 0 (site (healthy_only 4000001))
    -- C332: a table of zeros is unsound
    ∷ add (blank (settings 0 0 0 0 0 0 0) 0) (even 2 1000) ⟶ refused 9 0 (site (blank (settings 0 0 0 0 0 0 0) 0))
    ∷ []

-- ---- what a recording adds to a table, and when it is full

growing : List Case
growing =
    -- C333: each number of the table its own, and something of everything added
    add various (set (even 1 500 ++ even 2 1000 ++ even 2 0 ++ even 2 1000 ++ uneven 1 1000 1300 1000 ++ even 3 1000) 110 lost)
    ⟶ taken (site (table house 0 10022 5005 3007 2010 (put 1 103 (rising 40 101)) 58 4879 612 714 58234567 19123456 19345678 19765433))
    -- C334: and a calm recording: only total and healthy grow
    ∷ add various (even 4 1000)
    ⟶ taken (site (table house 0 10015 5006 3001 2008 (rising 40 101) 57 4877 611 713 1234567 123456 345678 765433))
    -- C335: two sags in two cells, of different rows and columns
    ∷ add (blank house 0) (even 2 1000 ++ uneven 2 1000 899 1000 ++ even 1 1000 ++ uneven 3 1000 1000 100 ++ even 2 1000)
    ⟶ taken (site (table house 0 9 4 5 0 (put 32 1 (put 1 1 none)) 0 2 0 0 25294392 0 1534392 23760000))
    -- C336: f 60, hysteresis 5: a sag with its cell, and one whose end is unseen
    ∷ add (blank wide 0) (even 2 1000 ++ uneven 1 300 450 600 ++ even 2 1000 ++ uneven 1 300 450 600 ++ even 1 1000)
    ⟶ taken (site (table wide 0 6 2 4 0 (put 25 1 none) 1 2 0 0 27320000 14560000 12760000 0))
    -- C337: N 10, R 1001
    ∷ add (blank ten 0) (alike 10 1001 1001 1001 ++ alike 5 300 450 600 ++ alike 10 1001 1001 1001 ++ alike 5 300 450 600
    ++ alike 5 1001 1001 1001)
    ⟶ taken (site (table ten 0 6 2 4 0 (put 25 1 none) 1 2 0 0 47070060 18240020 15990020 12840020))
    -- C338: sines
    ∷ add (blank house 0) (sines 1000 1000 1000 ++ sines 500 800 1100 ++ sines 1000 1000 1000)
    ⟶ taken (site (table house 0 5 2 3 0 (put 17 1 none) 0 1 0 0 14887106 12001812 2885294 0))
    -- C339: ten half-cycles fill the table exactly
    ∷ add (healthy_only 3999990) (set (even 1 500 ++ even 2 1000 ++ even 2 0 ++ even 2 1000 ++ uneven 1 1000 1300 1000
    ++ even 3 1000) 110 lost)
    ⟶ taken (site (table house 0 4000000 3999992 6 2 (put 1 1 none) 1 2 1 1 57000000 19000000 19000000 19000000))
    -- C340: there is room for nine, not for ten
    ∷ add (healthy_only 3999991) (set (even 1 500 ++ even 2 1000 ++ even 2 0 ++ even 2 1000 ++ uneven 1 1000 1300 1000
    ++ even 3 1000) 110 lost)
    ⟶ refused 8 9 (site (healthy_only 3999991))
    ∷ []

-- ---- tables whose three sums make up the shortfall, and such whose sums don't; a sound one is refused for its samples

parts_of_tables : List Case
parts_of_tables =
    -- C341: any three sums that make it up will do: equal ones
    add (table house 0 2 1 1 0 (put 17 1 none) 1 2 2 2 48000000 16000000 16000000 16000000) []
    ⟶ refused 3 0 (site (table house 0 2 1 1 0 (put 17 1 none) 1 2 2 2 48000000 16000000 16000000 16000000))
    -- C342: a's sum one too small: unsound
    ∷ add (table house 0 2 1 1 0 (put 17 1 none) 1 2 2 2 48000000 47999999 0 0) []
    ⟶ refused 9 0 (site (table house 0 2 1 1 0 (put 17 1 none) 1 2 2 2 48000000 47999999 0 0))
    -- C343: b's one too large
    ∷ add (table house 0 2 1 1 0 (put 17 1 none) 1 2 2 2 48000000 48000000 1 0) []
    ⟶ refused 9 0 (site (table house 0 2 1 1 0 (put 17 1 none) 1 2 2 2 48000000 48000000 1 0))
    -- C344: c's one too large
    ∷ add (table house 0 2 1 1 0 (put 17 1 none) 1 2 2 2 48000000 48000000 0 1) []
    ⟶ refused 9 0 (site (table house 0 2 1 1 0 (put 17 1 none) 1 2 2 2 48000000 48000000 0 1))
    -- C345: sums that only make up the shortfall if their sum wraps round at 2^64
    ∷ add (table house 0 2 1 1 0 (put 17 1 none) 1 2 2 2 48000000 9223372036854775808 9223372036854775808 48000000) []
    ⟶ refused 9 0 (site (table house 0 2 1 1 0 (put 17 1 none) 1 2 2 2 48000000 9223372036854775808 9223372036854775808 48000000))
    -- C346: N 512, R 50000, a shortfall of 15 x 10^18: sound
    ∷ add (vast 5000000000000000000 5000000000000000000 5000000000000000000) []
    ⟶ refused 3 0 (site (vast 5000000000000000000 5000000000000000000 5000000000000000000))
    -- C347: each below that, together 2^64 above it: unsound
    ∷ add (vast 12000000000000000000 12000000000000000000 9446744073709551616) []
    ⟶ refused 9 0 (site (vast 12000000000000000000 12000000000000000000 9446744073709551616))
    ∷ []

-- ---- what each channel lacks, straight from the samples, in the list and in the table

parts_of_recordings : List Case
parts_of_recordings =
    -- C348: a alone is low, K12: three half-cycles of 3, 6 and 3 million
    straight house (even 2 1000 ++ uneven 2 500 1000 1000 ++ even 2 1000) ⟶ sums (12000000 ∷ 0 ∷ 0 ∷ [])
    -- C349: b alone
    ∷ straight house (even 2 1000 ++ uneven 2 1000 600 1000 ++ even 2 1000) ⟶ sums (0 ∷ 10240000 ∷ 0 ∷ [])
    -- C350: c alone
    ∷ straight house (even 2 1000 ++ uneven 2 1000 1000 700 ++ even 2 1000) ⟶ sums (0 ∷ 0 ∷ 8160000 ∷ [])
    -- C351: b and c, each with what it lacks itself
    ∷ straight house (even 2 1000 ++ uneven 2 1000 600 300 ++ even 2 1000) ⟶ sums (0 ∷ 10240000 ∷ 14560000 ∷ [])
    -- C352: the same, in a table with a number of its own in each place
    ∷ add various (even 2 1000 ++ uneven 2 1000 600 300 ++ even 2 1000)
    ⟶ taken (site (table house 0 10017 5005 3004 2008 (put 9 111 (rising 40 101)) 57 4878 611 713 26034567 123456 10585678 15325433))
    -- C353: a and c in a sag, b in a swell: nothing is taken off for b, and the swell has none
    ∷ list house 23 (even 2 1000 ++ uneven 2 700 1300 500 ++ even 2 1000)
    ⟶ events 2 (run (words 1 1 4 3 2000000 500 20160000 5 8160000 0 12000000 ++ words 3 1 4 3 13520000 1300 0 0 0 0 0 ++ nines 1))
    -- C354: the same, straight
    ∷ straight house (even 2 1000 ++ uneven 2 700 1300 500 ++ even 2 1000) ⟶ sums (8160000 ∷ 0 ∷ 12000000 ∷ [])
    ∷ []

-- ---- set 1: columns on both sides of every border

other_columns : List Case
other_columns =
    -- C355: f 50, h 1: below 2, column 0 (severity 0.8, energy 0.015)
    score house 1 (event 1 7 8 3 320000 200 12000000 4 12000000 0 0)
    ⟶ scored 0x3fe9_9999_9999_999a 0x3f8e_b851_eb85_1eb8 5
    -- C356: f 50, h 2: column 1 (severity 0.8, energy 0.015)
    ∷ score house 1 (event 1 7 9 3 320000 200 12000000 4 12000000 0 0)
    ⟶ scored 0x3fe9_9999_9999_999a 0x3f8e_b851_eb85_1eb8 6
    -- C357: f 50, h 10: 5h = f is no border here: column 1 (severity 1.6, energy 0.015)
    ∷ score house 1 (event 1 7 17 3 320000 200 12000000 4 12000000 0 0)
    ⟶ scored 0x3ff9_9999_9999_999a 0x3f8e_b851_eb85_1eb8 6
    -- C358: f 50, h 19: 5h below 2f, column 1 (severity 1.6, energy 0.015)
    ∷ score house 1 (event 1 7 26 3 320000 200 12000000 4 12000000 0 0)
    ⟶ scored 0x3ff9_9999_9999_999a 0x3f8e_b851_eb85_1eb8 6
    -- C359: f 50, h 20: 5h = 2f, column 2 (severity 1.6, energy 0.015)
    ∷ score house 1 (event 1 7 27 3 320000 200 12000000 4 12000000 0 0)
    ⟶ scored 0x3ff9_9999_9999_999a 0x3f8e_b851_eb85_1eb8 7
    -- C360: f 50, h 49: below f, column 2 (severity 2.6666666666666665, energy 0.015)
    ∷ score house 1 (event 1 7 56 3 320000 200 12000000 4 12000000 0 0)
    ⟶ scored 0x4005_5555_5555_5555 0x3f8e_b851_eb85_1eb8 7
    -- C361: f 50, h 50: h = f, column 3 (severity 2.6666666666666665, energy 0.015)
    ∷ score house 1 (event 1 7 57 3 320000 200 12000000 4 12000000 0 0)
    ⟶ scored 0x4005_5555_5555_5555 0x3f8e_b851_eb85_1eb8 8
    -- C362: f 50, h 100: h = 2f is no border here: column 3 (severity 4, energy 0.015)
    ∷ score house 1 (event 1 7 107 3 320000 200 12000000 4 12000000 0 0)
    ⟶ scored 0x4010_0000_0000_0000 0x3f8e_b851_eb85_1eb8 8
    -- C363: f 50, h 499: below 10f, column 3 (severity 4, energy 0.015)
    ∷ score house 1 (event 1 7 506 3 320000 200 12000000 4 12000000 0 0)
    ⟶ scored 0x4010_0000_0000_0000 0x3f8e_b851_eb85_1eb8 8
    -- C364: f 50, h 500: h = 10f, column 4 (severity 4, energy 0.015)
    ∷ score house 1 (event 1 7 507 3 320000 200 12000000 4 12000000 0 0)
    ⟶ scored 0x4010_0000_0000_0000 0x3f8e_b851_eb85_1eb8 9
    -- C365: f 50, h 6000: h = 120f is no border here: column 4 (severity 8, energy 0.015)
    ∷ score house 1 (event 1 7 6007 3 320000 200 12000000 4 12000000 0 0)
    ⟶ scored 0x4020_0000_0000_0000 0x3f8e_b851_eb85_1eb8 9
    -- C366: f 60, h 1: below 2, column 0 (severity 0.8, energy 0.012)
    ∷ score wide 1 (event 1 7 8 3 320000 200 12000000 4 12000000 0 0)
    ⟶ scored 0x3fe9_9999_9999_999a 0x3f88_9374_bc6a_7efa 5
    -- C367: f 60, h 2: column 1 (severity 0.8, energy 0.012)
    ∷ score wide 1 (event 1 7 9 3 320000 200 12000000 4 12000000 0 0)
    ⟶ scored 0x3fe9_9999_9999_999a 0x3f88_9374_bc6a_7efa 6
    -- C368: f 60, h 12: 5h = f is no border here: column 1 (severity 1.6, energy 0.012)
    ∷ score wide 1 (event 1 7 19 3 320000 200 12000000 4 12000000 0 0)
    ⟶ scored 0x3ff9_9999_9999_999a 0x3f88_9374_bc6a_7efa 6
    -- C369: f 60, h 23: 5h below 2f, column 1 (severity 1.6, energy 0.012)
    ∷ score wide 1 (event 1 7 30 3 320000 200 12000000 4 12000000 0 0)
    ⟶ scored 0x3ff9_9999_9999_999a 0x3f88_9374_bc6a_7efa 6
    -- C370: f 60, h 24: 5h = 2f, column 2 (severity 1.6, energy 0.012)
    ∷ score wide 1 (event 1 7 31 3 320000 200 12000000 4 12000000 0 0)
    ⟶ scored 0x3ff9_9999_9999_999a 0x3f88_9374_bc6a_7efa 7
    -- C371: f 60, h 59: below f, column 2 (severity 2.6666666666666665, energy 0.012)
    ∷ score wide 1 (event 1 7 66 3 320000 200 12000000 4 12000000 0 0)
    ⟶ scored 0x4005_5555_5555_5555 0x3f88_9374_bc6a_7efa 7
    -- C372: f 60, h 60: h = f, column 3 (severity 2.6666666666666665, energy 0.012)
    ∷ score wide 1 (event 1 7 67 3 320000 200 12000000 4 12000000 0 0)
    ⟶ scored 0x4005_5555_5555_5555 0x3f88_9374_bc6a_7efa 8
    -- C373: f 60, h 120: h = 2f is no border here: column 3 (severity 4, energy 0.012)
    ∷ score wide 1 (event 1 7 127 3 320000 200 12000000 4 12000000 0 0)
    ⟶ scored 0x4010_0000_0000_0000 0x3f88_9374_bc6a_7efa 8
    -- C374: f 60, h 599: below 10f, column 3 (severity 4, energy 0.012)
    ∷ score wide 1 (event 1 7 606 3 320000 200 12000000 4 12000000 0 0)
    ⟶ scored 0x4010_0000_0000_0000 0x3f88_9374_bc6a_7efa 8
    -- C375: f 60, h 600: h = 10f, column 4 (severity 4, energy 0.012)
    ∷ score wide 1 (event 1 7 607 3 320000 200 12000000 4 12000000 0 0)
    ⟶ scored 0x4010_0000_0000_0000 0x3f88_9374_bc6a_7efa 9
    -- C376: f 60, h 7200: h = 120f is no border here: column 4 (severity 8, energy 0.012)
    ∷ score wide 1 (event 1 7 7207 3 320000 200 12000000 4 12000000 0 0)
    ⟶ scored 0x4020_0000_0000_0000 0x3f88_9374_bc6a_7efa 9
    ∷ []

-- ---- set 1: rows on both sides of every border

other_rows : List Case
other_rows =
    -- C377: nothing left: row 0 (severity 1, energy 0)
    score house 1 (event 1 7 9 3 0 0 1 4 1 0 0) ⟶ scored 0x3ff0_0000_0000_0000 0x0000_0000_0000_0000 1
    -- C378: exactly 10 percent: row 0 (severity 0.9, energy 0)
    ∷ score house 1 (event 1 7 9 3 80000 100 1 4 1 0 0) ⟶ scored 0x3fec_cccc_cccc_cccd 0x0000_0000_0000_0000 1
    -- C379: one unit above: row 1 (severity 0.9, energy 0)
    ∷ score house 1 (event 1 7 9 3 80001 100 1 4 1 0 0) ⟶ scored 0x3fec_cccc_cccc_cccd 0x0000_0000_0000_0000 6
    -- C380: exactly 40 percent: row 1 (severity 0.6, energy 0)
    ∷ score house 1 (event 1 7 9 3 1280000 400 1 4 1 0 0) ⟶ scored 0x3fe3_3333_3333_3333 0x0000_0000_0000_0000 6
    -- C381: one unit above: row 2 (severity 0.6, energy 0)
    ∷ score house 1 (event 1 7 9 3 1280001 400 1 4 1 0 0) ⟶ scored 0x3fe3_3333_3333_3333 0x0000_0000_0000_0000 11
    -- C382: exactly 70 percent: row 2 (severity 0.3, energy 0)
    ∷ score house 1 (event 1 7 9 3 3920000 700 1 4 1 0 0) ⟶ scored 0x3fd3_3333_3333_3333 0x0000_0000_0000_0000 11
    -- C383: one unit above: row 3 (severity 0.3, energy 0)
    ∷ score house 1 (event 1 7 9 3 3920001 700 1 4 1 0 0) ⟶ scored 0x3fd3_3333_3333_3333 0x0000_0000_0000_0000 16
    -- C384: exactly 80 percent: row 3 (severity 0.2, energy 0)
    ∷ score house 1 (event 1 7 9 3 5120000 800 1 4 1 0 0) ⟶ scored 0x3fc9_9999_9999_999a 0x0000_0000_0000_0000 16
    -- C385: one unit above: row 4 (severity 0.2, energy 0)
    ∷ score house 1 (event 1 7 9 3 5120001 800 1 4 1 0 0) ⟶ scored 0x3fc9_9999_9999_999a 0x0000_0000_0000_0000 21
    -- C386: by set 0, exactly 80 percent: row 3 (severity 0.2, energy 0)
    ∷ score house 0 (event 1 7 9 3 5120000 800 1 4 1 0 0) ⟶ scored 0x3fc9_9999_9999_999a 0x0000_0000_0000_0000 25
    -- C387: one unit above: row 3 too (severity 0.2, energy 0)
    ∷ score house 0 (event 1 7 9 3 5120001 800 1 4 1 0 0) ⟶ scored 0x3fc9_9999_9999_999a 0x0000_0000_0000_0000 25
    -- C388: by set 1, exactly 85 percent: row 4 (severity 0.15, energy 0)
    ∷ score house 1 (event 1 7 9 3 5780000 850 1 4 1 0 0) ⟶ scored 0x3fc3_3333_3333_3333 0x0000_0000_0000_0000 21
    -- C389: one unit above: row 4 too (severity 0.15, energy 0)
    ∷ score house 1 (event 1 7 9 3 5780001 850 1 4 1 0 0) ⟶ scored 0x3fc3_3333_3333_3333 0x0000_0000_0000_0000 21
    -- C390: one unit below the sag threshold: row 4 (severity 0.1, energy 0)
    ∷ score house 1 (event 1 7 9 3 6479999 900 1 4 1 0 0) ⟶ scored 0x3fb9_9999_9999_999a 0x0000_0000_0000_0000 21
    -- C391: 40 percent is an S of 1603201.6, and the whole number below it in row 1 (severity 0.6, energy 0)
    ∷ score ten 1 (event 1 7 9 3 1603201 400 1 4 1 0 0) ⟶ scored 0x3fe3_3333_3333_3333 0x0000_0000_0000_0000 6
    -- C392: the one above it in row 2 (severity 0.6, energy 0)
    ∷ score ten 1 (event 1 7 9 3 1603202 400 1 4 1 0 0) ⟶ scored 0x3fe3_3333_3333_3333 0x0000_0000_0000_0000 11
    -- C393: 80 percent is an S of 6412806.4, and the whole number below it in row 3 (severity 0.2, energy 0)
    ∷ score ten 1 (event 1 7 9 3 6412806 800 1 4 1 0 0) ⟶ scored 0x3fc9_9999_9999_999a 0x0000_0000_0000_0000 16
    -- C394: the one above it in row 4 (severity 0.2, energy 0)
    ∷ score ten 1 (event 1 7 9 3 6412807 800 1 4 1 0 0) ⟶ scored 0x3fc9_9999_9999_999a 0x0000_0000_0000_0000 21
    ∷ []

-- ---- set 1: the sags of the known answers

other_known : List Case
other_known =
    -- C395: K2: cell 11 (severity 1, energy 0.045)
    score house 1 (event 1 1 4 3 2000000 500 36000000 0 12000000 12000000 12000000)
    ⟶ scored 0x3ff0_0000_0000_0000 0x3fa7_0a3d_70a3_d70a 11
    -- C396: K4: cell 20 (severity 0.101, energy 0.005)
    ∷ score house 1 (event 1 2 3 3 6465608 899 4603176 0 1534392 1534392 1534392)
    ⟶ scored 0x3fb9_db22_d0e5_6042 0x3f74_7ae1_47ae_147b 20
    -- C397: K5: cell 21 (severity 0.202, energy 0.005)
    ∷ score house 1 (event 1 1 5 3 6465608 899 4603176 0 1534392 1534392 1534392)
    ⟶ scored 0x3fc9_db22_d0e5_6042 0x3f74_7ae1_47ae_147b 21
    -- C398: K6: cell 1 (severity 2, energy 0.06)
    ∷ score house 1 (event 1 1 4 3 0 0 48000000 0 16000000 16000000 16000000)
    ⟶ scored 0x4000_0000_0000_0000 0x3fae_b851_eb85_1eb8 1
    -- C399: K7: cell 6 (severity 1.798, energy 0.059)
    ∷ score house 1 (event 1 1 4 3 80804 101 47515176 0 15838392 15838392 15838392)
    ⟶ scored 0x3ffc_c49b_a5e3_53f8 0x3fae_353f_7ced_9168 6
    -- C400: K12: cell 11 (severity 1, energy 0.015)
    ∷ score house 1 (event 1 1 4 3 2000000 500 12000000 4 12000000 0 0)
    ⟶ scored 0x3ff0_0000_0000_0000 0x3f8e_b851_eb85_1eb8 11
    ∷ []

-- ---- set 1 and unknown sets: what has no score

other_unscored : List Case
other_unscored =
    -- C401: set 1, a sag with a score (severity 0.5, energy 0.015)
    score house 1 (event 1 30 32 3 2000000 500 12000000 4 7000000 4000000 1000000)
    ⟶ scored 0x3fe0_0000_0000_0000 0x3f8e_b851_eb85_1eb8 11
    -- C402: only the start unseen: 25, one above the last cell
    ∷ score house 1 (event 1 30 32 2 2000000 500 12000000 4 7000000 4000000 1000000) ⟶ unscored 1 25
    -- C403: only the end unseen
    ∷ score house 1 (event 1 30 32 1 2000000 500 12000000 4 7000000 4000000 1000000) ⟶ unscored 2 25
    -- C404: both unseen
    ∷ score house 1 (event 1 30 32 0 2000000 500 12000000 4 7000000 4000000 1000000) ⟶ unscored 3 25
    -- C405: a swell
    ∷ score house 1 (event 3 7 9 3 9680001 1100 0 0 0 0 0) ⟶ unscored 4 25
    -- C406: an interruption
    ∷ score house 1 (event 2 7 9 3 20000 50 0 0 0 0 0) ⟶ unscored 4 25
    -- C407: type 7: not an event
    ∷ score house 1 (event 1 30 32 3 2000000 500 12000000 7 7000000 4000000 1000000) ⟶ unscored 5 25
    -- C408: N 9: settings bad, and 25 since the set is known
    ∷ score (settings 9 1000 50 90 10 110 2) 1 (event 1 30 32 3 2000000 500 12000000 4 7000000 4000000 1000000)
    ⟶ unscored 6 25
    -- C409: N 9 and kind 0
    ∷ score (settings 9 1000 50 90 10 110 2) 1 (event 0 30 32 3 2000000 500 12000000 4 7000000 4000000 1000000)
    ⟶ unscored 6 25
    -- C410: set 2: 6, and cell 40
    ∷ score house 2 (event 1 30 32 3 2000000 500 12000000 4 7000000 4000000 1000000) ⟶ unscored 6 40
    -- C411: set 2^64 - 1
    ∷ score house 18446744073709551615 (event 1 30 32 3 2000000 500 12000000 4 7000000 4000000 1000000) ⟶ unscored 6 40
    -- C412: set 2 and N 9
    ∷ score (settings 9 1000 50 90 10 110 2) 2 (event 1 30 32 3 2000000 500 12000000 4 7000000 4000000 1000000)
    ⟶ unscored 6 40
    -- C413: set 2 and kind 0: 6 before 5
    ∷ score house 2 (event 0 30 32 3 2000000 500 12000000 4 7000000 4000000 1000000) ⟶ unscored 6 40
    -- C414: set 2 and a swell: 6 before 4
    ∷ score house 2 (event 3 7 9 3 9680001 1100 0 0 0 0 0) ⟶ unscored 6 40
    -- C415: set 2 and both ends unseen: 6 before 3
    ∷ score house 2 (event 1 30 32 0 2000000 500 12000000 4 7000000 4000000 1000000) ⟶ unscored 6 40
    ∷ []

-- ---- fresh tables for a set; where it is unknown, zeros

other_making : List Case
other_making =
    -- C416: set 0
    fresh house 0 ⟶ taken (site (blank house 0))
    -- C417: set 1: its number stands after the settings
    ∷ fresh house 1 ⟶ taken (site (blank house 1))
    -- C418: set 1, other settings
    ∷ fresh ten 1 ⟶ taken (site (blank ten 1))
    -- C419: set 1 and f 55: zeros, the set too
    ∷ fresh (settings 8 1000 55 90 10 110 2) 1 ⟶ refused 1 3 (site (blank (settings 0 0 0 0 0 0 0) 0))
    -- C420: set 2: refusal 1, at 8
    ∷ fresh house 2 ⟶ refused 1 8 (site (blank (settings 0 0 0 0 0 0 0) 0))
    -- C421: set 2^64 - 1
    ∷ fresh house 18446744073709551615 ⟶ refused 1 8 (site (blank (settings 0 0 0 0 0 0 0) 0))
    -- C422: set 2 and f 55: the setting is told
    ∷ fresh (settings 8 1000 55 90 10 110 2) 2 ⟶ refused 1 3 (site (blank (settings 0 0 0 0 0 0 0) 0))
    -- C423: set 2 and hysteresis 6: the setting is told
    ∷ fresh (settings 8 1000 50 90 10 110 6) 2 ⟶ refused 1 7 (site (blank (settings 0 0 0 0 0 0 0) 0))
    ∷ []

-- ---- tables with a sag in an unused cell, and with an unknown set

other_unsound : List Case
other_unsound =
    -- C424: set 1, a sag in cell 0: sound
    add (table house 1 2 1 1 0 (put 0 1 none) 1 2 2 2 48000000 48000000 0 0) (even 2 1000)
    ⟶ taken (site (table house 1 3 2 1 0 (put 0 1 none) 1 2 2 2 48000000 48000000 0 0))
    -- C425: in cell 24, the last: sound
    ∷ add (table house 1 2 1 1 0 (put 24 1 none) 1 2 2 2 48000000 48000000 0 0) (even 2 1000)
    ⟶ taken (site (table house 1 3 2 1 0 (put 24 1 none) 1 2 2 2 48000000 48000000 0 0))
    -- C426: in cell 25, which is unused: unsound, though all adds up
    ∷ add (table house 1 2 1 1 0 (put 25 1 none) 1 2 2 2 48000000 48000000 0 0) (even 2 1000)
    ⟶ refused 9 0 (site (table house 1 2 1 1 0 (put 25 1 none) 1 2 2 2 48000000 48000000 0 0))
    -- C427: in cell 39
    ∷ add (table house 1 2 1 1 0 (put 39 1 none) 1 2 2 2 48000000 48000000 0 0) (even 2 1000)
    ⟶ refused 9 0 (site (table house 1 2 1 1 0 (put 39 1 none) 1 2 2 2 48000000 48000000 0 0))
    -- C428: set 0, the same numbers, a sag in cell 25: sound
    ∷ add (table house 0 2 1 1 0 (put 25 1 none) 1 2 2 2 48000000 48000000 0 0) (even 2 1000)
    ⟶ taken (site (table house 0 3 2 1 0 (put 25 1 none) 1 2 2 2 48000000 48000000 0 0))
    -- C429: in cell 39: sound
    ∷ add (table house 0 2 1 1 0 (put 39 1 none) 1 2 2 2 48000000 48000000 0 0) (even 2 1000)
    ⟶ taken (site (table house 0 3 2 1 0 (put 39 1 none) 1 2 2 2 48000000 48000000 0 0))
    -- C430: set 2, and all else sound
    ∷ add (table house 2 2 1 1 0 (put 0 1 none) 1 2 2 2 48000000 48000000 0 0) (even 2 1000)
    ⟶ refused 9 0 (site (table house 2 2 1 1 0 (put 0 1 none) 1 2 2 2 48000000 48000000 0 0))
    -- C431: set 2^64 - 1
    ∷ add (table house 18446744073709551615 2 1 1 0 (put 0 1 none) 1 2 2 2 48000000 48000000 0 0) (even 2 1000)
    ⟶ refused 9 0 (site (table house 18446744073709551615 2 1 1 0 (put 0 1 none) 1 2 2 2 48000000 48000000 0 0))
    -- C432: set 2, and nothing in it
    ∷ add (blank house 2) (even 2 1000) ⟶ refused 9 0 (site (blank house 2))
    ∷ []

-- ---- what a recording adds to a table for set 1

other_growing : List Case
other_growing =
    -- C433: K2: cell 11
    add (blank house 1) (even 2 1000 ++ even 2 500 ++ even 2 1000)
    ⟶ taken (site (table house 1 5 2 3 0 (put 11 1 none) 0 1 0 0 36000000 12000000 12000000 12000000))
    -- C434: K4: cell 20
    ∷ add (blank house 1) (even 2 1000 ++ even 2 899 ++ even 2 1000)
    ⟶ taken (site (table house 1 5 4 1 0 (put 20 1 none) 0 1 0 0 4603176 1534392 1534392 1534392))
    -- C435: K7: cell 6
    ∷ add (blank house 1) (even 2 1000 ++ even 1 100 ++ even 1 101 ++ even 2 1000)
    ⟶ taken (site (table house 1 5 2 3 0 (put 6 1 none) 0 1 0 0 47515176 15838392 15838392 15838392))
    -- C436: two sags in two cells, of different rows and columns
    ∷ add (blank house 1) (even 2 1000 ++ uneven 2 1000 899 1000 ++ even 1 1000 ++ uneven 3 1000 1000 100 ++ even 2 1000)
    ⟶ taken (site (table house 1 9 4 5 0 (put 20 1 (put 1 1 none)) 0 2 0 0 25294392 0 1534392 23760000))
    -- C437: exactly 80 percent: row 3
    ∷ add (blank house 1) (even 2 1000 ++ weave (quad 1600 0 0 0) (quad 1600 0 0 0) (quad 1600 0 0 0)
    ++ weave (quad 1600 0 0 0) (quad 1600 0 0 0) (quad 1600 0 0 0) ++ even 2 1000)
    ⟶ taken (site (table house 1 5 3 2 0 (put 16 1 none) 0 1 0 0 8640000 2880000 2880000 2880000))
    -- C438: one unit of S more: row 4
    ∷ add (blank house 1) (even 2 1000 ++ weave (quad 1600 0 0 0) (quad 1600 0 0 0) (quad 1600 0 0 0)
    ++ weave (quad 1600 1 0 0) (quad 1600 1 0 0) (quad 1600 1 0 0) ++ even 2 1000)
    ⟶ taken (site (table house 1 5 3 2 0 (put 21 1 none) 0 1 0 0 8639997 2879999 2879999 2879999))
    -- C439: ten half-cycles, 5h = f: column 1
    ∷ add (blank house 1) (even 2 1000 ++ even 9 500 ++ even 2 1000)
    ⟶ taken (site (table house 1 12 2 10 0 (put 11 1 none) 0 1 0 0 162000000 54000000 54000000 54000000))
    -- C440: K8: unplaced
    ∷ add (blank house 1) (even 2 500 ++ even 2 1000)
    ⟶ taken (site (table house 1 3 1 2 0 none 1 1 0 0 27000000 9000000 9000000 9000000))
    -- C441: each number of the table its own, and something of everything added
    ∷ add other_various (set (even 1 500 ++ even 2 1000 ++ even 2 0 ++ even 2 1000 ++ uneven 1 1000 1300 1000
    ++ even 3 1000) 110 lost)
    ⟶ taken (site (table house 1 10022 5005 3007 2010 (put 1 103 (few 101)) 58 2884 612 714 58234567 19123456 19345678 19765433))
    -- C442: a refused recording: the table stays, its set too
    ∷ add other_various [] ⟶ refused 3 0 (site other_various)
    -- C443: five half-cycles where there is room for four
    ∷ add (table house 1 3999996 3999996 0 0 none 0 0 0 0 0 0 0 0) (even 2 1000 ++ even 2 500 ++ even 2 1000)
    ⟶ refused 8 4 (site (table house 1 3999996 3999996 0 0 none 0 0 0 0 0 0 0 0))
    -- C444: where there is room for five
    ∷ add (table house 1 3999995 3999995 0 0 none 0 0 0 0 0 0 0 0) (even 2 1000 ++ even 2 500 ++ even 2 1000)
    ⟶ taken (site (table house 1 4000000 3999997 3 0 (put 11 1 none) 0 1 0 0 36000000 12000000 12000000 12000000))
    ∷ []

-- ---- refusals 2, 3 and 4

lengths : List Case
lengths =
    -- C445: no samples: 3
    list house 12 [] ⟶ refused 3 0 (run (nines 12))
    -- C446: one sample: 2 before 3
    ∷ list house 12 (pos 1000 ∷ []) ⟶ refused 2 0 (run (nines 12))
    -- C447: two samples: 2 before 3
    ∷ list house 12 (pos 1000 ∷ pos 1000 ∷ []) ⟶ refused 2 0 (run (nines 12))
    -- C448: 8 samples per channel and one more: 2
    ∷ list house 12 (even 2 1000 ++ pos 1000 ∷ []) ⟶ refused 2 0 (run (nines 12))
    -- C449: and two more: 2
    ∷ list house 12 (even 2 1000 ++ pos 1000 ∷ pos 1000 ∷ []) ⟶ refused 2 0 (run (nines 12))
    -- C450: 4 samples per channel, a multiple of N/2: 3
    ∷ list house 12 (even 1 1000) ⟶ refused 3 0 (run (nines 12))
    -- C451: 7: 3 before 4
    ∷ list house 12 (alike 7 1000 1000 1000) ⟶ refused 3 0 (run (nines 12))
    -- C452: 8: one half-cycle
    ∷ list house 12 (even 2 1000) ⟶ events 0 (run (nines 12))
    -- C453: 9: 4
    ∷ list house 12 (alike 9 1000 1000 1000) ⟶ refused 4 0 (run (nines 12))
    -- C454: 11: 4
    ∷ list house 12 (alike 11 1000 1000 1000) ⟶ refused 4 0 (run (nines 12))
    -- C455: 12: two half-cycles
    ∷ list house 12 (even 3 1000) ⟶ events 0 (run (nines 12))
    -- C456: added, no samples: 3
    ∷ add various [] ⟶ refused 3 0 (site various)
    -- C457: added, one sample: 2 before 3
    ∷ add various (pos 1000 ∷ []) ⟶ refused 2 0 (site various)
    -- C458: added, two samples: 2 before 3
    ∷ add various (pos 1000 ∷ pos 1000 ∷ []) ⟶ refused 2 0 (site various)
    -- C459: added, 8 samples per channel and one more: 2
    ∷ add various (even 2 1000 ++ pos 1000 ∷ []) ⟶ refused 2 0 (site various)
    -- C460: added, and two more: 2
    ∷ add various (even 2 1000 ++ pos 1000 ∷ pos 1000 ∷ []) ⟶ refused 2 0 (site various)
    -- C461: added, 4 samples per channel, a multiple of N/2: 3
    ∷ add various (even 1 1000) ⟶ refused 3 0 (site various)
    -- C462: added, 7: 3 before 4
    ∷ add various (alike 7 1000 1000 1000) ⟶ refused 3 0 (site various)
    -- C463: added, 8: one half-cycle
    ∷ add various (even 2 1000)
    ⟶ taken (site (table house 0 10013 5004 3001 2008 (rising 40 101) 57 4877 611 713 1234567 123456 345678 765433))
    -- C464: added, 9: 4
    ∷ add various (alike 9 1000 1000 1000) ⟶ refused 4 0 (site various)
    -- C465: added, 11: 4
    ∷ add various (alike 11 1000 1000 1000) ⟶ refused 4 0 (site various)
    -- C466: added, 12: two half-cycles
    ∷ add various (even 3 1000)
    ⟶ taken (site (table house 0 10014 5005 3001 2008 (rising 40 101) 57 4877 611 713 1234567 123456 345678 765433))
    -- C467: N 10, 9 samples per channel: 3
    ∷ list ten 12 (alike 9 300 1001 1001) ⟶ refused 3 0 (run (nines 12))
    -- C468: 10: one half-cycle
    ∷ list ten 12 (alike 10 300 1001 1001) ⟶ events 1 (run (words 1 0 1 0 900000 300 9120010 4 9120010 0 0 ++ nines 1))
    -- C469: 14: 4
    ∷ list ten 12 (alike 14 300 1001 1001) ⟶ refused 4 0 (run (nines 12))
    -- C470: 15: two half-cycles
    ∷ list ten 12 (alike 15 300 1001 1001)
    ⟶ events 1 (run (words 1 0 2 0 900000 300 18240020 4 18240020 0 0 ++ nines 1))
    ∷ []

-- ---- refusal 6, and samples on the ends of their range

samples : List Case
samples =
    -- C471: all samples 100,000
    list high 12 (even 2 100000) ⟶ events 1 (run (words 3 0 1 0 80000000000 2000 0 0 0 0 0 ++ nines 1))
    -- C472: all samples -100,000
    ∷ list high 12 (mirror (even 2 100000)) ⟶ events 1 (run (words 3 0 1 0 80000000000 2000 0 0 0 0 0 ++ nines 1))
    -- C473: 100,001: 6, at its index
    ∷ list high 12 (set (even 2 50000) 0 (pos 100001)) ⟶ refused 6 0 (run (nines 12))
    -- C474: -100,001
    ∷ list high 12 (set (even 2 50000) 4 (minus 100001)) ⟶ refused 6 4 (run (nines 12))
    -- C475: 2,147,483,647
    ∷ list high 12 (set (even 2 50000) 8 (pos 2147483647)) ⟶ refused 6 8 (run (nines 12))
    -- C476: -2,147,483,647
    ∷ list high 12 (set (even 2 50000) 22 (minus 2147483647)) ⟶ refused 6 22 (run (nines 12))
    -- C477: -2,147,483,648 is missing, and no refusal
    ∷ list high 12 (set (even 2 50000) 23 lost) ⟶ events 0 (run (nines 12))
    -- C478: two of them: the first index
    ∷ list high 12 (set (set (even 2 50000) 20 (pos 100001)) 7 (minus 100001)) ⟶ refused 6 7 (run (nines 12))
    -- C479: a missing sample before it is none
    ∷ list high 12 (set (set (even 2 50000) 7 lost) 20 (pos 100001)) ⟶ refused 6 20 (run (nines 12))
    -- C480: added: 6, at the last index
    ∷ add various (set (even 2 1000) 23 (pos 100001)) ⟶ refused 6 23 (site various)
    -- C481: added, two of them
    ∷ add various (set (set (even 2 1000) 13 (minus 100001)) 14 (pos 100001)) ⟶ refused 6 13 (site various)
    -- C482: added, a single sample of 100,000
    ∷ add various (set (even 2 1000) 0 (pos 100000))
    ⟶ taken (site (table house 0 10013 5003 3002 2008 (rising 40 101) 57 4877 611 714 1234567 123456 345678 765433))
    ∷ []

-- ---- refusal 7, and how far the lent run is written

rooms : List Case
rooms =
    -- C483: room 10 for K2: 7, at the number of events
    list house 10 (even 2 1000 ++ even 2 500 ++ even 2 1000) ⟶ refused 7 1 (run (nines 10))
    -- C484: room 11: accepted, and all of it written
    ∷ list house 11 (even 2 1000 ++ even 2 500 ++ even 2 1000)
    ⟶ events 1 (run (words 1 1 4 3 2000000 500 36000000 0 12000000 12000000 12000000))
    -- C485: no room at all
    ∷ list house 0 (even 2 1000 ++ even 2 500 ++ even 2 1000) ⟶ refused 7 1 (run (nines 0))
    -- C486: no room and no event: accepted
    ∷ list house 0 (even 6 1000) ⟶ events 0 (run (nines 0))
    -- C487: room for one event of two
    ∷ list house 11 (even 2 1000 ++ even 2 0 ++ even 2 1000) ⟶ refused 7 2 (run (nines 11))
    -- C488: room 21 for two events
    ∷ list house 21 (even 2 1000 ++ even 2 0 ++ even 2 1000) ⟶ refused 7 2 (run (nines 21))
    -- C489: room 22
    ∷ list house 22 (even 2 1000 ++ even 2 0 ++ even 2 1000)
    ⟶ events 2 (run (words 1 1 4 3 0 0 48000000 0 16000000 16000000 16000000 ++ words 2 2 3 3 0 0 0 0 0 0 0))
    -- C490: room 26: the last four numbers stay
    ∷ list house 26 (even 2 1000 ++ even 2 0 ++ even 2 1000)
    ⟶ events 2 (run (words 1 1 4 3 0 0 48000000 0 16000000 16000000 16000000 ++ words 2 2 3 3 0 0 0 0 0 0 0 ++ nines 4))
    ∷ []

-- ---- where several refusals apply, the first of the table is told

order : List Case
order =
    -- C491: f 55, hysteresis 6, length 5, a sample out of range: 1, at f
    list (settings 8 1000 55 90 10 110 6) 10 (pos 100001 ∷ pos 1000 ∷ pos 1000 ∷ pos 1000 ∷ pos 1000 ∷ [])
    ⟶ refused 1 3 (run (nines 10))
    -- C492: length 5, a sample out of range: 2
    ∷ list house 10 (pos 100001 ∷ pos 1000 ∷ pos 1000 ∷ pos 1000 ∷ pos 1000 ∷ []) ⟶ refused 2 0 (run (nines 10))
    -- C493: 7 samples per channel, one out of range: 3
    ∷ list house 10 (set (alike 7 1000 1000 1000) 0 (pos 100001)) ⟶ refused 3 0 (run (nines 10))
    -- C494: 9 samples per channel, one out of range: 4
    ∷ list house 10 (set (alike 9 1000 1000 1000) 0 (pos 100001)) ⟶ refused 4 0 (run (nines 10))
    -- C495: a sample out of range and too little room: 6
    ∷ list house 10 (set (even 2 1000 ++ even 2 500 ++ even 2 1000) 71 (pos 100001)) ⟶ refused 6 71 (run (nines 10))
    -- C496: f 55, hysteresis 6 and too little room: 1
    ∷ list (settings 8 1000 55 90 10 110 6) 10 (even 2 1000 ++ even 2 500 ++ even 2 1000) ⟶ refused 1 3 (run (nines 10))
    -- C497: hysteresis 6 alone: 1, at 7
    ∷ list (settings 8 1000 50 90 10 110 6) 12 (even 2 1000 ++ even 2 500 ++ even 2 1000) ⟶ refused 1 7 (run (nines 12))
    -- C498: an unsound table, full, length 5, a sample out of range: 9
    ∷ add (table house 0 4000000 4000000 0 1 none 0 0 0 0 0 0 0 0) (pos 100001 ∷ pos 1000 ∷ pos 1000 ∷ pos 1000 ∷ pos 1000 ∷ [])
    ⟶ refused 9 0 (site (table house 0 4000000 4000000 0 1 none 0 0 0 0 0 0 0 0))
    -- C499: an unsound table: 9
    ∷ add (table house 0 10012 5003 3001 2009 (rising 40 101) 57 4877 611 713 1234567 123456 345678 765433) (even 2 1000
    ++ even 2 500 ++ even 2 1000)
    ⟶ refused 9 0 (site (table house 0 10012 5003 3001 2009 (rising 40 101) 57 4877 611 713 1234567 123456 345678 765433))
    -- C500: a full table, length 5, a sample out of range: 2
    ∷ add (healthy_only 4000000) (pos 100001 ∷ pos 1000 ∷ pos 1000 ∷ pos 1000 ∷ pos 1000 ∷ [])
    ⟶ refused 2 0 (site (healthy_only 4000000))
    -- C501: a full table, 7 samples per channel, one out of range: 3
    ∷ add (healthy_only 4000000) (set (alike 7 1000 1000 1000) 0 (pos 100001))
    ⟶ refused 3 0 (site (healthy_only 4000000))
    -- C502: a full table, 9 samples per channel, one out of range: 4
    ∷ add (healthy_only 4000000) (set (alike 9 1000 1000 1000) 0 (pos 100001))
    ⟶ refused 4 0 (site (healthy_only 4000000))
    -- C503: a full table, a sample out of range: 6
    ∷ add (healthy_only 4000000) (set (even 2 1000 ++ even 2 500 ++ even 2 1000) 71 (pos 100001))
    ⟶ refused 6 71 (site (healthy_only 4000000))
    -- C504: five half-cycles where there is room for four: 8, at 4
    ∷ add (healthy_only 3999996) (even 2 1000 ++ even 2 500 ++ even 2 1000) ⟶ refused 8 4 (site (healthy_only 3999996))
    ∷ []

-- ---- each half-cycle told: its class, the kinds it lies in, and S of a, b and c

told_classes : List Case
told_classes =
    -- C505: a healthy half-cycle: 1, no kind, and each channel's own sum
    halves house 6 (uneven 2 990 1000 1010) ⟶ told 1 (run (five 1 0 7840800 8000000 8160800 ++ nines 1))
    -- C506: a sag: 2, and 1 for its kind
    ∷ halves house 6 (uneven 2 700 1000 1050) ⟶ told 1 (run (five 2 1 3920000 8000000 8820000 ++ nines 1))
    -- C507: an interruption within a sag: 3 for both kinds, and sums that are 0
    ∷ halves house 6 (even 2 0) ⟶ told 1 (run (balanced 2 3 0 ++ nines 1))
    -- C508: a swell: 4
    ∷ halves house 6 (uneven 2 1000 1200 1300) ⟶ told 1 (run (five 2 4 8000000 11520000 13520000 ++ nines 1))
    -- C509: a sag on b and a swell on a: 5
    ∷ halves house 6 (uneven 2 1300 500 1000) ⟶ told 1 (run (five 2 5 13520000 2000000 8000000 ++ nines 1))
    -- C510: a sag of three half-cycles between healthy ones
    ∷ halves house 26 (even 2 1000 ++ uneven 2 300 500 700 ++ even 2 1000)
    ⟶ told 5 (run (balanced 1 0 8000000 ++ five 2 1 4360000 5000000 5960000 ++ five 2 1 720000 2000000 3920000
    ++ five 2 1 4360000 5000000 5960000 ++ balanced 1 0 8000000 ++ nines 1))
    -- C511: a sag and an interruption begin at one half-cycle
    ∷ halves house 11 (even 1 1280 ++ even 2 0) ⟶ told 2 (run (balanced 1 0 6553600 ++ balanced 2 3 0 ++ nines 1))
    -- C512: a swell begins within a sag and outlasts it: 1, then 5, then 4
    ∷ halves house 21 (uneven 2 1000 500 1000 ++ uneven 1 1000 500 1300 ++ uneven 2 1000 1000 1300)
    ⟶ told 4 (run (five 2 1 8000000 2000000 8000000 ++ five 2 5 8000000 2000000 10760000 ++ five 2 5 8000000 5000000 13520000
    ++ five 2 4 8000000 8000000 13520000 ++ nines 1))
    ∷ []

-- ---- half-cycles within the hysteresis: in an event only where one goes on

told_bands : List Case
told_bands =
    -- C513: 91 percent after 50: still in the sag
    halves house 16 (even 1 500 ++ even 2 910 ++ even 1 1000)
    ⟶ told 3 (run (balanced 2 1 4312400 ++ balanced 2 1 6624800 ++ balanced 1 0 7312400 ++ nines 1))
    -- C514: 91 percent alone: healthy
    ∷ halves house 6 (even 2 910) ⟶ told 1 (run (balanced 1 0 6624800 ++ nines 1))
    -- C515: 92 percent after 50: the sag is over
    ∷ halves house 11 (even 1 500 ++ even 2 920)
    ⟶ told 2 (run (balanced 2 1 4385600 ++ balanced 1 0 6771200 ++ nines 1))
    -- C516: hysteresis 0: it is over at 90 percent
    ∷ halves sharp 11 (even 1 500 ++ even 2 900)
    ⟶ told 2 (run (balanced 2 1 4240000 ++ balanced 1 0 6480000 ++ nines 1))
    -- C517: 109 percent after 150: still in the swell
    ∷ halves house 16 (even 1 1500 ++ even 2 1090 ++ even 1 1000)
    ⟶ told 3 (run (balanced 2 4 13752400 ++ balanced 2 4 9504800 ++ balanced 1 0 8752400 ++ nines 1))
    -- C518: 11 percent after none: still in the interruption
    ∷ halves house 16 (even 2 0 ++ even 2 110)
    ⟶ told 3 (run (balanced 2 3 0 ++ balanced 2 3 48400 ++ balanced 2 3 96800 ++ nines 1))
    -- C519: 11 percent alone: a sag only
    ∷ halves house 6 (even 2 110) ⟶ told 1 (run (balanced 2 1 96800 ++ nines 1))
    -- C520: 12 percent on c alone: the interruption is over
    ∷ halves house 16 (even 2 0 ++ uneven 2 0 0 120)
    ⟶ told 3 (run (balanced 2 3 0 ++ five 2 3 0 0 57600 ++ five 2 1 0 0 115200 ++ nines 1))
    ∷ []

-- ---- half-cycles on a mark and one unit of S beside it, and the largest sum

told_marks : List Case
told_marks =
    -- C521: a one unit below the sag threshold: a sag
    halves house 6 (weave (quad 1799 59 9 6) (level 4 1000) (level 4 1000) ++ uneven 1 900 1000 1000)
    ⟶ told 1 (run (five 2 1 6479999 8000000 8000000 ++ nines 1))
    -- C522: on it: healthy
    ∷ halves house 6 (uneven 2 900 1000 1000) ⟶ told 1 (run (five 1 0 6480000 8000000 8000000 ++ nines 1))
    -- C523: b one unit below the interruption threshold: an interruption
    ∷ halves house 6 (weave (level 4 0) (quad 199 19 6 1) (level 4 0) ++ uneven 1 0 100 0)
    ⟶ told 1 (run (five 2 3 0 79999 0 ++ nines 1))
    -- C524: on it: a sag only
    ∷ halves house 6 (uneven 2 0 100 0) ⟶ told 1 (run (five 2 1 0 80000 0 ++ nines 1))
    -- C525: c one unit above the swell threshold: a swell
    ∷ halves house 6 (weave (level 4 1000) (level 4 1000) (quad 2200 1 0 0) ++ uneven 1 1000 1000 1100)
    ⟶ told 1 (run (five 2 4 8000000 8000000 9680001 ++ nines 1))
    -- C526: on it: healthy
    ∷ halves house 6 (uneven 2 1000 1000 1100) ⟶ told 1 (run (five 1 0 8000000 8000000 9680000 ++ nines 1))
    -- C527: thresholds 80 and 120: a sag on a, a swell on c
    ∷ halves wide 6 (uneven 2 790 1000 1210) ⟶ told 1 (run (five 2 5 4992800 8000000 11712800 ++ nines 1))
    -- C528: N 10: ten squares in each sum
    ∷ halves ten 11 (alike 15 300 1001 1002)
    ⟶ told 2 (run (five 2 1 900000 10020010 10040040 ++ five 2 1 900000 10020010 10040040 ++ nines 1))
    -- C529: sines: samples of either sign
    ∷ halves house 6 (sines 500 1000 1300) ⟶ told 1 (run (five 2 5 1999698 8000772 13510550 ++ nines 1))
    -- C530: the largest sum
    ∷ halves high 6 (uneven 2 100000 50000 0) ⟶ told 1 (run (five 2 5 80000000000 20000000000 0 ++ nines 1))
    ∷ []

-- ---- unknown half-cycles: 3, no kind, and sums of 0

told_gaps : List Case
told_gaps =
    -- C531: the first sample of all lost, and the last
    halves house 16 (set (set (even 4 1000) 0 lost) 47 lost)
    ⟶ told 3 (run (balanced 3 0 0 ++ balanced 1 0 8000000 ++ balanced 3 0 0 ++ nines 1))
    -- C532: one in the middle of three blocks: both half-cycles unknown
    ∷ halves house 11 (set (even 3 500) 16 lost) ⟶ told 2 (run (balanced 3 0 0 ++ balanced 3 0 0 ++ nines 1))
    -- C533: in the middle of a sag: on either side it is one
    ∷ halves house 21 (set (even 5 500) 26 lost)
    ⟶ told 4 (run (balanced 2 1 2000000 ++ balanced 3 0 0 ++ balanced 3 0 0 ++ balanced 2 1 2000000 ++ nines 1))
    -- C534: of an interruption: there, too, and sums of 0 everywhere
    ∷ halves house 21 (set (even 5 0) 24 lost)
    ⟶ told 4 (run (balanced 2 3 0 ++ balanced 3 0 0 ++ balanced 3 0 0 ++ balanced 2 3 0 ++ nines 1))
    -- C535: after a gap, 91 percent is healthy: nothing is carried over it
    ∷ halves house 21 (set (even 1 500 ++ even 4 910) 29 lost)
    ⟶ told 4 (run (balanced 2 1 4312400 ++ balanced 3 0 0 ++ balanced 3 0 0 ++ balanced 1 0 6624800 ++ nines 1))
    -- C536: and 11 percent is a sag only
    ∷ halves house 21 (set (even 2 0 ++ even 3 110) 35 lost)
    ⟶ told 4 (run (balanced 2 3 0 ++ balanced 3 0 0 ++ balanced 3 0 0 ++ balanced 2 1 96800 ++ nines 1))
    ∷ []

-- ---- half-cycles that are not told, how far the lent run is written, and the order of refusals

told_refused : List Case
told_refused =
    -- C537: one half-cycle, room 5: all of it written
    halves house 5 (even 2 500) ⟶ told 1 (run (balanced 2 1 2000000))
    -- C538: room 4: 7, at the number of half-cycles
    ∷ halves house 4 (even 2 500) ⟶ refused 7 1 (run (nines 4))
    -- C539: no room, and no event either: 7 all the same
    ∷ halves house 0 (even 2 1000) ⟶ refused 7 1 (run (nines 0))
    -- C540: room 24 for five half-cycles
    ∷ halves house 24 (even 2 1000 ++ even 2 500 ++ even 2 1000) ⟶ refused 7 5 (run (nines 24))
    -- C541: room 28: the last three numbers stay
    ∷ halves house 28 (even 2 1000 ++ even 2 500 ++ even 2 1000)
    ⟶ told 5 (run (balanced 1 0 8000000 ++ balanced 2 1 5000000 ++ balanced 2 1 2000000 ++ balanced 2 1 5000000
    ++ balanced 1 0 8000000 ++ nines 3))
    -- C542: room for one number of each
    ∷ halves house 5 (even 2 1000 ++ even 2 500 ++ even 2 1000) ⟶ refused 7 5 (run (nines 5))
    -- C543: room for the one event of its list
    ∷ halves house 11 (even 2 1000 ++ even 2 500 ++ even 2 1000) ⟶ refused 7 5 (run (nines 11))
    -- C544: f 55, hysteresis 6, a sample out of range: 1, at f
    ∷ halves (settings 8 1000 55 90 10 110 6) 25 (set (even 2 1000 ++ even 2 500 ++ even 2 1000) 71 (pos 100001))
    ⟶ refused 1 3 (run (nines 25))
    -- C545: length 4, a sample out of range: 2
    ∷ halves house 3 (pos 100001 ∷ pos 1000 ∷ pos 1000 ∷ pos 1000 ∷ []) ⟶ refused 2 0 (run (nines 3))
    -- C546: 7 samples per channel, one out of range: 3
    ∷ halves house 3 (set (alike 7 1000 1000 1000) 0 (pos 100001)) ⟶ refused 3 0 (run (nines 3))
    -- C547: 9 samples per channel, one out of range: 4
    ∷ halves house 3 (set (alike 9 1000 1000 1000) 0 (pos 100001)) ⟶ refused 4 0 (run (nines 3))
    -- C548: the last sample out of range: 6, and nothing written
    ∷ halves house 25 (set (even 2 1000 ++ even 2 500 ++ even 2 1000) 71 (pos 100001)) ⟶ refused 6 71 (run (nines 25))
    -- C549: the same and no room: 6 before 7
    ∷ halves house 0 (set (even 2 1000 ++ even 2 500 ++ even 2 1000) 71 (minus 100001)) ⟶ refused 6 71 (run (nines 0))
    -- C550: two, after a gap: the first
    ∷ halves house 25 (set (set (set (even 2 1000 ++ even 2 500 ++ even 2 1000) 3 lost) 40 (pos 2147483647)) 9 (minus 100001))
    ⟶ refused 6 9 (run (nines 25))
    ∷ []

-- ---- all of them

cases : List Case
cases =
    sags ++ interruptions ++ swells ++ overlaps ++ marks ++ gaps ++ types ++ nearest ++ durations ++ depths ++ energies
    ++ not_events ++ parts_of_events ++ making ++ sound ++ growing ++ parts_of_tables ++ parts_of_recordings ++ other_columns
    ++ other_rows ++ other_known ++ other_unscored ++ other_making ++ other_unsound ++ other_growing ++ lengths ++ samples
    ++ rooms ++ order ++ told_classes ++ told_bands ++ told_marks ++ told_gaps ++ told_refused

case_answers : map asked_again cases ≡ cases
unfolding answer_to asked_again cases sags interruptions swells overlaps marks gaps types nearest durations depths energies not_events parts_of_events making sound growing parts_of_tables parts_of_recordings other_columns other_rows other_known other_unscored other_making other_unsound other_growing lengths samples rooms order told_classes told_bands told_marks told_gaps told_refused first_bad bad_setting settings_good halves_of any_missing squares sums_at half_at full carries in_run in_event starts end_of seen_of extreme_of earliest climb retained_of shorts_of six_sums type_of event_from event_at events_of in_bounds sag_good is_event why_of why_by reason_of reason_by scoring scoring_by known_set borders_of row_of column_of cell_of is_healthy is_disturbed is_unknown is_placed is_unplaced sag_cell sag_sum sag_short grown is_unsound recording_check settings_check set_check room_check list_check listed written half_words class_at kinds_at trace_of trace_room_check trace_check traced trace_written freshened sound_check full_check add_check added div of_int of_bits
case_answers = refl
