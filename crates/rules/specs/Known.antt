-- The known answers: one table of cases, one statement. K1 to K12, each a recording, by both sets of borders; and sags on both sides of
-- the curve's last border, on both sides of a retained value's half, with shortfalls of the channels that make up the whole or don't,
-- and by a set of borders that is known or not, each by its event words; and what is turned away, one of each number at least.
use Rattle.std.specs.Prelude.{ℕ, ◌+◌, ◌*◌, ◌≡◌, refl, List, [], ◌∷◌, ◌++◌, map, replicate, set, ℤ, pos, negsuc, Result, Ok, Err, ⊤}
use Rattle.std.specs.Float.{binary64}
use Rattle.std.specs.Float.Ieee.{div, of_int, of_bits}
use Rattle.rules.specs.Recorder.{first_bad, bad_setting, settings_good}
use Rattle.rules.specs.Halves.{channels, halves_of, any_missing, squares, sums_at, half_at, full}
use Rattle.rules.specs.Events.{carries, in_run, in_event, starts, end_of, seen_of, extreme_of, earliest, climb, retained_of, shorts_of, six_sums, type_of}
use Rattle.rules.specs.EventList.{event_from, event_at, events_of}
use Rattle.rules.specs.Trace.{class_at, kinds_at, half_words, trace_of}
use Rattle.rules.specs.Borders.{known_set, borders_of, row_of, column_of}
use Rattle.rules.specs.Scores.{in_bounds, sag_good, is_event, why_of, why_by, reason_by, scoring, scoring_by, millis_of}
use Rattle.rules.specs.Site.{cell_of, is_healthy, is_disturbed, is_unknown, is_placed, is_unplaced, sag_cell, sag_sum, sag_short, grown, is_unsound}
use Rattle.rules.specs.Refusals.{number_of, place_in, recording_check, settings_check, set_check, room_check, list_check, listed, written, trace_room_check, trace_check, traced, trace_written, freshened, sound_check, full_check, add_check, added}
use Rattle.rules.specs.declared.Settings.{Settings}
use Rattle.rules.specs.declared.Sums.{Sums}
use Rattle.rules.specs.declared.Event.{Event}
use Rattle.rules.specs.declared.Table.{Table}
use Rattle.rules.specs.declared.Refusal.TheVariants.{Long}
use Rattle.rules.specs.declared.Site.{Site as Handed}
use Rattle.rules.specs.declared.Refusal.{Refusal}
use Rattle.rules.specs.declared.Score.{Score}
use Rattle.rules.specs.declared.Reason.{Reason}
use Rattle.rules.specs.declared.Reason.TheVariants.{StartUnseen, EndUnseen, BothUnseen, NotASag, NotAnEvent, BadSettings}

-- N 8, R 1,000, f 50, thresholds 90, 10, 110, hysteresis 2
abbrev pub settings : Settings
settings = record { n = 8; r = 1000; f = 50; sag = 90; interruption = 10; swell = 110; hysteresis = 2 }

-- a block is four equal samples, with a value for channel a and one for b and c
abbrev pub block : ℕ → ℕ → List ℤ
block a b = one ++ one ++ one ++ one
  where
    one : List ℤ
    one = pos a ∷ pos b ∷ pos b ∷ []

abbrev pub blocks : List ℕ → List ℤ
blocks [] = []
blocks (v ∷ vs) = block v v ++ blocks vs

-- 1000 1000 v v 1000 1000
abbrev pub dip : ℕ → List ℤ
dip v = blocks (1000 ∷ 1000 ∷ v ∷ v ∷ 1000 ∷ 1000 ∷ [])

abbrev nines : ℕ → List ℕ
nines n = replicate n 9

-- what the rules say of a recording: the answer of the list and the lent run, 23 numbers that were all 9; then of each event its
-- score, milliseconds of its shortfall, row, and its cell by set 0 and by set 1; then the tables of two fresh sites, of set 0 and of
-- set 1, that were offered it, and the shortfall of each channel straight from its samples; and what is told of each half-cycle, in a
-- lent run of 36 numbers that were all 9
record Case : Type 0 where
  given : List ℤ
  answer : Result ℕ Refusal
  run : List ℕ
  scores : List (Result Score Reason)
  millis : List ℕ
  rows : List ℕ
  cells : List ℕ
  others : List ℕ
  sites : List Handed
  straight : Sums
  halves : Result ℕ Refusal
  trace : List ℕ

answers_to : List ℤ → Case
answers_to xs =
    let events = events_of settings xs in
    record {
      given = xs;
      answer = listed settings xs 23;
      run = written settings xs (replicate 23 9);
      scores = map (scoring settings) events;
      millis = map (λ (e : Event). millis_of settings e.shortfall) events;
      rows = map (λ (e : Event). row_of settings (borders_of settings 0) e.extreme) events;
      cells = map (cell_of settings 0) events;
      others = map (cell_of settings 1) events;
      sites = added (freshened settings 0).table xs ∷ added (freshened settings 1).table xs ∷ [];
      straight = channels (sag_short settings xs);
      halves = traced settings xs 36;
      trace = trace_written settings xs (nines 36);
    }

-- what the rules say of event words under settings and a set of borders: score and cell
record Judged : Type 0 where
  under : Settings
  set : ℕ
  event : Event
  score : Result Score Reason
  cell : ℕ

judged_of : Settings → ℕ → Event → Judged
judged_of s set e = record { under = s; set = set; event = e; score = scoring_by s set e; cell = cell_of s set e }

-- a score by the bits of its two floats
abbrev bits : ℕ → ℕ → Result Score Reason
bits severity energy = Ok (record { severity = of_bits binary64 severity; energy = of_bits binary64 energy })

-- the tables of set 0 and of set 1 after one recording: total, healthy, disturbed, unknown; cells of the one and of the other;
-- unplaced; sags, interruptions, swells; shortfall, and that of each channel
abbrev after : ℕ → ℕ → ℕ → ℕ → List ℕ → List ℕ → ℕ → ℕ → ℕ → ℕ → ℕ → Sums → List Handed
after total healthy disturbed unknown cells others unplaced sags interruptions swells shortfall parts =
    taken 0 cells ∷ taken 1 others ∷ []
  where
    taken : ℕ → List ℕ → Handed
    taken set cells =
        record {
          answer = Ok tt;
          table =
              record {
                settings = settings;
                set = set;
                total = total;
                healthy = healthy;
                disturbed = disturbed;
                unknown = unknown;
                cells = cells;
                unplaced = unplaced;
                sags = sags;
                interruptions = interruptions;
                swells = swells;
                shortfall = shortfall;
                parts = parts;
              };
        }

-- a, b and c; the same of all three
abbrev abc : ℕ → ℕ → ℕ → Sums
abc a b c = record { a = a; b = b; c = c }

abbrev alike : ℕ → Sums
alike x = abc x x x

abbrev none : List ℕ
none = replicate 40 0

abbrev cell : ℕ → List ℕ
cell i = set none i 1

-- a half-cycle's five numbers
abbrev half : (class kinds : ℕ) → Sums → List ℕ
half class kinds v = class ∷ kinds ∷ v.a ∷ v.b ∷ v.c ∷ []

cases : List Case
cases =
    -- K1
    record {
      given = dip 1000;
      answer = Ok 0;
      run = nines 23;
      scores = [];
      millis = [];
      rows = [];
      cells = [];
      others = [];
      sites = after 5 5 0 0 none none 0 0 0 0 0 (alike 0);
      straight = alike 0;
      halves = Ok 5;
      trace =
          half 1 0 (alike 8000000) ++ half 1 0 (alike 8000000) ++ half 1 0 (alike 8000000)
          ++ half 1 0 (alike 8000000) ++ half 1 0 (alike 8000000) ++ nines 11;
    }
    -- K2: severity 1, energy 0.045
    ∷ record {
      given = dip 500;
      answer = Ok 1;
      run = 1 ∷ 1 ∷ 4 ∷ 3 ∷ 2000000 ∷ 500 ∷ 36000000 ∷ 0 ∷ 12000000 ∷ 12000000 ∷ 12000000 ∷ nines 12;
      scores = bits 0x3ff0_0000_0000_0000 0x3fa7_0a3d_70a3_d70a ∷ [];
      millis = 45 ∷ [];
      rows = 2 ∷ [];
      cells = 17 ∷ [];
      others = 11 ∷ [];
      sites = after 5 2 3 0 (cell 17) (cell 11) 0 1 0 0 36000000 (alike 12000000);
      straight = alike 12000000;
      halves = Ok 5;
      trace =
          half 1 0 (alike 8000000) ++ half 2 1 (alike 5000000) ++ half 2 1 (alike 2000000)
          ++ half 2 1 (alike 5000000) ++ half 1 0 (alike 8000000) ++ nines 11;
    }
    -- K3
    ∷ record {
      given = blocks (replicate 6 900);
      answer = Ok 0;
      run = nines 23;
      scores = [];
      millis = [];
      rows = [];
      cells = [];
      others = [];
      sites = after 5 5 0 0 none none 0 0 0 0 0 (alike 0);
      straight = alike 0;
      halves = Ok 5;
      trace =
          half 1 0 (alike 6480000) ++ half 1 0 (alike 6480000) ++ half 1 0 (alike 6480000)
          ++ half 1 0 (alike 6480000) ++ half 1 0 (alike 6480000) ++ nines 11;
    }
    -- K4: severity 0.101, energy 0.005
    ∷ record {
      given = dip 899;
      answer = Ok 1;
      run = 1 ∷ 2 ∷ 3 ∷ 3 ∷ 6465608 ∷ 899 ∷ 4603176 ∷ 0 ∷ 1534392 ∷ 1534392 ∷ 1534392 ∷ nines 12;
      scores = bits 0x3fb9_db22_d0e5_6042 0x3f74_7ae1_47ae_147b ∷ [];
      millis = 5 ∷ [];
      rows = 4 ∷ [];
      cells = 32 ∷ [];
      others = 20 ∷ [];
      sites = after 5 4 1 0 (cell 32) (cell 20) 0 1 0 0 4603176 (alike 1534392);
      straight = alike 1534392;
      halves = Ok 5;
      trace =
          half 1 0 (alike 8000000) ++ half 1 0 (alike 7232804) ++ half 2 1 (alike 6465608)
          ++ half 1 0 (alike 7232804) ++ half 1 0 (alike 8000000) ++ nines 11;
    }
    -- K5: severity 0.202, energy 0.005
    ∷ record {
      given = blocks (1000 ∷ 899 ∷ 899 ∷ 919 ∷ 919 ∷ 920 ∷ 920 ∷ []);
      answer = Ok 1;
      run = 1 ∷ 1 ∷ 5 ∷ 3 ∷ 6465608 ∷ 899 ∷ 4603176 ∷ 0 ∷ 1534392 ∷ 1534392 ∷ 1534392 ∷ nines 12;
      scores = bits 0x3fc9_db22_d0e5_6042 0x3f74_7ae1_47ae_147b ∷ [];
      millis = 5 ∷ [];
      rows = 4 ∷ [];
      cells = 33 ∷ [];
      others = 21 ∷ [];
      sites = after 6 2 4 0 (cell 33) (cell 21) 0 1 0 0 4603176 (alike 1534392);
      straight = alike 1534392;
      halves = Ok 6;
      trace =
          half 1 0 (alike 7232804) ++ half 2 1 (alike 6465608) ++ half 2 1 (alike 6611048)
          ++ half 2 1 (alike 6756488) ++ half 2 1 (alike 6763844) ++ half 1 0 (alike 6771200)
          ++ nines 6;
    }
    -- K6: severity 2, energy 0.06
    ∷ record {
      given = dip 0;
      answer = Ok 2;
      run =
          1 ∷ 1 ∷ 4 ∷ 3 ∷ 0 ∷ 0 ∷ 48000000 ∷ 0 ∷ 16000000 ∷ 16000000 ∷ 16000000
          ∷ 2 ∷ 2 ∷ 3 ∷ 3 ∷ 0 ∷ 0 ∷ 0 ∷ 0 ∷ 0 ∷ 0 ∷ 0 ∷ nines 1;
      scores = bits 0x4000_0000_0000_0000 0x3fae_b851_eb85_1eb8 ∷ Err NotASag ∷ [];
      millis = 60 ∷ 0 ∷ [];
      rows = 0 ∷ 0 ∷ [];
      cells = 1 ∷ 40 ∷ [];
      others = 1 ∷ 25 ∷ [];
      sites = after 5 2 3 0 (cell 1) (cell 1) 0 1 1 0 48000000 (alike 16000000);
      straight = alike 16000000;
      halves = Ok 5;
      trace =
          half 1 0 (alike 8000000) ++ half 2 1 (alike 4000000) ++ half 2 3 (alike 0)
          ++ half 2 1 (alike 4000000) ++ half 1 0 (alike 8000000) ++ nines 11;
    }
    -- K7: retained 101, by 100.501; severity 1.798, energy 0.059
    ∷ record {
      given = blocks (1000 ∷ 1000 ∷ 100 ∷ 101 ∷ 1000 ∷ 1000 ∷ []);
      answer = Ok 1;
      run = 1 ∷ 1 ∷ 4 ∷ 3 ∷ 80804 ∷ 101 ∷ 47515176 ∷ 0 ∷ 15838392 ∷ 15838392 ∷ 15838392 ∷ nines 12;
      scores = bits 0x3ffc_c49b_a5e3_53f8 0x3fae_353f_7ced_9168 ∷ [];
      millis = 59 ∷ [];
      rows = 1 ∷ [];
      cells = 9 ∷ [];
      others = 6 ∷ [];
      sites = after 5 2 3 0 (cell 9) (cell 6) 0 1 0 0 47515176 (alike 15838392);
      straight = alike 15838392;
      halves = Ok 5;
      trace =
          half 1 0 (alike 8000000) ++ half 2 1 (alike 4040000) ++ half 2 1 (alike 80804)
          ++ half 2 1 (alike 4040804) ++ half 1 0 (alike 8000000) ++ nines 11;
    }
    -- K8
    ∷ record {
      given = blocks (500 ∷ 500 ∷ 1000 ∷ 1000 ∷ []);
      answer = Ok 1;
      run = 1 ∷ 0 ∷ 2 ∷ 2 ∷ 2000000 ∷ 500 ∷ 27000000 ∷ 0 ∷ 9000000 ∷ 9000000 ∷ 9000000 ∷ nines 12;
      scores = Err StartUnseen ∷ [];
      millis = 33 ∷ [];
      rows = 2 ∷ [];
      cells = 40 ∷ [];
      others = 25 ∷ [];
      sites = after 3 1 2 0 none none 1 1 0 0 27000000 (alike 9000000);
      straight = alike 9000000;
      halves = Ok 3;
      trace =
          half 2 1 (alike 2000000) ++ half 2 1 (alike 5000000) ++ half 1 0 (alike 8000000)
          ++ nines 21;
    }
    -- K9: one sample of the fifth block missing
    ∷ record {
      given = set (blocks (1000 ∷ 1000 ∷ 500 ∷ 500 ∷ 500 ∷ 500 ∷ 1000 ∷ 1000 ∷ [])) 48 (negsuc 2147483647);
      answer = Ok 2;
      run =
          1 ∷ 1 ∷ 3 ∷ 1 ∷ 2000000 ∷ 500 ∷ 27000000 ∷ 0 ∷ 9000000 ∷ 9000000 ∷ 9000000
          ∷ 1 ∷ 5 ∷ 6 ∷ 2 ∷ 5000000 ∷ 791 ∷ 9000000 ∷ 0 ∷ 3000000 ∷ 3000000 ∷ 3000000 ∷ nines 1;
      scores = Err EndUnseen ∷ Err StartUnseen ∷ [];
      millis = 33 ∷ 11 ∷ [];
      rows = 2 ∷ 3 ∷ [];
      cells = 40 ∷ 40 ∷ [];
      others = 25 ∷ 25 ∷ [];
      sites = after 7 2 3 2 none none 2 2 0 0 36000000 (alike 12000000);
      straight = alike 12000000;
      halves = Ok 7;
      trace =
          half 1 0 (alike 8000000) ++ half 2 1 (alike 5000000) ++ half 2 1 (alike 2000000)
          ++ half 3 0 (alike 0) ++ half 3 0 (alike 0) ++ half 2 1 (alike 5000000)
          ++ half 1 0 (alike 8000000) ++ nines 1;
    }
    -- K10
    ∷ record {
      given = dip 1200;
      answer = Ok 1;
      run = 3 ∷ 1 ∷ 4 ∷ 3 ∷ 11520000 ∷ 1200 ∷ 0 ∷ 0 ∷ 0 ∷ 0 ∷ 0 ∷ nines 12;
      scores = Err NotASag ∷ [];
      millis = 0 ∷ [];
      rows = 4 ∷ [];
      cells = 40 ∷ [];
      others = 25 ∷ [];
      sites = after 5 2 3 0 none none 0 0 0 1 0 (alike 0);
      straight = alike 0;
      halves = Ok 5;
      trace =
          half 1 0 (alike 8000000) ++ half 2 4 (alike 9760000) ++ half 2 4 (alike 11520000)
          ++ half 2 4 (alike 9760000) ++ half 1 0 (alike 8000000) ++ nines 11;
    }
    -- K11
    ∷ record {
      given = blocks (500 ∷ 500 ∷ []);
      answer = Ok 1;
      run = 1 ∷ 0 ∷ 1 ∷ 0 ∷ 2000000 ∷ 500 ∷ 18000000 ∷ 0 ∷ 6000000 ∷ 6000000 ∷ 6000000 ∷ nines 12;
      scores = Err BothUnseen ∷ [];
      millis = 22 ∷ [];
      rows = 2 ∷ [];
      cells = 40 ∷ [];
      others = 25 ∷ [];
      sites = after 1 0 1 0 none none 1 1 0 0 18000000 (alike 6000000);
      straight = alike 6000000;
      halves = Ok 1;
      trace =
          half 2 1 (alike 2000000) ++ nines 31;
    }
    -- K12: K2 on channel a only; severity 1, energy 0.015
    ∷ record {
      given = block 1000 1000 ++ block 1000 1000 ++ block 500 1000 ++ block 500 1000 ++ block 1000 1000 ++ block 1000 1000;
      answer = Ok 1;
      run = 1 ∷ 1 ∷ 4 ∷ 3 ∷ 2000000 ∷ 500 ∷ 12000000 ∷ 4 ∷ 12000000 ∷ 0 ∷ 0 ∷ nines 12;
      scores = bits 0x3ff0_0000_0000_0000 0x3f8e_b851_eb85_1eb8 ∷ [];
      millis = 15 ∷ [];
      rows = 2 ∷ [];
      cells = 17 ∷ [];
      others = 11 ∷ [];
      sites = after 5 2 3 0 (cell 17) (cell 11) 0 1 0 0 12000000 (abc 12000000 0 0);
      straight = abc 12000000 0 0;
      halves = Ok 5;
      trace =
          half 1 0 (alike 8000000) ++ half 2 1 (abc 5000000 8000000 8000000) ++ half 2 1 (abc 2000000 8000000 8000000)
          ++ half 2 1 (abc 5000000 8000000 8000000) ++ half 1 0 (alike 8000000) ++ nines 11;
    }
    ∷ []

-- the same settings with f 60
abbrev sixty : Settings
sixty = record { n = 8; r = 1000; f = 60; sag = 90; interruption = 10; swell = 110; hysteresis = 2 }

-- a frequency that is not allowed
abbrev hundred : Settings
hundred = record { n = 8; r = 1000; f = 100; sag = 90; interruption = 10; swell = 110; hysteresis = 2 }

-- a sag of h half-cycles at 899 on all channels, both ends seen: K4's extreme, and in each half-cycle K4's shortfall
abbrev at899 : ℕ → Event
at899 h =
    record {
      kind = 1;
      start = 7;
      end = 7 + h;
      seen = 3;
      extreme = 6465608;
      retained = 899;
      shortfall = 4603176 * h;
      class = 0;
      parts = alike (1534392 * h);
    }

-- K7's sag with another extreme and its retained value
abbrev near100 : (extreme retained : ℕ) → Event
near100 extreme retained =
    record {
      kind = 1;
      start = 1;
      end = 4;
      seen = 3;
      extreme = extreme;
      retained = retained;
      shortfall = 47515176;
      class = 0;
      parts = alike 15838392;
    }

-- the sag of K2 with its shortfall shared out among the channels
abbrev shared : Sums → Event
shared parts =
    record {
      kind = 1;
      start = 1;
      end = 4;
      seen = 3;
      extreme = 2000000;
      retained = 500;
      shortfall = 36000000;
      class = 0;
      parts = parts;
    }

judged : List Judged
judged =
    -- h = 20 f, by 800: 101 / 200 = 0.505, energy 5.753
    record { under = settings; set = 0; event = at899 1000; score = bits 0x3fe0_28f5_c28f_5c29 0x4017_0312_6e97_8d50; cell = 37 }
    -- h = 20 f + 1, by 900: 101 / 100 = 1.01, energy 5.759
    ∷ record { under = settings; set = 0; event = at899 1001; score = bits 0x3ff0_28f5_c28f_5c29 0x4017_0937_4bc6_a7f0; cell = 37 }
    -- f 60, h = 20 f, by 800: 0.505, energy 5.753
    ∷ record { under = sixty; set = 0; event = at899 1200; score = bits 0x3fe0_28f5_c28f_5c29 0x4017_0312_6e97_8d50; cell = 37 }
    -- f 60, h = 20 f + 1, by 900: 1.01, energy 5.758
    ∷ record { under = sixty; set = 0; event = at899 1201; score = bits 0x3ff0_28f5_c28f_5c29 0x4017_0831_26e9_78d5; cell = 37 }
    -- exactly 100.5, and the half goes upward: 899 / 500 = 1.798
    ∷ record { under = settings; set = 0; event = near100 80802 101; score = bits 0x3ffc_c49b_a5e3_53f8 0x3fae_353f_7ced_9168; cell = 9 }
    -- one unit of S below it: 900 / 500 = 1.8
    ∷ record { under = settings; set = 0; event = near100 80801 100; score = bits 0x3ffc_cccc_cccc_cccd 0x3fae_353f_7ced_9168; cell = 9 }
    -- shares that make up the shortfall, whichever they are: severity 1, energy 0.045
    ∷ record { under = settings; set = 0; event = shared (abc 35999999 0 1); score = bits 0x3ff0_0000_0000_0000 0x3fa7_0a3d_70a3_d70a; cell = 17 }
    -- one short of it; and 2 to the 64th more than it, which 64 bits take for it: not events
    ∷ record { under = settings; set = 0; event = shared (abc 35999999 0 0); score = Err NotAnEvent; cell = 40 }
    ∷ record { under = settings; set = 0; event = shared (abc 0x8000_0000_0000_0000 0x8000_0000_0000_0000 36000000); score = Err NotAnEvent; cell = 40 }
    -- by set 1: from 10 f half-cycles, 5 s, on the last column; one less the one before. By set 0 both lie between 3 and 20 s
    ∷ record { under = settings; set = 1; event = at899 499; score = bits 0x3fe0_28f5_c28f_5c29 0x4006_f7ce_d916_872b; cell = 23 }
    ∷ record { under = settings; set = 1; event = at899 500; score = bits 0x3fe0_28f5_c28f_5c29 0x4007_020c_49ba_5e35; cell = 24 }
    ∷ record { under = settings; set = 0; event = at899 499; score = bits 0x3fe0_28f5_c28f_5c29 0x4006_f7ce_d916_872b; cell = 37 }
    -- under set 1 what is not scored has cell 25, bad settings too
    ∷ record { under = settings; set = 1; event = shared (abc 35999999 0 0); score = Err NotAnEvent; cell = 25 }
    ∷ record { under = hundred; set = 1; event = shared (alike 12000000); score = Err BadSettings; cell = 25 }
    -- a set that there is not is reason 6, and 40
    ∷ record { under = settings; set = 2; event = shared (alike 12000000); score = Err BadSettings; cell = 40 }
    ∷ record { under = settings; set = 2; event = shared (abc 35999999 0 0); score = Err BadSettings; cell = 40 }
    ∷ []

-- a refusal's number and its place
abbrev told : Result ⊤ Refusal → List ℕ
told (Ok _) = []
told (Err r) = number_of r ∷ place_in r ∷ []

-- a table that has room for four half-cycles more
abbrev nearly_full : Table
nearly_full =
    record {
      settings = settings;
      set = 0;
      total = 3999996;
      healthy = 3999996;
      disturbed = 0;
      unknown = 0;
      cells = none;
      unplaced = 0;
      sags = 0;
      interruptions = 0;
      swells = 0;
      shortfall = 0;
      parts = alike 0;
    }

-- what is turned away, one of each number at least
turned : List (List ℕ)
turned =
    -- 1: f is not 50 or 60; the set of borders is not known
    told (list_check hundred (dip 500) 23)
    ∷ told (freshened settings 2).answer
    -- 2: five samples; 3: none; 4: three blocks and one sample of each channel
    ∷ told (list_check settings (replicate 5 (pos 1000)) 23)
    ∷ told (list_check settings [] 23)
    ∷ told (list_check settings (blocks (replicate 3 1000) ++ replicate 3 (pos 1000)) 23)
    -- 5, which no short recording has; 6: sample 20 is 100,001; 7: K2 with room for ten numbers
    ∷ told (Err Long)
    ∷ told (list_check settings (set (dip 500) 20 (pos 100001)) 23)
    ∷ told (list_check settings (dip 500) 10)
    -- telling each half-cycle: 7 with room for 24 numbers; a setting, a length and a sample come before the room
    ∷ told (trace_check settings (dip 500) 24)
    ∷ told (trace_check hundred (dip 500) 24)
    ∷ told (trace_check settings (replicate 5 (pos 1000)) 0)
    ∷ told (trace_check settings (set (dip 500) 71 (pos 100001)) 24)
    -- 8: K2 has five half-cycles; 9: the zeros of a refused making
    ∷ told (added nearly_full (dip 500)).answer
    ∷ told (added (freshened hundred 0).table (dip 500)).answer
    ∷ []

places : List (List ℕ)
places =
    (1 ∷ 3 ∷ []) ∷ (1 ∷ 8 ∷ []) ∷ (2 ∷ 0 ∷ []) ∷ (3 ∷ 0 ∷ []) ∷ (4 ∷ 0 ∷ []) ∷ (5 ∷ 0 ∷ []) ∷ (6 ∷ 20 ∷ []) ∷ (7 ∷ 1 ∷ [])
    ∷ (7 ∷ 5 ∷ []) ∷ (1 ∷ 3 ∷ []) ∷ (2 ∷ 0 ∷ []) ∷ (6 ∷ 71 ∷ []) ∷ (8 ∷ 4 ∷ []) ∷ (9 ∷ 0 ∷ []) ∷ []

known-answers : (map (λ (c : Case). answers_to c.given) cases ≡ cases) × (map (λ (c : Judged). judged_of c.under c.set c.event) judged ≡ judged) × (turned ≡ places)
unfolding answers_to cases judged_of judged turned places first_bad bad_setting settings_good halves_of any_missing squares sums_at half_at full carries in_run in_event starts end_of seen_of extreme_of earliest climb retained_of shorts_of six_sums type_of event_from event_at events_of in_bounds sag_good is_event why_of why_by reason_by scoring scoring_by known_set borders_of row_of column_of cell_of is_healthy is_disturbed is_unknown is_placed is_unplaced sag_cell sag_sum sag_short grown is_unsound recording_check settings_check set_check room_check list_check listed written class_at kinds_at half_words trace_of trace_room_check trace_check traced trace_written freshened sound_check full_check add_check added div of_int of_bits
known-answers = (refl, refl, refl)
