-- The boundary's own known answers: what goes in and comes out as numbers, of K2 and of what is turned away, and each number of a table
-- in its place. The numbers are those of the rules' known answers; the order is that of the rules' sentences.
use Rattle.std.specs.Prelude.{ℕ, zero, suc, List, [], ◌∷◌, ◌++◌, replicate, set, length, ℤ, pos, Float}
use Rattle.std.specs.Float.{binary64}
use Rattle.std.specs.Float.Ieee.{of_int, of_bits}
use Rattle.rules.specs.Scores.{reason_by, scoring_by}
use Rattle.rules.specs.Site.{cell_of}
use Rattle.rules.specs.Refusals.{listed, written, traced, trace_written, freshened, added}
use Rattle.rules.specs.Known.{dip}
use Rattle.rules.specs.declared.Settings.{Settings}
use Rattle.rules.specs.declared.Event.{Event}
use Rattle.rules.specs.declared.Table.{Table}
use Rattle.words.specs.Numbers.{settings_from, event_with, severity_after, energy_after, number_of_score, number_of_answer, count_or_place, place_of_answer}
use Rattle.words.specs.Words.{table_words, table_from}

-- ---- what the seven calls hand back

pub record Scores : Type 0 where
  reason : ℕ
  cell : ℕ
  number : ℕ
  severity : Float
  energy : Float

-- `burr_reason`, `burr_cell` and `burr_score`, the two floats lent as 9
unfoldable pub scores_of : Settings → ℕ → Event → Scores
scores_of s set e =
    record {
      reason = reason_by s set e;
      cell = cell_of s set e;
      number = number_of_score (scoring_by s set e);
      severity = severity_after (scoring_by s set e) nine;
      energy = energy_after (scoring_by s set e) nine;
    }
  where
    nine : Float
    nine = of_int binary64 (pos 9)

pub record Lists : Type 0 where
  number : ℕ
  answer : ℕ
  events : List ℕ

-- `burr_list`, into a lent run
unfoldable pub lists_of : Settings → List ℤ → List ℕ → Lists
lists_of s xs out =
    record {
      number = number_of_answer (listed s xs (length out));
      answer = count_or_place (listed s xs (length out));
      events = written s xs out;
    }

pub record Traces : Type 0 where
  number : ℕ
  answer : ℕ
  halves : List ℕ

-- `burr_halves`, into a lent run
unfoldable pub traces_of : Settings → List ℤ → List ℕ → Traces
traces_of s xs out =
    record {
      number = number_of_answer (traced s xs (length out));
      answer = count_or_place (traced s xs (length out));
      halves = trace_written s xs out;
    }

pub record Tables : Type 0 where
  number : ℕ
  place : ℕ
  table : List ℕ

-- `burr_fresh`, and `burr_add` to 60 lent numbers
unfoldable pub fresh_of : Settings → ℕ → Tables
fresh_of s set =
    record {
      number = number_of_answer (freshened s set).answer;
      place = place_of_answer (freshened s set).answer;
      table = table_words (freshened s set).table;
    }

unfoldable pub adds_to : Table → List ℤ → Tables
adds_to t xs =
    record {
      number = number_of_answer (added t xs).answer;
      place = place_of_answer (added t xs).answer;
      table = table_words (added t xs).table;
    }

-- ---- the answers

-- the settings of the known answers, and such with a frequency of 55
abbrev pub good : Settings
good = settings_from 8 1000 50 90 10 110 2

abbrev bad : Settings
bad = settings_from 8 1000 55 90 10 110 2

-- K2, and K2 with its sample 5 out of range
abbrev k2 : List ℤ
k2 = dip 500

abbrev spoilt : List ℤ
spoilt = set k2 5 (pos 100001)

-- the 60 numbers of a fresh table of a set, and those after K2: the settings and the set; 5 half-cycles, 2 healthy, 3 disturbed,
-- 0 unknown; one sag in its cell by that set; unplaced, sags, interruptions, swells, shortfall, and that of each channel
abbrev pub fresh : ℕ → List ℕ
fresh borders = 8 ∷ 1000 ∷ 50 ∷ 90 ∷ 10 ∷ 110 ∷ 2 ∷ borders ∷ replicate 52 0

abbrev after_k2 : (borders cell : ℕ) → List ℕ
after_k2 borders cell =
    (8 ∷ 1000 ∷ 50 ∷ 90 ∷ 10 ∷ 110 ∷ 2 ∷ borders ∷ 5 ∷ 2 ∷ 3 ∷ 0 ∷ set (replicate 40 0) cell 1) ++ 0 ∷ 1 ∷ 0 ∷ 0 ∷ 36000000 ∷ 12000000 ∷ 12000000 ∷ 12000000 ∷ []

-- n numbers, one after the other
abbrev from : ℕ → ℕ → List ℕ
from i zero = []
from i (suc n) = i ∷ from (suc i) n

-- a table with another number in each place, from 1 to 60
abbrev counting : Table
counting =
    record {
      settings = record { n = 1; r = 2; f = 3; sag = 4; interruption = 5; swell = 6; hysteresis = 7 };
      set = 8;
      total = 9;
      healthy = 10;
      disturbed = 11;
      unknown = 12;
      cells = from 13 40;
      unplaced = 53;
      sags = 54;
      interruptions = 55;
      swells = 56;
      shortfall = 57;
      parts = record { a = 58; b = 59; c = 60 };
    }

pub record Answers : Type 0 where
  scored : List Scores
  lists : List Lists
  traces : List Traces
  tables : List Tables
  words : List ℕ
  table : Table

-- `table` and `other` are what the numbers of the fresh tables of set 0 and set 1 stand for, `zeros` what 60 zeros do
unfoldable pub asked_of : (table other zeros : Table) → Answers
asked_of table other zeros =
    record {
      -- K2's sag by set 0 and by set 1; the same with its start unseen, by both; with end and start in each other's place; under
      -- bad settings; by a set that there is not
      scored =
          scores_of good 0 (event_with 1 1 4 3 2000000 500 36000000 0 12000000 12000000 12000000)
          ∷ scores_of good 1 (event_with 1 1 4 3 2000000 500 36000000 0 12000000 12000000 12000000)
          ∷ scores_of good 0 (event_with 1 1 4 2 2000000 500 36000000 0 12000000 12000000 12000000)
          ∷ scores_of good 1 (event_with 1 1 4 2 2000000 500 36000000 0 12000000 12000000 12000000)
          ∷ scores_of good 0 (event_with 1 4 1 3 2000000 500 36000000 0 12000000 12000000 12000000)
          ∷ scores_of bad 0 (event_with 1 1 4 3 2000000 500 36000000 0 12000000 12000000 12000000)
          ∷ scores_of good 2 (event_with 1 1 4 3 2000000 500 36000000 0 12000000 12000000 12000000)
          ∷ [];
      -- K2 into a run of twelve and one of ten; a sample out of range; bad settings
      lists =
          lists_of good k2 (replicate 12 9)
          ∷ lists_of good k2 (replicate 10 9)
          ∷ lists_of good spoilt (replicate 12 9)
          ∷ lists_of bad k2 (replicate 12 9)
          ∷ [];
      -- K2 into a run of 26 and one of 24; a sample out of range; bad settings
      traces =
          traces_of good k2 (replicate 26 9)
          ∷ traces_of good k2 (replicate 24 9)
          ∷ traces_of good spoilt (replicate 26 9)
          ∷ traces_of bad k2 (replicate 26 9)
          ∷ [];
      -- makings of both sets, and two that are refused, for a setting and for a set; K2 offered to a fresh table of each set, a sample
      -- out of range to the second, K2 to zeros
      tables =
          fresh_of good 0
          ∷ fresh_of good 1
          ∷ fresh_of bad 2
          ∷ fresh_of good 2
          ∷ adds_to table k2
          ∷ adds_to other k2
          ∷ adds_to other spoilt
          ∷ adds_to zeros k2
          ∷ [];
      words = table_words counting;
      table = table_from (from 1 60);
    }

unfoldable pub answers : Answers
answers =
    record {
      scored =
          -- severity 1, energy 0.045; else both floats stay 9
          scored 17
          ∷ scored 11
          ∷ unscored 1 40
          ∷ unscored 1 25
          ∷ unscored 5 40
          ∷ unscored 6 40
          ∷ unscored 6 40
          ∷ [];
      lists =
          record { number = 0; answer = 1; events = 1 ∷ 1 ∷ 4 ∷ 3 ∷ 2000000 ∷ 500 ∷ 36000000 ∷ 0 ∷ 12000000 ∷ 12000000 ∷ 12000000 ∷ 9 ∷ [] }
          ∷ record { number = 7; answer = 1; events = replicate 10 9 }
          ∷ record { number = 6; answer = 5; events = replicate 12 9 }
          ∷ record { number = 1; answer = 3; events = replicate 12 9 }
          ∷ [];
      -- healthy, in the sag three times, healthy
      traces =
          record {
            number = 0;
            answer = 5;
            halves =
                1 ∷ 0 ∷ 8000000 ∷ 8000000 ∷ 8000000
                ∷ 2 ∷ 1 ∷ 5000000 ∷ 5000000 ∷ 5000000
                ∷ 2 ∷ 1 ∷ 2000000 ∷ 2000000 ∷ 2000000
                ∷ 2 ∷ 1 ∷ 5000000 ∷ 5000000 ∷ 5000000
                ∷ 1 ∷ 0 ∷ 8000000 ∷ 8000000 ∷ 8000000
                ∷ 9 ∷ [];
          }
          ∷ record { number = 7; answer = 5; halves = replicate 24 9 }
          ∷ record { number = 6; answer = 5; halves = replicate 26 9 }
          ∷ record { number = 1; answer = 3; halves = replicate 26 9 }
          ∷ [];
      tables =
          record { number = 0; place = 0; table = fresh 0 }
          ∷ record { number = 0; place = 0; table = fresh 1 }
          ∷ record { number = 1; place = 3; table = replicate 60 0 }
          ∷ record { number = 1; place = 8; table = replicate 60 0 }
          ∷ record { number = 0; place = 0; table = after_k2 0 17 }
          ∷ record { number = 0; place = 0; table = after_k2 1 11 }
          ∷ record { number = 6; place = 5; table = fresh 1 }
          ∷ record { number = 9; place = 0; table = replicate 60 0 }
          ∷ [];
      words = from 1 60;
      table = counting;
    }
  where
    scored : ℕ → Scores
    scored cell =
        record {
          reason = 0;
          cell = cell;
          number = 0;
          severity = of_bits binary64 0x3ff0_0000_0000_0000;
          energy = of_bits binary64 0x3fa7_0a3d_70a3_d70a;
        }

    unscored : (why cell : ℕ) → Scores
    unscored why cell =
        record {
          reason = why;
          cell = cell;
          number = why;
          severity = of_bits binary64 0x4022_0000_0000_0000;
          energy = of_bits binary64 0x4022_0000_0000_0000;
        }
