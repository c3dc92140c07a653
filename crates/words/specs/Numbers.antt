-- The numbers of the boundary: the settings and the event that they make, and the numbers that an answer makes.
use Rattle.std.specs.Prelude.{ℕ, Float, Result, Ok, Err, ⊤}
use Rattle.rules.specs.Scores.{number_of_reason}
use Rattle.rules.specs.Refusals.{number_of, place_in}
use Rattle.rules.specs.declared.Settings.{Settings}
use Rattle.rules.specs.declared.Event.{Event}
use Rattle.rules.specs.declared.Refusal.{Refusal}
use Rattle.rules.specs.declared.Score.{Score}
use Rattle.rules.specs.declared.Reason.{Reason}

-- seven numbers as settings, eleven as an event
abbrev pub settings_from : (n r f sag interruption swell hysteresis : ℕ) → Settings
settings_from n r f sag interruption swell hysteresis =
    record {
      n = n;
      r = r;
      f = f;
      sag = sag;
      interruption = interruption;
      swell = swell;
      hysteresis = hysteresis;
    }

abbrev pub event_with : (kind start end seen extreme retained shortfall class a b c : ℕ) → Event
event_with kind start end seen extreme retained shortfall class a b c =
    record {
      kind = kind;
      start = start;
      end = end;
      seen = seen;
      extreme = extreme;
      retained = retained;
      shortfall = shortfall;
      class = class;
      parts = record { a = a; b = b; c = c };
    }

-- the number of a score's answer: 0, or the reason's number
abbrev pub number_of_score : Result Score Reason → ℕ
number_of_score (Ok x) = 0
number_of_score (Err k) = number_of_reason k

-- what the two lent floats hold after a score, and what they held where there is none
abbrev pub severity_after : Result Score Reason → Float → Float
severity_after (Ok x) old = x.severity
severity_after (Err k) old = old

abbrev pub energy_after : Result Score Reason → Float → Float
energy_after (Ok x) old = x.energy
energy_after (Err k) old = old

-- the number of a call's answer, whatever it gives: 0, or the refusal's number
abbrev pub number_of_answer : {A : Type 0} → Result A Refusal → ℕ
number_of_answer (Ok x) = 0
number_of_answer (Err r) = number_of r

-- and what is told beside it, or the refusal's place: how many are written, and 0 where the call gives nothing
abbrev pub count_or_place : Result ℕ Refusal → ℕ
count_or_place (Ok n) = n
count_or_place (Err r) = place_in r

abbrev pub place_of_answer : Result ⊤ Refusal → ℕ
place_of_answer (Ok x) = 0
place_of_answer (Err r) = place_in r
