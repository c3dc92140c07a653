-- Scores: the test of an event, the reasons in their order, severity and energy.
use Rattle.std.specs.Prelude.{ℕ, ◌-◌, ◌*◌, ◌/◌, Bool, not, ◌&&◌, cond, pos, leb, ltb, eqb, Float, Result, Ok, Err, Option, Some, None}
use Rattle.std.specs.Float.{binary64}
use Rattle.std.specs.Float.Ieee.{div, of_int}
use Rattle.rules.specs.Recorder.{within, settings_good}
use Rattle.rules.specs.Halves.{full, below}
use Rattle.rules.specs.Events.{retained_of, make_up}
use Rattle.rules.specs.Borders.{known_set}
use Rattle.rules.specs.declared.Settings.{Settings}
use Rattle.rules.specs.declared.Event.{Event}
use Rattle.rules.specs.declared.Score.{Score}
use Rattle.rules.specs.declared.Reason.{Reason}
use Rattle.rules.specs.declared.Reason.TheVariants.{StartUnseen, EndUnseen, BothUnseen, NotASag, NotAnEvent, BadSettings}

-- ---- "not an event": what holds of one of any kind, of a sag, of another kind

-- kind 1 to 3; start below end; end at most 100,000; seen at most 3; extreme at most N x 10,000,000,000
unfoldable pub in_bounds : Settings → Event → Bool
in_bounds s e =
    within 1 3 e.kind && ltb e.start e.end && leb e.end 100000 && leb e.seen 3
    && leb e.extreme (s.n * 10000000000)

abbrev pub is_sag : Event → Bool
is_sag e = eqb e.kind 1

-- a sag's extreme is below the threshold, its shortfall at most 3 x N x R x R x (end - start), its type at most 6
unfoldable pub sag_good : Settings → Event → Bool
sag_good s e =
    below s s.sag e.extreme && leb e.shortfall (3 * full s * (e.end - e.start)) && leb e.class 6

-- another kind has shortfall and type 0
abbrev pub other_good : Event → Bool
other_good e = eqb e.shortfall 0 && eqb e.class 0

-- and of any kind the retained value is that of the extreme, and the shortfalls of the channels make up the shortfall
unfoldable pub is_event : Settings → Event → Bool
is_event s e =
    in_bounds s e
    && (eqb e.retained (retained_of s e.extreme) && make_up e.parts e.shortfall
    && cond (is_sag e) (sag_good s e) (other_good e))

-- ---- reasons

abbrev pub number_of_reason : Reason → ℕ
number_of_reason StartUnseen = 1
number_of_reason EndUnseen = 2
number_of_reason BothUnseen = 3
number_of_reason NotASag = 4
number_of_reason NotAnEvent = 5
number_of_reason BadSettings = 6

-- 0 is no reason
abbrev pub reason_number : Option Reason → ℕ
reason_number None = 0
reason_number (Some r) = number_of_reason r

-- 1 only the start unseen, 2 only the end unseen, 3 both
abbrev pub unseen_of : ℕ → Option Reason
unseen_of seen = cond (eqb seen 3) None (Some (cond (eqb seen 2) StartUnseen (cond (eqb seen 1) EndUnseen BothUnseen)))

-- in this order: 6 settings bad; 5 not an event; 4 not a sag; then 1, 2, 3
unfoldable pub why_of : Settings → Event → Option Reason
why_of s e =
    cond (not (settings_good s)) (Some BadSettings)
    (cond (not (is_event s e)) (Some NotAnEvent)
    (cond (not (is_sag e)) (Some NotASag) (unseen_of e.seen)))

-- as a host is told that hands over a set of borders too: No. 9 of document 02 has an unknown one be reason 6
unfoldable pub why_by : Settings → ℕ → Event → Option Reason
why_by s set e = cond (known_set set) (why_of s e) (Some BadSettings)

-- and as numbers
unfoldable pub reason_of : Settings → Event → ℕ
reason_of s e = reason_number (why_of s e)

unfoldable pub reason_by : Settings → ℕ → Event → ℕ
reason_by s set e = reason_number (why_by s set e)

-- ---- the score

-- the curve value at h half-cycles: 0 for h at most 2; else 500 while 5h is at most 2f; else 700 while h is at most f; else 800 while
-- h is at most 20f; 900 after that
abbrev pub curve_of : ℕ → ℕ → ℕ
curve_of f h = cond (leb h 2) 0 (cond (leb (5 * h) (2 * f)) 500 (cond (leb h f) 700 (cond (leb h (20 * f)) 800 900)))

-- a whole number as a 64-bit float
abbrev pub whole : ℕ → Float
whole n = of_int binary64 (pos n)

-- the float of 1000 - r divided once by the float of 1000 - c
abbrev pub severity_of : ℕ → ℕ → Float
severity_of r c = div binary64 (whole (1000 - r)) (whole (1000 - c))

-- whole milliseconds of 1000 x shortfall / (N x R x R x 2f), rounded down, and as seconds
abbrev pub millis_of : Settings → ℕ → ℕ
millis_of s shortfall = 1000 * shortfall / (full s * (2 * s.f))

abbrev pub energy_of : Settings → ℕ → Float
energy_of s shortfall = div binary64 (whole (millis_of s shortfall)) (whole 1000)

abbrev pub score_of : Settings → Event → Score
score_of s e =
    record {
      severity = severity_of e.retained (curve_of s.f (e.end - e.start));
      energy = energy_of s e.shortfall;
    }

-- a score is either two floats, or a reason and no floats
abbrev pub given_unless : Option Reason → Score → Result Score Reason
given_unless None x = Ok x
given_unless (Some r) x = Err r

unfoldable pub scoring : Settings → Event → Result Score Reason
scoring s e = given_unless (why_of s e) (score_of s e)

-- as a host is told that hands over a set of borders too
unfoldable pub scoring_by : Settings → ℕ → Event → Result Score Reason
scoring_by s set e = given_unless (why_by s set e) (score_of s e)
