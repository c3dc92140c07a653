-- The boundary's known answers hold, of the three tables as the rules make them and then of their numbers. Assumes nothing.
use Rattle.std.specs.Prelude.{ℕ, ◌≡◌, refl, replicate}
use Rattle.std.specs.Float.Ieee.{div, of_int, of_bits}
use Rattle.rules.specs.Recorder.{first_bad, bad_setting, settings_good}
use Rattle.rules.specs.Halves.{halves_of, any_missing, squares, sums_at, half_at, full}
use Rattle.rules.specs.Events.{carries, in_run, in_event, starts, end_of, seen_of, extreme_of, earliest, climb, retained_of, shorts_of, six_sums, type_of}
use Rattle.rules.specs.EventList.{event_from, event_at, events_of}
use Rattle.rules.specs.Trace.{class_at, kinds_at, half_words, trace_of}
use Rattle.rules.specs.Scores.{in_bounds, sag_good, is_event, why_of, why_by, reason_of, reason_by, scoring, scoring_by}
use Rattle.rules.specs.Borders.{known_set, borders_of, row_of, column_of}
use Rattle.rules.specs.Site.{cell_of, is_healthy, is_disturbed, is_unknown, is_placed, is_unplaced, sag_cell, sag_sum, grown, empty, zero_settings, is_unsound}
use Rattle.rules.specs.Refusals.{recording_check, settings_check, set_check, room_check, list_check, listed, written, trace_room_check, trace_check, traced, trace_written, freshened, sound_check, full_check, add_check, added}
use Rattle.words.specs.Words.{table_words, table_from}
use Rattle.words.specs.Known.{scores_of, lists_of, traces_of, fresh_of, adds_to, good, fresh, asked_of, answers}

-- computed of the three tables as the rules make them, then said of their numbers
computed : asked_of (empty good 0) (empty good 1) (empty zero_settings 0) ≡ answers
unfolding asked_of answers scores_of lists_of traces_of fresh_of adds_to table_words table_from first_bad bad_setting settings_good halves_of any_missing squares sums_at half_at full carries in_run in_event starts end_of seen_of extreme_of earliest climb retained_of shorts_of six_sums type_of event_from event_at events_of in_bounds sag_good is_event why_of why_by reason_of reason_by scoring scoring_by known_set borders_of row_of column_of cell_of is_healthy is_disturbed is_unknown is_placed is_unplaced sag_cell sag_sum grown is_unsound recording_check settings_check set_check room_check list_check listed written class_at kinds_at half_words trace_of trace_room_check trace_check traced trace_written freshened sound_check full_check add_check added div of_int of_bits
computed = refl

fresh_is : (borders : ℕ) → table_from (fresh borders) ≡ empty good borders
unfolding table_from
fresh_is borders = refl

zeros_are : table_from (replicate 60 0) ≡ empty zero_settings 0
unfolding table_from
zeros_are = refl

boundary_answers : asked_of (table_from (fresh 0)) (table_from (fresh 1)) (table_from (replicate 60 0)) ≡ answers
boundary_answers = rw (fresh_is 0, fresh_is 1, zeros_are) computed
