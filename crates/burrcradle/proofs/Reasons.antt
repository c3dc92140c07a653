-- The two calls that give a reason give the same one: a score's number is that of the event's reason.
use Rattle.std.specs.Prelude.{ℕ, Option, Some, None}
use mathlib.Core.Path.{◌≡◌, refl}
use Rattle.rules.specs.Scores.{reason_number, why_by, reason_by, score_of, given_unless, scoring_by}
use Rattle.rules.specs.declared.Settings.{Settings}
use Rattle.rules.specs.declared.Event.{Event}
use Rattle.rules.specs.declared.Score.{Score}
use Rattle.rules.specs.declared.Reason.{Reason}
use Rattle.words.specs.Numbers.{number_of_score}

-- over any reason and any score
number_of : (w : Option Reason) (x : Score) → number_of_score (given_unless w x) ≡ reason_number w
number_of None x = refl
number_of (Some r) x = refl

pub same_reason : (s : Settings) (set : ℕ) (e : Event) → number_of_score (scoring_by s set e) ≡ reason_by s set e
unfolding scoring_by reason_by
same_reason s set e = number_of (why_by s set e) (score_of s e)
