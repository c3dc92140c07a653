-- What an event has that has no reason against it. Assumes nothing.
use Rattle.std.specs.Prelude.{Some, None}
use Prim.Native.Nat.{ℕ}
use mathlib.Core.Path.{◌≡◌, refl, ap}
use mathlib.Core.Bool.{true, false}
use lib.Dec.{eqb}
use Rattle.rules.specs.declared.Settings.{Settings}
use Rattle.rules.specs.declared.Event.{Event}
use Rattle.rules.specs.declared.Reason.{Reason}
use Rattle.rules.specs.declared.Reason.TheVariants.{StartUnseen, EndUnseen, BothUnseen, NotASag, NotAnEvent, BadSettings}
use Rattle.rules.specs.Borders.{known_set}
use Rattle.rules.specs.Scores.{number_of_reason, reason_number, why_of, why_by, reason_of, reason_by}
use Rattle.rules.specs.Site.{not_scored, cell_of}
use Rattle.rules.specs.Demands.{Scorable}
use Rattle.rules.proofs.Scorable.{scorable}
use Rattle.rules.proofs.DemandTwo.{no_reason}

pub sound : (s : Settings) (e : Event) → why_of s e ≡ None → Scorable s e
unfolding reason_of
sound s e h = scorable s e (ap reason_number h)

-- under a set of borders, that set is known
pub sound_by : (s : Settings) (set : ℕ) (e : Event) → why_by s set e ≡ None → (known_set set ≡ true) × Scorable s e
unfolding reason_by
sound_by s set e h = let r = no_reason s set e (ap reason_number h) in (r.0, scorable s e r.1)

-- so it has none with no set either
pub unhindered : (s : Settings) (set : ℕ) (e : Event) → why_by s set e ≡ None → why_of s e ≡ None
unfolding why_by
unhindered s set e h = rw (sound_by s set e h).0 at h

-- a reason's number is not 0
numbered : (r : Reason) → eqb (number_of_reason r) 0 ≡ false
numbered StartUnseen = refl
numbered EndUnseen = refl
numbered BothUnseen = refl
numbered NotASag = refl
numbered NotAnEvent = refl
numbered BadSettings = refl

pub has_no_cell : (s : Settings) (set : ℕ) (e : Event) (r : Reason) → why_by s set e ≡ Some r → cell_of s set e ≡ not_scored s set
unfolding cell_of reason_by
has_no_cell s set e r h = rw (h, numbered r)
