-- What a half-cycle tells, as the code works it out: by the machine of the kinds. proofs/ ties it to the rules.
use Rattle.std.specs.Prelude.{ℕ, ◌+◌, ◌*◌, ◌≤◌, ◌<◌, Bool, not, ◌&&◌, List, [], ◌∷◌, is_some}
use Rattle.rules.specs.Bounded.{bit}
use Rattle.rules.specs.Trace.{sums_told}
use Rattle.rules.specs.declared.Sums.{Sums}
use Rattle.rules.specs.Halves.{Half}
use Rattle.kinds.specs.Machine.{level_from, followed_by, in_some, Marked, Few}
use Rattle.kinds.specs.declared.Thresholds.{Thresholds}
use Rattle.kinds.specs.declared.Inside.{Inside}

-- 1 healthy, 2 disturbed, 3 unknown
abbrev pub class_by : Bool → Bool → ℕ
class_by isKnown any = 1 * bit (isKnown && not any) + 2 * bit (isKnown && any) + 3 * bit (not isKnown)

-- 1 for a sag plus 2 for an interruption plus 4 for a swell
abbrev pub kinds_by : Inside → ℕ
kinds_by i = 1 * bit i.sag + 2 * bit i.interruption + 4 * bit i.swell

-- the five numbers of a half-cycle
abbrev pub five_of : (class kinds : ℕ) → Sums → List ℕ
five_of class kinds v = class ∷ kinds ∷ v.a ∷ v.b ∷ v.c ∷ []

unfoldable pub told_by : Thresholds → Inside → Half → List ℕ
told_by m was v =
    let l = level_from m.full m.sag.from v in
    let is = followed_by m was l in
    five_of (class_by (is_some l) (in_some is)) (kinds_by is) (sums_told v)

-- what telling asks: sums that can be compared, and room
pub record Tellable (m : Thresholds) (v : Half) (k room : ℕ) : Type 0 where
  pub marked : Marked m
  pub few : Few v
  pub high : k < 100000
  pub fits : 5 * k + 5 ≤ room
