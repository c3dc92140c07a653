-- The counting pass, as the code runs it, and its notes. proofs/ ties it to the rules.
use Rattle.std.specs.Prelude.{ℕ, suc, ◌+◌, ◌*◌, ◌/◌, ◌≤◌, ◌<◌, ◌≡◌, Bool, true, false, not, ◌&&◌, List, get_or, set, ℤ, Some}
use Rattle.rules.specs.Bounded.{bit, count}
use Rattle.rules.specs.Halves.{Half, begin, half_at, halves_of}
use Rattle.rules.specs.Events.{starts}
use Rattle.rules.specs.declared.Settings.{Settings}
use Rattle.rules.specs.declared.Kind.TheVariants.{Sag, Interruption, Swell}
use Rattle.checks.specs.Flags.{RangedBelow, as_read}
use Rattle.halves.specs.Steps.{step_at}
use Rattle.halves.specs.declared.Recording.{Recording}
use Rattle.quiet.specs.Quiet.{Resting, Standing}
use Rattle.kinds.specs.Machine.{level_from, inside_at, followed_by, in_some}
use Rattle.kinds.specs.declared.Thresholds.{Thresholds}
use Rattle.counts.specs.declared.Tally.{Tally}
use Rattle.counts.specs.declared.Counted.{Counted}

unfoldable pub tallied : Thresholds → Tally → Half → Tally
tallied m t v =
    let was = t.inside in
    let is = followed_by m was (level_from m.full m.sag.from v) in
    record {
      inside = is;
      n =
          t.n
          + (bit (is.sag && not was.sag) + bit (is.interruption && not was.interruption) + bit (is.swell && not was.swell));
    }

-- the tally before half-cycle k
unfoldable pub tally_of : Settings → (ℕ → Half) → ℕ → Tally
tally_of s h k =
    record {
      inside = inside_at s h k;
      n = count (starts s h Sag) k + count (starts s h Interruption) k + count (starts s h Swell) k;
    }

-- an event is going on
abbrev pub going_on : Tally → Bool
going_on t = in_some t.inside

-- what counting on from half-cycle `from` asks: the tally before it and that one's first step, and that all samples up to that step are
-- in range
pub record Counting (r : Recording) (t : Tally) (first : Half) (from : ℕ) : Type 0 where
  pub standing : Standing r from r.halves first
  pub more : from < r.halves
  pub tally : t ≡ tally_of r.settings (half_at r.settings (as_read r.samples.now)) from
  pub every_in_range : RangedBelow r.samples.now (3 * begin r.settings (suc from))

-- what it finds, of the recording as it is read: all samples up to the first step of half-cycle k are in range; at the half-cycles passed
-- nothing goes on, but for the one that the machine took
pub record CountedTo (s : Settings) (xs : List ℤ) (from : ℕ) (r : Counted) : Type 0 where
  pub more : from < r.k
  pub high : r.k ≤ halves_of s xs
  pub tally : r.tally ≡ tally_of s (half_at s (as_read xs)) r.k
  pub step : r.step ≡ step_at s xs r.k
  pub every_in_range : RangedBelow xs (3 * begin s (suc r.k))
  pub passed : (k : ℕ) → r.taken ≡ Some k → k < r.k
  pub resting : (k : ℕ) → from ≤ k → k < r.k → (r.taken ≡ Some k → ⊥) → Resting s (half_at s (as_read xs)) k

-- a note for the group of four in which half-cycle k lies
unfoldable pub noted_at : List Bool → ℕ → List Bool
noted_at notes k = set notes (k / 4) true

-- where there is no note, nothing goes on; and there is one for half-cycle H, which does not exist
pub record Noted (s : Settings) (xs : List ℤ) (notes : List Bool) : Type 0 where
  pub resting : (k : ℕ) → k < halves_of s xs → get_or notes (k / 4) false ≡ false → Resting s (half_at s xs) k
  pub last : get_or notes (halves_of s xs / 4) false ≡ true
