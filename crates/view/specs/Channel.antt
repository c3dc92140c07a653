-- One channel inside the interleaved run, read through a view: what it gives, and where it stands afterwards.
use Rattle.std.specs.Prelude.{ℕ, zero, suc, ◌+◌, ◌*◌, ◌/◌, ◌%◌, Bool, ◌&&◌, cond, List, [], ◌∷◌, length, drop, ℤ, leb, ltb, Option, Some, None}
use Rattle.std.specs.Borrow.{Bor}
use Rattle.rules.specs.Recorder.{sample_at}
use Rattle.rules.specs.Bounded.{bit}
use Rattle.view.specs.declared.Step.{Step}
use Rattle.view.specs.declared.View.{View}

-- the run has such a sample: the channel is at most 2 (a is 0), and 3 x position + channel is below the length
unfoldable pub holds : List ℤ → ℕ → ℕ → Bool
holds xs channel at = leb channel 2 && ltb (3 * at + channel) (length xs)

-- the sample at the position in the channel, as it is, or none
unfoldable pub reading_of : List ℤ → ℕ → ℕ → Option ℤ
reading_of xs channel at = cond (holds xs channel at) (Some (sample_at xs channel at)) None

-- on by one after a sample; with none, the view stays
unfoldable pub next_of : List ℤ → ℕ → ℕ → ℕ
next_of xs channel at = cond (holds xs channel at) (at + 1) at

-- both
abbrev pub step_of : List ℤ → ℕ → ℕ → Step
step_of xs channel at = record { reading = reading_of xs channel at; at = next_of xs channel at }

-- how many samples of the channel a run of a length has, full rounds of three and what is left over
abbrev pub count_of : ℕ → ℕ → ℕ
count_of len channel = cond (leb channel 2) (len / 3 + bit (ltb channel (len % 3))) 0

-- ---- the view

-- the caller's samples, by reference, a channel and a position
abbrev pub view_of : Bor (List ℤ) → ℕ → ℕ → View
view_of samples channel at = record { samples = samples; channel = channel; at = at }

-- the view after a reading: the same samples and channel, and the position after it
abbrev pub moved_on : View → View
moved_on v = view_of v.samples v.channel (next_of v.samples.now v.channel v.at)

-- ---- a channel as a list

-- the first of a list and every third after it
abbrev pub thirds : List ℤ → List ℤ
thirds [] = []
thirds (x ∷ []) = x ∷ []
thirds (x ∷ y ∷ []) = x ∷ []
thirds (x ∷ y ∷ z ∷ xs) = x ∷ thirds xs

-- the channel's samples, in order; there is no channel above 2
unfoldable pub channel_of : List ℤ → ℕ → List ℤ
channel_of xs channel = cond (leb channel 2) (thirds (drop channel xs)) []

-- what a view gives in n readings, one after the other: by its samples, channel and position, and by the view itself
abbrev pub readings : List ℤ → ℕ → ℕ → ℕ → List (Option ℤ)
readings xs channel at zero = []
readings xs channel at (suc n) = reading_of xs channel at ∷ readings xs channel (next_of xs channel at) n

abbrev pub viewed : View → ℕ → List (Option ℤ)
viewed v zero = []
viewed v (suc n) = reading_of v.samples.now v.channel v.at ∷ viewed (moved_on v) n
