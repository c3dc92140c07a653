-- A recording as a row of steps, each half a cycle of samples of every channel, and what one pass over a step finds. A part of a
-- recording is a run of its own, which begins at its first sample of channel a.
use Rattle.std.specs.Prelude.{ℕ, ◌+◌, ◌*◌, ◌/◌, ◌<◌, ◌≤◌, Bool, cond, List, length, take, drop, ℤ, pos, slice_index_or, unsigned_abs, Some, None}
use Rattle.rules.specs.Bounded.{any, sum}
use Rattle.rules.specs.Recorder.{sample_at}
use Rattle.rules.specs.Halves.{Half, samples_of, square, begin}
use Rattle.rules.specs.declared.Settings.{Settings}
use Rattle.rules.specs.declared.Sums.{Sums}
use Rattle.checks.specs.Flags.{outside}

-- m samples of each channel, from sample b on
abbrev pub part : List ℤ → ℕ → ℕ → List ℤ
part xs b m = take (3 * m) (drop (3 * b) xs)

-- the window of half-cycle k: N samples of each channel from sample k x N/2
abbrev pub window : Settings → List ℤ → ℕ → List ℤ
window s xs k = part xs (begin s k) s.n

-- step j: N/2 samples of each channel from sample j x N/2
abbrev pub step_run : Settings → List ℤ → ℕ → List ℤ
step_run s xs j = part xs (begin s j) (s.n / 2)

-- some sample lies outside the limits: it is missing, or bad
unfoldable pub outside_in : List ℤ → Bool
outside_in w = any (λ i. outside (slice_index_or w i (pos 0))) (length w)

-- the squares of channel c summed, and those of all three
abbrev pub squares_in : List ℤ → ℕ → ℕ → ℕ
squares_in w c n = sum (λ i. square (sample_at w c i)) n

unfoldable pub sums_in : List ℤ → Sums
sums_in w = record { a = squares_in w 0 (samples_of w); b = squares_in w 1 (samples_of w); c = squares_in w 2 (samples_of w) }

-- what a step is: unknown where a sample lies outside the limits, and else its sums
unfoldable pub step_in : List ℤ → Half
step_in w = cond (outside_in w) None (Some (sums_in w))

unfoldable pub step_at : Settings → List ℤ → ℕ → Half
step_at s xs j = step_in (step_run s xs j)

-- two steps: unknown if either is, and else their sums added
unfoldable pub joined_of : Half → Half → Half
joined_of None q = None
joined_of (Some u) None = None
joined_of (Some u) (Some v) = Some (record { a = u.a + v.a; b = u.b + v.b; c = u.c + v.c })

-- every sample lies from -100,000 to 100,000
abbrev pub Low : List ℤ → Type 0
Low w = (i : ℕ) → i < length w → unsigned_abs (slice_index_or w i (pos 0)) ≤ 100000

-- the sums of a step are at most 256 x 10,000,000,000
abbrev pub Addable : Half → Type 0
Addable None = Unit {0}
Addable (Some v) = (v.a ≤ 2560000000000) × (v.b ≤ 2560000000000) × (v.c ≤ 2560000000000)
