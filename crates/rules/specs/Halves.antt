-- Half-cycles: which there are, known or unknown, their sums S, and the exact comparisons of V with a percentage of R.
use Rattle.std.specs.Prelude.{ℕ, zero, suc, ◌+◌, ◌-◌, ◌*◌, ◌/◌, Bool, true, false, not, ◌&&◌, ◌||◌, cond, List, length, ℤ, nat_abs, leb, ltb, Option, Some, None}
use Rattle.rules.specs.Bounded.{any, sum}
use Rattle.rules.specs.Recorder.{sample_at, missing}
use Rattle.rules.specs.declared.Settings.{Settings}
use Rattle.rules.specs.declared.Sums.{Sums}

-- ---- channels: a is 0, b is 1, c is 2

-- the number of channel c
abbrev pub of_channel : ℕ → Sums → ℕ
of_channel zero v = v.a
of_channel (suc zero) v = v.b
of_channel (suc (suc c)) v = v.c

-- what f gives of each channel
abbrev pub channels : (ℕ → ℕ) → Sums
channels f = record { a = f 0; b = f 1; c = f 2 }

-- ---- half-cycles

-- its sums, or none where it is unknown
abbrev pub Half : Type 0
Half = Option Sums

-- L, samples per channel
abbrev pub samples_of : List ℤ → ℕ
samples_of xs = length xs / 3

-- H = 2L/N - 1
unfoldable pub halves_of : Settings → List ℤ → ℕ
halves_of s xs = 2 * samples_of xs / s.n - 1

-- half-cycle k covers the N samples of each channel that begin at sample k x N/2
abbrev pub begin : Settings → ℕ → ℕ
begin s k = k * (s.n / 2)

-- it is unknown if any of its samples, on any channel, is missing
unfoldable pub any_missing : Settings → List ℤ → ℕ → Bool
any_missing s xs k = any (λ i. any (λ c. missing (sample_at xs c (begin s k + i))) 3) s.n

abbrev pub square : ℤ → ℕ
square x = nat_abs x * nat_abs x

-- S of channel c, the sum of the N squares
unfoldable pub squares : Settings → List ℤ → ℕ → ℕ → ℕ
squares s xs k c = sum (λ i. square (sample_at xs c (begin s k + i))) s.n

-- S of all three
unfoldable pub sums_at : Settings → List ℤ → ℕ → Sums
sums_at s xs k = channels (squares s xs k)

-- Half-cycle k. One that does not exist is told as unknown: it is in no event, and no end is seen by it.
unfoldable pub half_at : Settings → List ℤ → ℕ → Half
half_at s xs k = cond (ltb k (halves_of s xs) && not (any_missing s xs k)) (Some (sums_at s xs k)) None

abbrev pub known : Half → Bool
known None = false
known (Some v) = true

-- ---- V is the root of S/N: no comparison rounds it

-- N x R x R
unfoldable pub full : Settings → ℕ
full s = s.n * s.r * s.r

-- V is below, at or above, above, at most p percent
abbrev pub below : Settings → ℕ → ℕ → Bool
below s p S = ltb (10000 * S) (p * p * full s)

abbrev pub at_least : Settings → ℕ → ℕ → Bool
at_least s p S = leb (p * p * full s) (10000 * S)

abbrev pub above : Settings → ℕ → ℕ → Bool
above s p S = ltb (p * p * full s) (10000 * S)

abbrev pub at_most : Settings → ℕ → ℕ → Bool
at_most s p S = leb (10000 * S) (p * p * full s)

-- some channel, all channels
abbrev pub some_channel : (ℕ → Bool) → Sums → Bool
some_channel p v = p v.a || p v.b || p v.c

abbrev pub all_channels : (ℕ → Bool) → Sums → Bool
all_channels p v = p v.a && p v.b && p v.c
