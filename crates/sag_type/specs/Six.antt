-- The six sums as one pass over a window finds them, how large they are, and both ends of them.
use Rattle.std.specs.Prelude.{ℕ, ◌≤◌, List, ℤ, get_or}
use Rattle.rules.specs.Recorder.{sample_at}
use Rattle.rules.specs.Halves.{samples_of}
use Rattle.rules.specs.Events.{six_parts, six_below, smallest, largest}
use Rattle.sag_type.specs.declared.Ends.{Ends}

-- the six sums
abbrev pub six_up_to : List ℤ → ℕ → List ℕ
six_up_to w n = six_below (λ i. six_parts (sample_at w 0 i) (sample_at w 1 i) (sample_at w 2 i)) n

unfoldable pub six_in : List ℤ → List ℕ
six_in w = six_up_to w (samples_of w)

-- every number at most b
abbrev pub Sixes : ℕ → List ℕ → Type 0
Sixes b six = (i : ℕ) → get_or six i 0 ≤ b

-- the smallest and the largest
abbrev pub ends_of : List ℕ → Ends
ends_of six = record { low = smallest six; high = largest six }
