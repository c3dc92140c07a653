-- Each half-cycle told: five numbers, in order. No rule of the documents asks for it; its words are those of the half-cycles, of the
-- events and of the site table.
use Rattle.std.specs.Prelude.{ℕ, ◌+◌, ◌*◌, List, [], ◌∷◌, ℤ, Some, None}
use Rattle.rules.specs.Bounded.{bit, join}
use Rattle.rules.specs.Halves.{Half, channels, half_at, halves_of}
use Rattle.rules.specs.Events.{in_event}
use Rattle.rules.specs.Site.{is_healthy, is_disturbed, is_unknown}
use Rattle.rules.specs.declared.Settings.{Settings}
use Rattle.rules.specs.declared.Sums.{Sums}
use Rattle.rules.specs.declared.Kind.TheVariants.{Sag, Interruption, Swell}

-- how many numbers a half-cycle has
abbrev pub half_size : ℕ
half_size = 5

-- class: 1 healthy, 2 disturbed, 3 unknown, each by the test that the site table counts
unfoldable pub class_at : Settings → (ℕ → Half) → ℕ → ℕ
class_at s h k = 1 * bit (is_healthy s h k) + 2 * bit (is_disturbed s h k) + 3 * bit (is_unknown s h k)

-- the kinds it lies in: 1 for a sag plus 2 for an interruption plus 4 for a swell
unfoldable pub kinds_at : Settings → (ℕ → Half) → ℕ → ℕ
kinds_at s h k = 1 * bit (in_event s h Sag k) + 2 * bit (in_event s h Interruption k) + 4 * bit (in_event s h Swell k)

-- S of a, b and c, 0 where unknown
abbrev pub sums_told : Half → Sums
sums_told None = channels (λ c. 0)
sums_told (Some v) = v

-- the five numbers of half-cycle k
unfoldable pub half_words : Settings → List ℤ → ℕ → List ℕ
half_words s xs k =
    let h = half_at s xs in
    let v = sums_told (h k) in
    class_at s h k ∷ kinds_at s h k ∷ v.a ∷ v.b ∷ v.c ∷ []

-- those of all half-cycles
unfoldable pub trace_of : Settings → List ℤ → List ℕ
trace_of s xs = join (half_words s xs) (halves_of s xs)
