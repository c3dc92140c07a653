-- The checks of a recording in their two parts, the flags of its samples, and a recording as a pass reads it.
use Rattle.std.specs.Prelude.{ℕ, ◌/◌, ◌%◌, ◌<◌, ◌≡◌, Bool, true, false, not, cond, List, [], ◌∷◌, leb, ltb, eqb, ℤ, pos, negsuc, nat_abs, length, get_or, Result, Ok, Err, ⊤}
use Rattle.rules.specs.Bounded.{all}
use Rattle.rules.specs.Recorder.{in_range, first_bad}
use Rattle.rules.specs.Halves.{samples_of, halves_of}
use Rattle.rules.specs.Refusals.{most_half_cycles}
use Rattle.rules.specs.declared.Settings.{Settings}
use Rattle.rules.specs.declared.Refusal.TheVariants.{Uneven, Short, Ragged, Long, Sample}
use Rattle.rules.specs.declared.Refusal.{Refusal}

-- ---- refusals 2 to 5, which the length alone decides, and refusal 6

unfoldable pub shape_check : Settings → List ℤ → Result ⊤ Refusal
shape_check s xs =
    cond (not (eqb (length xs % 3) 0)) (Err Uneven)
    (cond (ltb (samples_of xs) s.n) (Err Short)
    (cond (not (eqb (samples_of xs % (s.n / 2)) 0)) (Err Ragged)
    (cond (ltb most_half_cycles (halves_of s xs)) (Err Long) (Ok tt))))

unfoldable pub range_check : List ℤ → Result ⊤ Refusal
range_check xs = cond (ltb (first_bad xs) (length xs)) (Err (Sample (first_bad xs))) (Ok tt)

-- ---- flags

-- a sample outside the limits is missing, or bad
abbrev pub outside : ℤ → Bool
outside x = not (leb (nat_abs x) 100000)

-- it lies below -100,000, or above 100,000
abbrev pub too_low : ℤ → Bool
too_low (pos n) = false
too_low (negsuc n) = ltb 99999 n

abbrev pub too_high : ℤ → Bool
too_high (pos n) = ltb 100000 n
too_high (negsuc n) = false

-- every sample is in range, or missing
unfoldable pub all_in_range : List ℤ → Bool
all_in_range xs = all (λ i. in_range (get_or xs i (pos 0))) (length xs)

-- every sample before index b is
abbrev pub RangedBelow : List ℤ → ℕ → Type 0
RangedBelow xs b = (i : ℕ) → i < b → in_range (get_or xs i (pos 0)) ≡ true

-- ---- a recording as a pass reads it: whatever lies outside the limits counts as missing, till refusal 6 is told

abbrev pub read_as : ℤ → ℤ
read_as x = cond (outside x) (negsuc 2147483647) x

unfoldable pub as_read : List ℤ → List ℤ
as_read [] = []
as_read (x ∷ xs) = read_as x ∷ as_read xs
