-- A part of a recording is a run of its own: what is read there is what the recording holds. Assumes nothing.
use Rattle.std.proofs.Common.{◌≡◌, ℕ, ◌+◌, ◌*◌, ◌/◌, ◌%◌, ◌<◌, ◌≤◌, false, List, length, get_or, ℤ, pos, ap, ◌∙◌, arith, length-drop, length-take, get_or-drop, get_or-take}
use Rattle.rules.specs.Recorder.{sample_at}
use Rattle.rules.specs.Halves.{samples_of, square, begin, halves_of, any_missing}
use Rattle.rules.specs.declared.Settings.{Settings}
use Rattle.rules.specs.Demands.{Good, AcceptedRecording}
use Rattle.rules.proofs.Samples.{any_at, sum_le, square-low, window-fits, sample_low}
use Rattle.checks.specs.Flags.{outside}
use Rattle.checks.proofs.Reading.{within_low}
use Rattle.halves.specs.Steps.{part, window, outside_in, squares_in, Low}

module _ (xs : List ℤ) (b m : ℕ) (fits : 3 * b + 3 * m ≤ length xs) where
  pub part_length : length (part xs b m) ≡ 3 * m
  part_length = simp (length-take, length-drop) (omega arith)

  pub part_at : (i : ℕ) → i < 3 * m → get_or (part xs b m) i (pos 0) ≡ get_or xs (3 * b + i) (pos 0)
  part_at i l = rw (get_or-take, get_or-drop)

  pub part-samples : samples_of (part xs b m) ≡ m
  part-samples = omega (arith, part_length)

  pub sample_is : (c i : ℕ) → c < 3 → i < m → sample_at (part xs b m) c i ≡ sample_at xs c (b + i)
  sample_is c i l k =
      let e : 3 * b + (3 * i + c) ≡ 3 * (b + i) + c = omega arith in
      part_at (3 * i + c) (omega arith) ∙ ap (λ (j : ℕ). get_or xs j (pos 0)) e

-- a run within the limits is low, and so are its sums
pub low_run : (w : List ℤ) → outside_in w ≡ false → Low w
unfolding outside_in
low_run w m i l = within_low (get_or w i (pos 0)) (any_at (λ i. outside (get_or w i (pos 0))) (length w) m i l)

pub squares_in-low : (w : List ℤ) → Low w → (c n : ℕ) → c < 3 → n ≤ samples_of w → squares_in w c n ≤ n * 10000000000
squares_in-low w h c n l m =
    sum_le (λ i. square (sample_at w c i)) 10000000000 n (λ i p. square-low (sample_at w c i) (h (3 * i + c) (omega arith)))

-- the window of a known half-cycle is low
module _ (s : Settings) (xs : List ℤ) (g : Good s) (ok : AcceptedRecording s xs) (k : ℕ) (exists : k < halves_of s xs) where
  fits : 3 * begin s k + 3 * s.n ≤ length xs
  fits = window-fits s xs g ok k exists

  pub window-few : length (window s xs k) ≤ 1536
  window-few = omega (arith, part_length xs (begin s k) s.n fits, g.n_high)

  pub window-low : any_missing s xs k ≡ false → Low (window s xs k)
  window-low whole i l =
      let m : i < 3 * s.n = omega (arith, part_length xs (begin s k) s.n fits) in
      let e : 3 * (begin s k + i / 3) + i % 3 ≡ 3 * begin s k + i = omega arith in
      rw (part_at xs (begin s k) s.n fits i m) (rw e at (sample_low s xs g ok k exists whole (i / 3) (i % 3) (omega arith) (omega arith)))
