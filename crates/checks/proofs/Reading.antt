-- A recording as a pass reads it, whatever its samples are: it has the same length, what lies outside the limits is missing, and so it is accepted
-- wherever the length is; where every sample is in range it is the recording itself. Assumes nothing.
use Rattle.std.specs.Prelude.{Ok, Err}
use Prim.Native.Nat.{ℕ, zero, suc, ◌/◌, ◌%◌, ◌≤◌}
use mathlib.Core.Path.{◌≡◌, refl, sym, ap, ◌∙◌}
use mathlib.Core.Bool.{Bool, true, false, not, cond}
use mathlib.Core.List.{List, [], ◌∷◌}
use mathlib.Core.Logic.{⊎_elim}
use native.Mathlib.Omega.{arith}
use borrow.Author.Tests.{leb-true, le-leb, eqb-true, not-false}
use lib.Dec.{ltb, eqb}
use lib.IntN.{ℤ, pos, negsuc, nat_abs}
use lib.ListN.{length, get_or}
use Rattle.rules.specs.Recorder.{missing, in_range, first_bad}
use Rattle.rules.specs.Halves.{samples_of, halves_of}
use Rattle.rules.specs.Refusals.{recording_check, most_half_cycles, and_then}
use Rattle.rules.specs.Demands.{AcceptedRecording}
use Rattle.rules.specs.declared.Settings.{Settings}
use Rattle.rules.specs.declared.Refusal.TheVariants.{Uneven, Short, Ragged, Long, Sample}
use Rattle.rules.proofs.Booleans.{cases}
use Rattle.rules.proofs.Bounded.{all-at, all_true}
use Rattle.rules.proofs.Samples.{accepted_recording, both_accept}
use Rattle.checks.specs.Flags.{shape_check, range_check, outside, all_in_range, RangedBelow, read_as, as_read}
use Rattle.checks.proofs.Tests.{bad_is}

-- ---- the two parts of the checks

pub check_parts : (s : Settings) (xs : List ℤ) → recording_check s xs ≡ and_then (shape_check s xs) (range_check xs)
unfolding recording_check shape_check range_check
check_parts s xs =
    parts (not (eqb (length xs % 3) 0)) (ltb (samples_of xs) s.n) (not (eqb (samples_of xs % (s.n / 2)) 0)) (ltb most_half_cycles (halves_of s xs))
  where
    parts : (a b c d : Bool)
        → cond a (Err Uneven) (cond b (Err Short) (cond c (Err Ragged) (cond d (Err Long) (range_check xs))))
        ≡ and_then (cond a (Err Uneven) (cond b (Err Short) (cond c (Err Ragged) (cond d (Err Long) (Ok tt))))) (range_check xs)
    parts true b c d = refl
    parts false true c d = refl
    parts false false true d = refl
    parts false false false true = refl
    parts false false false false = refl

-- where the length is accepted, the samples decide
pub by_range : (s : Settings) (xs : List ℤ) → shape_check s xs ≡ Ok tt → recording_check s xs ≡ range_check xs
by_range s xs e = check_parts s xs ∙ rw e

pub range_good : (xs : List ℤ) → all_in_range xs ≡ true → range_check xs ≡ Ok tt
unfolding range_check
range_good xs e = rw (bad_is xs, e)

pub range_bad : (xs : List ℤ) → all_in_range xs ≡ false → range_check xs ≡ Err (Sample (first_bad xs))
unfolding range_check
range_bad xs e = rw (bad_is xs, e)

-- ---- flags and places

pub ranged_all : (xs : List ℤ) (b : ℕ) → length xs ≤ b → RangedBelow xs b → all_in_range xs ≡ true
unfolding all_in_range
ranged_all xs b l h = all_true (λ i. in_range (get_or xs i (pos 0))) (length xs) (λ i m. h i (omega arith))

pub all_ranged : (xs : List ℤ) → all_in_range xs ≡ true → RangedBelow xs (length xs)
unfolding all_in_range
all_ranged xs e i l = all-at (λ i. in_range (get_or xs i (pos 0))) (length xs) e i l

-- ---- one sample

pub within_low : (x : ℤ) → outside x ≡ false → nat_abs x ≤ 100000
within_low x e = leb-true (nat_abs x) 100000 (not-false _ e)

-- what lies within the limits is not missing, and in range
within_there : (x : ℤ) → outside x ≡ false → missing x ≡ false
within_there (pos n) e = refl
within_there (negsuc n) e = borrow.Author.Tests.ne_eqb n 2147483647 (λ z. omega (arith, within_low (negsuc n) e))

pub within_ranged : (x : ℤ) → outside x ≡ false → in_range x ≡ true
within_ranged x e = rw (within_there x e, le-leb (nat_abs x) 100000 (within_low x e))

-- a sample is read as missing exactly where it lies outside the limits
pub missing_read : (x : ℤ) → missing (read_as x) ≡ outside x
missing_read x = ⊎_elim (λ e. rw e) (λ e. rw e (within_there x e)) (cases (outside x))

pub within_read : (x : ℤ) → outside x ≡ false → read_as x ≡ x
within_read x e = rw e

read_ranged : (x : ℤ) → in_range (read_as x) ≡ true
read_ranged x = ⊎_elim (λ e. rw e) (λ e. rw e (within_ranged x e)) (cases (outside x))

-- a sample in range is read as it is
missing-only : (x : ℤ) → missing x ≡ true → x ≡ negsuc 2147483647
missing-only (pos n) e = absurd (mathlib.Core.Bool.false≢true e)
missing-only (negsuc n) e = ap negsuc (eqb-true n 2147483647 e)

read_same : (x : ℤ) → in_range x ≡ true → read_as x ≡ x
read_same x h = ⊎_elim (λ e. rw (missing-only x e)) (λ e. within_read x (low e)) (cases (missing x))
  where
    low : missing x ≡ false → outside x ≡ false
    low e = rw (rw e at h)

-- ---- the whole recording

pub read_length : (xs : List ℤ) → length (as_read xs) ≡ length xs
unfolding as_read
read_length [] = refl
read_length (x ∷ xs) = ap suc (read_length xs)

pub read_at : (xs : List ℤ) (i : ℕ) → get_or (as_read xs) i (pos 0) ≡ read_as (get_or xs i (pos 0))
unfolding as_read
read_at [] i = refl
read_at (x ∷ xs) zero = refl
read_at (x ∷ xs) (suc i) = read_at xs i

pub read_halves : (s : Settings) (xs : List ℤ) → halves_of s (as_read xs) ≡ halves_of s xs
unfolding halves_of
read_halves s xs = rw (read_length xs)

pub read_itself : (xs : List ℤ) → all_in_range xs ≡ true → as_read xs ≡ xs
unfolding as_read
read_itself xs e = go xs (all_ranged xs e)
  where
    go : (xs : List ℤ) → RangedBelow xs (length xs) → as_read xs ≡ xs
    go [] h = refl
    go (x ∷ xs) h = rw (read_same x (h 0 (omega arith)), go xs (λ i l. h (suc i) (omega arith)))

-- THE LAW: where the length is accepted, the recording as read is accepted
module _ (s : Settings) (xs : List ℤ) (shaped : shape_check s xs ≡ Ok tt) where
  same_shape : shape_check s (as_read xs) ≡ Ok tt
  unfolding shape_check
  same_shape = rw (read_halves s xs, read_length xs) shaped

  all_read : all_in_range (as_read xs) ≡ true
  unfolding all_in_range
  all_read = all_true (λ i. in_range (get_or (as_read xs) i (pos 0))) (length (as_read xs)) (λ i l. rw (read_at xs i) (read_ranged (get_or xs i (pos 0))))

  pub read_taken : recording_check s (as_read xs) ≡ Ok tt
  read_taken = by_range s (as_read xs) same_shape ∙ range_good (as_read xs) all_read

  pub read_accepted : AcceptedRecording s (as_read xs)
  read_accepted = accepted_recording s (as_read xs) read_taken

-- of an accepted recording
module _ (s : Settings) (xs : List ℤ) (taken : recording_check s xs ≡ Ok tt) where
  pub accepted_shape : shape_check s xs ≡ Ok tt
  accepted_shape = (both_accept (shape_check s xs) (range_check xs) (sym (check_parts s xs) ∙ taken)).0

  pub accepted_itself : as_read xs ≡ xs
  accepted_itself = read_itself xs (ranged_all xs (length xs) (omega arith) (accepted_recording s xs taken).every_in_range)
