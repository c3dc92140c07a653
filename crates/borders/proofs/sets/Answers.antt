-- `borders::sets` meets its contract, however many sets there are and however long: at any frequency the code's borders are the rules', and
-- what is asked of all of them is computed. For today's sets the checker would find each answer; of many more borders it gives up.
use Rattle.std.proofs.Common.{◌≡◌, ℕ, ◌*◌, sym, arith}
use Rattle.std.proofs.Math.Nat.{mul_assoc, zero-mul, one-mul, zero-add, add-zero}
use Rattle.borders.proofs.Laws.{percents_of, low_of}
use Rattle.borders.proofs.sets.Goals as goal

-- so many times f half-cycles, as the rules write it, and so many fifths of one, as the code has it
five : (k f : ℕ) → 5 * (k * f) ≡ 5 * k * f
five k f = sym (mul_assoc 5 k f)

pub returns-clause-lists : goal.returns-clause-lists
returns-clause-lists c = λ f. simp (five, zero-add, add-zero, zero-mul, one-mul) (grind arith)

pub returns-clause-percents : goal.returns-clause-percents
returns-clause-percents c = search (percents_of)

pub returns-clause-low : goal.returns-clause-low
returns-clause-low c = search (low_of)
