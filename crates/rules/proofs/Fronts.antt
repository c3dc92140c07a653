-- Numbers written over the front of a run: what is beyond them stays, and what is written behind them makes them longer. Assumes
-- nothing.
use Prim.Native.Nat.{ℕ, ◌+◌, ◌-◌, ◌≤◌}
use mathlib.Core.Path.{◌≡◌, sym, ap, ◌∙◌}
use mathlib.Core.List.{List, ◌++◌, append_assoc}
use native.Mathlib.Omega.{arith}
use lib.ListN.{length, get_or, take, drop, length-append, length-drop}
use lib.Seq.{sets, sets-eq, take_at, take-append-le, take-append_seam, drop-append-le, drop-append-add, drop-drop, get_or-append-add, get_or-drop}
use Rattle.rules.specs.Refusals.{over}

-- the first n of them, if there are n
pub over_front : (w out : List ℕ) (n : ℕ) → length w ≡ n → take n (over w out) ≡ w
over_front w out n e = take_at w (drop (length w) out) n e

-- m of them, from the one at i on
pub over-part : (w out : List ℕ) (i m : ℕ) → i + m ≤ length w → take m (drop i (over w out)) ≡ take m (drop i w)
over-part w out i m l =
    let left = length-drop i w in
    ap (take m) (drop-append-le i w (drop (length w) out) (omega arith))
    ∙ take-append-le m (drop i w) (drop (length w) out) (omega arith)

module _ (w out : List ℕ) (fits : length w ≤ length out) where
  pub over-length : length (over w out) ≡ length out
  over-length = length-append w (drop (length w) out) ∙ (let q = length-drop (length w) out in omega arith)

  -- what is beyond
  pub over_rest : (i d : ℕ) → length w ≤ i → get_or (over w out) i d ≡ get_or out i d
  over_rest i d l =
      let q : i ≡ length w + (i - length w) = omega arith in
      ap (λ (x : ℕ). get_or (over w out) x d) q ∙ get_or-append-add w (drop (length w) out) (i - length w) d
      ∙ get_or-drop (length w) out (i - length w) d ∙ ap (λ (x : ℕ). get_or out x d) (sym q)

-- words behind words
pub put_next : (e o w : List ℕ) (at : ℕ) → length e ≡ at → at + length w ≤ length o → sets (over e o) at w ≡ over (e ++ w) o
put_next e o w at l room =
    let fits : at + length w ≤ length (over e o) = omega (arith, length-append e (drop (length e) o), length-drop (length e) o) in
    sets-eq w (over e o) at fits ∙ rw (← l, take-append_seam, drop-append-add, drop-drop, length-append, append_assoc)
