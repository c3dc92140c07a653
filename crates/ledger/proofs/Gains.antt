-- The survey after the last half-cycle is the table of the recording: cells, bounds, and what all landings make up. Assumes nothing.
use Rattle.std.specs.Prelude.{Option, Some, None}
use Prim.Native.Nat.{ℕ, zero, suc, ◌+◌, ◌-◌, ◌*◌, ◌≤◌, ◌<◌}
use mathlib.Core.Path.{◌≡◌, refl, sym, ap, subst, ◌∙◌}
use mathlib.Core.Bool.{Bool, true, false, not, ◌&&◌, cond}
use mathlib.Core.Logic.{⊎_elim}
use mathlib.Core.List.{List, [], ◌∷◌}
use native.Mathlib.Nat.{add-zero, zero-add, eq-or-lt_of_le, mul-le-mul}
use native.Mathlib.Omega.{arith}
use borrow.Author.Tests.{eqb-true, eqb-false}
use lib.Dec.{eqb}
use lib.IntN.{ℤ}
use lib.ListN.{length, get_or, set as store, replicate, length-set, get_or-replicate, get_or-eq_default}
use lib.Seq.{ext_get_or, get_or-set_same, get_or-set_other}
use Rattle.rules.specs.Bounded.{before, bit, count, sum}
use Rattle.rules.specs.Halves.{Half, of_channel, channels, known, half_at, halves_of, full}
use Rattle.rules.specs.Events.{in_event, starts, three}
use Rattle.rules.specs.EventList.{event_from}
use Rattle.rules.specs.Borders.{Borders, known_set, borders_of, cell_at}
use Rattle.rules.specs.Site.{cells, is_placed, is_unplaced, sag_cell, sag_sum, cells_from}
use Rattle.rules.specs.Demands.{Good, AcceptedRecording}
use Rattle.rules.proofs.Booleans.{cases, bit_le}
use Rattle.rules.proofs.Bounded.{sum_same}
use Rattle.rules.proofs.Choices.{lower}
use Rattle.rules.proofs.Longest.{in_past, half_past}
use Rattle.rules.proofs.Borders.{sag_cell-high, set-cells}
use Rattle.rules.proofs.Ranges.{full-high}
use Rattle.rules.proofs.Shortfall.{parts_agree, total_made_up}
use Rattle.rules.proofs.DemandThree.{cells-length, cells_at_lem, sag_short-high}
use Rattle.rules.specs.declared.Settings.{Settings}
use Rattle.rules.specs.declared.Kind.{Kind}
use Rattle.rules.specs.declared.Kind.TheVariants.{Sag}
use Rattle.kinds.specs.declared.Open.{Open}
use Rattle.kinds.specs.Machine.{opens, Light}
use Rattle.ledger.specs.Entries.{placed_by, cells_by}
use Rattle.ledger.specs.State.{start_of, landed, seen_both, part_from, landed_at, cells_at}
use Rattle.ledger.proofs.Surveys.{bit_and, at_end, landed-starts, ended_at, landed_step, landing, lands_at, seen_is}

-- ---- cells

pub cells_same : (f g : ℕ → ℕ) → ((i : ℕ) → f i ≡ g i) → (cs : List ℕ) (i : ℕ) → cells_from f cs i ≡ cells_from g cs i
cells_same f g e [] i = refl
cells_same f g e (x ∷ cs) i = rw (e i, cells_same f g e cs (suc i))

-- one more in cell c
cells-set : (g : ℕ → ℕ) (cs : List ℕ) (c : ℕ) → c < length cs
    → store (cells_from g cs 0) c (get_or (cells_from g cs 0) c 0 + 1) ≡ cells_from (λ i. g i + bit (eqb c i)) cs 0
cells-set g cs c l =
    ext_get_or 0 (store (cells_from g cs 0) c (get_or (cells_from g cs 0) c 0 + 1)) (cells_from (λ i. g i + bit (eqb c i)) cs 0)
    (length-set (cells_from g cs 0) c (get_or (cells_from g cs 0) c 0 + 1) ∙ cells-length g cs 0 ∙ sym (cells-length (λ i. g i + bit (eqb c i)) cs 0))
    each
  where
    long : length (cells_from g cs 0) ≡ length cs
    long = cells-length g cs 0

    each : (i : ℕ) → i < length (store (cells_from g cs 0) c (get_or (cells_from g cs 0) c 0 + 1))
        → get_or (store (cells_from g cs 0) c (get_or (cells_from g cs 0) c 0 + 1)) i 0 ≡ get_or (cells_from (λ i. g i + bit (eqb c i)) cs 0) i 0
    each i m =
        let u : i < length cs = omega (arith, length-set (cells_from g cs 0) c (get_or (cells_from g cs 0) c 0 + 1), long) in
        let at = cells_at_lem g cs 0 i u in
        let at' = cells_at_lem (λ i. g i + bit (eqb c i)) cs 0 i u in
        ⊎_elim
        (λ e.
        let q : c ≡ i = eqb-true c i e in
        let r : eqb c (0 + i) ≡ true = rw zero-add e in
        let v = get_or (cells_from g cs 0) c 0 + 1 in
        let w : get_or (cells_from g cs 0) c 0 ≡ get_or (cells_from g cs 0) i 0 = rw q in
        let p : get_or (store (cells_from g cs 0) c v) i 0 ≡ v =
        subst (λ (j : ℕ). get_or (store (cells_from g cs 0) c v) j 0 ≡ v) q (get_or-set_same (cells_from g cs 0) c v 0 (omega (arith, long))) in
        omega (arith, p, w, at, at', ap bit r))
        (λ e.
        let q : i ≡ c → ⊥ = λ z. eqb-false c i e (sym z) in
        let r : eqb c (0 + i) ≡ false = rw zero-add e in
        get_or-set_other (cells_from g cs 0) c i (get_or (cells_from g cs 0) c 0 + 1) 0 q ∙ omega (arith, at, at', ap bit r))
        (cases (eqb c i))

module _ (s : Settings) (h : ℕ → Half) (n : ℕ) (past : (k : ℕ) → n ≤ k → h k ≡ None) where
  abbrev placed : Borders → ℕ → ℕ → ℕ
  placed b i a = bit (seen_both s h n a && eqb (sag_cell s b h n a) i)

  module _ (set : ℕ) (set_known : known_set set ≡ true) (k : ℕ) (high : k ≤ n) where
    abbrev b : Borders
    b = borders_of s set

    abbrev here : ℕ → ℕ
    here i = landed s h Sag (placed b i) k

    abbrev all-cells : (ℕ → ℕ) → List ℕ
    all-cells g = cells_from g (replicate cells 0) 0

    abbrev Next : Option Open → Type 0
    Next e = cells_by s set e k (known (h k)) (all-cells here) ≡ all-cells (λ i. landed s h Sag (placed b i) (suc k))

    next : (e : Option Open) → ended_at s h Sag k ≡ e → (i : ℕ) → landed s h Sag (placed b i) (suc k) ≡ here i + at_end (placed b i) e
    next e f i = landed_step s h Sag (placed b i) k ∙ ap (λ (e : Option Open). here i + at_end (placed b i) e) f

    module _ (o : Open) (lands : ended_at s h Sag k ≡ Some o) where
      cell_is : cell_at s b o.extreme (k - o.start) ≡ sag_cell s b h n o.start
      unfolding sag_cell
      cell_is = rw (lands_at s h n past Sag k high o lands, (landing s h n past Sag k high o lands).extreme)

      one_placed : seen_both s h n o.start ≡ true → Next (Some o)
      one_placed both-seen =
          let c = sag_cell s b h n o.start in
          let left : placed_by s set o k (known (h k)) (all-cells here) ≡ store (all-cells here) c (get_or (all-cells here) c 0 + 1) =
          rw (seen_is s h n past k high o lands, both-seen, cell_is) in
          left
          ∙ cells-set here (replicate cells 0) c (omega (arith, sag_cell-high s b h n o.start, set-cells s set set_known))
          ∙ cells_same (λ i. here i + bit (eqb c i)) (λ i. landed s h Sag (placed b i) (suc k)) (λ i. rw (next (Some o) lands i, both-seen)) (replicate cells 0) 0

      none-placed : (o.seen && known (h k)) ≡ false → seen_both s h n o.start ≡ false → Next (Some o)
      none-placed y f =
          rw y (cells_same here (λ i. landed s h Sag (placed b i) (suc k)) (λ i. rw (next (Some o) lands i, f) (sym (add-zero (here i)))) (replicate cells 0) 0)

      by_both : Next (Some o)
      by_both = ⊎_elim one_placed (λ e. none-placed (seen_is s h n past k high o lands ∙ e) e) (cases (seen_both s h n o.start))

    by_landing : (e : Option Open) → ended_at s h Sag k ≡ e → Next e
    by_landing None f =
        cells_same here (λ i. landed s h Sag (placed b i) (suc k)) (λ i. rw (next None f i) (sym (add-zero (here i)))) (replicate cells 0) 0
    by_landing (Some o) f = by_both o f

    pub cells-next : cells_by s set (ended_at s h Sag k) k (known (h k)) (cells_at s b h n k) ≡ cells_at s b h n (suc k)
    unfolding cells_at
    cells-next = by_landing (ended_at s h Sag k) refl

  -- ---- bounds

  landed_le : (kind : Kind) (g : ℕ → ℕ) → ((a : ℕ) → g a ≤ 1) → (k : ℕ) → landed s h kind g k ≤ k
  unfolding landed
  landed_le kind g e zero = omega arith
  landed_le kind g e (suc k) = omega (arith, landed_le kind g e k, either (before (in_event s h kind) k && not (in_event s h kind k)) (e (start_of (opens s h kind k))))
    where
      either : (b : Bool) {x : ℕ} → x ≤ 1 → cond b x 0 ≤ 1
      either true l = l
      either false l = omega arith

  pub unplaced-few : (k : ℕ) → (landed_at s h n k).unplaced ≤ k
  unfolding landed_at
  unplaced-few k = landed_le Sag (λ a. bit (not (seen_both s h n a))) (λ a. bit_le (not (seen_both s h n a))) k

  pub cells-few : (b : Borders) (k i : ℕ) → get_or (cells_at s b h n k) i 0 ≤ k
  unfolding cells_at
  cells-few b k i =
      let g : ℕ → ℕ = λ i. landed s h Sag (placed b i) k in
      let long = cells-length g (replicate cells 0) 0 in
      ⊎_elim
      (λ l.
      let at = cells_at_lem g (replicate cells 0) 0 i l in
      omega (arith, at, get_or-replicate {A = ℕ} cells i 0 0 l, landed_le Sag (placed b (0 + i)) (λ a. bit_le (seen_both s h n a && eqb (sag_cell s b h n a) (0 + i))) k))
      (λ l. rw (get_or-eq_default (cells_from g (replicate cells 0) 0) 0 {n = i} (omega (arith, long))) (omega arith))
      (lower i cells)

  landed-below : (kind : Kind) (g : ℕ → ℕ) (k : ℕ) → landed s h kind g k ≤ sum (λ a. cond (starts s h kind a) (g a) 0) k
  landed-below kind g k = omega (arith, landed-starts s h kind g k)

  sum_grows : (f : ℕ → ℕ) (k m : ℕ) → k ≤ m → sum f k ≤ sum f m
  sum_grows f k zero l = let e : k ≡ 0 = omega arith in rw e (omega arith)
  sum_grows f k (suc m) l = ⊎_elim (λ e. rw e (omega arith)) (λ u. omega (arith, sum_grows f k m (omega arith))) (eq-or-lt_of_le l)

  -- ---- all landings

  pub landed-all : (kind : Kind) (g : ℕ → ℕ) → landed s h kind g (suc n) ≡ sum (λ a. cond (starts s h kind a) (g a) 0) n
  unfolding starts
  landed-all kind g =
      let out : in_event s h kind n ≡ false = in_past s h n past kind n (omega arith) in
      let e = landed-starts s h kind g (suc n) in
      omega (arith, rw out at e)

count-sum : (p : ℕ → Bool) (n : ℕ) → count p n ≡ sum (λ k. bit (p k)) n
count-sum p zero = refl
count-sum p (suc n) = rw (count-sum p n)

module _ (s : Settings) (xs : List ℤ) where
  abbrev h : ℕ → Half
  h = half_at s xs

  abbrev n : ℕ
  n = halves_of s xs

  pub unplaced-all : (landed_at s h n (suc n)).unplaced ≡ count (is_unplaced s h n) n
  unfolding landed_at is_unplaced
  unplaced-all =
      landed-all s h n (half_past s xs) Sag (λ a. bit (not (seen_both s h n a)))
      ∙ sym (count-sum (is_unplaced s h n) n ∙ sum_same _ _ n (λ a l. bit_and (starts s h Sag a) (not (seen_both s h n a))))

  -- of channel c, what all sags lack
  abbrev all_of : ℕ → ℕ
  all_of c = sag_sum (λ e. of_channel c e.parts) s xs

  part-sum : (c : ℕ) → c < 3 → sum (λ a. cond (starts s h Sag a) (part_from s h n c a) 0) n ≡ all_of c
  unfolding sag_sum event_from
  part-sum zero l = refl
  part-sum (suc zero) l = refl
  part-sum (suc (suc zero)) l = refl
  part-sum (suc (suc (suc c))) l = absurd (omega arith)

  part-all : (c : ℕ) → c < 3 → landed s h Sag (part_from s h n c) (suc n) ≡ all_of c
  part-all c l = landed-all s h n (half_past s xs) Sag (part_from s h n c) ∙ part-sum c l

  pub parts_all : (landed_at s h n (suc n)).parts ≡ channels all_of
  unfolding landed_at
  parts_all = rw (part-all 0 (omega arith), part-all 1 (omega arith), part-all 2 (omega arith))

  pub shortfall-all : three (channels all_of) ≡ sag_sum (λ e. e.shortfall) s xs
  shortfall-all = omega (arith, total_made_up s xs)

  placed-all : (b : Borders) (i : ℕ) → landed s h Sag (λ a. bit (seen_both s h n a && eqb (sag_cell s b h n a) i)) (suc n) ≡ count (λ k. is_placed s h n k && eqb (sag_cell s b h n k) i) n
  unfolding is_placed
  placed-all b i =
      landed-all s h n (half_past s xs) Sag (λ a. bit (seen_both s h n a && eqb (sag_cell s b h n a) i))
      ∙ sym (count-sum (λ k. is_placed s h n k && eqb (sag_cell s b h n k) i) n
      ∙ sum_same _ _ n (λ a l. ap bit (assoc (starts s h Sag a) (seen_both s h n a) (eqb (sag_cell s b h n a) i)) ∙ bit_and (starts s h Sag a) (seen_both s h n a && eqb (sag_cell s b h n a) i)))
    where
      assoc : (a b c : Bool) → (a && b) && c ≡ a && (b && c)
      assoc true b c = refl
      assoc false b c = refl

  pub cells-all : (b : Borders) → cells_at s b h n (suc n) ≡ cells_from (λ i. count (λ k. is_placed s h n k && eqb (sag_cell s b h n k) i) n) (replicate cells 0) 0
  unfolding cells_at
  cells-all b = cells_same _ _ (placed-all b) (replicate cells 0) 0

  module _ (g : Good s) (ok : AcceptedRecording s xs) where
    all-low : (c : ℕ) → c < 3 → all_of c ≤ 1000000000000000000
    all-low c l =
        let d : n * full s ≤ 100000 * 1280000000000 = mul-le-mul ok.few (full-high s g) in
        omega (arith, parts_agree s xs c l, sag_short-high s xs c, d)

    part_low : (c : ℕ) → c < 3 → (k : ℕ) → k ≤ n → landed s h Sag (part_from s h n c) k ≤ 1000000000000000000
    part_low c l k u =
        let a = landed-below s h n (half_past s xs) Sag (part_from s h n c) k in
        let b = sum_grows s h n (half_past s xs) (λ a. cond (starts s h Sag a) (part_from s h n c a) 0) k n u in
        omega (arith, a, b, part-sum c l, all-low c l)

    pub parts-light : (k : ℕ) → k ≤ n → Light (landed_at s h n k).parts
    unfolding landed_at
    parts-light k l = (part_low 0 (omega arith) k l, part_low 1 (omega arith) k l, part_low 2 (omega arith) k l)

    pub last-light : Light (landed_at s h n (suc n)).parts
    last-light = rw parts_all (all-low 0 (omega arith), all-low 1 (omega arith), all-low 2 (omega arith))
