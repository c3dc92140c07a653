-- The cells that some borders don't use are 0: the test of a table says so, both ways. Assumes nothing.
use Prim.Native.Nat.{ℕ, ◌≤◌, ◌<◌}
use mathlib.Core.Path.{◌≡◌}
use mathlib.Core.Bool.{true, ◌||◌}
use mathlib.Core.List.{List}
use borrow.Author.Tests.{ltb-false, le-ltb, eqb-true, eq-eqb}
use lib.Dec.{ltb, eqb}
use lib.ListN.{get_or}
use Rattle.rules.specs.Borders.{Borders, cells_in}
use Rattle.rules.specs.Site.{cells, unused_zero}
use Rattle.rules.proofs.Bounded.{all_true, all-at}
use Rattle.rules.proofs.Choices.{or_by, or_else}

module _ (b : Borders) (cs : List ℕ) where
  pub unused_zero_lem : unused_zero b cs ≡ true → (i : ℕ) → cells_in b ≤ i → i < cells → get_or cs i 0 ≡ 0
  unused_zero_lem h i l u =
      let q = all-at (λ i. ltb i (cells_in b) || eqb (get_or cs i 0) 0) cells h i u in
      eqb-true (get_or cs i 0) 0 (or_else (ltb i (cells_in b)) (eqb (get_or cs i 0) 0) q (le-ltb i (cells_in b) l))

  pub zero_unused : ((i : ℕ) → cells_in b ≤ i → i < cells → get_or cs i 0 ≡ 0) → unused_zero b cs ≡ true
  zero_unused h =
      all_true (λ i. ltb i (cells_in b) || eqb (get_or cs i 0) 0) cells
      (λ i u. or_by (ltb i (cells_in b)) (eqb (get_or cs i 0) 0) (λ e. eq-eqb (get_or cs i 0) 0 (h i (ltb-false i (cells_in b) e) u)))
