-- `ledger::place` meets its contract. The cell is one of the set's, of which there are at most forty, and a count can grow by one.
-- Assumes nothing.
use Prim.Native.Nat.{◌-◌, ◌<◌}
use native.Mathlib.Omega.{arith}
use Rattle.rules.specs.Borders.{borders_of}
use Rattle.rules.proofs.Borders.{cell-high, set-cells}
use Rattle.ledger.proofs.place.Goals.{After-cell_at-c}
use Rattle.ledger.proofs.place.Goals as goal

small : (c : After-cell_at-c) → c.cell_at-c.result < 40
small c =
    let a = c.args in
    rw c.cell_at-c.ensures (omega (arith, cell-high a.s (borders_of a.s a.set) a.o.extreme (a.end - a.o.start), set-cells a.s a.set c.requires.set_known))

pub offset_bounds-cells-c : goal.offset_bounds-cells-c
offset_bounds-cells-c c = omega (arith, small c)

pub bounds-cells-c : goal.bounds-cells-c
bounds-cells-c c = small (goal.at.bounds-cells-c c).After-cell_at-c

pub bounds-cells-c-then-o-known : goal.bounds-cells-c-then-o-known
bounds-cells-c-then-o-known c = small (goal.at.bounds-cells-c-then-o-known c).After-cell_at-c
