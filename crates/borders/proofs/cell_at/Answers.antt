-- `borders::cell_at` meets its contract: row, column and number of columns are the rules', and a cell of a known set is below forty.
use Rattle.std.proofs.Common.{◌≡◌, ◌+◌, ◌*◌, ◌∙◌, sym, ap, suc, length, arith}
use Rattle.std.proofs.lemmas.List.{length-map}
use Rattle.rules.specs.Borders.{borders_of, columns_in, row_of, column_of, cell_at}
use Rattle.rules.proofs.Borders.{cell-high, set-cells}
use Rattle.rules.proofs.Ranges.{good, full-high}
use Rattle.borders.proofs.Laws.{row_is, column_is}
use Rattle.borders.proofs.cell_at.Goals.{After-count}
use Rattle.borders.proofs.cell_at.Goals as goal

cell_is : (c : After-count)
    → let a = c.args in
    c.count.result * c.row-row.result + c.column-column.result ≡ cell_at a.s (borders_of a.s a.set) a.extreme a.h
cell_is c =
    let a = c.args in
    let b = borders_of a.s a.set in
    let of = c.borders_of-borders in
    let many : c.count.result ≡ columns_in b = c.count.ensures ∙ ap suc (sym (length-map of.result.columns.now (λ b. b.fifths + b.times * a.s.f)) ∙ ap length (of.ensures.columns a.s)) in
    let row : c.row-row.result ≡ row_of a.s b a.extreme = rw (c.full_of-m.ensures, of.ensures.rows a.s) at c.row-row.ensures ∙ row_is a.s b a.extreme in
    let column : c.column-column.result ≡ column_of b a.h = c.column-column.ensures ∙ column_is a.s.f of.result.columns.now b (of.ensures.columns a.s) a.h in
    rw (many, row, column)

pub overflow_mul-extreme : goal.overflow_mul-extreme
overflow_mul-extreme c = omega (arith, (good _ c.requires.0).n_high, c.requires.2)

pub row-row-requires-clause-low : goal.row-row-requires-clause-low
row-row-requires-clause-low c = omega (arith, c.full_of-m.ensures, full-high _ (good _ c.requires.0))

pub column-column-requires-clause-frequency : goal.column-column-requires-clause-frequency
column-column-requires-clause-frequency c = (good _ c.requires.0).f_high

pub overflow_mul-result : goal.overflow_mul-result
overflow_mul-result c =
    let a = c.args in
    omega (arith, cell_is c, cell-high a.s (borders_of a.s a.set) a.extreme a.h, set-cells a.s a.set c.requires.1)

pub overflow_add-result : goal.overflow_add-result
overflow_add-result c =
    let a = c.args in
    omega (arith, cell_is c, cell-high a.s (borders_of a.s a.set) a.extreme a.h, set-cells a.s a.set c.requires.1)

pub returns : goal.returns
returns c = cell_is c
