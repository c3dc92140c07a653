-- `site::merge` meets its contract. Every sum fits, by what is asked, and the code is the definition.
-- Assumes nothing.
use Rattle.std.proofs.Common.{rules, arith, ◌≡◌, ◌∙◌, length}
use Rattle.site.proofs.Counts.{plus-cells}
use Rattle.site.specs.Merging.{merged}
use Rattle.site.proofs.merge.Goals as goal

pub returns : goal.returns
unfolding merged
returns c =
    let t = c.args.t.cells in
    let u = c.args.u.cells in
    let a : length t ≡ 40 = search rules in
    let b : length u ≡ 40 = search rules in
    rw (c.added.ensures ∙ plus-cells t u 0 (omega arith), c.add_sums.ensures)
