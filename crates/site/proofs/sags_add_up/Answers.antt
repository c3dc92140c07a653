-- `site::sags_add_up` meets its contract: a sum at its cap is no number of sags. Assumes nothing.
use Rattle.std.proofs.Common.{zero-add, arith}
use Rattle.site.proofs.Counts.{sum_capped, sums_up}
use Rattle.rules.specs.Site.{total}
use Rattle.site.proofs.sags_add_up.Goals as goal

pub returns : goal.returns
returns c =
    rw (c.cells_sum.ensures, sum_capped 18446744073709551615 c.args.cells 0 (omega arith), zero-add)
    (sums_up 18446744073709551615 (total c.args.cells) c.args.unplaced c.args.sags c.if-sags-unplaced.false (omega (arith, c.requires)))
