-- `site::set_fits` meets its contract: an unknown set is told first, and of a known one the cells from its own number on are looked at.
-- Assumes nothing.
use mathlib.Core.Bool.{true}
use mathlib.Core.Path.{◌≡◌, sym, ◌∙◌}
use Rattle.rules.specs.Borders.{known_set, borders_of, cells_in}
use lib.ListN.{length}
use borrow.Author.Rules.{rules}
use Rattle.site.proofs.Counts.{unused_is}
use Rattle.site.proofs.set_fits.Goals as goal

pub returns : goal.returns
returns c =
    λ s.
    let known : known_set c.args.set ≡ true = sym c.known_set.ensures ∙ c.if-not-known_set.false in
    let used : c.not_scored.result ≡ cells_in (borders_of s c.args.set) = c.not_scored.ensures s ∙ rw known in
    let forty : length c.args.cells ≡ 40 = search rules in
    c.unused_zero.ensures ∙ rw (known, used) (unused_is (borders_of s c.args.set) c.args.cells forty)
