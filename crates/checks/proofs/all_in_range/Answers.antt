-- All have been passed. Assumes nothing.
use Rattle.checks.specs.Flags.{all_in_range}
use Rattle.std.proofs.Common.{rules}
use Rattle.checks.proofs.all_in_range.Goals as goal

pub returns : goal.returns
unfolding all_in_range
returns c = search rules
