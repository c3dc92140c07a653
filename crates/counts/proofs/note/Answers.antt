-- A group below 25,001 has a place for its note. Assumes nothing.
use Rattle.counts.specs.Counting.{noted_at}
use borrow.Author.Rules.{rules}
use Rattle.counts.proofs.note.Goals as goal

pub returns : goal.returns
unfolding noted_at
returns c = search rules
