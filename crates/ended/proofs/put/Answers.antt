-- The words copied as a run are the words stored one behind the other. Assumes nothing.
use mathlib.Core.Path.{sym, ◌∙◌}
use lib.Seq.{sets-eq}
use Rattle.rules.specs.EventList.{words_of}
use Rattle.ended.proofs.put.Goals as goal

pub returns : goal.returns
returns c =
    c.copy.ensures ∙ sym (sets-eq (words_of c.args.e) c.args.out.now c.args.at c.requires)
