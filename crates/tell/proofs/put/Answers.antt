-- The five numbers copied as a run are the numbers stored one behind the other. Assumes nothing.
use mathlib.Core.Path.{sym, ◌∙◌}
use lib.Seq.{sets-eq}
use Rattle.tell.specs.Telling.{five_of}
use Rattle.tell.proofs.put.Goals as goal

pub returns : goal.returns
returns c =
    c.copy.ensures ∙ sym (sets-eq (five_of c.args.class c.args.kinds c.args.v) c.args.out.now c.args.at c.requires)
