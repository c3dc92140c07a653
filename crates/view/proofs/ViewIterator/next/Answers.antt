-- `View::next` meets its contract: a view that gave a sample is nearer the end of its channel. Assumes nothing.
use Rattle.view.proofs.Laws.{nearer_end}
use Rattle.view.proofs.ViewIterator.next.Goals as goal

pub returns-clause-goes : goal.returns-clause-goes
returns-clause-goes c = rw c.read-step.ensures (nearer_end c.args.self.now)
