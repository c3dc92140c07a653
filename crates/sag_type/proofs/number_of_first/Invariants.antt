-- What is passed and the number among those that are left are the number among all six. Assumes nothing.
use Rattle.std.proofs.Common.{◌≡◌, ◌+◌, drop}
use Rattle.rules.specs.Events.{number_of_first}
use Rattle.sag_type.proofs.number_of_first.Given as goal

abbrev pub invariant-loop-i : goal.invariant-loop-i
invariant-loop-i l = l.i + number_of_first (drop l.i l.x-items) l.v ≡ number_of_first l.fn.six l.v
