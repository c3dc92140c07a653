-- `cases::fill` meets its contract: a store keeps the run's length. Assumes nothing.
use Rattle.std.proofs.Common.{◌≡◌, length}
use Rattle.cases.proofs.fill.Given as goal

abbrev pub invariant-loop-m : goal.invariant-loop-m
invariant-loop-m l = length l.run ≡ length l.fn.run
