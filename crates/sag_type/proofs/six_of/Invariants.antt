-- The six numbers are the six sums over the samples passed. Assumes nothing.
use Rattle.std.proofs.Common.{◌≡◌, ◌*◌, ◌≤◌, length, drop}
use Rattle.std.specs.Slice.Iter.{chunks_exact_rest, chunks_exact_size}
use Rattle.rules.specs.Halves.{samples_of}
use Rattle.sag_type.specs.Six.{six_up_to}
use Rattle.sag_type.proofs.six_of.Given as goal

abbrev pub invariant-loop-sample : goal.invariant-loop-sample
invariant-loop-sample l = record {
  six_are : l.six ≡ six_up_to l.w (length l.yielded);
  rest_is : chunks_exact_rest l.sample-iterator ≡ drop (3 * length l.yielded) l.w;
  in_threes : chunks_exact_size l.sample-iterator ≡ 3;
  within : length l.yielded ≤ samples_of l.w;
}
