-- The six numbers are the six sums over the samples passed, and low. Assumes nothing.
use Rattle.std.proofs.Common.{rules, ◌≡◌, ℕ, ◌<◌, ◌≤◌, ◌*◌, ◌+◌, ◌∙◌, ◌++◌, [], ◌∷◌, drop, sym, ap, ap₂, arith, add-one, length, length-append, length-drop, get_or, ℤ, pos, nat_abs}
use Rattle.std.specs.Slice.Iter.{chunks_exact_rest}
use Rattle.rules.specs.Recorder.{sample_at}
use Rattle.rules.specs.Halves.{samples_of}
use Rattle.rules.specs.Events.{six_parts, plus}
use Rattle.sag_type.specs.Six.{six_up_to, six_in}
use Rattle.sag_type.proofs.Sixes.{parts_low, six_low, sample_in, rest_in, more_samples}
use Rattle.sag_type.proofs.six_of.Goals.{In-Some, After-six_parts}
use Rattle.sag_type.proofs.six_of.Goals as goal

abbrev at : In-Some → ℕ
at c = length c.loop-sample.yielded

abbrev x : In-Some → ℕ → ℤ
x c n = sample_at c.args.w.now n (at c)

-- what is left begins with the three numbers of a sample
left : (c : In-Some) → drop (3 * at c) c.args.w.now ≡ c.in-Some.sample.now ++ chunks_exact_rest c.next.new.self
left c = sym c.loop-sample.invariant.rest_is ∙ c.in-Some.ensures.steps.1.0

three : (c : In-Some) → length c.in-Some.sample.now ≡ 3
three c = c.in-Some.ensures.steps.1.1 ∙ c.loop-sample.invariant.in_threes

read : (c : In-Some) (n : ℕ) → n < 3 → get_or c.in-Some.sample.now n (pos 0) ≡ x c n
read c n l = sample_in c.args.w.now c.in-Some.sample.now (chunks_exact_rest c.next.new.self) (at c) (left c) (three c) n l

more : (c : In-Some) → at c + 1 ≤ samples_of c.args.w.now
more c = more_samples c.args.w.now c.in-Some.sample.now (chunks_exact_rest c.next.new.self) (at c) (left c) (three c)

is-low : (c : In-Some) (n : ℕ) → n < 3 → nat_abs (x c n) ≤ 100000
is-low c n l = c.requires.low (3 * at c + n) (omega (arith, more c))

parts_are : (c : After-six_parts)
    → let t = c.before.before.before.before in
    c.six_parts.result ≡ six_parts (x t 0) (x t 1) (x t 2)
parts_are c =
    let t = c.before.before.before.before in
    let n = c.in-Some.sample.now in
    let parts : c.six_parts.result ≡ six_parts (get_or n 0 (pos 0)) (get_or n 1 (pos 0)) (get_or n 2 (pos 0)) = search rules in
    rw (parts, read t 0 (omega arith), read t 1 (omega arith), read t 2 (omega arith))

pub added-next-requires : goal.added-next-requires
added-next-requires c = (omega arith, sums_fit)
  where
    sums_fit : (i : ℕ) → get_or c.loop-sample.six i 0 + get_or c.six_parts.result i 0 < 18446744073709551616
    sums_fit i =
        let t = (goal.at.added-next-requires c).In-Some in
        let sums : get_or c.loop-sample.six i 0 ≤ 100000000000000 =
        rw c.loop-sample.invariant.six_are (omega (arith, six_low c.args.w.now c.requires.low (at t) c.loop-sample.invariant.within i, more t, c.requires.few)) in
        let parts : get_or c.six_parts.result i 0 ≤ 1000000000000 =
        rw (parts_are c) (omega (arith, parts_low (x t 0) (x t 1) (x t 2) (is-low t 0 (omega arith)) (is-low t 1 (omega arith)) (is-low t 2 (omega arith)) i)) in
        omega (arith, sums, parts)

pub loop-sample-preserved : goal.loop-sample-preserved
loop-sample-preserved c =
    let t = (goal.at.loop-sample-preserved c).In-Some in
    let p = (goal.at.loop-sample-preserved c).After-six_parts in
    let on : length (c.loop-sample.yielded ++ c.in-Some.sample ∷ []) ≡ at t + 1 = length-append c.loop-sample.yielded (c.in-Some.sample ∷ []) in
    record {
      six_are = rw on (c.added-next.ensures ∙ ap₂ plus c.loop-sample.invariant.six_are (parts_are p) ∙ ap (six_up_to c.args.w.now) (sym (add-one (at t))));
      rest_is = rw on (rest_in c.args.w.now c.in-Some.sample.now (chunks_exact_rest c.next.new.self) (at t) (left t) (three t));
      in_threes = c.in-Some.ensures.steps.0 ∙ c.loop-sample.invariant.in_threes;
      within = rw on (more t);
    }

pub returns : goal.returns
unfolding six_in
returns c =
    let w = c.args.w.now in
    let k = length c.loop-sample.yielded in
    let few : length (drop (3 * k) w) < 3 = rw (sym c.loop-sample.invariant.rest_is, sym c.loop-sample.invariant.in_threes) c.in-None.ensures.steps.1.0 in
    let e : k ≡ samples_of w = omega (arith, few, length-drop (3 * k) w, c.loop-sample.invariant.within) in
    c.loop-sample.invariant.six_are ∙ ap (six_up_to w) e
