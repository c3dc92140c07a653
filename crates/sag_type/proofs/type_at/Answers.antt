-- The window of a known half-cycle lies within the run and lacks no sample, so its six sums fit, and they are the rules' six. Assumes
-- nothing.
use Prim.Native.Nat.{◌+◌, ◌*◌, ◌≤◌}
use mathlib.Core.Path.{◌≡◌, ap, ◌∙◌}
use lib.ListN.{length}
use Rattle.rules.specs.Halves.{begin, sums_at}
use Rattle.rules.specs.Events.{type_of}
use Rattle.rules.proofs.Ranges.{good}
use Rattle.rules.proofs.Samples.{accepted_recording, window-fits, Knows, knows, known_is}
use Rattle.halves.specs.Steps.{window, Low}
use Rattle.sag_type.specs.Six.{six_in}
use Rattle.halves.proofs.Parts.{window-few, window-low}
use Rattle.sag_type.proofs.Sixes.{six_in-low, window_six}
use Rattle.sag_type.proofs.type_at.Goals.{After-six_of, Start}
use Rattle.sag_type.proofs.type_at.Goals as goal

is_known : (c : Start) → let a = c.args.recording.now in let k = c.args.k in Knows a.settings a.samples.now k (sums_at a.settings a.samples.now k)
is_known c =
    let a = c.args.recording.now in let k = c.args.k in
    let xs = a.samples.now in
    knows a.settings xs k (sums_at a.settings xs k) (known_is a.settings xs k c.requires.1)

inside : (c : Start) → let a = c.args.recording.now in let k = c.args.k in 3 * begin a.settings k + 3 * a.settings.n ≤ length a.samples.now
inside c =
    let a = c.args.recording.now in let k = c.args.k in
    let xs = a.samples.now in
    window-fits a.settings xs (good a.settings a.good) (accepted_recording a.settings xs c.requires.0) k (is_known c).exists

few : (c : Start) → let a = c.args.recording.now in let k = c.args.k in length (window a.settings a.samples.now k) ≤ 1536
few c =
    let a = c.args.recording.now in let k = c.args.k in
    let xs = a.samples.now in
    window-few a.settings xs (good a.settings a.good) (accepted_recording a.settings xs c.requires.0) k (is_known c).exists

is-low : (c : Start) → let a = c.args.recording.now in let k = c.args.k in Low (window a.settings a.samples.now k)
is-low c =
    let a = c.args.recording.now in let k = c.args.k in
    let xs = a.samples.now in
    window-low a.settings xs (good a.settings a.good) (accepted_recording a.settings xs c.requires.0) k (is_known c).exists (is_known c).whole

six_are : (c : After-six_of) → let a = c.args.recording.now in let k = c.args.k in c.six_of.result ≡ six_in (window a.settings a.samples.now k)
six_are c = c.six_of.ensures ∙ ap six_in c.window_at.ensures

pub window_at-requires : goal.window_at-requires
window_at-requires c = inside (goal.at.window_at-requires c).Start

pub sag_type-requires : goal.sag_type-requires
sag_type-requires c =
    let a = c.args.recording.now in let k = c.args.k in
    rw (six_are c) (six_in-low (window a.settings a.samples.now k) (is-low (goal.at.sag_type-requires c).Start) (few (goal.at.sag_type-requires c).Start))

pub returns : goal.returns
returns c =
    let a = c.args.recording.now in let k = c.args.k in
    c.sag_type.ensures
    ∙ ap type_of (six_are (goal.at.returns c).After-six_of ∙ window_six a.settings a.samples.now k (inside (goal.at.returns c).Start))

pub six_of-requires-clause-few : goal.six_of-requires-clause-few
six_of-requires-clause-few c = rw c.window_at.ensures (few (goal.at.six_of-requires-clause-few c).Start)

pub six_of-requires-clause-low : goal.six_of-requires-clause-low
six_of-requires-clause-low c = rw c.window_at.ensures (is-low (goal.at.six_of-requires-clause-low c).Start)
