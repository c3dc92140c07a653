-- `score::root` meets its contract: it is what three steps from a first guess reach.
use native.Mathlib.Omega.{arith}
use Rattle.score.proofs.Newton.{steps_enough}
use Rattle.score.proofs.root.Goals as goal

pub returns : goal.returns
returns c =
    let first = c.first_guess in
    let second = c.nearer in
    let third = c.nearer-2 in
    (steps_enough _ _).3
    (omega (arith, c.requires))
    (third.result, (second.result, (first.result, first.ensures, second.ensures), third.ensures), c.nearer-3.ensures)
