-- `score::nearer` meets its contract: the root stays, and from any other guess it takes one of Newton's steps.
use Prim.Native.Nat.{◌*◌, ◌<◌}
use native.Mathlib.Omega.{arith}
use Rattle.score.proofs.Newton.{positive, step_down, step-above, step_nearer}
use Rattle.score.proofs.nearer.Goals.{Else-r-q}
use Rattle.score.proofs.nearer.Goals as goal

above : (c : Else-r-q) → c.args.q < c.args.r * c.args.r
above c = omega (arith, c.if-r-q.false)

pub returns : goal.returns
returns c = (step_down _ _ (above c), step-above _ _ (positive _ _ (above c)), step_nearer _ _ (omega (arith, above c)))
