-- `known::write_line` meets its contract: an accepted list has room for its events. Assumes nothing.
use mathlib.Core.Path.{sym, ◌∙◌}
use native.Mathlib.Omega.{arith}
use Rattle.known.proofs.Room.{events_fit}
use Rattle.known.proofs.write_line.Goals as goal

pub write_events-requires : goal.write_events-requires
write_events-requires g c =
    omega (arith, events_fit _ _ _ _ (sym c.list-listed.ensures.value ∙ c.in-Ok.is), c.list-listed.auto.out)
