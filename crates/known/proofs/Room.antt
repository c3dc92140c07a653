-- A list that is accepted has room for its events: its check of the room passed.
use Rattle.std.specs.Prelude.{Result, Ok, Err, ⊤}
use Prim.Native.Nat.{ℕ, ◌*◌, ◌≤◌}
use mathlib.Core.Path.{◌≡◌, refl}
use mathlib.Core.Bool.{Bool, true, false, cond}
use mathlib.Core.List.{List}
use native.Mathlib.Omega.{arith}
use borrow.Author.Tests.{ltb-false}
use lib.ListN.{length}
use lib.IntN.{ℤ}
use lib.Dec.{ltb}
use Rattle.rules.specs.EventList.{events_of}
use Rattle.rules.specs.Refusals.{settings_check, recording_check, room_check, list_check, listed, and_then, by_check}
use Rattle.rules.specs.declared.Settings.{Settings}
use Rattle.rules.specs.declared.Refusal.{Refusal}
use Rattle.rules.specs.declared.Refusal.TheVariants.{Room}

turned : (r : Refusal) (n : ℕ) → Err r ≡ Ok n → ⊥
turned r n h = let z : ◌≡◌ {A = ℕ} 0 1 = cc in omega arith

-- over any two checks before the room's, and any number of events
fits : (a b : Result ⊤ Refusal) (room m n : ℕ) (small : Bool) → ltb room (11 * m) ≡ small → by_check {A = (Result ℕ Refusal)} (and_then a (and_then b (cond small (Err (Room m)) (Ok tt)))) (Ok m) (λ r. Err r) ≡ Ok n → 11 * n ≤ room
fits (Err r) b room m n small e h = absurd (turned r n h)
fits (Ok _) (Err r) room m n small e h = absurd (turned r n h)
fits (Ok _) (Ok _) room m n true e h = absurd (turned (Room m) n h)
fits (Ok _) (Ok _) room m n false e h = let same : m ≡ n = cc in omega (arith, ltb-false room (11 * m) e)

pub events_fit : (s : Settings) (xs : List ℤ) (room n : ℕ) → listed s xs room ≡ Ok n → 11 * n ≤ room
unfolding listed list_check room_check
events_fit s xs room n h = fits (settings_check s) (recording_check s xs) room (length (events_of s xs)) n (ltb room (11 * length (events_of s xs))) refl h
