-- An event and its eleven numbers are the same thing: a host that hands back an event's numbers as the list wrote them hands back that
-- event. Assumes nothing.
use Prim.Native.Nat.{ℕ}
use mathlib.Core.Path.{◌≡◌, refl}
use mathlib.Core.List.{[], ◌∷◌}
use lib.ListN.{get_or}
use Rattle.rules.specs.EventList.{words_of}
use Rattle.rules.specs.declared.Event.{Event}
use Rattle.words.specs.Numbers.{event_with}

-- an event, as the numbers that the list writes, and back
pub event_back : (e : Event)
    → let at : ℕ → ℕ = λ i. get_or (words_of e) i 0 in event_with (at 0) (at 1) (at 2) (at 3) (at 4) (at 5) (at 6) (at 7) (at 8) (at 9) (at 10) ≡ e
event_back e = refl

-- eleven numbers, as an event and back
pub numbers_back : (kind start end seen extreme retained shortfall class a b c : ℕ)
    → words_of (event_with kind start end seen extreme retained shortfall class a b c)
    ≡ kind ∷ start ∷ end ∷ seen ∷ extreme ∷ retained ∷ shortfall ∷ class ∷ a ∷ b ∷ c ∷ []
numbers_back kind start end seen extreme retained shortfall class a b c = refl
