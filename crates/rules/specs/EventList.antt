-- The event list: eleven numbers an event, in order of start and then kind.
use Rattle.std.specs.Prelude.{ℕ, cond, List, [], ◌∷◌, ◌++◌, ℤ}
use Rattle.rules.specs.Bounded.{join}
use Rattle.rules.specs.Halves.{of_channel, channels, half_at, halves_of}
use Rattle.rules.specs.Events.{starts, end_of, seen_of, extreme_of, earliest, retained_of, shorts_of, three, six_sums, type_of}
use Rattle.rules.specs.declared.Settings.{Settings}
use Rattle.rules.specs.declared.Kind.{Kind}
use Rattle.rules.specs.declared.Kind.TheVariants.{Sag, Interruption, Swell}
use Rattle.rules.specs.declared.Event.{Event}

-- 1 sag, 2 interruption, 3 swell
abbrev pub kind_number : Kind → ℕ
kind_number Sag = 1
kind_number Interruption = 2
kind_number Swell = 3

-- shortfall, type and the shortfalls of the channels are a sag's, and 0 for the others
abbrev pub of_sag : Kind → ℕ → ℕ
of_sag Sag x = x
of_sag Interruption x = 0
of_sag Swell x = 0

-- the event of the kind that starts at `start`
unfoldable pub event_from : Settings → List ℤ → Kind → ℕ → Event
event_from s xs kind start =
    let h = half_at s xs in
    let end = end_of s h (halves_of s xs) kind start in
    let extreme = extreme_of h kind start end in
    let shorts = shorts_of s h start end in
    record {
      kind = kind_number kind;
      start = start;
      end = end;
      seen = seen_of h start end;
      extreme = extreme;
      retained = retained_of s extreme;
      shortfall = of_sag kind (three shorts);
      class = of_sag kind (type_of (six_sums s xs (earliest h kind start end)));
      parts = channels (λ c. of_sag kind (of_channel c shorts));
    }

-- how many numbers an event has, and which
abbrev pub event_size : ℕ
event_size = 11

abbrev pub words_of : Event → List ℕ
words_of e =
    e.kind ∷ e.start ∷ e.end ∷ e.seen ∷ e.extreme ∷ e.retained ∷ e.shortfall ∷ e.class
    ∷ e.parts.a ∷ e.parts.b ∷ e.parts.c ∷ []

-- the event of the kind that starts at k, if one does
unfoldable pub event_at : Settings → List ℤ → Kind → ℕ → List Event
event_at s xs kind k = let e = event_from s xs kind k in cond (starts s (half_at s xs) kind k) (e ∷ []) []

-- all events that start at k, by kind
abbrev pub events_at : Settings → List ℤ → ℕ → List Event
events_at s xs k = event_at s xs Sag k ++ event_at s xs Interruption k ++ event_at s xs Swell k

-- the events of a recording, by start, then kind
unfoldable pub events_of : Settings → List ℤ → List Event
events_of s xs = join (events_at s xs) (halves_of s xs)

-- their numbers
abbrev pub flat : List Event → List ℕ
flat [] = []
flat (e ∷ es) = words_of e ++ flat es
