-- The machine of a kind, as the code runs it, over marks and levels; and what its event comes to. proofs/ ties it to the rules.
use Rattle.std.specs.Prelude.{ℕ, zero, suc, ◌+◌, ◌-◌, ◌*◌, ◌≤◌, ◌<◌, ◌≡◌, Bool, true, false, ◌&&◌, ◌||◌, cond, List, ltb, eqb, ℤ, Option, Some, None, is_some}
use Rattle.rules.specs.Bounded.{before, bit}
use Rattle.rules.specs.Halves.{Half, of_channel, channels, known, half_at, full}
use Rattle.rules.specs.Events.{in_event, starts, start_seen, least, greatest, level, worse, extreme_of, retained_of, shorts_of, three, six_sums, type_of}
use Rattle.rules.specs.EventList.{kind_number, of_sag}
use Rattle.rules.specs.declared.Settings.{Settings}
use Rattle.rules.specs.declared.Sums.{Sums}
use Rattle.rules.specs.declared.Kind.{Kind}
use Rattle.rules.specs.declared.Event.{Event}
use Rattle.rules.specs.declared.Kind.TheVariants.{Sag, Interruption, Swell}
use Rattle.kinds.specs.declared.Marks.{Marks}
use Rattle.kinds.specs.declared.Thresholds.{Thresholds}
use Rattle.kinds.specs.declared.Level.{Level}
use Rattle.kinds.specs.declared.Open.{Open}
use Rattle.kinds.specs.declared.Inside.{Inside}
use Rattle.kinds.specs.declared.Class.{Class}
use Rattle.kinds.specs.declared.Class.TheVariants.{Healthy, Disturbed, Unknown}

-- p percent in the unit of 10,000 x S
abbrev pub mark_of : Settings → ℕ → ℕ
mark_of s p = p * p * full s

abbrev pub marks_of : Settings → Kind → Marks
marks_of s Sag = record { from = mark_of s s.sag; to = mark_of s (s.sag + s.hysteresis) }
marks_of s Interruption = record { from = mark_of s s.interruption; to = mark_of s (s.interruption + s.hysteresis) }
marks_of s Swell = record { from = mark_of s s.swell; to = mark_of s (s.swell - s.hysteresis) }

abbrev pub thresholds_of : Settings → Thresholds
thresholds_of s =
    record {
      full = full s;
      sag = marks_of s Sag;
      interruption = marks_of s Interruption;
      swell = marks_of s Swell;
    }

-- a sag begins below N x R x R
abbrev pub Marked : Thresholds → Type 0
Marked m = m.sag.from ≤ 10000 * m.full

-- the shortfall of a channel, by N x R x R and the mark at which a sag begins
abbrev pub short_by : ℕ → ℕ → ℕ → ℕ
short_by full from S = cond (ltb (10000 * S) from) (full - S) 0

-- what the kinds ask of a known half-cycle
abbrev pub level_sums : ℕ → ℕ → Sums → Level
level_sums full from v =
    record {
      least = least v;
      greatest = greatest v;
      low = 10000 * least v;
      high = 10000 * greatest v;
      short = record { a = short_by full from v.a; b = short_by full from v.b; c = short_by full from v.c };
    }

-- an unknown one has no level
abbrev pub level_from : ℕ → ℕ → Half → Option Level
level_from full from None = None
level_from full from (Some v) = Some (level_sums full from v)

unfoldable pub level_of : Settings → Half → Option Level
level_of s v = level_from (full s) (mark_of s s.sag) v

-- sums of an accepted recording are at most 512 x 10,000,000,000
abbrev pub Few : Half → Type 0
Few None = Unit {0}
Few (Some v) = (v.a ≤ 5120000000000) × (v.b ≤ 5120000000000) × (v.c ≤ 5120000000000)

-- shortfalls that can be added
abbrev pub Light : Sums → Type 0
Light v = (v.a ≤ 1000000000000000000) × (v.b ≤ 1000000000000000000) × (v.c ≤ 1000000000000000000)

abbrev pub goes_level : Kind → Marks → Bool → Level → Bool
goes_level Sag m inside l = ltb l.low m.from || (inside && ltb l.low m.to)
goes_level Interruption m inside l = ltb l.high m.from || (inside && ltb l.high m.to)
goes_level Swell m inside l = ltb m.from l.high || (inside && ltb m.to l.high)

-- an unknown half-cycle is in no event
unfoldable pub goes_by : Kind → Marks → Bool → Option Level → Bool
goes_by kind m inside None = false
goes_by kind m inside (Some l) = goes_level kind m inside l

-- ---- the kinds that a half-cycle is in an event of

-- in no event
abbrev pub outside : Inside
outside = record { sag = false; interruption = false; swell = false }

-- the kinds that half-cycle k - 1 is in an event of
unfoldable pub inside_at : Settings → (ℕ → Half) → ℕ → Inside
inside_at s h k =
    record {
      sag = before (in_event s h Sag) k;
      interruption = before (in_event s h Interruption) k;
      swell = before (in_event s h Swell) k;
    }

-- and after one more half-cycle
unfoldable pub followed_by : Thresholds → Inside → Option Level → Inside
followed_by m was l =
    record {
      sag = goes_by Sag m.sag was.sag l;
      interruption = goes_by Interruption m.interruption was.interruption l;
      swell = goes_by Swell m.swell was.swell l;
    }

abbrev pub in_some : Inside → Bool
in_some i = i.sag || i.interruption || i.swell

-- the class of a half-cycle, by whether it is known and whether it is in an event
abbrev pub class_of : Bool → Bool → Class
class_of false any = Unknown
class_of true true = Disturbed
class_of true false = Healthy

-- ---- the event that is going on

-- the level that counts for the extreme
abbrev pub peak_of : Kind → Level → ℕ
peak_of Sag l = l.least
peak_of Interruption l = l.least
peak_of Swell l = l.greatest

abbrev pub launched : Kind → Bool → ℕ → Level → Open
launched kind seen k l =
    record { start = k; seen = seen; extreme = peak_of kind l; at = k; short = l.short }

abbrev pub add_sums : Sums → Sums → Sums
add_sums x y = record { a = x.a + y.a; b = x.b + y.b; c = x.c + y.c }

abbrev pub lasting : Kind → ℕ → Open → Level → Open
lasting kind k o l =
    record {
      start = o.start;
      seen = o.seen;
      extreme = worse kind o.extreme (peak_of kind l);
      at = cond (eqb (worse kind o.extreme (peak_of kind l)) o.extreme) o.at k;
      short = add_sums o.short l.short;
    }

-- the event that goes on at k, one that went on before or a new one
abbrev pub carried : Kind → Bool → ℕ → Option Open → Level → Open
carried kind seen k None l = launched kind seen k l
carried kind seen k (Some o) l = lasting kind k o l

-- what half-cycle k makes of the event that is going on, if one is; `seen` says whether the half-cycle before it is known
unfoldable pub step_by : Kind → Marks → Bool → ℕ → Option Open → Option Level → Option Open
step_by kind m seen k o None = None
step_by kind m seen k o (Some l) = cond (goes_by kind m (is_some o) (Some l)) (Some (carried kind seen k o l)) None

-- the state before half-cycle k
unfoldable pub opens : Settings → (ℕ → Half) → Kind → ℕ → Option Open
opens s h kind zero = None
opens s h kind (suc k) =
    step_by kind (marks_of s kind) (before (λ j. known (h j)) k) k (opens s h kind k) (level_of s (h k))

-- an event of the kind is going on before half-cycle k, and o holds what it has met so far
pub record Going (s : Settings) (h : ℕ → Half) (kind : Kind) (k : ℕ) (o : Open) : Type 0 where
  pub started : o.start < k
  pub launch : starts s h kind o.start ≡ true
  pub through : (m : ℕ) → o.start ≤ m → m < k → in_event s h kind m ≡ true
  pub seen : o.seen ≡ start_seen h o.start
  pub extreme : o.extreme ≡ extreme_of h kind o.start k
  pub at_low : o.start ≤ o.at
  pub at_high : o.at < k
  pub at_is : level kind (h o.at) ≡ o.extreme
  pub at_first : (m : ℕ) → o.start ≤ m → m < o.at → level kind (h m) ≡ o.extreme → ⊥
  pub no_worse : (m : ℕ) → o.start ≤ m → m < k → worse kind o.extreme (level kind (h m)) ≡ o.extreme
  pub short : o.short ≡ shorts_of s h o.start k

-- what the machine holds of an accepted recording: bounds, and a known half-cycle of the extreme
pub record Finishable (s : Settings) (xs : List ℤ) (o : Open) : Type 0 where
  pub light : Light o.short
  pub extreme : o.extreme ≤ s.n * 10000000000
  pub at : known (half_at s xs o.at) ≡ true

-- 1 for the start plus 2 for the end
abbrev pub seen_number : Bool → Bool → ℕ
seen_number start end = bit start + 2 * bit end

-- the event that half-cycle `end` ends
unfoldable pub finished_by : Settings → List ℤ → Kind → Open → ℕ → Bool → Event
finished_by s xs kind o end isKnown =
    record {
      kind = kind_number kind;
      start = o.start;
      end = end;
      seen = seen_number o.seen isKnown;
      extreme = o.extreme;
      retained = retained_of s o.extreme;
      shortfall = of_sag kind (three o.short);
      class = of_sag kind (type_of (six_sums s xs o.at));
      parts = channels (λ c. of_sag kind (of_channel c o.short));
    }
