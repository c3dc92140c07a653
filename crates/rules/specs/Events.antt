-- Launch, peak and landing of an event. `h` gives each half-cycle by its number, and `n` is how many there are.
use Rattle.std.specs.Prelude.{ℕ, zero, suc, ◌+◌, ◌-◌, ◌*◌, min, max, Bool, true, false, not, ◌&&◌, ◌||◌, cond, List, [], ◌∷◌, ℤ, ◌-ℤ◌, ◌+ℤ◌, leb, ltb, eqb, Some, None}
use Rattle.rules.specs.Bounded.{any, all, bit, sum, before, first_not}
use Rattle.rules.specs.Recorder.{sample_at}
use Rattle.rules.specs.Halves.{Half, begin, square, known, full, below, above, at_least, at_most, some_channel, all_channels}
use Rattle.rules.specs.declared.Settings.{Settings}
use Rattle.rules.specs.declared.Sums.{Sums}
use Rattle.rules.specs.declared.Kind.{Kind}
use Rattle.rules.specs.declared.Kind.TheVariants.{Sag, Interruption, Swell}

-- ---- in an event at k

-- a known half-cycle begins an event: a channel below the sag threshold; all channels below the interruption threshold; a
-- channel above the swell threshold
abbrev pub begins_by : Settings → Kind → Sums → Bool
begins_by s Sag v = some_channel (below s s.sag) v
begins_by s Interruption v = all_channels (below s s.interruption) v
begins_by s Swell v = some_channel (above s s.swell) v

-- a known half-cycle ends an event: all channels at or above sag threshold plus hysteresis; some channel at or above
-- interruption threshold plus hysteresis; all channels at or below swell threshold minus hysteresis
abbrev pub ends_by : Settings → Kind → Sums → Bool
ends_by s Sag v = all_channels (at_least s (s.sag + s.hysteresis)) v
ends_by s Interruption v = some_channel (at_least s (s.interruption + s.hysteresis)) v
ends_by s Swell v = all_channels (at_most s (s.swell - s.hysteresis)) v

-- an unknown half-cycle does neither
abbrev pub begins : Settings → Kind → Half → Bool
begins s k None = false
begins s k (Some v) = begins_by s k v

abbrev pub ends : Settings → Kind → Half → Bool
ends s k None = false
ends s k (Some v) = ends_by s k v

-- over any three tests of a half-cycle's number: j begins an event, all half-cycles j to k are known, and there is no m with
-- j < m and m at most k that ends one
unfoldable pub carries : (begins known ends : ℕ → Bool) → ℕ → ℕ → Bool
carries begins known ends k j =
    begins j && all (λ m. ltb m j || known m) (suc k) && not (any (λ m. ltb j m && ends m) (suc k))

-- some j up to k exists that carries to k
unfoldable pub in_run : (begins known ends : ℕ → Bool) → ℕ → Bool
in_run begins known ends k = any (carries begins known ends k) (suc k)

-- in a sag, an interruption, a swell at k
unfoldable pub in_event : Settings → (ℕ → Half) → Kind → ℕ → Bool
in_event s h kind k = in_run (λ j. begins s kind (h j)) (λ j. known (h j)) (λ j. ends s kind (h j)) k

-- ---- an event is a longest unbroken run, from start up to but not with end

-- every number from a up to and without b passes p, there is one, and those on both sides do not pass
unfoldable pub is_run : (ℕ → Bool) → ℕ → ℕ → Bool
is_run p a b = ltb a b && all (λ m. ltb m a || p m) b && not (before p a) && not (p b)

-- an event of the kind starts at k; it ends at
unfoldable pub starts : Settings → (ℕ → Half) → Kind → ℕ → Bool
starts s h kind k = in_event s h kind k && not (before (in_event s h kind) k)

unfoldable pub end_of : Settings → (ℕ → Half) → ℕ → Kind → ℕ → ℕ
end_of s h n kind start = first_not (in_event s h kind) start (n - start)

-- ---- seen

-- the start is seen if start - 1 exists and is known, the end if half-cycle end exists and is known
abbrev pub start_seen : (ℕ → Half) → ℕ → Bool
start_seen h start = before (λ k. known (h k)) start

abbrev pub end_seen : (ℕ → Half) → ℕ → Bool
end_seen h end = known (h end)

-- 1 for the start plus 2 for the end
unfoldable pub seen_of : (ℕ → Half) → ℕ → ℕ → ℕ
seen_of h start end = bit (start_seen h start) + 2 * bit (end_seen h end)

-- ---- extreme

abbrev pub least : Sums → ℕ
least v = min (min v.a v.b) v.c

abbrev pub greatest : Sums → ℕ
greatest v = max (max v.a v.b) v.c

-- the smallest S of a half-cycle's channels, for a swell the largest
abbrev pub level_by : Kind → Sums → ℕ
level_by Sag v = least v
level_by Interruption v = least v
level_by Swell v = greatest v

abbrev pub level : Kind → Half → ℕ
level kind None = 0
level kind (Some v) = level_by kind v

abbrev pub worse : Kind → ℕ → ℕ → ℕ
worse Sag x y = min x y
worse Interruption x y = min x y
worse Swell x y = max x y

-- the smallest over the half-cycles from start up to and without end, for a swell the largest
abbrev pub worst : (ℕ → ℕ → ℕ) → (ℕ → ℕ) → ℕ → ℕ → ℕ
worst pick f start zero = f start
worst pick f start (suc end) = let r = pick (worst pick f start end) (f end) in cond (ltb start end) r (f start)

unfoldable pub extreme_of : (ℕ → Half) → Kind → ℕ → ℕ → ℕ
extreme_of h kind start end = worst (worse kind) (λ k. level kind (h k)) start end

-- the earliest half-cycle at which the extreme occurs
unfoldable pub earliest : (ℕ → Half) → Kind → ℕ → ℕ → ℕ
earliest h kind start end = first_not (λ k. not (eqb (level kind (h k)) (extreme_of h kind start end))) start (end - start)

-- ---- retained value

-- 1000 V / R is at least r - 1/2, of r from 1 on: (2r - 1)^2 x N x R x R is at most 4,000,000 x S
abbrev pub reaches : Settings → ℕ → ℕ → Bool
reaches s S r = leb ((2 * r - 1) * (2 * r - 1) * full s) (4000000 * S)

-- From k upwards while the next number passes, d steps at most. The Bool says whether the next one does.
unfoldable pub climb : (ℕ → Bool) → ℕ → Bool → ℕ → ℕ
climb p zero b k = k
climb p (suc d) false k = k
climb p (suc d) true k = climb p d (p (suc (suc k))) (suc k)

-- the whole number nearest to 1000 V / R, halves upward: the largest r that is reached, and 0 where none from 1 on is
unfoldable pub retained_of : Settings → ℕ → ℕ
retained_of s S = climb (reaches s S) (4000000 * S) (reaches s S 1) 0

-- ---- shortfall

-- N x R x R - S of a channel that is itself below the sag threshold, else 0
abbrev pub short_of : Settings → ℕ → ℕ
short_of s S = cond (below s s.sag S) (full s - S) 0

abbrev pub shorts : Settings → Half → Sums
shorts s None = record { a = 0; b = 0; c = 0 }
shorts s (Some v) = record { a = short_of s v.a; b = short_of s v.b; c = short_of s v.c }

-- the sum of f over the half-cycles from start up to and without end
abbrev pub sum_from : (ℕ → ℕ) → ℕ → ℕ → ℕ
sum_from f start end = sum (λ k. cond (ltb k start) 0 (f k)) end

-- channel by channel, over each half-cycle of the sag
unfoldable pub shorts_of : Settings → (ℕ → Half) → ℕ → ℕ → Sums
shorts_of s h start end =
    record {
      a = sum_from (λ k. (shorts s (h k)).a) start end;
      b = sum_from (λ k. (shorts s (h k)).b) start end;
      c = sum_from (λ k. (shorts s (h k)).c) start end;
    }

abbrev pub three : Sums → ℕ
three v = v.a + v.b + v.c

-- the shortfalls of the channels make up the whole, in whole numbers
abbrev pub make_up : Sums → ℕ → Bool
make_up parts shortfall = eqb (three parts) shortfall

-- ---- sag type

abbrev pub twice : ℤ → ℤ
twice x = x +ℤ x

-- what one sample of each channel adds to the six sums, in their order
abbrev pub six_parts : ℤ → ℤ → ℤ → List ℕ
six_parts a b c =
    square (twice a -ℤ b -ℤ c) ∷ square (twice b -ℤ a -ℤ c) ∷ square (twice c -ℤ a -ℤ b)
    ∷ 3 * square (b -ℤ c) ∷ 3 * square (c -ℤ a) ∷ 3 * square (a -ℤ b) ∷ []

-- number by number
abbrev pub plus : List ℕ → List ℕ → List ℕ
plus [] ys = []
plus (x ∷ xs) [] = []
plus (x ∷ xs) (y ∷ ys) = (x + y) ∷ plus xs ys

abbrev pub six_below : (ℕ → List ℕ) → ℕ → List ℕ
six_below f zero = 0 ∷ 0 ∷ 0 ∷ 0 ∷ 0 ∷ 0 ∷ []
six_below f (suc n) = plus (six_below f n) (f n)

-- the six sums over the samples of half-cycle k
unfoldable pub six_sums : Settings → List ℤ → ℕ → List ℕ
six_sums s xs k =
    six_below
    (λ i. let m = begin s k + i in six_parts (sample_at xs 0 m) (sample_at xs 1 m) (sample_at xs 2 m))
    s.n

abbrev pub smallest : List ℕ → ℕ
smallest [] = 0
smallest (x ∷ []) = x
smallest (x ∷ y ∷ ys) = min x (smallest (y ∷ ys))

abbrev pub largest : List ℕ → ℕ
largest [] = 0
largest (x ∷ []) = x
largest (x ∷ y ∷ ys) = max x (largest (y ∷ ys))

-- the number, from 1, of the first that equals v
abbrev pub number_of_first : List ℕ → ℕ → ℕ
number_of_first [] v = 0
number_of_first (x ∷ xs) v = cond (eqb x v) 1 (suc (number_of_first xs v))

-- 0 (A) if 100 x smallest is at least 81 x largest, else the number of the first smallest: Da, Db, Dc, Ca, Cb, Cc
unfoldable pub type_of : List ℕ → ℕ
type_of six = cond (leb (81 * largest six) (100 * smallest six)) 0 (number_of_first six (smallest six))
