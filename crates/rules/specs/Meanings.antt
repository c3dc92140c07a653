-- What the rules say, as facts of the sums S, the samples, durations, settings and floats, in other words than the tests of the other
-- files. Of those they use only `of_channel`, and what has laws of its own: `settings_good`, `bad_setting`, `square`, `halves_of`,
-- `events_of`, `trace_of`, and the tests of the classes. The laws hold each definition to these.
use Rattle.std.specs.Prelude.{ℕ, zero, suc, ◌+◌, ◌-◌, ◌*◌, ◌/◌, ◌%◌, ◌≤◌, ◌<◌, ◌≡◌, Bool, true, false, ◌||◌, ◌⊎◌, eqb, ℤ, pos, negsuc, nat_abs, ◌-ℤ◌, ◌+ℤ◌, Float, length, get_or, Result, Ok, Err, Some, ⊤}
use mathlib.Core.List.{List, Memᴰ}
use Rattle.std.specs.Float.Ieee.Exact.{HasValue}
use Rattle.rules.specs.Bounded.{count}
use Rattle.rules.specs.Recorder.{bad_setting, settings_good}
use Rattle.rules.specs.Halves.{Half, of_channel, halves_of, square}
use Rattle.rules.specs.EventList.{kind_number, events_of}
use Rattle.rules.specs.Trace.{trace_of}
use Rattle.rules.specs.Site.{is_healthy, is_disturbed, is_unknown}
use Rattle.rules.specs.declared.Settings.{Settings}
use Rattle.rules.specs.declared.Sums.{Sums}
use Rattle.rules.specs.declared.Kind.{Kind}
use Rattle.rules.specs.declared.Kind.TheVariants.{Sag, Interruption, Swell}
use Rattle.rules.specs.declared.Event.{Event}
use Rattle.rules.specs.declared.Refusal.TheVariants.{Setting, Uneven, Short, Ragged, Long, Sample, Room, Full, Unsound}
use Rattle.rules.specs.declared.Refusal.{Refusal}

-- ---- channels

-- P holds of S of some channel, of S of every channel
abbrev pub SomeChannel : Sums → (ℕ → Type 0) → Type 0
SomeChannel v P = (c : ℕ) × (c < 3) × P (of_channel c v)

abbrev pub Every : Sums → (ℕ → Type 0) → Type 0
Every v P = (c : ℕ) → c < 3 → P (of_channel c v)

-- p percent, as 10,000 x S is compared with it: p x p x N x R x R
abbrev pub percent : Settings → ℕ → ℕ
percent s p = p * p * s.n * s.r * s.r

-- ---- what begins an event, ends it and keeps it going

-- a channel below the sag threshold; all channels below the interruption threshold; a channel above the swell threshold
abbrev pub Begins : Settings → Kind → Sums → Type 0
Begins s Sag v = SomeChannel v (λ S. 10000 * S < percent s s.sag)
Begins s Interruption v = Every v (λ S. 10000 * S < percent s s.interruption)
Begins s Swell v = SomeChannel v (λ S. percent s s.swell < 10000 * S)

-- all channels at or above sag threshold plus hysteresis; some channel at or above interruption threshold plus hysteresis; all
-- channels at or below swell threshold minus hysteresis
abbrev pub Ends : Settings → Kind → Sums → Type 0
Ends s Sag v = Every v (λ S. percent s (s.sag + s.hysteresis) ≤ 10000 * S)
Ends s Interruption v = SomeChannel v (λ S. percent s (s.interruption + s.hysteresis) ≤ 10000 * S)
Ends s Swell v = Every v (λ S. 10000 * S ≤ percent s (s.swell - s.hysteresis))

-- one channel still below sag threshold plus hysteresis; all channels still below interruption threshold plus hysteresis; one
-- channel still above swell threshold minus hysteresis
abbrev pub Keeps : Settings → Kind → Sums → Type 0
Keeps s Sag v = SomeChannel v (λ S. 10000 * S < percent s (s.sag + s.hysteresis))
Keeps s Interruption v = Every v (λ S. 10000 * S < percent s (s.interruption + s.hysteresis))
Keeps s Swell v = SomeChannel v (λ S. percent s (s.swell - s.hysteresis) < 10000 * S)

-- in an event at k: some j up to k exists that begins one, all half-cycles j to k are known, and there is no m with j < m and m
-- at most k that ends it
abbrev pub Inside : Settings → (ℕ → Half) → Kind → ℕ → Type 0
Inside s h kind k =
    (j : ℕ) × (v : Sums) × (j ≤ k) × (h j ≡ Some v) × Begins s kind v
    × ((m : ℕ) → j < m → m ≤ k → (w : Sums) × (h m ≡ Some w) × (Ends s kind w → ⊥))

-- ---- extreme

-- x is as bad as y: at most y, for a swell at least y
abbrev pub AsBad : Kind → ℕ → ℕ → Type 0
AsBad Sag x y = x ≤ y
AsBad Interruption x y = x ≤ y
AsBad Swell x y = y ≤ x

-- over the half-cycles from a up to and without b, of which half-cycle k has the sums `v k`: x is as bad as S of each of them
-- and of each channel, and is one of those
abbrev pub IsExtreme : Kind → (ℕ → Sums) → ℕ → ℕ → ℕ → Type 0
IsExtreme kind v a b x =
    ((k : ℕ) → a ≤ k → k < b → Every (v k) (λ S. AsBad kind x S)) × ((k : ℕ) × (a ≤ k) × (k < b) × SomeChannel (v k) (λ S. S ≡ x))

-- k is the earliest of them at which x occurs
abbrev pub IsEarliest : (ℕ → Sums) → ℕ → ℕ → ℕ → ℕ → Type 0
IsEarliest v a b x k =
    (a ≤ k) × (k < b) × SomeChannel (v k) (λ S. S ≡ x) × ((m : ℕ) → a ≤ m → m < k → Every (v m) (λ S. S ≡ x → ⊥))

-- ---- sag type

-- each of the six sums is at least 81 hundredths of every other
abbrev pub Alike : List ℕ → Type 0
Alike six = (i j : ℕ) → i < 6 → j < 6 → 81 * get_or six j 0 ≤ 100 * get_or six i 0

-- sum i of the six, counted from 0, is the first smallest: at most each of them, and below each before it
abbrev pub IsFirstSmallest : List ℕ → ℕ → Type 0
IsFirstSmallest six i =
    (i < 6) × ((j : ℕ) → j < 6 → get_or six i 0 ≤ get_or six j 0) × ((j : ℕ) → j < i → get_or six i 0 < get_or six j 0)

-- what one sample of each channel adds to sum j: (2a-b-c) squared, (2b-a-c) squared, (2c-a-b) squared, three times (b-c)
-- squared, three times (c_a) squared, three times (a-b) squared
abbrev pub part_of : ℕ → ℤ → ℤ → ℤ → ℕ
part_of zero a b c = square ((a -ℤ b) +ℤ (a -ℤ c))
part_of (suc zero) a b c = square ((b -ℤ a) +ℤ (b -ℤ c))
part_of (suc (suc zero)) a b c = square ((c -ℤ a) +ℤ (c -ℤ b))
part_of (suc (suc (suc zero))) a b c = 3 * square (b -ℤ c)
part_of (suc (suc (suc (suc zero)))) a b c = 3 * square (c -ℤ a)
part_of (suc (suc (suc (suc (suc j))))) a b c = 3 * square (a -ℤ b)

-- ---- rows and columns of set 0 and of set 1

-- rows 0 to 3: V at most so many percent
abbrev pub row_percent : ℕ → ℕ → ℕ
row_percent set zero = 10
row_percent set (suc zero) = 40
row_percent set (suc (suc zero)) = 70
row_percent zero (suc (suc (suc i))) = 85
row_percent (suc set) (suc (suc (suc i))) = 80

-- how many borders of columns there are
abbrev pub column_borders : ℕ → ℕ
column_borders zero = 7
column_borders (suc set) = 4

-- a duration h against the border of column i, by any relation
abbrev pub Against : (ℕ → ℕ → Type 0) → ℕ → ℕ → ℕ → ℕ → Type 0
Against R zero zero f h = R h 2
Against R zero (suc zero) f h = R (5 * h) f
Against R zero (suc (suc zero)) f h = R h f
Against R zero (suc (suc (suc zero))) f h = R h (2 * f)
Against R zero (suc (suc (suc (suc zero)))) f h = R h (6 * f)
Against R zero (suc (suc (suc (suc (suc zero))))) f h = R h (40 * f)
Against R zero (suc (suc (suc (suc (suc (suc i)))))) f h = R h (120 * f)
Against R (suc set) zero f h = R h 2
Against R (suc set) (suc zero) f h = R (5 * h) (2 * f)
Against R (suc set) (suc (suc zero)) f h = R h f
Against R (suc set) (suc (suc (suc i))) f h = R h (10 * f)

-- ---- severity

-- y is exactly twice x, as the numbers that the two floats stand for, with no rounding: x is a / c and y is 2a / c, c above 0
abbrev pub Twice : Float → Float → Type 0
Twice x y = (a : ℕ) × (c : ℕ) × (0 < c) × HasValue x false a c × HasValue y false (2 * a) c

-- ---- what is turned away

-- setting i + 1 is in its range
abbrev pub SettingInRange : Settings → ℕ → Type 0
SettingInRange s zero = (8 ≤ s.n) × (s.n ≤ 512) × (m : ℕ) × (s.n ≡ 2 * m)
SettingInRange s (suc zero) = (1000 ≤ s.r) × (s.r ≤ 50000)
SettingInRange s (suc (suc zero)) = (s.f ≡ 50) ⊎ (s.f ≡ 60)
SettingInRange s (suc (suc (suc zero))) = (50 ≤ s.sag) × (s.sag ≤ 95)
SettingInRange s (suc (suc (suc (suc zero)))) = (1 ≤ s.interruption) × (s.interruption ≤ 20)
SettingInRange s (suc (suc (suc (suc (suc zero))))) = (105 ≤ s.swell) × (s.swell ≤ 150)
SettingInRange s (suc (suc (suc (suc (suc (suc i)))))) = s.hysteresis ≤ 5

-- the one value -2,147,483,648, or from -100,000 to 100,000
abbrev pub InRange : ℤ → Type 0
InRange x = (x ≡ negsuc 2147483647) ⊎ (nat_abs x ≤ 100000)

-- the run of H half-cycles: H + 1 times N/2 samples per channel
abbrev pub HasHalves : Settings → List ℤ → ℕ → Type 0
HasHalves s xs H = length xs ≡ 3 * (suc H * (s.n / 2))

-- an answer of the checks 2 to 6 is given exactly if: length not a multiple of 3; fewer than N samples per channel; L not a
-- multiple of N/2; H above 100,000; a sample out of range, the first in the run; none of these
abbrev pub Given : Settings → List ℤ → Result ⊤ Refusal → Type 0
Given s xs (Err Uneven) = (L : ℕ) → length xs ≡ 3 * L → ⊥
Given s xs (Err Short) = (L : ℕ) × (length xs ≡ 3 * L) × (L < s.n)
Given s xs (Err Ragged) = (L : ℕ) × (length xs ≡ 3 * L) × (s.n ≤ L) × ((q : ℕ) → L ≡ q * (s.n / 2) → ⊥)
Given s xs (Err Long) = (H : ℕ) × HasHalves s xs H × (100000 < H)
Given s xs (Err (Sample i)) =
    (H : ℕ) × HasHalves s xs H × (0 < H) × (H ≤ 100000)
    × (i < length xs) × (InRange (get_or xs i (pos 0)) → ⊥) × ((j : ℕ) → j < i → InRange (get_or xs j (pos 0)))
Given s xs (Ok _) =
    (H : ℕ) × HasHalves s xs H × (0 < H) × (H ≤ 100000) × ((i : ℕ) → i < length xs → InRange (get_or xs i (pos 0)))
Given s xs (Err (Setting i)) = ⊥
Given s xs (Err (Room n)) = ⊥
Given s xs (Err (Full n)) = ⊥
Given s xs (Err Unsound) = ⊥

-- an answer of the list is given exactly if: settings and recording are accepted, n is the number of events and 11 x n is not
-- above the room; or a setting is out of its range, and the refusal is that; or the recording has it; or both are accepted and
-- the room is below 11 x number of events, which is its place
abbrev pub Answered : Settings → List ℤ → ℕ → Result ℕ Refusal → Type 0
Answered s xs room (Ok n) =
    (settings_good s ≡ true) × Given s xs (Ok tt) × (n ≡ length (events_of s xs)) × (11 * n ≤ room)
Answered s xs room (Err r) =
    ((settings_good s ≡ false) × (r ≡ Setting (bad_setting s)))
    ⊎ (((settings_good s ≡ true) × Given s xs (Err r))
    ⊎ ((settings_good s ≡ true) × Given s xs (Ok tt) × (r ≡ Room (length (events_of s xs))) × (room < 11 * length (events_of s xs))))

-- an answer of a call that writes n things, of so many numbers each, into a lent run is given exactly if: settings and recording are
-- accepted, and what it writes is not above the room; or a setting is out of its range, and the refusal is that; or the recording has
-- it; or both are accepted and the room is below what it writes, and the place is n
abbrev pub Checked : Settings → List ℤ → (size n room : ℕ) → Result ⊤ Refusal → Type 0
Checked s xs size n room (Ok _) = (settings_good s ≡ true) × Given s xs (Ok tt) × (size * n ≤ room)
Checked s xs size n room (Err r) =
    ((settings_good s ≡ false) × (r ≡ Setting (bad_setting s)))
    ⊎ (((settings_good s ≡ true) × Given s xs (Err r))
    ⊎ ((settings_good s ≡ true) × Given s xs (Ok tt) × (r ≡ Room n) × (room < size * n)))

-- an answer of the call that tells each half-cycle: H, five numbers each
abbrev pub Told : Settings → List ℤ → ℕ → Result ℕ Refusal → Type 0
Told s xs room (Ok n) = HasHalves s xs n × Checked s xs 5 n room (Ok tt)
Told s xs room (Err r) = Checked s xs 5 (halves_of s xs) room (Err r)

-- ---- half-cycles told

-- of a half-cycle's five numbers, the test of class 1, 2, 3: healthy is known and in no event, disturbed is known and in one, unknown
-- is neither; what no class has is no class
abbrev pub has_class : ℕ → Settings → (ℕ → Half) → ℕ → Bool
has_class zero s h k = false
has_class (suc zero) s h k = is_healthy s h k
has_class (suc (suc zero)) s h k = is_disturbed s h k
has_class (suc (suc (suc zero))) s h k = is_unknown s h k
has_class (suc (suc (suc (suc i)))) s h k = false

-- what a kind adds to the second number, and whether it is in it
abbrev pub weight_of : Kind → ℕ
weight_of Sag = 1
weight_of Interruption = 2
weight_of Swell = 4

abbrev pub has_kind : Kind → ℕ → Bool
has_kind kind w = eqb (w / weight_of kind % 2) 1

-- the kinds that a half-cycle can lie in at once: none, a sag, a sag and an interruption, a swell, a sag and a swell
abbrev pub can_be : ℕ → Bool
can_be w = eqb w 0 || eqb w 1 || eqb w 3 || eqb w 4 || eqb w 5

-- the numbers of a trace: the class of half-cycle k, its kinds, S of its channels
abbrev pub class_in : List ℕ → ℕ → ℕ
class_in w k = get_or w (5 * k) 0

abbrev pub kinds_in : List ℕ → ℕ → ℕ
kinds_in w k = get_or w (5 * k + 1) 0

abbrev pub sum_in : List ℕ → ℕ → ℕ → ℕ
sum_in w k c = get_or w (5 * k + (2 + c)) 0

-- how many half-cycles a trace tells as of class i
abbrev pub told_as : ℕ → List ℕ → ℕ → ℕ
told_as i w n = count (λ k. eqb (class_in w k) i) n

-- so of a recording
abbrev pub told_in : ℕ → Settings → List ℤ → ℕ
told_in i s xs = told_as i (trace_of s xs) (halves_of s xs)

-- half-cycle k lies in an event of the kind that the list holds
abbrev pub InListed : Settings → List ℤ → Kind → ℕ → Type 0
InListed s xs kind k =
    (e : Event) × Memᴰ e (events_of s xs) × (e.kind ≡ kind_number kind) × (e.start ≤ k) × (k < e.end)
