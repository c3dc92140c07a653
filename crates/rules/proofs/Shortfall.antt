-- Of each channel, the shortfalls of all sags add up to the sum over every half-cycle in a sag. Over any test: what the runs that start below m hold is
-- what the numbers below m hold that pass, and of the run that goes on at m what is left of it. Assumes nothing.
use Prim.Native.Nat.{ℕ, zero, suc, ◌+◌, ◌-◌, ◌≤◌, ◌<◌}
use mathlib.Core.Path.{◌≡◌, refl, sym, ◌∙◌, subst}
use mathlib.Core.Bool.{Bool, true, false, not, ◌&&◌, cond}
use mathlib.Core.List.{List}
use mathlib.Core.Logic.{⊎_elim}
use native.Mathlib.Nat.{eq-or-lt_of_le}
use native.Mathlib.Numerals.{add-one}
use native.Mathlib.Omega.{arith}
use borrow.Author.Tests.{lt-ltb, le-ltb}
use lib.Dec.{ltb}
use lib.IntN.{ℤ}
use Rattle.rules.specs.Bounded.{sum, before, first_not}
use Rattle.rules.specs.Halves.{Half, of_channel, channels, squares, sums_at, half_at, halves_of, known}
use Rattle.rules.specs.Events.{in_event, starts, end_of, short_of, shorts, sum_from, shorts_of, three}
use Rattle.rules.specs.EventList.{event_from}
use Rattle.rules.specs.Site.{sag_sum, sag_short, sag_shorts}
use Rattle.rules.specs.declared.Settings.{Settings}
use Rattle.rules.specs.declared.Sums.{Sums}
use Rattle.rules.specs.declared.Kind.{Kind}
use Rattle.rules.specs.declared.Kind.TheVariants.{Sag, Interruption, Swell}
use Rattle.rules.proofs.Adding.{sum-plus, sum-none}
use Rattle.rules.proofs.Bounded.{sum_same}
use Rattle.rules.proofs.Choices.{lower}
use Rattle.rules.proofs.Longest.{is_start, first_low, in_known, unbroken, half_past}
use Rattle.rules.proofs.Runs.{first_go, first_stop, first_end}
use Rattle.rules.proofs.Samples.{known_is}

-- ---- sums from a start up to an end

module _ (f : ℕ → ℕ) where
  from-none : (a e : ℕ) → e ≤ a → sum_from f a e ≡ 0
  from-none a e l = sum-none (λ k. cond (ltb k a) 0 (f k)) e (λ k u. rw (lt-ltb k a (omega arith)))

  -- the last of them apart
  pub from_more : (a e : ℕ) → a ≤ e → sum_from f a (suc e) ≡ sum_from f a e + f e
  from_more a e l = rw (le-ltb e a l)

  pub from_one : (a : ℕ) → sum_from f a (suc a) ≡ f a
  from_one a = from_more a a (omega arith) ∙ omega (arith, from-none a a (omega arith))

  from_itself : (e : ℕ) → sum_from f e (suc e) ≡ f e + sum_from f (suc e) (suc e)
  from_itself e = omega (arith, from_one e, from-none (suc e) (suc e) (omega arith))

  -- the first of them apart
  from_first : (a e : ℕ) → a < e → sum_from f a e ≡ f a + sum_from f (suc a) e
  from_first a zero l = absurd (omega arith)
  from_first a (suc e) l =
      ⊎_elim
      (λ q. subst (λ (x : ℕ). sum_from f x (suc e) ≡ f x + sum_from f (suc x) (suc e)) (sym q) (from_itself e))
      (λ u. omega (arith, from_more a e (omega arith), from_more (suc a) e u, from_first a e u))
      (eq-or-lt_of_le {n = a} {m = e} (omega arith))

-- ---- over any test

-- one number more: it passes or not (b), and so did the one before it (c)
turn : (b c : Bool) (starts passing here first later : ℕ) → (b ≡ true → here ≡ first + later) → (b ≡ false → here ≡ 0)
    → starts ≡ passing + cond c here 0 → starts + cond (b && not c) here 0 ≡ passing + cond b first 0 + cond b later 0
turn true true starts passing here first later go stop h = omega (arith, go refl)
turn true false starts passing here first later go stop h = omega (arith, go refl)
turn false true starts passing here first later go stop h = omega (arith, stop refl)
turn false false starts passing here first later go stop h = omega arith

module _ (p : ℕ → Bool) (f : ℕ → ℕ) (n : ℕ) where
  -- what the run at k holds from k on
  abbrev rest : ℕ → ℕ
  rest k = sum_from f k (first_not p k (n - k))

  rest_go : (k : ℕ) → k < n → p k ≡ true → rest k ≡ f k + rest (suc k)
  rest_go k l e =
      rw (first_go p k n l e, add-one)
      (from_first f k (first_not p (suc k) (n - suc k)) (first_low p (suc k) (n - suc k)))

  rest_stop : (k : ℕ) → k < n → p k ≡ false → rest k ≡ 0
  rest_stop k l e = rw (first_stop p k n l e) (from-none f k k (omega arith))

  rest_end : rest n ≡ 0
  rest_end = rw (first_end p n n refl) (from-none f n n (omega arith))

  -- below m, with what is left of the run that goes on at m
  runs_below : (m : ℕ) → m ≤ n
      → sum (λ a. cond (is_start p a) (rest a) 0) m ≡ sum (λ k. cond (p k) (f k) 0) m + cond (before p m) (rest m) 0
  runs_below zero l = refl
  runs_below (suc m) l =
      turn (p m) (before p m) (sum (λ a. cond (is_start p a) (rest a) 0) m) (sum (λ k. cond (p k) (f k) 0) m) (rest m) (f m) (rest (suc m))
      (rest_go m l) (rest_stop m l) (runs_below m (omega arith))

  none_left : (b : Bool) → cond b (rest n) 0 ≡ 0
  none_left true = rest_end
  none_left false = refl

  -- THE LAW: the runs hold what passes, each number once
  pub runs_hold : sum (λ a. cond (is_start p a) (sum_from f a (first_not p a (n - a))) 0) n ≡ sum (λ k. cond (p k) (f k) 0) n
  runs_hold = omega (arith, runs_below n (omega arith), none_left (before p n))

-- ---- channel by channel

from-plus : (f g : ℕ → ℕ) (a e : ℕ) → sum_from (λ k. f k + g k) a e ≡ sum_from f a e + sum_from g a e
from-plus f g a e =
    sum_same (λ k. cond (ltb k a) 0 (f k + g k)) (λ k. cond (ltb k a) 0 (f k) + cond (ltb k a) 0 (g k)) e (λ k l. split (ltb k a) (f k) (g k))
    ∙ sum-plus (λ k. cond (ltb k a) 0 (f k)) (λ k. cond (ltb k a) 0 (g k)) e
  where
    split : (b : Bool) (x y : ℕ) → cond b 0 (x + y) ≡ cond b 0 x + cond b 0 y
    split true x y = refl
    split false x y = refl

pub three-channels : (s : Settings) (h : ℕ → Half) (a e : ℕ)
    → three (shorts_of s h a e) ≡ sum_from (λ k. three (shorts s (h k))) a e
unfolding shorts_of
three-channels s h a e =
    sym
    (from-plus (λ k. (shorts s (h k)).a + (shorts s (h k)).b) (λ k. (shorts s (h k)).c) a e
    ∙ rw (from-plus (λ k. (shorts s (h k)).a) (λ k. (shorts s (h k)).b) a e))

-- of any one channel
pub one_channel : (s : Settings) (h : ℕ → Half) (c a e : ℕ)
    → of_channel c (shorts_of s h a e) ≡ sum_from (λ k. of_channel c (shorts s (h k))) a e
unfolding shorts_of
one_channel s h zero a e = refl
one_channel s h (suc zero) a e = refl
one_channel s h (suc (suc c)) a e = refl

-- what is told of each channel is told of channel c
pub of_channels : (f : ℕ → ℕ) (c : ℕ) → c < 3 → of_channel c (channels f) ≡ f c
of_channels f zero l = refl
of_channels f (suc zero) l = refl
of_channels f (suc (suc zero)) l = refl
of_channels f (suc (suc (suc c))) l = absurd (omega arith)

-- what channel c lacks in a known half-cycle, by its samples
known-short : (s : Settings) (xs : List ℤ) (c k : ℕ) → c < 3 → known (half_at s xs k) ≡ true
    → of_channel c (shorts s (half_at s xs k)) ≡ short_of s (squares s xs k c)
unfolding sums_at
known-short s xs zero k l e = rw (known_is s xs k e)
known-short s xs (suc zero) k l e = rw (known_is s xs k e)
known-short s xs (suc (suc zero)) k l e = rw (known_is s xs k e)
known-short s xs (suc (suc (suc c))) k l e = absurd (omega arith)

-- ---- the sags

module _ (s : Settings) (xs : List ℤ) where
  -- THE LAW: of each channel, the shortfalls of all sags add up to the sum straight from its samples
  pub parts_agree : (c : ℕ) → c < 3 → sag_sum (λ e. of_channel c e.parts) s xs ≡ sag_short s xs c
  unfolding sag_sum sag_short event_from starts end_of
  parts_agree c l =
      let h = half_at s xs in
      let n = halves_of s xs in
      let p = in_event s h Sag in
      let short : ℕ → ℕ = λ k. of_channel c (shorts s (h k)) in
      let end : ℕ → ℕ = λ a. first_not p a (n - a) in
      sum_same (λ a. cond (is_start p a) (of_channel c (channels (λ c. of_channel c (shorts_of s h a (end a))))) 0) (λ a. cond (is_start p a) (sum_from short a (end a)) 0) n
      (λ a u. rw (of_channels (λ c. of_channel c (shorts_of s h a (end a))) c l, one_channel s h c a (end a)))
      ∙ runs_hold p short n
      ∙ sum_same (λ k. cond (p k) (short k) 0) (λ k. cond (p k) (short_of s (squares s xs k c)) 0) n
      (λ k u.
      of_cond_same (p k) (short k) (short_of s (squares s xs k c)) (λ e. known-short s xs c k l (in_known s h Sag k e)))
    where
      of_cond_same : (b : Bool) (x y : ℕ) → (b ≡ true → x ≡ y) → cond b x 0 ≡ cond b y 0
      of_cond_same true x y q = q refl
      of_cond_same false x y q = refl

  -- THE LAW: what a sag's event says of a channel is the sum over the sag's half-cycles, straight from the channel's samples
  pub sag_part_is : (c : ℕ) → c < 3 → (a : ℕ) → starts s (half_at s xs) Sag a ≡ true
      → of_channel c (event_from s xs Sag a).parts ≡ sum_from (λ k. short_of s (squares s xs k c)) a (event_from s xs Sag a).end
  unfolding event_from
  sag_part_is c l a begun =
      let h = half_at s xs in
      let n = halves_of s xs in
      let e = end_of s h n Sag a in
      of_channels (λ c. of_channel c (shorts_of s h a e)) c l
      ∙ one_channel s h c a e
      ∙ sum_same (λ k. cond (ltb k a) 0 (of_channel c (shorts s (h k)))) (λ k. cond (ltb k a) 0 (short_of s (squares s xs k c))) e
      (λ k u.
      ⊎_elim
      (λ v. rw (lt-ltb k a v))
      (λ v. rw (le-ltb k a v, known-short s xs c k l (in_known s h Sag k (unbroken s h n (half_past s xs) Sag a begun k v u))))
      (lower k a))

  -- an event's shortfall is what the channels' make up
  pub event_made_up : (kind : Kind) (a : ℕ) → three (event_from s xs kind a).parts ≡ (event_from s xs kind a).shortfall
  unfolding event_from
  event_made_up Sag a = refl
  event_made_up Interruption a = refl
  event_made_up Swell a = refl

  -- and so the total of all sags
  pub total_made_up : sag_sum (λ e. e.shortfall) s xs ≡ sum (λ c. sag_sum (λ e. of_channel c e.parts) s xs) 3
  unfolding sag_sum
  total_made_up =
      sum_same (λ k. cond (starts s (half_at s xs) Sag k) (event_from s xs Sag k).shortfall 0) (λ k. part 0 k + part 1 k + part 2 k) (halves_of s xs)
      (λ k u. split (starts s (half_at s xs) Sag k) (event_from s xs Sag k).parts (event_from s xs Sag k).shortfall (event_made_up Sag k))
      ∙ sum-plus (λ k. part 0 k + part 1 k) (part 2) (halves_of s xs)
      ∙ omega (arith, sum-plus (part 0) (part 1) (halves_of s xs))
    where
      part : ℕ → ℕ → ℕ
      part c k = cond (starts s (half_at s xs) Sag k) (of_channel c (event_from s xs Sag k).parts) 0

      split : (b : Bool) (v : Sums) (x : ℕ) → three v ≡ x → cond b x 0 ≡ cond b v.a 0 + cond b v.b 0 + cond b v.c 0
      split true v x q = sym q
      split false v x q = refl

  pub shortfalls_agree : sag_sum (λ e. e.shortfall) s xs ≡ sag_shorts s xs
  shortfalls_agree =
      total_made_up
      ∙ sum_same (λ c. sag_sum (λ e. of_channel c e.parts) s xs) (sag_short s xs) 3 (λ c l. parts_agree c l)
