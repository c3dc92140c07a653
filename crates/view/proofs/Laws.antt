-- Stepping a view from the start gives exactly its channel's samples, in order, and then none for ever. Assumes nothing.
use Prim.Native.Nat.{ℕ, zero, suc, ◌+◌, ◌-◌, ◌*◌, ◌/◌, ◌%◌, ◌<◌, ◌≤◌}
use mathlib.Core.Path.{◌≡◌, refl, sym, ap, ◌∙◌}
use mathlib.Core.Bool.{Bool, true, false, ◌&&◌, cond}
use mathlib.Core.List.{List, [], ◌∷◌, ◌++◌, map}
use mathlib.Core.Logic.{◌⊎◌, inl, inr, ⊎_elim}
use native.Mathlib.Omega.{arith}
use borrow.Author.Tests.{ltb-true, ltb-false, leb-true, leb-false, lt-ltb, le-ltb, le-leb, lt-leb}
use denote.Ref.{Bor}
use lib.Dec.{leb, ltb}
use lib.IntN.{ℤ, pos}
use lib.ListN.{length, get_or, drop, replicate, length-append, length-drop, drop_of_length-le}
use lib.Seq.{get_or_at, get_or-drop}
use Rattle.std.specs.Prelude.{Some, None, ⊤}
use Rattle.std.specs.Iterator.{MakesProgress, at_most}
use Rattle.rules.specs.Bounded.{bit}
use Rattle.rules.specs.Recorder.{sample_at}
use Rattle.view.specs.declared.View.{View}
use Rattle.view.specs.Channel.{holds, reading_of, next_of, step_of, count_of, view_of, moved_on, thirds, channel_of, readings, viewed}

-- ---- where the run has such a sample, and where not: channel by channel, by 3 x position + channel

module _ (xs : List ℤ) (c at : ℕ) where
  pub held : c ≤ 2 → 3 * at + c < length xs → holds xs c at ≡ true
  unfolding holds
  held l h = rw (le-leb c 2 l, lt-ltb (3 * at + c) (length xs) h)

  pub not_held : length xs ≤ 3 * at + c → holds xs c at ≡ false
  unfolding holds
  not_held h = rw (le-ltb (3 * at + c) (length xs) h) (and_false (leb c 2))
    where
      and_false : (b : Bool) → b && false ≡ false
      and_false true = refl
      and_false false = refl

  pub no_channel : 2 < c → holds xs c at ≡ false
  unfolding holds
  no_channel h = rw (lt-leb c 2 h)

  pub step_held : holds xs c at ≡ true → step_of xs c at ≡ record { reading = Some (sample_at xs c at); at = at + 1 }
  unfolding reading_of next_of
  step_held h = rw h

  pub step_not : holds xs c at ≡ false → step_of xs c at ≡ record { reading = None; at = at }
  unfolding reading_of next_of
  step_not h = rw h

  -- a view that gave a sample was within the run, and has moved on by one
  pub sample_moves : (x : ℤ) → reading_of xs c at ≡ Some x → (at < length xs) × (next_of xs c at ≡ at + 1)
  unfolding reading_of next_of holds
  sample_moves x = go (leb c 2) (ltb (3 * at + c) (length xs)) refl
    where
      go : (b h : Bool) → ltb (3 * at + c) (length xs) ≡ h → cond (b && h) (Some (sample_at xs c at)) None ≡ Some x
          → (at < length xs) × (cond (b && h) (at + 1) at ≡ at + 1)
      go true true p e = (omega (arith, ltb-true (3 * at + c) (length xs) p), refl)
      go true false p e = let z : ◌≡◌ {A = ℕ} 0 1 = cc in absurd (omega arith)
      go false h p e = let z : ◌≡◌ {A = ℕ} 0 1 = cc in absurd (omega arith)

-- ---- the count is the first position that has none

-- with h = c ≤ 2 and r = c < len % 3 as tests
count_low : (len c at : ℕ) (h r : Bool) → leb c 2 ≡ h → ltb c (len % 3) ≡ r → at < cond h (len / 3 + bit r) 0
    → (c ≤ 2) × (3 * at + c < len)
count_low len c at true true p q l = (leb-true c 2 p, omega (arith, ltb-true c (len % 3) q, leb-true c 2 p))
count_low len c at true false p q l = (leb-true c 2 p, omega (arith, leb-true c 2 p))
count_low len c at false r p q l = absurd (omega arith)

count-high : (len c at : ℕ) (h r : Bool) → leb c 2 ≡ h → ltb c (len % 3) ≡ r → cond h (len / 3 + bit r) 0 ≤ at
    → (2 < c) ⊎ (len ≤ 3 * at + c)
count-high len c at true true p q l = inr (omega (arith, ltb-true c (len % 3) q, leb-true c 2 p))
count-high len c at true false p q l = inr (omega (arith, ltb-false c (len % 3) q, leb-true c 2 p))
count-high len c at false r p q l = inl (leb-false c 2 p)

pub below-count : (len c at : ℕ) → at < count_of len c → (c ≤ 2) × (3 * at + c < len)
below-count len c at l = count_low len c at (leb c 2) (ltb c (len % 3)) refl refl l

pub past_count : (xs : List ℤ) (c at : ℕ) → count_of (length xs) c ≤ at → holds xs c at ≡ false
past_count xs c at l =
    ⊎_elim (no_channel xs c at) (not_held xs c at) (count-high (length xs) c at (leb c 2) (ltb c (length xs % 3)) refl refl l)

-- on a ragged run too, each channel is judged by its own count
pub channel_by_its_count : (xs : List ℤ) (c at : ℕ) → holds xs c at ≡ ltb at (count_of (length xs) c)
channel_by_its_count xs c at = go (ltb at (count_of (length xs) c)) refl
  where
    go : (b : Bool) → ltb at (count_of (length xs) c) ≡ b → holds xs c at ≡ b
    go true p = let h = below-count (length xs) c at (ltb-true at (count_of (length xs) c) p) in held xs c at h.0 h.1
    go false p = past_count xs c at (ltb-false at (count_of (length xs) c) p)

-- a view that gave a sample is nearer the end of its channel
pub nearer_end : (v : View)
    → MakesProgress {S = View} {A = ℤ} (λ _. ⊤) (λ w. at_most (count_of (length w.samples.now) w.channel - w.at)) v
    (reading_of v.samples.now v.channel v.at) (moved_on v)
unfolding reading_of next_of
nearer_end v = go (holds v.samples.now v.channel v.at) _ refl
  where
    go : (b : Bool) (x : ℤ) → holds v.samples.now v.channel v.at ≡ b
        → MakesProgress {S = View} {A = ℤ} (λ _. ⊤) (λ w. at_most (count_of (length w.samples.now) w.channel - w.at)) v
        (cond b (Some x) None) (view_of v.samples v.channel (cond b (v.at + 1) v.at))
    go true x p =
        let below = ltb-true v.at (count_of (length v.samples.now) v.channel) (sym (channel_by_its_count v.samples.now v.channel v.at) ∙ p) in
        record { on = λ _. (tt, tt, omega (arith, below)); keeps = tt; rests = λ _. tt }
    go false x p = record { on = λ _. tt; keeps = tt; rests = λ _. tt }

-- ---- a channel as a list

-- from k on: its sample and what is three further, or nothing
thirds-next : (xs : List ℤ) (k : ℕ) → k < length xs → thirds (drop k xs) ≡ get_or xs k (pos 0) ∷ thirds (drop (suc (suc (suc k))) xs)
thirds-next [] k h = absurd (omega arith)
thirds-next (x ∷ []) zero h = refl
thirds-next (x ∷ y ∷ []) zero h = refl
thirds-next (x ∷ y ∷ z ∷ xs) zero h = refl
thirds-next (x ∷ xs) (suc k) h = thirds-next xs k (omega arith)

thirds_end : (xs : List ℤ) (k : ℕ) → length xs ≤ k → thirds (drop k xs) ≡ []
thirds_end xs k h = rw (drop_of_length-le xs h)

-- once there is none, there is none for ever
pub none_ever : (xs : List ℤ) (c at : ℕ) → holds xs c at ≡ false → (n : ℕ) → readings xs c at n ≡ replicate n None
unfolding reading_of next_of
none_ever xs c at h zero = refl
none_ever xs c at h (suc n) = rw (h, none_ever xs c at h n)

-- what is left of a channel from k on tells whether the run goes on, with which sample, and what is left after it
module _ (xs : List ℤ) (k : ℕ) where
  Left : List ℤ → Type 0
  Left [] = length xs ≤ k
  Left (y ∷ ys) = (k < length xs) × (get_or xs k (pos 0) ≡ y) × (thirds (drop (suc (suc (suc k))) xs) ≡ ys)

  left_by : (ys : List ℤ) → thirds (drop k xs) ≡ ys → (b : Bool) → ltb k (length xs) ≡ b → Left ys
  unfolding Left
  left_by [] e false p = ltb-false k (length xs) p
  left_by [] e true p =
      let t = sym (thirds-next xs k (ltb-true k (length xs) p)) ∙ e in
      let z : ◌≡◌ {A = ℕ} 0 1 = cc in absurd (omega arith)
  left_by (y ∷ ys) e true p =
      let h = ltb-true k (length xs) p in
      let t = sym (thirds-next xs k h) ∙ e in (h, (cc), (cc))
  left_by (y ∷ ys) e false p =
      let t = sym (thirds_end xs k (ltb-false k (length xs) p)) ∙ e in
      let z : ◌≡◌ {A = ℕ} 0 1 = cc in absurd (omega arith)

-- from a position on, where ys is what is left of the channel
walks_from : (xs : List ℤ) (c : ℕ) → c ≤ 2 → (ys : List ℤ) (at m : ℕ) → thirds (drop (3 * at + c) xs) ≡ ys
    → readings xs c at (length ys + m) ≡ map Some ys ++ replicate m None
unfolding reading_of next_of Left
walks_from xs c l [] at m e =
    let n : 0 + m ≡ m = omega arith in
    rw n (none_ever xs c at (not_held xs c at (left_by xs (3 * at + c) [] e _ refl)) m)
walks_from xs c l (y ∷ ys) at m e =
    let n : suc (length ys) + m ≡ suc (length ys + m) = omega arith in
    let k : suc (suc (suc (3 * at + c))) ≡ 3 * (at + 1) + c = omega arith in
    let t = left_by xs (3 * at + c) (y ∷ ys) e _ refl in
    rw (n, held xs c at l t.0, t.1) (ap (λ r. Some y ∷ r) (walks_from xs c l ys (at + 1) m (rw k at t.2)))

-- THE LAW: exactly the channel's samples, in order, and then none for ever
pub walks : (xs : List ℤ) (c m : ℕ) → readings xs c 0 (length (channel_of xs c) + m) ≡ map Some (channel_of xs c) ++ replicate m None
unfolding channel_of
walks xs c m = go (leb c 2) refl
  where
    go : (b : Bool) → leb c 2 ≡ b
        → readings xs c 0 (length (cond b (thirds (drop c xs)) []) + m) ≡ map Some (cond b (thirds (drop c xs)) []) ++ replicate m None
    go true p = walks_from xs c (leb-true c 2 p) (thirds (drop c xs)) 0 m (let k : 3 * 0 + c ≡ c = omega arith in rw k)
    go false p = let n : 0 + m ≡ m = omega arith in rw n (none_ever xs c 0 (no_channel xs c 0 (leb-false c 2 p)) m)

-- the same of the view itself, over any samples that it holds
viewed_is : (v : View) (n : ℕ) → viewed v n ≡ readings v.samples.now v.channel v.at n
viewed_is v zero = refl
viewed_is v (suc n) = ap (λ r. reading_of v.samples.now v.channel v.at ∷ r) (viewed_is (moved_on v) n)

pub view_walks : (samples : Bor (List ℤ)) (c m : ℕ)
    → viewed (view_of samples c 0) (length (channel_of samples.now c) + m)
    ≡ map Some (channel_of samples.now c) ++ replicate m None
view_walks samples c m =
    viewed_is (view_of samples c 0) (length (channel_of samples.now c) + m) ∙ walks samples.now c m

-- ---- which samples these are

three_on : (i : ℕ) → 3 * suc i ≡ suc (suc (suc (3 * i)))
three_on i = omega arith

thirds-at : (xs : List ℤ) (i : ℕ) → get_or (thirds xs) i (pos 0) ≡ get_or xs (3 * i) (pos 0)
thirds-at [] i = refl
thirds-at (x ∷ []) zero = refl
thirds-at (x ∷ y ∷ []) zero = refl
thirds-at (x ∷ y ∷ z ∷ xs) zero = refl
thirds-at (x ∷ []) (suc i) = rw (three_on i)
thirds-at (x ∷ y ∷ []) (suc i) = rw (three_on i)
thirds-at (x ∷ y ∷ z ∷ xs) (suc i) = rw (three_on i) (thirds-at xs i)

-- number i of the list is sample i of the channel
pub channel_at : (xs : List ℤ) (c i : ℕ) → c ≤ 2 → get_or (channel_of xs c) i (pos 0) ≡ sample_at xs c i
unfolding channel_of
channel_at xs c i l = rw (le-leb c 2 l) (thirds-at (drop c xs) i ∙ get_or-drop c xs (3 * i) (pos 0) ∙ ap (λ k. get_or xs k (pos 0)) (omega arith))

length-thirds : (xs : List ℤ) → length (thirds xs) ≡ (length xs + 2) / 3
length-thirds [] = refl
length-thirds (x ∷ []) = refl
length-thirds (x ∷ y ∷ []) = refl
length-thirds (x ∷ y ∷ z ∷ xs) = omega (arith, length-thirds xs)

-- and there are as many as the channel has in the run
pub channel_length : (xs : List ℤ) (c : ℕ) → length (channel_of xs c) ≡ count_of (length xs) c
unfolding channel_of
channel_length xs c = go (leb c 2) (ltb c (length xs % 3)) refl refl
  where
    go : (h r : Bool) → leb c 2 ≡ h → ltb c (length xs % 3) ≡ r → length (cond h (thirds (drop c xs)) []) ≡ cond h (length xs / 3 + bit r) 0
    go true true p q = omega (arith, length-thirds (drop c xs), length-drop c xs, leb-true c 2 p, ltb-true c (length xs % 3) q)
    go true false p q = omega (arith, length-thirds (drop c xs), length-drop c xs, leb-true c 2 p, ltb-false c (length xs % 3) q)
    go false r p q = refl

-- a sample comes through as it is, missing or out of range as it may be
pub as_it_is : (xs ys : List ℤ) (x : ℤ) (c at : ℕ) → c ≤ 2 → length xs ≡ 3 * at + c → reading_of (xs ++ x ∷ ys) c at ≡ Some x
unfolding reading_of
as_it_is xs ys x c at l e =
    rw (held (xs ++ x ∷ ys) c at l (omega (arith, length-append xs (x ∷ ys))), get_or_at xs x ys (pos 0) (3 * at + c) e)
