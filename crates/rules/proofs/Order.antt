-- The list of a recording's events holds each event of each kind once, and no other, in order of start and then kind. Each list that
-- `join` puts after another starts later, and the three of one start differ in kind. Assumes nothing.
use Prim.Native.Nat.{ℕ, zero, suc, ◌+◌, ◌*◌, ◌<◌}
use mathlib.Core.Path.{◌≡◌, refl, sym, ap, ◌∙◌}
use mathlib.Core.Bool.{Bool, true, false, cond}
use mathlib.Core.List.Memᴰ
use mathlib.Core.List.{List, [], ◌∷◌, ◌++◌, Memᴰ}
use mathlib.Core.Logic.{⊎_elim, ◌↔◌}
use native.Mathlib.Nat.{eq-or-lt_of_le}
use native.Mathlib.Omega.{arith}
use borrow.Author.Tests.{lt-ltb, le-ltb, eq-eqb}
use lib.IntN.{ℤ}
use lib.ListN.{length, get_or, length-append}
use Rattle.rules.specs.Bounded.{bit, count, join}
use Rattle.rules.specs.Halves.{half_at, halves_of}
use Rattle.rules.specs.Events.{starts, end_of}
use Rattle.rules.specs.EventList.{kind_number, event_from, event_at, events_at, events_of, flat}
use Rattle.rules.specs.Demands.{earlier, every, sorted}
use Rattle.rules.specs.declared.Settings.{Settings}
use Rattle.rules.specs.declared.Kind.{Kind}
use Rattle.rules.specs.declared.Kind.TheVariants.{Sag, Interruption, Swell}
use Rattle.rules.specs.declared.Event.{Event}
use Rattle.rules.proofs.Booleans.{both, not_both}

-- ---- lists in order

module _ {A : Type 0} (p : A → Bool) where
  every_made : (xs : List A) → ((x : A) → Memᴰ x xs → p x ≡ true) → every p xs ≡ true
  every_made [] h = refl
  every_made (x ∷ xs) h = rw (h x (Memᴰ.head refl), every_made xs (λ y m. h y (Memᴰ.tail m)))

  every_append : (xs ys : List A) → every p xs ≡ true → every p ys ≡ true → every p (xs ++ ys) ≡ true
  every_append [] ys h k = k
  every_append (x ∷ xs) ys h k = let b = both (p x) (every p xs) h in rw (b.0, every_append xs ys b.1 k)

sorted-append : (xs ys : List Event) → sorted xs ≡ true → sorted ys ≡ true
    → ((x y : Event) → Memᴰ x xs → Memᴰ y ys → earlier x y ≡ true) → sorted (xs ++ ys) ≡ true
sorted-append [] ys h k r = k
sorted-append (x ∷ xs) ys h k r =
    let b = both (every (earlier x) xs) (sorted xs) h in
    rw (
      every_append (earlier x) xs ys b.0 (every_made (earlier x) ys (λ y m. r x y (Memᴰ.head refl) m)),
      sorted-append xs ys b.1 k (λ z y m. r z y (Memᴰ.tail m)),
    )

-- ---- what a joined list holds

module _ {A : Type 0} (f : ℕ → List A) where
  in_join : (n : ℕ) (x : A) → Memᴰ x (join f n) → (k : ℕ) × (k < n) × Memᴰ x (f k)
  in_join zero x m = absurd (Memᴰ.not-nil m)
  in_join (suc n) x m =
      ⊎_elim (λ l. let r = in_join n x l in (r.0, omega arith, r.2)) (λ l. (n, omega arith, l)) (Memᴰ.append_cases (join f n) m)

  join_in : (n k : ℕ) (x : A) → k < n → Memᴰ x (f k) → Memᴰ x (join f n)
  join_in zero k x l m = absurd (omega arith)
  join_in (suc n) k x l m =
      ⊎_elim (λ e. Memᴰ.append_right (join f n) (rw e at m)) (λ u. Memᴰ.append_left (f n) (join_in n k x u m)) (eq-or-lt_of_le {n = k} {m = n} (omega arith))

-- ---- what the list of events holds

-- each kind has a number of its own
same_kind : (x y : Kind) → kind_number x ≡ kind_number y → x ≡ y
same_kind Sag Sag e = refl
same_kind Sag Interruption e = absurd (omega arith)
same_kind Sag Swell e = absurd (omega arith)
same_kind Interruption Sag e = absurd (omega arith)
same_kind Interruption Interruption e = refl
same_kind Interruption Swell e = absurd (omega arith)
same_kind Swell Sag e = absurd (omega arith)
same_kind Swell Interruption e = absurd (omega arith)
same_kind Swell Swell e = refl

module _ (s : Settings) (xs : List ℤ) where
  in_at : (kind : Kind) (k : ℕ) (e : Event) → Memᴰ e (event_at s xs kind k)
      → (starts s (half_at s xs) kind k ≡ true) × (e ≡ event_from s xs kind k)
  unfolding event_at
  in_at kind k e m = go (starts s (half_at s xs) kind k) m
    where
      go : (b : Bool) → Memᴰ e (cond b (event_from s xs kind k ∷ []) []) → (b ≡ true) × (e ≡ event_from s xs kind k)
      go true m = (refl, Memᴰ.eq_of_singleton m)
      go false m = absurd (Memᴰ.not-nil m)

  at_in : (kind : Kind) (k : ℕ) (e : Event) → starts s (half_at s xs) kind k ≡ true → e ≡ event_from s xs kind k
      → Memᴰ e (event_at s xs kind k)
  unfolding event_at
  at_in kind k e h q = rw h (Memᴰ.head q)

  in_three : (k : ℕ) (e : Event) → Memᴰ e (events_at s xs k)
      → (kind : Kind) × (starts s (half_at s xs) kind k ≡ true) × (e ≡ event_from s xs kind k)
  in_three k e m =
      ⊎_elim
      (λ l. ⊎_elim (of_kind Sag) (of_kind Interruption) (Memᴰ.append_cases (event_at s xs Sag k) l))
      (of_kind Swell) (Memᴰ.append_cases (event_at s xs Sag k ++ event_at s xs Interruption k) m)
    where
      of_kind : (kind : Kind) → Memᴰ e (event_at s xs kind k) → (kind : Kind) × (starts s (half_at s xs) kind k ≡ true) × (e ≡ event_from s xs kind k)
      of_kind kind l = let r = in_at kind k e l in (kind, r.0, r.1)

  three_in : (kind : Kind) (k : ℕ) (e : Event) → Memᴰ e (event_at s xs kind k) → Memᴰ e (events_at s xs k)
  three_in Sag k e m = Memᴰ.append_left (event_at s xs Swell k) (Memᴰ.append_left (event_at s xs Interruption k) m)
  three_in Interruption k e m = Memᴰ.append_left (event_at s xs Swell k) (Memᴰ.append_right (event_at s xs Sag k) m)
  three_in Swell k e m = Memᴰ.append_right (event_at s xs Sag k ++ event_at s xs Interruption k) m

  -- THE LAW: the list holds an event exactly if one of its kind starts where it does
  pub in_list : (e : Event)
      → Memᴰ e (events_of s xs)
      ↔ ((kind : Kind) × (a : ℕ) × (a < halves_of s xs) × (starts s (half_at s xs) kind a ≡ true) × (e ≡ event_from s xs kind a))
  unfolding events_of
  in_list e = (
    λ m. let r = in_join (events_at s xs) (halves_of s xs) e m in let t = in_three r.0 e r.2 in (t.0, r.0, r.1, t.1, t.2),
    λ r. join_in (events_at s xs) (halves_of s xs) r.1 e r.2 (three_in r.0 r.1 e (at_in r.0 r.1 e r.3 r.4)),
  )

  -- ---- kind, start and end of an event

  pub kind_is : (kind : Kind) (k : ℕ) → (event_from s xs kind k).kind ≡ kind_number kind
  unfolding event_from
  kind_is kind k = refl

  pub start_is : (kind : Kind) (k : ℕ) → (event_from s xs kind k).start ≡ k
  unfolding event_from
  start_is kind k = refl

  pub end_is : (kind : Kind) (k : ℕ) → (event_from s xs kind k).end ≡ end_of s (half_at s xs) (halves_of s xs) kind k
  unfolding event_from
  end_is kind k = refl

  -- an event of the list with a kind's number is that kind's
  pub of_kind : (kind : Kind) (e : Event) → Memᴰ e (events_of s xs) → e.kind ≡ kind_number kind
      → (a : ℕ) × (starts s (half_at s xs) kind a ≡ true) × (e ≡ event_from s xs kind a)
  of_kind kind e m q =
      let r = (in_list e).0 m in
      let same : r.0 ≡ kind = same_kind r.0 kind (sym (ap (λ v. v.kind) r.4 ∙ kind_is r.0 r.1) ∙ q) in
      (r.1, rw same at r.3, rw same at r.4)

  -- ---- in order

  -- of one start, by kind
  kind_earlier : (x y : Kind) (k : ℕ) (d e : Event)
      → kind_number x < kind_number y → Memᴰ d (event_at s xs x k) → Memᴰ e (event_at s xs y k) → earlier d e ≡ true
  kind_earlier x y k d e l m o =
      let p = ap (λ v. v.start) (in_at x k d m).1 ∙ start_is x k in
      let q = ap (λ v. v.start) (in_at y k e o).1 ∙ start_is y k in
      let u = ap (λ v. v.kind) (in_at x k d m).1 ∙ kind_is x k in
      let v = ap (λ v. v.kind) (in_at y k e o).1 ∙ kind_is y k in
      rw (p, q, u, v, le-ltb k k (omega arith), eq-eqb k k refl) (lt-ltb (kind_number x) (kind_number y) l)

  one-sorted : (kind : Kind) (k : ℕ) → sorted (event_at s xs kind k) ≡ true
  unfolding event_at
  one-sorted kind k = go (starts s (half_at s xs) kind k)
    where
      go : (b : Bool) → sorted (cond b (event_from s xs kind k ∷ []) []) ≡ true
      go true = refl
      go false = refl

  three-sorted : (k : ℕ) → sorted (events_at s xs k) ≡ true
  three-sorted k =
      sorted-append (event_at s xs Sag k ++ event_at s xs Interruption k) (event_at s xs Swell k)
      (sorted-append (event_at s xs Sag k) (event_at s xs Interruption k) (one-sorted Sag k) (one-sorted Interruption k)
      (λ d e. kind_earlier Sag Interruption k d e (omega arith)))
      (one-sorted Swell k)
      (λ d e m o. ⊎_elim
      (λ l. kind_earlier Sag Swell k d e (omega arith) l o)
      (λ l. kind_earlier Interruption Swell k d e (omega arith) l o)
      (Memᴰ.append_cases (event_at s xs Sag k) m))

  -- of two starts, by start
  start_earlier : (j k : ℕ) (d e : Event) → j < k → Memᴰ d (events_at s xs j) → Memᴰ e (events_at s xs k) → earlier d e ≡ true
  start_earlier j k d e l m o =
      let x = in_three j d m in
      let y = in_three k e o in
      rw (ap (λ v. v.start) x.2 ∙ start_is x.0 j, ap (λ v. v.start) y.2 ∙ start_is y.0 k, lt-ltb j k l)

  join-sorted : (n : ℕ) → sorted (join (events_at s xs) n) ≡ true
  join-sorted zero = refl
  join-sorted (suc n) =
      sorted-append (join (events_at s xs) n) (events_at s xs n) (join-sorted n) (three-sorted n)
      (λ d e m o. let r = in_join (events_at s xs) n d m in start_earlier r.0 n d e r.1 r.2 o)

  pub in_order : sorted (events_of s xs) ≡ true
  unfolding events_of
  in_order = join-sorted (halves_of s xs)

  -- ---- how many there are

  one-length : (kind : Kind) (k : ℕ) → length (event_at s xs kind k) ≡ bit (starts s (half_at s xs) kind k)
  unfolding event_at
  one-length kind k = go (starts s (half_at s xs) kind k)
    where
      go : (b : Bool) → length (cond b (event_from s xs kind k ∷ []) []) ≡ bit b
      go true = refl
      go false = refl

  three-length : (k : ℕ)
      → length (events_at s xs k) ≡ bit (starts s (half_at s xs) Sag k) + bit (starts s (half_at s xs) Interruption k) + bit (starts s (half_at s xs) Swell k)
  three-length k =
      length-append (event_at s xs Sag k ++ event_at s xs Interruption k) (event_at s xs Swell k)
      ∙ rw (length-append (event_at s xs Sag k) (event_at s xs Interruption k), one-length Sag k, one-length Interruption k, one-length Swell k)

  -- so far as the first n starts
  pub length-below : (n : ℕ)
      → length (join (events_at s xs) n)
      ≡ count (starts s (half_at s xs) Sag) n + count (starts s (half_at s xs) Interruption) n + count (starts s (half_at s xs) Swell) n
  length-below zero = refl
  length-below (suc n) = length-append (join (events_at s xs) n) (events_at s xs n) ∙ omega (arith, length-below n, three-length n)

  pub events-length : length (events_of s xs)
      ≡ count (starts s (half_at s xs) Sag) (halves_of s xs) + count (starts s (half_at s xs) Interruption) (halves_of s xs) + count (starts s (half_at s xs) Swell) (halves_of s xs)
  unfolding events_of
  events-length = length-below (halves_of s xs)

-- ---- no event twice

every-at : {A : Type 0} (p : A → Bool) (xs : List A) (d : A) → every p xs ≡ true → (j : ℕ) → j < length xs → p (get_or xs j d) ≡ true
every-at p [] d h j l = absurd (omega arith)
every-at p (x ∷ xs) d h zero l = (both (p x) (every p xs) h).0
every-at p (x ∷ xs) d h (suc j) l = every-at p xs d (both (p x) (every p xs) h).1 j (omega arith)

-- of any two places of a list in order, the first holds the earlier event
pub sorted-at : (es : List Event) (d : Event) → sorted es ≡ true → (i j : ℕ) → i < j → j < length es → earlier (get_or es i d) (get_or es j d) ≡ true
sorted-at [] d h i j l u = absurd (omega arith)
sorted-at (e ∷ es) d h i zero l u = absurd (omega arith)
sorted-at (e ∷ es) d h zero (suc j) l u = every-at (earlier e) es d (both (every (earlier e) es) (sorted es) h).0 j (omega arith)
sorted-at (e ∷ es) d h (suc i) (suc j) l u = sorted-at es d (both (every (earlier e) es) (sorted es) h).1 i j (omega arith) (omega arith)

never_itself : (e : Event) → earlier e e ≡ false
never_itself e = rw (le-ltb e.start e.start (omega arith), eq-eqb e.start e.start refl, le-ltb e.kind e.kind (omega arith))

pub no_event_twice : (s : Settings) (xs : List ℤ) (d : Event) (i j : ℕ) → i < j → j < length (events_of s xs)
    → get_or (events_of s xs) i d ≡ get_or (events_of s xs) j d → ⊥
no_event_twice s xs d i j l u q =
    let e = get_or (events_of s xs) j d in
    not_both (earlier e e) (rw q at (sorted-at (events_of s xs) d (in_order s xs) i j l u)) (never_itself e)

-- ---- their numbers

pub flat-length : (es : List Event) → length (flat es) ≡ 11 * length es
flat-length [] = refl
flat-length (e ∷ es) = omega (arith, flat-length es)

pub flat_append : (xs ys : List Event) → flat (xs ++ ys) ≡ flat xs ++ flat ys
flat_append [] ys = refl
flat_append (x ∷ xs) ys = rw (flat_append xs ys)
