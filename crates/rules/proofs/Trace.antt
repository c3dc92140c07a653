-- Each half-cycle told: its five numbers lie in their place of the run, the classes told are those that a site table counts, a
-- kind's part is in the second number exactly if the half-cycle lies in an event of that kind in the list, and each answer is given
-- exactly if the checks say so. Assumes nothing.
use Rattle.std.specs.Prelude.{Result, Ok, Err, Some, None, ⊤}
use Prim.Native.Nat.{ℕ, zero, suc, ◌+◌, ◌-◌, ◌*◌, ◌/◌, ◌%◌, ◌≤◌, ◌<◌}
use mathlib.Core.Path.{◌≡◌, refl, sym, ap, ◌∙◌}
use mathlib.Core.Bool.{Bool, true, false}
use mathlib.Core.List.{List, [], ◌∷◌, ◌++◌}
use mathlib.Core.Logic.{◌↔◌, ⊎_elim}
use native.Mathlib.Nat.{eq-or-lt_of_le}
use native.Mathlib.Omega.{arith}
use borrow.Author.Tests.{ne_eqb}
use lib.Dec.{eqb}
use lib.IntN.{ℤ}
use lib.ListN.{length, get_or, take, drop, length-append, length-drop}
use lib.Seq.{take_all, drop_at, take-append-le, drop-append-le, get_or-take, get_or-drop}
use Rattle.rules.specs.Bounded.{bit, join, count}
use Rattle.rules.specs.Halves.{Half, channels, squares, sums_at, half_at, halves_of, known}
use Rattle.rules.specs.Events.{in_event, starts, end_of}
use Rattle.rules.specs.EventList.{event_from}
use Rattle.rules.specs.Trace.{class_at, kinds_at, sums_told, half_words, trace_of}
use Rattle.rules.specs.Site.{is_healthy, is_disturbed, is_unknown, grown}
use Rattle.rules.specs.Refusals.{by_check, over, trace_room_check, trace_check, traced, trace_written}
use Rattle.rules.specs.Demands.{Good, sum_over, SumsUp}
use Rattle.rules.specs.Meanings.{Checked, Told, Begins, Keeps, has_class, weight_of, has_kind, can_be, class_in, kinds_in, sum_in, told_as, told_in, InListed}
use Rattle.rules.specs.declared.Settings.{Settings}
use Rattle.rules.specs.declared.Sums.{Sums}
use Rattle.rules.specs.declared.Kind.{Kind}
use Rattle.rules.specs.declared.Kind.TheVariants.{Sag, Interruption, Swell}
use Rattle.rules.specs.declared.Table.{Table}
use Rattle.rules.specs.declared.Refusal.{Refusal}
use Rattle.rules.proofs.Booleans.{not_both, bit_le, cases}
use Rattle.rules.proofs.Bounded.{count_same}
use Rattle.rules.proofs.Channels.{percent_rises, in_by_the_one_before}
use Rattle.rules.proofs.Classes.{one_class}
use Rattle.rules.proofs.Fronts.{over_front, over-part, over-length, over_rest}
use Rattle.rules.proofs.Longest.{in_known, unbroken, in_past, start_high, half_past}
use Rattle.rules.proofs.Order.{in_list, kind_is, start_is, end_is, of_kind}
use Rattle.rules.proofs.Ranges.{good}
use Rattle.rules.proofs.Refusals.{halves_are}
use Rattle.rules.proofs.Rooms.{checks_are, so_many, turned_away_lem}
use Rattle.rules.proofs.Samples.{known_is}
use Rattle.rules.proofs.Within.{in_sag, one-run}

-- ---- class and kinds of any half-cycle

-- of three tests, that of class i
abbrev choice : ℕ → Bool → Bool → Bool → Bool
choice zero a b c = false
choice (suc zero) a b c = a
choice (suc (suc zero)) a b c = b
choice (suc (suc (suc zero))) a b c = c
choice (suc (suc (suc (suc i)))) a b c = false

module _ (s : Settings) (h : ℕ → Half) (k : ℕ) where
  -- THE LAW: the class told is i exactly if the half-cycle is of class i
  pub class_is : (i : ℕ) → eqb (class_at s h k) i ≡ has_class i s h k
  unfolding class_at
  class_is i = go i (is_healthy s h k) (is_disturbed s h k) (is_unknown s h k) (one_class s h k) ∙ chosen i
    where
      go : (i : ℕ) (a b c : Bool) → bit a + bit b + bit c ≡ 1 → eqb (1 * bit a + 2 * bit b + 3 * bit c) i ≡ choice i a b c
      go i true true c e = absurd (omega arith)
      go i true false true e = absurd (omega arith)
      go i false true true e = absurd (omega arith)
      go i false false false e = absurd (omega arith)
      go zero true false false e = refl
      go (suc zero) true false false e = refl
      go (suc (suc zero)) true false false e = refl
      go (suc (suc (suc zero))) true false false e = refl
      go (suc (suc (suc (suc i)))) true false false e = ne_eqb 1 (suc (suc (suc (suc i)))) (λ q. omega arith)
      go zero false true false e = refl
      go (suc zero) false true false e = refl
      go (suc (suc zero)) false true false e = refl
      go (suc (suc (suc zero))) false true false e = refl
      go (suc (suc (suc (suc i)))) false true false e = ne_eqb 2 (suc (suc (suc (suc i)))) (λ q. omega arith)
      go zero false false true e = refl
      go (suc zero) false false true e = refl
      go (suc (suc zero)) false false true e = refl
      go (suc (suc (suc zero))) false false true e = refl
      go (suc (suc (suc (suc i)))) false false true e = ne_eqb 3 (suc (suc (suc (suc i)))) (λ q. omega arith)

      chosen : (i : ℕ) → choice i (is_healthy s h k) (is_disturbed s h k) (is_unknown s h k) ≡ has_class i s h k
      chosen zero = refl
      chosen (suc zero) = refl
      chosen (suc (suc zero)) = refl
      chosen (suc (suc (suc zero))) = refl
      chosen (suc (suc (suc (suc i)))) = refl

  -- THE LAW: a kind is in the second number exactly if the half-cycle is in an event of that kind
  pub kind_bit_is : (kind : Kind) → has_kind kind (kinds_at s h k) ≡ in_event s h kind k
  unfolding kinds_at
  kind_bit_is kind = ap (λ (x : ℕ). eqb x 1) (part kind) ∙ back (in_event s h kind k)
    where
      part : (kind : Kind)
          → (1 * bit (in_event s h Sag k) + 2 * bit (in_event s h Interruption k) + 4 * bit (in_event s h Swell k)) / weight_of kind % 2
          ≡ bit (in_event s h kind k)
      part Sag = omega (arith, bit_le (in_event s h Sag k), bit_le (in_event s h Interruption k), bit_le (in_event s h Swell k))
      part Interruption = omega (arith, bit_le (in_event s h Sag k), bit_le (in_event s h Interruption k), bit_le (in_event s h Swell k))
      part Swell = omega (arith, bit_le (in_event s h Sag k), bit_le (in_event s h Interruption k), bit_le (in_event s h Swell k))

      back : (b : Bool) → eqb (bit b) 1 ≡ b
      back true = refl
      back false = refl

-- ---- which kinds a half-cycle lies in at once

module _ (s : Settings) (g : Good s) (h : ℕ → Half) (k : ℕ) where
  -- every channel of an interruption is below 25 percent, and one of a swell above 100
  never_at_once : in_event s h Interruption k ≡ true → in_event s h Swell k ≡ true → ⊥
  never_at_once e f =
      let i = (in_by_the_one_before s h Interruption k).0 e in
      let w = (in_by_the_one_before s h Swell k).0 f in
      let same : w.0 ≡ i.0 = one w.0 i.0 (sym w.1 ∙ i.1) in
      apart i.0 (⊎_elim (low i.0) (λ b. b.1) i.2) (rw same at (⊎_elim (high w.0) (λ b. b.1) w.2))
    where
      one : (u v : Sums) → Some u ≡ Some v → u ≡ v
      one u v e = cc

      low : (v : Sums) → Begins s Interruption v → Keeps s Interruption v
      low v b c l = omega (arith, b c l, percent_rises s s.interruption (s.interruption + s.hysteresis) (omega arith))

      high : (v : Sums) → Begins s Swell v → Keeps s Swell v
      high v b = (b.0, b.1, omega (arith, b.2, percent_rises s (s.swell - s.hysteresis) s.swell (omega arith)))

      apart : (v : Sums) → Keeps s Interruption v → Keeps s Swell v → ⊥
      apart v x y =
          let far : s.interruption + s.hysteresis ≤ s.swell - s.hysteresis = omega (arith, g.interruption-high, g.hysteresis_high, g.swell-low) in
          omega (arith, x y.0 y.1, y.2, percent_rises s (s.interruption + s.hysteresis) (s.swell - s.hysteresis) far)

  -- THE LAW: an interruption is told with a sag, and never with a swell
  pub kinds_can_be : can_be (kinds_at s h k) ≡ true
  unfolding kinds_at
  kinds_can_be =
      go (in_event s h Sag k) (in_event s h Interruption k) (in_event s h Swell k)
      (in_sag s (omega (arith, g.interruption-high, g.hysteresis_high, g.sag-low)) h k) never_at_once
    where
      go : (a b c : Bool) → (b ≡ true → a ≡ true) → (b ≡ true → c ≡ true → ⊥) → can_be (1 * bit a + 2 * bit b + 4 * bit c) ≡ true
      go true true true p q = absurd (q refl refl)
      go true true false p q = refl
      go true false true p q = refl
      go true false false p q = refl
      go false true c p q = absurd (not_both false (p refl) refl)
      go false false true p q = refl
      go false false false p q = refl

-- ---- five numbers behind five numbers

module _ (f : ℕ → List ℕ) (fives : (k : ℕ) → length (f k) ≡ 5) where
  pub joined_length : (n : ℕ) → length (join f n) ≡ 5 * n
  joined_length zero = refl
  joined_length (suc n) = length-append (join f n) (f n) ∙ omega (arith, joined_length n, fives n)

  pub joined_part : (n k : ℕ) → k < n → take 5 (drop (5 * k) (join f n)) ≡ f k
  joined_part zero k l = absurd (omega arith)
  joined_part (suc n) k l = ⊎_elim last (λ u. earlier u (joined_part n k u)) (eq-or-lt_of_le {n = k} {m = n} (omega arith))
    where
      last : k ≡ n → take 5 (drop (5 * k) (join f n ++ f n)) ≡ f k
      last e =
          rw e
          (ap (take 5) (drop_at (join f n) (f n) (5 * n) (joined_length n)) ∙ take_all 5 (f n) (omega (arith, fives n)))

      earlier : k < n → take 5 (drop (5 * k) (join f n)) ≡ f k → take 5 (drop (5 * k) (join f n ++ f n)) ≡ f k
      earlier u r =
          let long = joined_length n in
          ap (take 5) (drop-append-le (5 * k) (join f n) (f n) (omega arith))
          ∙ take-append-le 5 (drop (5 * k) (join f n)) (f n) (omega (arith, length-drop (5 * k) (join f n)))
          ∙ r

-- ---- the trace of a recording

module _ (s : Settings) (xs : List ℤ) where
  abbrev h : ℕ → Half
  h = half_at s xs

  abbrev n : ℕ
  n = halves_of s xs

  fives : (k : ℕ) → length (half_words s xs k) ≡ 5
  unfolding half_words
  fives k = refl

  pub trace-length : length (trace_of s xs) ≡ 5 * n
  unfolding trace_of
  trace-length = joined_length (half_words s xs) fives n

  -- THE LAW: the five numbers of half-cycle k
  pub trace-half : (k : ℕ) → k < n → take 5 (drop (5 * k) (trace_of s xs)) ≡ half_words s xs k
  unfolding trace_of
  trace-half = joined_part (half_words s xs) fives n

  -- and number j of them
  number_at : (k j : ℕ) → k < n → j < 5 → get_or (trace_of s xs) (5 * k + j) 0 ≡ get_or (half_words s xs k) j 0
  number_at k j l u =
      sym (get_or-take 5 (drop (5 * k) (trace_of s xs)) j 0 u ∙ get_or-drop (5 * k) (trace_of s xs) j 0)
      ∙ ap (λ (w : List ℕ). get_or w j 0) (trace-half k l)

  module _ (k : ℕ) (inside : k < n) where
    pub class_told : class_in (trace_of s xs) k ≡ class_at s h k
    unfolding half_words
    class_told = let e : 5 * k ≡ 5 * k + 0 = omega arith in ap (λ (i : ℕ). get_or (trace_of s xs) i 0) e ∙ number_at k 0 inside (omega arith)

    pub kinds_told : kinds_in (trace_of s xs) k ≡ kinds_at s h k
    unfolding half_words
    kinds_told = number_at k 1 inside (omega arith)

    -- THE LAW: S of each channel, straight from the samples, of a known half-cycle; 0 of an unknown one
    pub sum_told : (c : ℕ) → c < 3 → known (h k) ≡ true → sum_in (trace_of s xs) k c ≡ squares s xs k c
    unfolding half_words sums_at
    sum_told zero l e = number_at k 2 inside (omega arith) ∙ rw (known_is s xs k e)
    sum_told (suc zero) l e = number_at k 3 inside (omega arith) ∙ rw (known_is s xs k e)
    sum_told (suc (suc zero)) l e = number_at k 4 inside (omega arith) ∙ rw (known_is s xs k e)
    sum_told (suc (suc (suc c))) l e = absurd (omega arith)

    -- THE LAW: an unknown half-cycle is told as class 3, in no kind and with no sums
    pub unknown-told : known (h k) ≡ false → take 5 (drop (5 * k) (trace_of s xs)) ≡ 3 ∷ 0 ∷ 0 ∷ 0 ∷ 0 ∷ []
    unfolding half_words class_at kinds_at is_healthy is_disturbed is_unknown
    unknown-told e = trace-half k inside ∙ rw (no_event Sag, no_event Interruption, no_event Swell, e, no_sums (h k) e)
      where
        no_event : (kind : Kind) → in_event s h kind k ≡ false
        no_event kind = ⊎_elim (λ i. absurd (not_both (known (h k)) (in_known s h kind k i) e)) (λ i. i) (cases (in_event s h kind k))

        no_sums : (v : Half) → known v ≡ false → sums_told v ≡ channels (λ c. 0)
        no_sums None e = refl
        no_sums (Some v) e = absurd (not_both true refl e)

    -- THE LAW: a kind is told of half-cycle k exactly if it lies in an event of that kind in the list
    pub kind_in_list : (kind : Kind) → (has_kind kind (kinds_in (trace_of s xs) k) ≡ true) ↔ InListed s xs kind k
    unfolding starts end_of
    kind_in_list kind = (
      λ e. from-event kind (sym (ap (has_kind kind) kinds_told ∙ kind_bit_is s h k kind) ∙ e),
      λ r. ap (has_kind kind) kinds_told ∙ kind_bit_is s h k kind ∙ to_event kind r,
    )
      where
        from-event : (kind : Kind) → in_event s h kind k ≡ true → InListed s xs kind k
        from-event kind e =
            let o =
            one-run (in_event s h kind) n (in_past s h n (half_past s xs) kind) k (suc k) (omega arith)
            (λ m l u. let q : m ≡ k = omega arith in rw q e) in
            let a = o.one in (
              event_from s xs kind a,
              (in_list s xs (event_from s xs kind a)).1 (kind, a, start_high s h n (half_past s xs) kind a o.has.0, o.has.0, refl),
              kind_is s xs kind a,
              omega (arith, start_is s xs kind a, o.has.1),
              omega (arith, end_is s xs kind a, o.has.2),
            )

        to_event : (kind : Kind) → InListed s xs kind k → in_event s h kind k ≡ true
        to_event kind r =
            let i = of_kind s xs kind r.0 r.1 r.2 in
            let starts-at = ap (λ v. v.start) i.2 ∙ start_is s xs kind i.0 in
            let ends_at = ap (λ v. v.end) i.2 ∙ end_is s xs kind i.0 in
            unbroken s h n (half_past s xs) kind i.0 i.1 k (omega (arith, r.3, starts-at)) (omega (arith, r.4, ends_at))

  -- THE LAW: so many half-cycles are told as of class i as there are
  pub class_counts : (i : ℕ) → told_as i (trace_of s xs) n ≡ count (has_class i s h) n
  class_counts i =
      count_same (λ k. eqb (class_in (trace_of s xs) k) i) (has_class i s h) n
      (λ k l. ap (λ (x : ℕ). eqb x i) (class_told k l) ∙ class_is s h k i)

-- ---- the classes told are those that a site table counts

-- THE LAW: a table that takes a recording grows by the classes that are told of it
pub table-told : (t : Table) (xs : List ℤ)
    → ((grown t xs).healthy ≡ t.healthy + told_in 1 t.settings xs)
    × ((grown t xs).disturbed ≡ t.disturbed + told_in 2 t.settings xs)
    × ((grown t xs).unknown ≡ t.unknown + told_in 3 t.settings xs)
unfolding grown
table-told t xs = (
  ap (λ (x : ℕ). t.healthy + x) (sym (class_counts t.settings xs 1)),
  ap (λ (x : ℕ). t.disturbed + x) (sym (class_counts t.settings xs 2)),
  ap (λ (x : ℕ). t.unknown + x) (sym (class_counts t.settings xs 3)),
)

sum_over_same : (f g : List ℤ → ℕ) (rs : List (List ℤ)) → ((xs : List ℤ) → f xs ≡ g xs) → sum_over f rs ≡ sum_over g rs
sum_over_same f g [] e = refl
sum_over_same f g (xs ∷ rs) e = rw (e xs, sum_over_same f g rs e)

-- THE LAW: and so a table holds the classes told of all the recordings that it sums up
pub tables-told : (s : Settings) (set : ℕ) (t : Table) (rs : List (List ℤ)) → SumsUp s set t rs
    → (t.healthy ≡ sum_over (told_in 1 s) rs) × (t.disturbed ≡ sum_over (told_in 2 s) rs) × (t.unknown ≡ sum_over (told_in 3 s) rs)
tables-told s set t rs u = (
  u.healthy ∙ sum_over_same (λ xs. count (is_healthy s (half_at s xs)) (halves_of s xs)) (told_in 1 s) rs (λ xs. sym (class_counts s xs 1)),
  u.disturbed ∙ sum_over_same (λ xs. count (is_disturbed s (half_at s xs)) (halves_of s xs)) (told_in 2 s) rs (λ xs. sym (class_counts s xs 2)),
  u.unknown ∙ sum_over_same (λ xs. count (is_unknown s (half_at s xs)) (halves_of s xs)) (told_in 3 s) rs (λ xs. sym (class_counts s xs 3)),
)

-- ---- the answer

module _ (c : Result ⊤ Refusal) (m : ℕ) where
  traced_many : (n : ℕ) → by_check c (Ok m) (λ r. Err r) ≡ Ok n → (c ≡ Ok tt) × (m ≡ n)
  traced_many = so_many Ok (λ r. Err r) (λ n r h. let z : ◌≡◌ {A = ℕ} 0 1 = cc in omega arith) (λ m n h. cc) (λ q r h. cc) c m

  traced-turned : (r : Refusal) → by_check c (Ok m) (λ r. Err r) ≡ Err r → c ≡ Err r
  traced-turned = turned_away_lem Ok (λ r. Err r) (λ n r h. let z : ◌≡◌ {A = ℕ} 0 1 = cc in omega arith) (λ m n h. cc) (λ q r h. cc) c m

module _ (s : Settings) (xs : List ℤ) (room : ℕ) where
  trace_check_is : (t : Result ⊤ Refusal) → (trace_check s xs room ≡ t) ↔ Checked s xs 5 (halves_of s xs) room t
  unfolding trace_check trace_room_check
  trace_check_is = checks_are s xs 5 (halves_of s xs) room

  tells : (a : Result ℕ Refusal) → traced s xs room ≡ a → Told s xs room a
  unfolding traced
  tells (Ok n) e =
      let r = traced_many (trace_check s xs room) (halves_of s xs) n e in
      let w = (trace_check_is (Ok tt)).0 r.0 in
      let H = w.1 in
      let q = r.1 in
      let same = halves_are s (good s w.0) xs H.0 H.1 in
      let is : H.0 ≡ n = sym same ∙ q in
      (rw is at H.1, (w.0, w.1, omega (arith, w.2)))
  tells (Err r) e = (trace_check_is (Err r)).0 (traced-turned (trace_check s xs room) (halves_of s xs) r e)

  telling : (a : Result ℕ Refusal) → Told s xs room a → traced s xs room ≡ a
  unfolding traced
  telling (Ok n) w =
      let q = halves_are s (good s w.1.0) xs n w.0 in
      rw ((trace_check_is (Ok tt)).1 (w.1.0, w.1.1, omega (arith, w.1.2)), q)
  telling (Err r) w = rw ((trace_check_is (Err r)).1 w)

  -- THE LAW: the call gives each answer exactly if the checks say so
  pub traced_is : (a : Result ℕ Refusal) → (traced s xs room ≡ a) ↔ Told s xs room a
  traced_is a = (tells a, telling a)

-- ---- what it writes

-- THE LAW: a refusal writes nothing
pub untraced_writes_nothing : (s : Settings) (xs : List ℤ) (out : List ℕ) (r : Refusal)
    → traced s xs (length out) ≡ Err r → trace_written s xs out ≡ out
unfolding traced trace_written
untraced_writes_nothing s xs out r h = rw (traced-turned (trace_check s xs (length out)) (halves_of s xs) r h)

module _ (s : Settings) (xs : List ℤ) (out : List ℕ) (n : ℕ) (ok : traced s xs (length out) ≡ Ok n) where
  halves-told : halves_of s xs ≡ n
  unfolding traced
  halves-told = (traced_many (trace_check s xs (length out)) (halves_of s xs) n ok).1

  numbers : length (trace_of s xs) ≡ 5 * n
  numbers = trace-length s xs ∙ ap (λ (x : ℕ). 5 * x) halves-told

  numbers_fit : length (trace_of s xs) ≤ length out
  numbers_fit = omega (arith, numbers, ((traced_is s xs (length out) (Ok n)).0 ok).1.2)

  trace_written_is : trace_written s xs out ≡ over (trace_of s xs) out
  unfolding traced trace_written
  trace_written_is = rw (traced_many (trace_check s xs (length out)) (halves_of s xs) n ok).0

  -- THE LAW: the run keeps its length
  pub trace_written-length : length (trace_written s xs out) ≡ length out
  trace_written-length = ap length trace_written_is ∙ over-length (trace_of s xs) out numbers_fit

  -- its first 5 n numbers are those of the half-cycles, one after another
  pub trace_written-words : take (5 * n) (trace_written s xs out) ≡ trace_of s xs
  trace_written-words = ap (take (5 * n)) trace_written_is ∙ over_front (trace_of s xs) out (5 * n) numbers

  -- of half-cycle k: class, kinds, S of a, b and c
  pub trace_written-half : (k : ℕ) → k < n
      → take 5 (drop (5 * k) (trace_written s xs out))
      ≡ (let h = half_at s xs in let v = sums_told (h k) in class_at s h k ∷ kinds_at s h k ∷ v.a ∷ v.b ∷ v.c ∷ [])
  unfolding half_words
  trace_written-half k l =
      ap (λ v. take 5 (drop (5 * k) v)) trace_written_is
      ∙ over-part (trace_of s xs) out (5 * k) 5 (omega (arith, numbers))
      ∙ trace-half s xs k (omega (arith, halves-told))

  -- and the numbers beyond the last half-cycle's stay unchanged
  pub trace_written_rest : (i d : ℕ) → 5 * n ≤ i → get_or (trace_written s xs out) i d ≡ get_or out i d
  trace_written_rest i d l =
      ap (λ v. get_or v i d) trace_written_is ∙ over_rest (trace_of s xs) out numbers_fit i d (omega (arith, numbers))
