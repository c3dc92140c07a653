-- What is turned away, in plain numbers: each answer of the checks of a recording is given exactly if the rules say so; a
-- refused list writes nothing, and an accepted one its events and nothing beyond. Assumes nothing.
use Rattle.std.specs.Prelude.{Result, Ok, Err, ⊤}
use Prim.Native.Nat.{ℕ, zero, suc, ◌+◌, ◌-◌, ◌*◌, ◌/◌, ◌%◌, ◌≤◌, ◌<◌}
use mathlib.Core.Path.{◌≡◌, refl, sym, ap, ◌∙◌}
use mathlib.Core.Bool.{Bool, true, false, not, ◌&&◌, ◌||◌, cond}
use mathlib.Core.List.{List, [], ◌∷◌, ◌++◌}
use mathlib.Core.Logic.{◌↔◌, ◌⊎◌, inl, inr, ⊎_elim}
use native.Mathlib.Nat.{le_antisymm, mul-le-mul_right, mul-mod_left, div-add-mod, div-eq_of_eq-mul_left}
use native.Mathlib.Omega.{arith}
use borrow.Author.Tests.{ltb-true, ltb-false, lt-ltb, le-ltb, leb-true, le-leb, eqb-true, eqb-false, eq-eqb, ne_eqb}
use lib.Dec.{leb, ltb, eqb}
use lib.IntN.{ℤ, pos, negsuc, nat_abs}
use lib.ListN.{length, get_or, take, drop, length-append, length-drop}
use lib.Seq.{take_at, take-append-le, drop-append-le, get_or-append-add, get_or-drop}
use Rattle.rules.specs.Bounded.{first_not}
use Rattle.rules.specs.Recorder.{missing, in_range, first_bad, within, n_good, f_good, bad_setting, settings_good}
use Rattle.rules.specs.Halves.{samples_of, halves_of}
use Rattle.rules.specs.EventList.{words_of, events_of, flat}
use Rattle.rules.specs.Refusals.{recording_check, most_half_cycles, by_check, settings_check, room_check, list_check, listed, written}
use Rattle.rules.specs.Meanings.{SettingInRange, InRange, HasHalves, Given, Answered}
use Rattle.rules.specs.declared.Settings.{Settings}
use Rattle.rules.specs.declared.Event.{Event}
use Rattle.rules.specs.declared.Refusal.{Refusal}
use Rattle.rules.specs.declared.Refusal.TheVariants.{Setting, Uneven, Short, Ragged, Long, Sample, Room, Full, Unsound}
use Rattle.rules.specs.Demands.{Good}
use Rattle.rules.proofs.Booleans.{both, and_true, not_both, cases}
use Rattle.rules.proofs.Choices.{lower}
use Rattle.rules.proofs.Longest.{first_between, first_refused}
use Rattle.rules.proofs.Order.{flat-length}
use Rattle.rules.proofs.Ranges.{good}
use Rattle.rules.proofs.Runs.{first_is, first_all}

-- ---- settings

by_both : (a b : Bool) (P Q : Type 0) → (a ≡ true) ↔ P → (b ≡ true) ↔ Q → (a && b ≡ true) ↔ (P × Q)
by_both a b P Q p q = (λ h. let w = both a b h in (p.0 w.0, q.0 w.1), λ w. and_true a b (p.1 w.0) (q.1 w.1))

by_either : (a b : Bool) (P Q : Type 0) → (a ≡ true) ↔ P → (b ≡ true) ↔ Q → (a || b ≡ true) ↔ (P ⊎ Q)
by_either true b P Q p q = (λ h. inl (p.0 refl), λ w. refl)
by_either false b P Q p q =
    (λ h. inr (q.0 h), λ w. ⊎_elim (λ x. absurd (not_both false (p.1 x) refl)) (λ y. q.1 y) w)

le_is : (a b : ℕ) → (leb a b ≡ true) ↔ (a ≤ b)
le_is a b = (leb-true a b, le-leb a b)

eq_is : (a b : ℕ) → (eqb a b ≡ true) ↔ (a ≡ b)
eq_is a b = (eqb-true a b, eq-eqb a b)

within_is : (low high x : ℕ) → (within low high x ≡ true) ↔ ((low ≤ x) × (x ≤ high))
within_is low high x = by_both (leb low x) (leb x high) (low ≤ x) (x ≤ high) (le_is low x) (le_is x high)

-- the tests of the seven settings
setting_test : Settings → ℕ → Bool
setting_test s zero = n_good s.n
setting_test s (suc zero) = within 1000 50000 s.r
setting_test s (suc (suc zero)) = f_good s.f
setting_test s (suc (suc (suc zero))) = within 50 95 s.sag
setting_test s (suc (suc (suc (suc zero)))) = within 1 20 s.interruption
setting_test s (suc (suc (suc (suc (suc zero))))) = within 105 150 s.swell
setting_test s (suc (suc (suc (suc (suc (suc i)))))) = leb s.hysteresis 5

setting_is : (s : Settings) (i : ℕ) → (setting_test s i ≡ true) ↔ SettingInRange s i
unfolding setting_test
setting_is s zero = (
  λ h.
      let w = both (within 8 512 s.n) (eqb (s.n % 2) 0) h in
      let r = (within_is 8 512 s.n).0 w.0 in
      (r.0, r.1, s.n / 2, omega (arith, eqb-true (s.n % 2) 0 w.1)),
  λ w. and_true (within 8 512 s.n) (eqb (s.n % 2) 0) ((within_is 8 512 s.n).1 (w.0, w.1)) (eq-eqb (s.n % 2) 0 (omega (arith, w.3))),
)
setting_is s (suc zero) = within_is 1000 50000 s.r
setting_is s (suc (suc zero)) = by_either (eqb s.f 50) (eqb s.f 60) (s.f ≡ 50) (s.f ≡ 60) (eq_is s.f 50) (eq_is s.f 60)
setting_is s (suc (suc (suc zero))) = within_is 50 95 s.sag
setting_is s (suc (suc (suc (suc zero)))) = within_is 1 20 s.interruption
setting_is s (suc (suc (suc (suc (suc zero))))) = within_is 105 150 s.swell
setting_is s (suc (suc (suc (suc (suc (suc i)))))) = le_is s.hysteresis 5

bad_first : (s : Settings) → let k = first_not (setting_test s) 0 7 in bad_setting s ≡ cond (ltb k 7) (suc k) 0
unfolding bad_setting setting_test
bad_first s =
    go (n_good s.n) (within 1000 50000 s.r) (f_good s.f) (within 50 95 s.sag) (within 1 20 s.interruption) (within 105 150 s.swell)
    (leb s.hysteresis 5)
  where
    go : (a b c d e f g : Bool)
        → (let k : ℕ = cond a (cond b (cond c (cond d (cond e (cond f (cond g 7 6) 5) 4) 3) 2) 1) 0 in
        ◌≡◌ {A = ℕ} (cond (not a) 1 (cond (not b) 2 (cond (not c) 3 (cond (not d) 4 (cond (not e) 5 (cond (not f) 6 (cond (not g) 7 0)))))))
        (cond (ltb k 7) (suc k) 0))
    go true true true true true true true = refl
    go true true true true true true false = refl
    go true true true true true false g = refl
    go true true true true false f g = refl
    go true true true false e f g = refl
    go true true false d e f g = refl
    go true false c d e f g = refl
    go false b c d e f g = refl

module _ (s : Settings) where
  -- the first that is out of its range, from 0; 7 where none is
  first : ℕ
  first = first_not (setting_test s) 0 7

  first_is_bad : first < 7 → SettingInRange s first → ⊥
  unfolding first
  first_is_bad l r = not_both (setting_test s first) ((setting_is s first).1 r) (first_refused (setting_test s) 0 7 (omega arith))

  before_first : (j : ℕ) → j < first → SettingInRange s j
  unfolding first
  before_first j l = (setting_is s j).0 (first_between (setting_test s) 0 7 j (omega arith) l)

  bad_by : (b : Bool) → ltb first 7 ≡ b → bad_setting s ≡ cond b (suc first) 0
  unfolding first
  bad_by b e = bad_first s ∙ rw e

  -- THE LAW: the number is that of the first setting outside its range
  pub bad_setting_is : (i : ℕ) → (bad_setting s ≡ suc i) ↔ ((i < 7) × (SettingInRange s i → ⊥) × ((j : ℕ) → j < i → SettingInRange s j))
  bad_setting_is i = (to (lower first 7), from)
    where
      to : (first < 7) ⊎ (7 ≤ first) → bad_setting s ≡ suc i → (i < 7) × (SettingInRange s i → ⊥) × ((j : ℕ) → j < i → SettingInRange s j)
      to (inl l) h = let e : first ≡ i = omega (arith, bad_by true (lt-ltb first 7 l)) in rw (← e) (l, first_is_bad l, before_first)
      to (inr l) h = absurd (omega (arith, bad_by false (le-ltb first 7 l)))

      from : (i < 7) × (SettingInRange s i → ⊥) × ((j : ℕ) → j < i → SettingInRange s j) → bad_setting s ≡ suc i
      from w =
          let low = w.0 in
          let not_less : i ≤ first = ⊎_elim (λ l. absurd (first_is_bad (omega arith) (w.2 first l))) (λ l. l) (lower first i) in
          let not_more : first ≤ i = ⊎_elim (λ l. absurd (w.1 (before_first i l))) (λ l. l) (lower i first) in
          bad_by true (lt-ltb first 7 (omega arith)) ∙ ap suc (le_antisymm not_more not_less)

  -- THE LAW: settings are good exactly if each is in its range
  pub settings_good_is : (settings_good s ≡ true) ↔ ((i : ℕ) → i < 7 → SettingInRange s i)
  unfolding settings_good
  settings_good_is = (λ h. to (lower first 7) (eqb-true (bad_setting s) 0 h), λ w. eq-eqb (bad_setting s) 0 (from w (lower first 7)))
    where
      to : (first < 7) ⊎ (7 ≤ first) → bad_setting s ≡ 0 → (i : ℕ) → i < 7 → SettingInRange s i
      to (inl l) h = absurd (omega (arith, bad_by true (lt-ltb first 7 l)))
      to (inr l) h = λ i u. before_first i (omega arith)

      from : ((i : ℕ) → i < 7 → SettingInRange s i) → (first < 7) ⊎ (7 ≤ first) → bad_setting s ≡ 0
      from w (inl l) = absurd (first_is_bad l (w first l))
      from w (inr l) = bad_by false (le-ltb first 7 l)

-- ---- a sample in range

pub missing_is : (x : ℤ) → (missing x ≡ true) ↔ (x ≡ negsuc 2147483647)
missing_is (pos n) = (λ h. absurd (not_both false h refl), λ e. let z : ◌≡◌ {A = ℕ} 0 1 = cc in absurd (omega arith))
missing_is (negsuc n) = (λ h. ap negsuc (eqb-true n 2147483647 h), λ e. eq-eqb n 2147483647 (cc))

pub in_range_is : (x : ℤ) → (in_range x ≡ true) ↔ InRange x
in_range_is x =
    by_either (missing x) (leb (nat_abs x) 100000) (x ≡ negsuc 2147483647) (nat_abs x ≤ 100000) (missing_is x)
    (leb-true (nat_abs x) 100000, le-leb (nat_abs x) 100000)

-- ---- which half-cycles there are

module _ (s : Settings) (g : Good s) (xs : List ℤ) where
  half-low : 4 ≤ s.n / 2
  half-low = omega (arith, g.n_low)

  two_halves : s.n ≡ 2 * (s.n / 2)
  two_halves = omega (arith, g.n_even)

  samples_are : (H : ℕ) → HasHalves s xs H → samples_of xs ≡ suc H * (s.n / 2)
  samples_are H e = omega arith

  -- THE LAW: (H + 1) x N/2 samples per channel are H half-cycles
  pub halves_are : (H : ℕ) → HasHalves s xs H → halves_of s xs ≡ H
  unfolding halves_of
  halves_are H e =
      let twice : 2 * samples_of xs ≡ suc H * s.n =
      ap (λ (x : ℕ). 2 * x) (samples_are H e) ∙ (let q : 2 * (suc H * (s.n / 2)) ≡ suc H * (2 * (s.n / 2)) = omega arith in q)
      ∙ ap (λ (x : ℕ). suc H * x) (sym two_halves) in
      let low = g.n_low in
      let d : 2 * samples_of xs / s.n ≡ suc H = div-eq_of_eq-mul_left (omega arith) twice in
      omega arith

  -- and every run that passes the checks 2 to 4 has some such number of them
  some-halves : length xs % 3 ≡ 0 → s.n ≤ samples_of xs → samples_of xs % (s.n / 2) ≡ 0 → (H : ℕ) × HasHalves s xs H × (0 < H)
  some-halves two three four =
      by (samples_of xs / (s.n / 2)) (let d = div-add-mod (samples_of xs) (s.n / 2) in omega arith)
    where
      by : (q : ℕ) → samples_of xs ≡ q * (s.n / 2) → (H : ℕ) × HasHalves s xs H × (0 < H)
      by zero e = absurd (omega (arith, half-low, two_halves))
      by (suc zero) e = absurd (omega (arith, half-low, two_halves))
      by (suc (suc H)) e = (suc H, omega arith, omega arith)

  -- ---- the answer of the checks

  -- the first sample out of range, where there is one
  first_out : first_bad xs < length xs
      → (InRange (get_or xs (first_bad xs) (pos 0)) → ⊥) × ((j : ℕ) → j < first_bad xs → InRange (get_or xs j (pos 0)))
  unfolding first_bad
  first_out l =
      let p : ℕ → Bool = λ i. in_range (get_or xs i (pos 0)) in (
        λ r. not_both (p (first_bad xs)) ((in_range_is (get_or xs (first_bad xs) (pos 0))).1 r) (first_refused p 0 (length xs) (omega arith)),
        λ j u.
            (in_range_is (get_or xs j (pos 0))).0 (first_between p 0 (length xs) j (omega arith) u),
      )

  first_out_at : (i : ℕ) → i < length xs → (InRange (get_or xs i (pos 0)) → ⊥) → ((j : ℕ) → j < i → InRange (get_or xs j (pos 0)))
      → first_bad xs ≡ i
  unfolding first_bad
  first_out_at i l out before =
      let p : ℕ → Bool = λ i. in_range (get_or xs i (pos 0)) in
      first_is p 0 (length xs) i (omega arith) (omega arith) (λ m a b. (in_range_is (get_or xs m (pos 0))).1 (before m b))
      (⊎_elim (λ e. absurd (out ((in_range_is (get_or xs i (pos 0))).0 e))) (λ e. e) (cases (p i)))

  none_out : length xs ≤ first_bad xs → (i : ℕ) → i < length xs → InRange (get_or xs i (pos 0))
  unfolding first_bad
  none_out l i u =
      let p : ℕ → Bool = λ i. in_range (get_or xs i (pos 0)) in
      (in_range_is (get_or xs i (pos 0))).0 (first_between p 0 (length xs) i (omega arith) (omega arith))

  all_in : ((i : ℕ) → i < length xs → InRange (get_or xs i (pos 0))) → length xs ≤ first_bad xs
  unfolding first_bad
  all_in h =
      let p : ℕ → Bool = λ i. in_range (get_or xs i (pos 0)) in
      omega (arith, first_all p 0 (length xs) (λ m a b. (in_range_is (get_or xs m (pos 0))).1 (h m (omega arith))))

  -- the tests of the checks 2 to 4, and what they say
  shape : eqb (length xs % 3) 0 ≡ true → ltb (samples_of xs) s.n ≡ false → eqb (samples_of xs % (s.n / 2)) 0 ≡ true
      → (H : ℕ) × HasHalves s xs H × (0 < H)
  shape p q r =
      some-halves (eqb-true (length xs % 3) 0 p) (ltb-false (samples_of xs) s.n q) (eqb-true (samples_of xs % (s.n / 2)) 0 r)

  shaped : (H : ℕ) → HasHalves s xs H → 0 < H
      → (eqb (length xs % 3) 0 ≡ true) × (ltb (samples_of xs) s.n ≡ false) × (eqb (samples_of xs % (s.n / 2)) 0 ≡ true)
  shaped H e l = (
    eq-eqb (length xs % 3) 0 (omega arith),
    le-ltb (samples_of xs) s.n (omega (arith, samples_are H e, two_halves, mul-le-mul_right {m = 2} {n = suc H} (s.n / 2) (omega arith))),
    eq-eqb (samples_of xs % (s.n / 2)) 0 (ap (λ (x : ℕ). x % (s.n / 2)) (samples_are H e) ∙ mul-mod_left (suc H) (s.n / 2)),
  )

  -- all five, one after another
  answer : (two three four five six : Bool) → Result ⊤ Refusal
  answer two three four five six =
      cond (not two) (Err Uneven)
      (cond three (Err Short)
      (cond (not four) (Err Ragged) (cond five (Err Long) (cond six (Err (Sample (first_bad xs))) (Ok tt)))))

  given_by : (two three four five six : Bool)
      → eqb (length xs % 3) 0 ≡ two → ltb (samples_of xs) s.n ≡ three → eqb (samples_of xs % (s.n / 2)) 0 ≡ four
      → ltb most_half_cycles (halves_of s xs) ≡ five → ltb (first_bad xs) (length xs) ≡ six → Given s xs (answer two three four five six)
  unfolding answer
  given_by false three four five six p q r t u = λ L e. eqb-false (length xs % 3) 0 p (omega arith)
  given_by true true four five six p q r t u =
      (samples_of xs, omega (arith, eqb-true (length xs % 3) 0 p), ltb-true (samples_of xs) s.n q)
  given_by true false false five six p q r t u = (
    samples_of xs,
    omega (arith, eqb-true (length xs % 3) 0 p),
    ltb-false (samples_of xs) s.n q,
    λ m e. eqb-false (samples_of xs % (s.n / 2)) 0 r (ap (λ (x : ℕ). x % (s.n / 2)) e ∙ mul-mod_left m (s.n / 2)),
  )
  given_by true false true true six p q r t u =
      let w = shape p q r in
      (w.0, w.1, omega (arith, ltb-true most_half_cycles (halves_of s xs) t, halves_are w.0 w.1))
  given_by true false true false true p q r t u =
      let w = shape p q r in
      let l = ltb-true (first_bad xs) (length xs) u in
      let o = first_out l in
      (w.0, w.1, w.2, omega (arith, ltb-false most_half_cycles (halves_of s xs) t, halves_are w.0 w.1), l, o.0, o.1)
  given_by true false true false false p q r t u =
      let w = shape p q r in
      (w.0, w.1, w.2, omega (arith, ltb-false most_half_cycles (halves_of s xs) t, halves_are w.0 w.1), none_out (ltb-false (first_bad xs) (length xs) u))

  given : Given s xs (recording_check s xs)
  unfolding recording_check answer
  given =
      given_by (eqb (length xs % 3) 0) (ltb (samples_of xs) s.n) (eqb (samples_of xs % (s.n / 2)) 0) (ltb most_half_cycles (halves_of s xs))
      (ltb (first_bad xs) (length xs)) refl refl refl refl refl

  few : (H : ℕ) → HasHalves s xs H → H ≤ 100000 → ltb most_half_cycles (halves_of s xs) ≡ false
  few H e l = le-ltb most_half_cycles (halves_of s xs) (omega (arith, halves_are H e))

  answered : (t : Result ⊤ Refusal) → Given s xs t → recording_check s xs ≡ t
  unfolding recording_check
  answered (Err Uneven) w = rw (ne_eqb (length xs % 3) 0 (λ e. w (length xs / 3) (omega arith)))
  answered (Err Short) w =
      rw (eq-eqb (length xs % 3) 0 (omega (arith, w.1)), lt-ltb (samples_of xs) s.n (omega (arith, w.1, w.2)))
  answered (Err Ragged) w =
      rw (
        eq-eqb (length xs % 3) 0 (omega (arith, w.1)),
        le-ltb (samples_of xs) s.n (omega (arith, w.1, w.2)),
        ne_eqb (samples_of xs % (s.n / 2)) 0
            (λ z. w.3 (samples_of xs / (s.n / 2)) (let d = div-add-mod (samples_of xs) (s.n / 2) in omega (arith, w.1))),
      )
  answered (Err Long) w =
      let t = shaped w.0 w.1 (omega (arith, w.2)) in
      rw (t.0, t.1, t.2, lt-ltb most_half_cycles (halves_of s xs) (omega (arith, halves_are w.0 w.1, w.2)))
  answered (Err (Sample i)) w =
      let t = shaped w.0 w.1 w.2 in
      let f = first_out_at i w.4 w.5 w.6 in
      rw (t.0, t.1, t.2, few w.0 w.1 w.3, lt-ltb (first_bad xs) (length xs) (omega (arith, f, w.4)), f)
  answered (Ok _) w =
      let t = shaped w.0 w.1 w.2 in
      rw (t.0, t.1, t.2, few w.0 w.1 w.3, le-ltb (first_bad xs) (length xs) (all_in w.4))
  answered (Err (Setting i)) w = absurd w
  answered (Err (Room n)) w = absurd w
  answered (Err (Full n)) w = absurd w
  answered (Err Unsound) w = absurd w

-- THE LAW: the checks 2 to 6 give each answer exactly if the table says so
pub recording_check_is : (s : Settings) → settings_good s ≡ true → (xs : List ℤ) (t : Result ⊤ Refusal) → (recording_check s xs ≡ t) ↔ Given s xs t
recording_check_is s g xs t = (λ e. rw e at (given s (good s g) xs), answered s (good s g) xs t)

-- so a run of H half-cycles has refusal 5 exactly if H is above 100,000, whatever its samples
pub long_is : (s : Settings) → settings_good s ≡ true → (xs : List ℤ) (H : ℕ) → HasHalves s xs H
    → (recording_check s xs ≡ Err Long) ↔ (100000 < H)
long_is s g xs H e = (
  λ c.
      let w = (recording_check_is s g xs (Err Long)).0 c in
      omega (arith, w.2, halves_are s (good s g) xs w.0 w.1, halves_are s (good s g) xs H e),
  λ l. (recording_check_is s g xs (Err Long)).1 (H, e, l),
)

-- and up to 100,000 it is accepted or has a sample out of range
pub long_enough : (s : Settings) → settings_good s ≡ true → (xs : List ℤ) (H : ℕ) → HasHalves s xs H → 0 < H → H ≤ 100000
    → (recording_check s xs ≡ Ok tt) ⊎ ((i : ℕ) × (recording_check s xs ≡ Err (Sample i)))
long_enough s g xs H e l u = by (lower (first_bad xs) (length xs))
  where
    by : (first_bad xs < length xs) ⊎ (length xs ≤ first_bad xs) → (recording_check s xs ≡ Ok tt) ⊎ ((i : ℕ) × (recording_check s xs ≡ Err (Sample i)))
    by (inl v) =
        let o = first_out s (good s g) xs v in
        inr (first_bad xs, (recording_check_is s g xs (Err (Sample (first_bad xs)))).1 (H, e, l, u, v, o.0, o.1))
    by (inr v) = inl ((recording_check_is s g xs (Ok tt)).1 (H, e, l, u, none_out s (good s g) xs v))

-- ---- the list

-- the settings' check accepts good settings, and else names a setting
pub settings_by : (s : Settings) (b : Bool) → settings_good s ≡ b → settings_check s ≡ cond b (Ok tt) (Err (Setting (bad_setting s)))
unfolding settings_check
settings_by s b e = rw e

-- what the list answers: by the settings, by the recording, by the room
by_room : (s : Settings) (xs : List ℤ) (room : ℕ) → settings_good s ≡ true → recording_check s xs ≡ Ok tt
    → listed s xs room ≡ cond (ltb room (11 * length (events_of s xs))) (Err (Room (length (events_of s xs)))) (Ok (length (events_of s xs)))
unfolding listed list_check room_check
by_room s xs room g c = rw (settings_by s true g, c) (go (ltb room (11 * length (events_of s xs))) (length (events_of s xs)))
  where
    go : (b : Bool) (n : ℕ) → by_check (cond b (Err (Room n)) (Ok tt)) (Ok n) (λ r. Err r) ≡ cond b (Err (Room n)) (Ok n)
    go true n = refl
    go false n = refl

by_recording : (s : Settings) (xs : List ℤ) (room : ℕ) (r : Refusal) → settings_good s ≡ true → recording_check s xs ≡ Err r
    → listed s xs room ≡ Err r
unfolding listed list_check
by_recording s xs room r g c = rw (settings_by s true g, c)

by_settings : (s : Settings) (xs : List ℤ) (room : ℕ) → settings_good s ≡ false → listed s xs room ≡ Err (Setting (bad_setting s))
unfolding listed list_check
by_settings s xs room g = rw (settings_by s false g)

-- THE LAW: the list gives each answer exactly if the table says so
module _ (s : Settings) (xs : List ℤ) (room : ℕ) where
  with_room : settings_good s ≡ true → recording_check s xs ≡ Ok tt → (room < 11 * length (events_of s xs)) ⊎ (11 * length (events_of s xs) ≤ room)
      → Answered s xs room (listed s xs room)
  with_room g c (inl l) =
      rw (by_room s xs room g c, lt-ltb room (11 * length (events_of s xs)) l) (inr (inr (g, (recording_check_is s g xs (Ok tt)).0 c, refl, l)))
  with_room g c (inr l) =
      rw (by_room s xs room g c, le-ltb room (11 * length (events_of s xs)) l) (g, (recording_check_is s g xs (Ok tt)).0 c, refl, l)

  with_recording : settings_good s ≡ true → (t : Result ⊤ Refusal) → recording_check s xs ≡ t → Answered s xs room (listed s xs room)
  with_recording g (Ok _) c = with_room g c (lower room (11 * length (events_of s xs)))
  with_recording g (Err r) c = rw (by_recording s xs room r g c) (inr (inl (g, (recording_check_is s g xs (Err r)).0 c)))

  with_settings : (b : Bool) → settings_good s ≡ b → Answered s xs room (listed s xs room)
  with_settings true g = with_recording g (recording_check s xs) refl
  with_settings false g = rw (by_settings s xs room g) (inl (g, refl))

  lists : (a : Result ℕ Refusal) → Answered s xs room a → listed s xs room ≡ a
  lists (Ok n) w =
      let c = (recording_check_is s w.0 xs (Ok tt)).1 w.1 in
      let n-is = w.2 in
      rw (by_room s xs room w.0 c, le-ltb room (11 * length (events_of s xs)) (omega (arith, w.3, n-is)), n-is)
  lists (Err r) (inl w) = rw (by_settings s xs room w.0, w.1)
  lists (Err r) (inr (inl w)) = by_recording s xs room r w.0 ((recording_check_is s w.0 xs (Err r)).1 w.1)
  lists (Err r) (inr (inr w)) =
      let c = (recording_check_is s w.0 xs (Ok tt)).1 w.1 in
      rw (by_room s xs room w.0 c, lt-ltb room (11 * length (events_of s xs)) w.3, w.2)

  pub listed_is : (a : Result ℕ Refusal) → (listed s xs room ≡ a) ↔ Answered s xs room a
  listed_is a = (λ e. rw e at (with_settings (settings_good s) refl), lists a)

-- ---- what it writes

by_turned : (c : Result ⊤ Refusal) (n : ℕ) (a b : List ℕ) (r : Refusal) → by_check c (Ok n) (λ r. Err r) ≡ Err r → by_check c a (λ r. b) ≡ b
by_turned (Ok _) n a b r h = let z : ◌≡◌ {A = ℕ} 0 1 = cc in absurd (omega arith)
by_turned (Err q) n a b r h = refl

by_listed : (c : Result ⊤ Refusal) (m n : ℕ) (a b : List ℕ) → by_check c (Ok m) (λ r. Err r) ≡ Ok n → by_check c a (λ r. b) ≡ a
by_listed (Ok _) m n a b h = refl
by_listed (Err r) m n a b h = let z : ◌≡◌ {A = ℕ} 0 1 = cc in absurd (omega arith)

-- THE LAW: a refusal writes nothing
pub refused_writes_nothing : (s : Settings) (xs : List ℤ) (out : List ℕ) (r : Refusal)
    → listed s xs (length out) ≡ Err r → written s xs out ≡ out
unfolding listed written
refused_writes_nothing s xs out r h =
    by_turned (list_check s xs (length out)) (length (events_of s xs))
    (flat (events_of s xs) ++ drop (length (flat (events_of s xs))) out) out r h

-- numbers written over the front of a run
module _ (w out : List ℕ) (fits : length w ≤ length out) where
  over-length : length (w ++ drop (length w) out) ≡ length out
  over-length = length-append w (drop (length w) out) ∙ (let q = length-drop (length w) out in omega arith)

  over_rest : (i d : ℕ) → length w ≤ i → get_or (w ++ drop (length w) out) i d ≡ get_or out i d
  over_rest i d l =
      let q : i ≡ length w + (i - length w) = omega arith in
      ap (λ (x : ℕ). get_or (w ++ drop (length w) out) x d) q ∙ get_or-append-add w (drop (length w) out) (i - length w) d
      ∙ get_or-drop (length w) out (i - length w) d ∙ ap (λ (x : ℕ). get_or out x d) (sym q)

-- the eleven numbers of event i, in the events' own run
words-at : (es : List Event) (d : Event) (i : ℕ) → i < length es → take 11 (drop (11 * i) (flat es)) ≡ words_of (get_or es i d)
words-at [] d i l = absurd (omega arith)
words-at (e ∷ es) d zero l = refl
words-at (e ∷ es) d (suc i) l =
    let q : 11 * suc i ≡ suc (suc (suc (suc (suc (suc (suc (suc (suc (suc (suc (11 * i))))))))))) = omega arith in
    rw q (words-at es d i (omega arith))

module _ (s : Settings) (xs : List ℤ) (out : List ℕ) (n : ℕ) (ok : listed s xs (length out) ≡ Ok n) where
  words-length : length (flat (events_of s xs)) ≡ 11 * n
  words-length = flat-length (events_of s xs) ∙ ap (λ (x : ℕ). 11 * x) (sym ((listed_is s xs (length out) (Ok n)).0 ok).2)

  words_fit : length (flat (events_of s xs)) ≤ length out
  words_fit = omega (arith, words-length, ((listed_is s xs (length out) (Ok n)).0 ok).3)

  written_is : written s xs out ≡ flat (events_of s xs) ++ drop (length (flat (events_of s xs))) out
  unfolding listed written
  written_is =
      by_listed (list_check s xs (length out)) (length (events_of s xs)) n
      (flat (events_of s xs) ++ drop (length (flat (events_of s xs))) out) out ok

  -- THE LAW: the run keeps its length
  pub written-length : length (written s xs out) ≡ length out
  written-length = ap length written_is ∙ over-length (flat (events_of s xs)) out words_fit

  -- its first 11 n numbers are the events', eleven each, one event after another
  pub written-words : take (11 * n) (written s xs out) ≡ flat (events_of s xs)
  written-words =
      ap (take (11 * n)) written_is ∙ take_at (flat (events_of s xs)) (drop (length (flat (events_of s xs))) out) (11 * n) words-length

  -- of event i: kind, start, end, seen, extreme, retained, shortfall, type, and the shortfalls of a, b and c
  pub written-event : (d : Event) (i : ℕ) → i < n
      → take 11 (drop (11 * i) (written s xs out))
      ≡ (let e = get_or (events_of s xs) i d in e.kind ∷ e.start ∷ e.end ∷ e.seen ∷ e.extreme ∷ e.retained ∷ e.shortfall ∷ e.class ∷ e.parts.a ∷ e.parts.b ∷ e.parts.c ∷ [])
  written-event d i l =
      let w = flat (events_of s xs) in
      let rest = drop (length w) out in
      let long = words-length in
      let left = length-drop (11 * i) w in
      ap (λ v. take 11 (drop (11 * i) v)) written_is
      ∙ ap (take 11) (drop-append-le (11 * i) w rest (omega arith))
      ∙ take-append-le 11 (drop (11 * i) w) rest (omega arith)
      ∙ words-at (events_of s xs) d i (omega (arith, ((listed_is s xs (length out) (Ok n)).0 ok).2))

  -- and the numbers beyond the last event stay unchanged
  pub written_rest : (i d : ℕ) → 11 * n ≤ i → get_or (written s xs out) i d ≡ get_or out i d
  written_rest i d l =
      ap (λ v. get_or v i d) written_is ∙ over_rest (flat (events_of s xs)) out words_fit i d (omega (arith, words-length))
