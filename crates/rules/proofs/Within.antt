-- Each interruption is contained in exactly one sag. The reason is arithmetic: interruption threshold plus hysteresis is at most 25
-- percent and the sag threshold at least 50, so each half-cycle of an interruption begins a sag by itself, and a run that lies in
-- sags at each half-cycle lies in one of them. Stated over any test, then of any half-cycles, of a recording and of its list.
-- Assumes nothing.
use Rattle.std.specs.Prelude.{None}
use Prim.Native.Nat.{ℕ, zero, suc, ◌+◌, ◌-◌, ◌≤◌, ◌<◌}
use mathlib.Core.Path.{◌≡◌, refl, ap, ◌∙◌}
use mathlib.Core.Bool.{Bool, true, false, not}
use mathlib.Core.List.{List, Memᴰ}
use mathlib.Core.Logic.{⊎_elim}
use native.Mathlib.Nat.{eq-or-lt_of_le}
use native.Mathlib.Omega.{arith}
use lib.IntN.{ℤ}
use Rattle.rules.specs.Bounded.{first_not}
use Rattle.rules.specs.Recorder.{settings_good}
use Rattle.rules.specs.Halves.{Half, half_at, halves_of}
use Rattle.rules.specs.Events.{in_event, is_run, starts, end_of}
use Rattle.rules.specs.EventList.{kind_number, event_from, events_of}
use Rattle.rules.specs.Demands.{Good, ExactlyOne, Contains, SagOver}
use Rattle.rules.specs.Meanings.{Begins, Keeps}
use Rattle.rules.specs.declared.Settings.{Settings}
use Rattle.rules.specs.declared.Sums.{Sums}
use Rattle.rules.specs.declared.Kind.TheVariants.{Sag, Interruption}
use Rattle.rules.specs.declared.Event.{Event}
use Rattle.rules.proofs.Booleans.{and_true, not_both, cases}
use Rattle.rules.proofs.Channels.{percent_rises, in_by_the_one_before, inside_where_it_begins}
use Rattle.rules.proofs.Choices.{lower}
use Rattle.rules.proofs.Longest.{is_start, first_low, within_bound, walk_stops, run_of_start, runs_apart, in_past, event-run, run-starts, start_high, half_past}
use Rattle.rules.proofs.Order.{in_list, kind_is, start_is, end_is, of_kind}
use Rattle.rules.proofs.Ranges.{good}

-- ---- a half-cycle of an interruption begins a sag

-- 20 plus 5 is below 50
low-enough : (s : Settings) → Good s → s.interruption + s.hysteresis ≤ s.sag
low-enough s g = omega (arith, g.interruption-high, g.hysteresis_high, g.sag-low)

module _ (s : Settings) (low : s.interruption + s.hysteresis ≤ s.sag) where
  -- even one that only keeps an interruption going: every channel, so channel a, is below the sag threshold
  kept_begins : (v : Sums) → Keeps s Interruption v → Begins s Sag v
  kept_begins v w = (0, omega arith, omega (arith, w 0 (omega arith), percent_rises s (s.interruption + s.hysteresis) s.sag low))

  begun_begins : (v : Sums) → Begins s Interruption v → Begins s Sag v
  begun_begins v w =
      kept_begins v (λ c l. omega (arith, w c l, percent_rises s s.interruption (s.interruption + s.hysteresis) (omega arith)))

  -- THE LAW: where interruption threshold plus hysteresis is not above the sag threshold, what is in an interruption is in a sag
  pub in_sag : (h : ℕ → Half) (k : ℕ) → in_event s h Interruption k ≡ true → in_event s h Sag k ≡ true
  in_sag h k e =
      let w = (in_by_the_one_before s h Interruption k).0 e in
      inside_where_it_begins s h Sag k w.0 w.1 (⊎_elim (begun_begins w.0) (λ b. kept_begins w.0 b.1) w.2)

-- ---- what passes at each number lies in one longest run, over any test

-- a run starts at k, at or before a, and is unbroken from there to a
record Holding (p : ℕ → Bool) (a k : ℕ) : Type 0 where
  begun : is_start p k ≡ true
  low : k ≤ a
  since : (m : ℕ) → k ≤ m → m ≤ a → p m ≡ true

holding_run : (p : ℕ → Bool) (a : ℕ) → p a ≡ true → (k : ℕ) × Holding p a k
holding_run p zero e = (0, record { begun = rw e; low = omega arith; since = λ m l u. let q : m ≡ 0 = omega arith in rw q e })
holding_run p (suc a) e =
    ⊎_elim
    (λ f. let r = holding_run p a f in (r.0, record { begun = r.1.begun; low = omega (arith, r.1.low); since = go_on r.0 r.1 }))
    (λ f. (suc a, record { begun = and_true (p (suc a)) (not (p a)) e (rw f); low = omega arith; since = λ m l u. let q : m ≡ suc a = omega arith in rw q e }))
    (cases (p a))
  where
    go_on : (k : ℕ) → Holding p a k → (m : ℕ) → k ≤ m → m ≤ suc a → p m ≡ true
    go_on k r m l u = ⊎_elim (λ q. rw q e) (λ v. r.since m l (omega arith)) (eq-or-lt_of_le u)

module _ (p : ℕ → Bool) (n : ℕ) (past : (k : ℕ) → n ≤ k → p k ≡ false) (a b : ℕ) (some : a < b) (each : (m : ℕ) → a ≤ m → m < b → p m ≡ true) where
  -- the run that starts at k reaches from a up to b
  abbrev Reaches : ℕ → Type 0
  Reaches k = (is_start p k ≡ true) × (k ≤ a) × (b ≤ first_not p k (n - k))

  -- the run that holds a goes on at least up to b
  goes_to : (k : ℕ) → Holding p a k → b ≤ first_not p k (n - k)
  goes_to k r =
      let d = first_not p k (n - k) in
      let in-bound = within_bound p n past k (r.since k (omega arith) r.low) in
      let stop = walk_stops p n past k (omega arith) in
      let from-k = first_low p k (n - k) in
      ⊎_elim
      (λ u. absurd (not_both (p d) (⊎_elim (λ v. r.since d from-k (omega arith)) (λ v. each d v u) (lower d a)) stop))
      (λ u. u) (lower d b)

  -- of two runs the one that starts later starts past the other's end
  not_later : (j k : ℕ) → Reaches j → Reaches k → j < k → ⊥
  not_later j k x y l =
      let apart = runs_apart p j (first_not p j (n - j)) k (first_not p k (n - k)) (run_of_start p n past j x.0) (run_of_start p n past k y.0) l in
      omega (arith, apart, x.2, y.1, some)

  same_start : (j k : ℕ) → Reaches j → Reaches k → j ≡ k
  same_start j k x y =
      let up : k ≤ j = ⊎_elim (λ u. absurd (not_later j k x y u)) (λ u. u) (lower j k) in
      let down : j ≤ k = ⊎_elim (λ u. absurd (not_later k j y x u)) (λ u. u) (lower k j) in
      omega arith

  pub one-run : ExactlyOne Reaches
  one-run =
      let r = holding_run p a (each a (omega arith) some) in
      let it : Reaches r.0 = (r.1.begun, r.1.low, goes_to r.0 r.1) in
      record { one = r.0; has = it; only = λ k y. same_start k r.0 y it }

-- ---- any half-cycles

module _ (s : Settings) (good-settings : settings_good s ≡ true) (h : ℕ → Half) (n : ℕ) (past : (k : ℕ) → n ≤ k → h k ≡ None) where
  -- THE LAW: each interruption is contained in exactly one sag
  pub in_one_sag : (a : ℕ) → starts s h Interruption a ≡ true → ExactlyOne (Contains s h n Sag a (end_of s h n Interruption a))
  unfolding starts end_of
  in_one_sag a e =
      let b = end_of s h n Interruption a in
      let r = event-run s h n past Interruption a e in
      let o =
      one-run (in_event s h Sag) n (in_past s h n past Sag) a b r.some
      (λ m l u. in_sag s (low-enough s (good s good-settings)) h m (r.unbroken m l u)) in
      record {
        one = o.one;
        has = record { one-starts = o.has.0; by_then = o.has.1; to_the_end = o.has.2 };
        only = λ k c. o.only k (c.one-starts, c.by_then, c.to_the_end);
      }

-- ---- a recording

module _ (s : Settings) (xs : List ℤ) (good-settings : settings_good s ≡ true) where
  abbrev h : ℕ → Half
  h = half_at s xs

  abbrev n : ℕ
  n = halves_of s xs

  -- THE LAW: each interruption of a recording, a longest unbroken run from a up to b, is contained in exactly one sag
  pub run_in_one_sag : (a b : ℕ) → is_run (in_event s h Interruption) a b ≡ true → ExactlyOne (Contains s h n Sag a b)
  run_in_one_sag a b r =
      let e = run-starts s h n (half_past s xs) Interruption a b r in
      rw (← e.1) (in_one_sag s good-settings h n (half_past s xs) a e.0)

  -- ---- and so in its list

  -- THE LAW: to each interruption of a recording's list the list has exactly one sag that starts no later and ends no earlier
  pub listed_in_one_sag : (e : Event) → Memᴰ e (events_of s xs) → e.kind ≡ kind_number Interruption → ExactlyOne (SagOver s xs e)
  listed_in_one_sag e m q =
      let i = of_kind s xs Interruption e m q in
      let a = i.0 in
      let starts-at : e.start ≡ a = ap (λ v. v.start) i.2 ∙ start_is s xs Interruption a in
      let ends_at : e.end ≡ end_of s h n Interruption a = ap (λ v. v.end) i.2 ∙ end_is s xs Interruption a in
      let o = in_one_sag s good-settings h n (half_past s xs) a i.1 in
      let k = o.one in
      record {
        one = event_from s xs Sag k;
        has =
            record {
              listed =
                  (in_list s xs (event_from s xs Sag k)).1
                  (Sag, k, start_high s h n (half_past s xs) Sag k o.has.one-starts, o.has.one-starts, refl);
              sag = kind_is s xs Sag k;
              by_then = omega (arith, start_is s xs Sag k, starts-at, o.has.by_then);
              to_the_end = omega (arith, end_is s xs Sag k, ends_at, o.has.to_the_end);
            };
        only =
            λ g v.
            let j = of_kind s xs Sag g v.listed v.sag in
            let there : j.0 ≡ k =
            o.only j.0
            record {
              one-starts = j.1;
              by_then = omega (arith, v.by_then, starts-at, ap (λ w. w.start) j.2 ∙ start_is s xs Sag j.0);
              to_the_end = omega (arith, v.to_the_end, ends_at, ap (λ w. w.end) j.2 ∙ end_is s xs Sag j.0);
            } in
            j.2 ∙ ap (event_from s xs Sag) there;
      }
