-- The writing pass writes the list: once every slot that waits has its words, the run holds the events that start before
-- half-cycle k. A turn keeps this, and in the end no slot waits. Assumes nothing.
use Rattle.std.specs.Prelude.{Option, Some, None, is_some, IfSome}
use Rattle.std.proofs.lemmas.Option.{IfSome_then}
use Prim.Native.Nat.{ℕ, zero, suc, ◌+◌, ◌-◌, ◌*◌, ◌≤◌, ◌<◌}
use mathlib.Core.Path.{◌≡◌, refl, sym, ap, subst, ◌∙◌}
use mathlib.Core.Bool.{Bool, true, false, cond}
use mathlib.Core.Logic.{⊎_elim}
use mathlib.Core.List.{List, [], ◌∷◌, ◌++◌, append_assoc, append-nil}
use native.Mathlib.Nat.{eq-or-lt_of_le, add-zero, le_trans}
use native.Mathlib.Omega.{arith}
use lib.ListN.{length, length-append}
use lib.Seq.{sets, length-sets}
use lib.IntN.{ℤ}
use Rattle.rules.specs.Bounded.{before, bit, join}
use Rattle.rules.specs.Halves.{Half, known, half_at, halves_of}
use Rattle.rules.specs.Events.{in_event, starts}
use Rattle.rules.specs.EventList.{event_from, words_of, event_at, events_at, events_of, flat}
use Rattle.rules.specs.Refusals.{over}
use Rattle.rules.proofs.Booleans.{cases, bit_le}
use Rattle.rules.proofs.Bounded.{count-more}
use Rattle.rules.proofs.Longest.{in_past, half_past}
use Rattle.rules.proofs.Order.{flat_append, flat-length, length-below}
use Rattle.rules.specs.declared.Settings.{Settings}
use Rattle.rules.specs.declared.Kind.{Kind}
use Rattle.rules.specs.declared.Kind.TheVariants.{Sag, Interruption, Swell}
use Rattle.kinds.specs.declared.Open.{Open}
use Rattle.list.specs.declared.Pending.{Pending}
use Rattle.list.specs.declared.Pass.{Pass}
use Rattle.kinds.specs.Machine.{lasting, launched, opens}
use Rattle.list.specs.Listing.{ReadyAll, start_pass, going, pend, visited, closes, turned, turned_out, turns, turns_out}
use Rattle.kinds.proofs.Machine.{inside_of, opens-closed, opens_lasts, opens_launches}
use Rattle.list.proofs.Turns.{none-waits}
use Rattle.list.proofs.Slots.{Different, fill, fill_sets, fill_fill, put_next}

-- a slot that waits is below n
abbrev pub Slotted : Option Pending → ℕ → Type 0
Slotted q n = IfSome q (λ p. p.slot < n)

slotted-more : (q : Option Pending) (m n : ℕ) → m ≤ n → Slotted q m → Slotted q n
slotted-more q m n l low = IfSome_then q low (λ p u. omega (arith, l, u))

flip : (q r : Option Pending) → Different q r → Different r q
flip None None d = tt
flip None (Some b) d = tt
flip (Some a) None d = tt
flip (Some a) (Some b) d = λ e. d (sym e)

pend_going : (q : Option Pending) (n : ℕ) (o : Option Open) → going (pend q n o) ≡ o
pend_going q n None = refl
pend_going None n (Some o) = refl
pend_going (Some p) n (Some o) = refl

module _ (s : Settings) (xs : List ℤ) where
  abbrev h : ℕ → Half
  h = half_at s xs

  -- the words that the slot of a kind waits for
  abbrev words : Kind → Pending → List ℕ
  words kind p = words_of (event_from s xs kind p.event.start)

  abbrev pub filled : Kind → Option Pending → List ℕ → List ℕ
  filled kind q o = fill (words kind) q o

  -- ---- one kind

  module _ (kind : Kind) (k n : ℕ) (q : Option Pending) (is : going q ≡ opens s h kind k) where
    abbrev next : Option Pending
    next = (visited s xs kind k q n).pending

    was_in : (x : Option Pending) → q ≡ x → before (in_event s h kind) k ≡ is_some (going x)
    was_in x e = sym (inside_of s h kind k is) ∙ ap (λ (y : Option Pending). is_some (going y)) e

    -- what a visit does, by whether the kind was in an event and is
    lasts : (p : Pending) → q ≡ Some p → in_event s h kind k ≡ true
        → (starts s h kind k ≡ false) × ((o : Open) × (o.start ≡ p.event.start) × (next ≡ Some (record { event = o; slot = p.slot })))
    unfolding starts visited
    lasts p w i =
        let f = opens_lasts s h kind k p.event i (sym is ∙ ap going w) in
        let o = lasting kind k p.event f.0 in
        (rw (i, was_in (Some p) w), (o, refl, rw f.2 (ap (λ (x : Option Pending). pend x n (Some o)) w)))

    begins : q ≡ None → in_event s h kind k ≡ true
        → (starts s h kind k ≡ true) × ((o : Open) × (o.start ≡ k) × (next ≡ Some (record { event = o; slot = n })))
    unfolding starts visited
    begins w i =
        let f = opens_launches s h kind k i (sym is ∙ ap going w) in
        let o = launched kind (before (λ j. known (h j)) k) k f.0 in
        (rw (i, was_in None w), (o, refl, rw f.2 (ap (λ (x : Option Pending). pend x n (Some o)) w)))

    rests : in_event s h kind k ≡ false → (starts s h kind k ≡ false) × (next ≡ None)
    unfolding starts visited
    rests i = (rw i, rw (opens-closed s h kind k i))

    -- the four cases of a visit
    module _ (P : Type 0)
        (on-lasts : (p : Pending) → q ≡ Some p → in_event s h kind k ≡ true → P)
        (on-ends : (p : Pending) → q ≡ Some p → in_event s h kind k ≡ false → P)
        (on-begins : q ≡ None → in_event s h kind k ≡ true → P)
        (on-rests : q ≡ None → in_event s h kind k ≡ false → P) where
      by_case : P
      by_case = by q refl
        where
          by : (x : Option Pending) → q ≡ x → P
          by (Some p) w = ⊎_elim (on-lasts p w) (on-ends p w) (cases (in_event s h kind k))
          by None w = ⊎_elim (on-begins w) (on-rests w) (cases (in_event s h kind k))

    none-starts : starts s h kind k ≡ false → event_at s xs kind k ≡ []
    unfolding event_at
    none-starts e = rw e

    one-starts : starts s h kind k ≡ true → event_at s xs kind k ≡ event_from s xs kind k ∷ []
    unfolding event_at
    one-starts e = rw e

    pub next_low : Slotted q n → Slotted next (n + bit (starts s h kind k))
    next_low low =
        by_case (Slotted next (n + bit (starts s h kind k)))
        (λ p w y. let f = lasts p w y in let l : p.slot < n = rw w at low in rw (f.1.2, f.0) (omega (arith, l)))
        (λ p w y. rw (rests y).1 tt)
        (λ w y. let f = begins w y in rw (f.1.2, f.0) (omega arith))
        (λ w y. rw (rests y).1 tt)

    pub next_apart : (r : Option Pending) → Different q r → Slotted r n → Different next r
    next_apart r differ low =
        by_case (Different next r)
        (λ p w y. let f = lasts p w y in rw f.1.2 (rw w at differ))
        (λ p w y. rw (rests y).1 tt)
        (λ w y. let f = begins w y in rw f.1.2 (IfSome_then r low (λ b l e. omega (arith, l, e))))
        (λ w y. rw (rests y).1 tt)

    -- A turn of one kind. F fills the other two kinds' slots, and a store in this kind's slot passes through it.
    module _ (F : List ℕ → List ℕ) (E o₀ out : List ℕ) (size : length E ≡ 11 * n) (room : 11 * (n + bit (starts s h kind k)) ≤ length o₀)
        (through : (p : Pending) → q ≡ Some p → F (sets out (11 * p.slot) (words kind p)) ≡ sets (F out) (11 * p.slot) (words kind p))
        (whole : filled kind q (F out) ≡ over E o₀) where
      abbrev Goal : Type 0
      Goal = filled kind next (F (closes s xs kind k q out)) ≡ over (E ++ flat (event_at s xs kind k)) o₀

      case_lasts : (p : Pending) → q ≡ Some p → in_event s h kind k ≡ true → Goal
      unfolding closes
      case_lasts p w y =
          let f = lasts p w y in
          rw (f.1.2, f.1.1, none-starts f.0, append-nil, w, y) (rw w at whole)

      case_ends : (p : Pending) → q ≡ Some p → in_event s h kind k ≡ false → Goal
      unfolding closes
      case_ends p w y =
          let f = rests y in rw (f.1, none-starts f.0, append-nil, w, y) (through p w ∙ (rw w at whole))

      case_begins : q ≡ None → in_event s h kind k ≡ true → Goal
      unfolding closes
      case_begins w y =
          let f = begins w y in
          let e : F out ≡ over E o₀ = rw w at whole in
          let fits : 11 * n + 11 ≤ length o₀ = omega (arith, ap bit f.0) in
          rw (f.1.2, f.1.1, one-starts f.0, w, e) (put_next E o₀ (words_of (event_from s xs kind k)) (11 * n) size fits)

      case_rests : q ≡ None → in_event s h kind k ≡ false → Goal
      unfolding closes
      case_rests w y = let f = rests y in rw (f.1, none-starts f.0, append-nil, w) (rw w at whole)

      pub visit_whole : Goal
      visit_whole = by_case Goal case_lasts case_ends case_begins case_rests

  -- ---- the three kinds: the kind to be visited is filled innermost, and after its visit outermost

  module _ (k n : ℕ) (kA : Kind) (qA : Option Pending) (kB : Kind) (qB : Option Pending) (kind : Kind) (q : Option Pending)
      (is : going q ≡ opens s h kind k) (A-differs : Different qA q) (B-differs : Different qB q)
      (E o₀ out : List ℕ) (size : length E ≡ 11 * n) (room : 11 * (n + bit (starts s h kind k)) ≤ length o₀)
      (whole : filled kA qA (filled kB qB (filled kind q out)) ≡ over E o₀) where
    abbrev others : List ℕ → List ℕ
    others o = filled kA qA (filled kB qB o)

    through : (p : Pending) → q ≡ Some p → others (sets out (11 * p.slot) (words kind p)) ≡ sets (others out) (11 * p.slot) (words kind p)
    through p w =
        ap (filled kA qA) (fill_sets (words kB) (λ b. refl) qB out p.slot (words kind p) refl (rw w at B-differs))
        ∙ fill_sets (words kA) (λ a. refl) qA (filled kB qB out) p.slot (words kind p) refl (rw w at A-differs)

    inside_out : filled kind q (others out) ≡ over E o₀
    inside_out =
        sym (
        ap (filled kA qA) (fill_fill (words kB) (λ b. refl) (words kind) (λ p. refl) qB q out B-differs)
        ∙ fill_fill (words kA) (λ a. refl) (words kind) (λ p. refl) qA q (filled kB qB out) A-differs)
        ∙ whole

    pub kind_whole : filled kind (visited s xs kind k q n).pending (filled kA qA (filled kB qB (closes s xs kind k q out)))
        ≡ over (E ++ flat (event_at s xs kind k)) o₀
    kind_whole = visit_whole kind k n q is others E o₀ out size room through inside_out

  -- ---- the pass

  -- the words of the events that start before half-cycle k
  abbrev pub words_below : ℕ → List ℕ
  words_below k = flat (join (events_at s xs) k)

  pub record Writing (k : ℕ) (p : Pass) (out o₀ : List ℕ) : Type 0 where
    pub known-before : p.known ≡ before (λ j. known (h j)) k
    pub few : p.n ≤ 3 * k
    pub same : length out ≡ length o₀
    pub size : length (words_below k) ≡ 11 * p.n
    pub sag : going p.sag ≡ opens s h Sag k
    pub interruption : going p.interruption ≡ opens s h Interruption k
    pub swell : going p.swell ≡ opens s h Swell k
    pub sag-low : Slotted p.sag p.n
    pub interruption-low : Slotted p.interruption p.n
    pub swell-low : Slotted p.swell p.n
    pub sag-interruption : Different p.sag p.interruption
    pub interruption-swell : Different p.interruption p.swell
    pub swell-sag : Different p.swell p.sag
    pub whole : filled Swell p.swell (filled Interruption p.interruption (filled Sag p.sag out)) ≡ over (words_below k) o₀

  length-closes : (kind : Kind) (k : ℕ) (q : Option Pending) (out : List ℕ) → length (closes s xs kind k q out) ≡ length out
  unfolding closes
  length-closes kind k None out = refl
  length-closes kind k (Some p) out = either (in_event s h kind k)
    where
      either : (b : Bool) → length (cond b out (sets out (11 * p.slot) (words kind p))) ≡ length out
      either true = refl
      either false = length-sets out (11 * p.slot) (words kind p)

  out-length : (k : ℕ) (p : Pass) (out : List ℕ) → length (turned_out s xs k p out) ≡ length out
  unfolding turned_out
  out-length k p out =
      length-closes Swell k p.swell (closes s xs Interruption k p.interruption (closes s xs Sag k p.sag out))
      ∙ length-closes Interruption k p.interruption (closes s xs Sag k p.sag out)
      ∙ length-closes Sag k p.sag out

  pub outs_length : (k d : ℕ) (p : Pass) (out : List ℕ) → length (turns_out s xs k d p out) ≡ length out
  unfolding turns_out
  outs_length k zero p out = refl
  outs_length k (suc d) p out = out-length (k + d) (turns s xs k d p) (turns_out s xs k d p out) ∙ outs_length k d p out

  pub length_at : (kind : Kind) (k : ℕ) → length (flat (event_at s xs kind k)) ≡ 11 * bit (starts s h kind k)
  unfolding event_at
  length_at kind k = either (starts s h kind k)
    where
      either : (b : Bool) → length (flat (cond b (event_from s xs kind k ∷ []) [])) ≡ 11 * bit b
      either true = refl
      either false = refl

  below_next : (k : ℕ) → words_below (suc k)
      ≡ ((words_below k ++ flat (event_at s xs Sag k)) ++ flat (event_at s xs Interruption k)) ++ flat (event_at s xs Swell k)
  below_next k =
      flat_append (join (events_at s xs) k) (events_at s xs k)
      ∙ rw (
        flat_append (event_at s xs Sag k ++ event_at s xs Interruption k) (event_at s xs Swell k),
        flat_append (event_at s xs Sag k) (event_at s xs Interruption k),
      )
      (regroup (words_below k) (flat (event_at s xs Sag k)) (flat (event_at s xs Interruption k)) (flat (event_at s xs Swell k)))
    where
      regroup : (e x y z : List ℕ) → e ++ ((x ++ y) ++ z) ≡ ((e ++ x) ++ y) ++ z
      regroup e x y z = simp append_assoc

  module _ (k : ℕ) (p : Pass) (out o₀ : List ℕ) (w : Writing k p out o₀) (room : length (words_below (suc k)) ≤ length o₀) where
    abbrev up : Kind → ℕ
    up kind = bit (starts s h kind k)

    abbrev n₁ : ℕ
    n₁ = p.n + up Sag

    abbrev n₂ : ℕ
    n₂ = p.n + up Sag + up Interruption

    abbrev n₃ : ℕ
    n₃ = p.n + up Sag + up Interruption + up Swell

    abbrev a : Option Pending
    a = (visited s xs Sag k p.sag p.n).pending

    abbrev b : Option Pending
    b = (visited s xs Interruption k p.interruption n₁).pending

    abbrev c : Option Pending
    c = (visited s xs Swell k p.swell n₂).pending

    abbrev out₁ : List ℕ
    out₁ = closes s xs Sag k p.sag out

    abbrev out₂ : List ℕ
    out₂ = closes s xs Interruption k p.interruption out₁

    abbrev out₃ : List ℕ
    out₃ = closes s xs Swell k p.swell out₂

    abbrev E₁ : List ℕ
    E₁ = words_below k ++ flat (event_at s xs Sag k)

    abbrev E₂ : List ℕ
    E₂ = E₁ ++ flat (event_at s xs Interruption k)

    size₁ : length E₁ ≡ 11 * n₁
    size₁ = omega (arith, length-append (words_below k) (flat (event_at s xs Sag k)), length_at Sag k, w.size)

    size₂ : length E₂ ≡ 11 * n₂
    size₂ = omega (arith, length-append E₁ (flat (event_at s xs Interruption k)), length_at Interruption k, size₁)

    size₃ : length (words_below (suc k)) ≡ 11 * n₃
    size₃ =
        ap length (below_next k)
        ∙ omega (arith, length-append E₂ (flat (event_at s xs Swell k)), length_at Swell k, size₂)

    a_low : Slotted a n₁
    a_low = next_low Sag k p.n p.sag w.sag w.sag-low

    b_low : Slotted b n₂
    b_low = next_low Interruption k n₁ p.interruption w.interruption (slotted-more p.interruption p.n n₁ (omega arith) w.interruption-low)

    c_low : Slotted c n₃
    c_low = next_low Swell k n₂ p.swell w.swell (slotted-more p.swell p.n n₂ (omega arith) w.swell-low)

    -- each pair of slots stays different, kind after kind
    a_interruption : Different a p.interruption
    a_interruption = next_apart Sag k p.n p.sag w.sag p.interruption w.sag-interruption w.interruption-low

    a_swell : Different a p.swell
    a_swell = next_apart Sag k p.n p.sag w.sag p.swell (flip p.swell p.sag w.swell-sag) w.swell-low

    b_a : Different b a
    b_a = next_apart Interruption k n₁ p.interruption w.interruption a (flip a p.interruption a_interruption) a_low

    b_swell : Different b p.swell
    b_swell =
        next_apart Interruption k n₁ p.interruption w.interruption p.swell w.interruption-swell (slotted-more p.swell p.n n₁ (omega arith) w.swell-low)

    c_a : Different c a
    c_a = next_apart Swell k n₂ p.swell w.swell a (flip a p.swell a_swell) (slotted-more a n₁ n₂ (omega arith) a_low)

    c_b : Different c b
    c_b = next_apart Swell k n₂ p.swell w.swell b (flip b p.swell b_swell) b_low

    whole₁ : filled Sag a (filled Swell p.swell (filled Interruption p.interruption out₁)) ≡ over E₁ o₀
    whole₁ =
        kind_whole k p.n Swell p.swell Interruption p.interruption Sag p.sag w.sag w.swell-sag
        (flip p.sag p.interruption w.sag-interruption) (words_below k) o₀ out w.size (omega (arith, size₃)) w.whole

    whole₂ : filled Interruption b (filled Sag a (filled Swell p.swell out₂)) ≡ over E₂ o₀
    whole₂ =
        kind_whole k n₁ Sag a Swell p.swell Interruption p.interruption w.interruption a_interruption
        (flip p.interruption p.swell w.interruption-swell) E₁ o₀ out₁ size₁ (omega (arith, size₃)) whole₁

    whole₃ : filled Swell c (filled Interruption b (filled Sag a out₃)) ≡ over (words_below (suc k)) o₀
    whole₃ =
        kind_whole k n₂ Interruption b Sag a Swell p.swell w.swell b_swell a_swell E₂ o₀ out₂ size₂ (omega (arith, size₃)) whole₂
        ∙ ap (λ (e : List ℕ). over e o₀) (sym (below_next k))

    -- THE LAW: a turn of the pass
    pub writing_next : Writing (suc k) (turned s xs k p) (turned_out s xs k p out) o₀
    unfolding turned turned_out visited
    writing_next =
        record {
          known-before = refl;
          few = omega (arith, w.few, bit_le (starts s h Sag k), bit_le (starts s h Interruption k), bit_le (starts s h Swell k));
          same = out-length k p out ∙ w.same;
          size = size₃;
          sag = pend_going p.sag p.n (opens s h Sag (suc k));
          interruption = pend_going p.interruption n₁ (opens s h Interruption (suc k));
          swell = pend_going p.swell n₂ (opens s h Swell (suc k));
          sag-low = slotted-more a n₁ n₃ (omega arith) a_low;
          interruption-low = slotted-more b n₂ n₃ (omega arith) b_low;
          swell-low = c_low;
          sag-interruption = flip b a b_a;
          interruption-swell = flip c b c_b;
          swell-sag = c_a;
          whole = whole₃;
        }

  -- ---- the pass begins with nothing, and half-cycle H, which does not exist, ends what is still going on

  pub writing_start : (o₀ : List ℕ) (p : Pass) → p ≡ start_pass → Writing 0 p o₀ o₀
  unfolding opens
  writing_start o₀ p e =
      rw e (record {
        known-before = refl;
        few = omega arith;
        same = refl;
        size = refl;
        sag = refl;
        interruption = refl;
        swell = refl;
        sag-low = tt;
        interruption-low = tt;
        swell-low = tt;
        sag-interruption = tt;
        interruption-swell = tt;
        swell-sag = tt;
        whole = refl;
      })

  none_past : (kind : Kind) → in_event s h kind (halves_of s xs) ≡ false
  none_past kind = in_past s h (halves_of s xs) (half_past s xs) kind (halves_of s xs) (omega arith)

  starts_none : (kind : Kind) (k : ℕ) → in_event s h kind k ≡ false → event_at s xs kind k ≡ []
  unfolding event_at starts
  starts_none kind k e = rw e

  -- all events start below H
  below_all : words_below (suc (halves_of s xs)) ≡ flat (events_of s xs)
  unfolding events_of
  below_all =
      let n = halves_of s xs in
      below_next n
      ∙ rw (starts_none Sag n (none_past Sag), starts_none Interruption n (none_past Interruption), starts_none Swell n (none_past Swell))
      (simp append-nil)

  fewer_below : (m : ℕ) → m ≤ halves_of s xs → length (words_below m) ≤ length (flat (events_of s xs))
  unfolding events_of
  fewer_below m u =
      let n = halves_of s xs in
      omega (
        arith,
        flat-length (join (events_at s xs) m),
        flat-length (join (events_at s xs) n),
        length-below s xs m,
        length-below s xs n,
        count-more (starts s h Sag) m n u,
        count-more (starts s h Interruption) m n u,
        count-more (starts s h Swell) m n u,
      )

  -- so a turn up to half-cycle H has room for what starts there
  pub below-fits : (k : ℕ) → k ≤ suc (halves_of s xs) → length (words_below k) ≤ length (flat (events_of s xs))
  below-fits k l =
      ⊎_elim (λ e. omega (arith, ap length (ap words_below e ∙ below_all))) (λ m. fewer_below k (omega arith)) (eq-or-lt_of_le l)

  -- turn after turn
  pub writing_turns : (k d : ℕ) (p : Pass) (out o₀ : List ℕ) → Writing k p out o₀ → k + d ≤ suc (halves_of s xs) → length (flat (events_of s xs)) ≤ length o₀
      → Writing (k + d) (turns s xs k d p) (turns_out s xs k d p out) o₀
  unfolding turns turns_out
  writing_turns k zero p out o₀ w u room = rw add-zero w
  writing_turns k (suc d) p out o₀ w u room =
      let e : k + suc d ≡ suc (k + d) = omega arith in
      rw e
      (writing_next (k + d) (turns s xs k d p) (turns_out s xs k d p out) o₀ (writing_turns k d p out o₀ w (omega arith) room)
      (le_trans (below-fits (suc (k + d)) (omega arith)) room))

  -- what a turn asks
  pub writing_ready : (k : ℕ) (p : Pass) (out o₀ : List ℕ) → Writing k p out o₀ → length (words_below k) ≤ length o₀ → ReadyAll s xs k p (length out)
  writing_ready k p out o₀ w room =
      record {
        known-before = w.known-before;
        few = w.few;
        sag = record { state = w.sag; slot = fits p.sag w.sag-low };
        interruption = record { state = w.interruption; slot = fits p.interruption w.interruption-low };
        swell = record { state = w.swell; slot = fits p.swell w.swell-low };
      }
    where
      fits : (q : Option Pending) → Slotted q p.n → IfSome q (λ x. 11 * x.slot + 11 ≤ length out)
      fits q low = IfSome_then q low (λ x l. omega (arith, l, w.size, w.same, room))

  not_waiting : (kind : Kind) (q : Option Pending) (o : List ℕ) → going q ≡ opens s h kind (suc (halves_of s xs)) → filled kind q o ≡ o
  not_waiting kind q o e = rw (none-waits q (e ∙ opens-closed s h kind (halves_of s xs) (none_past kind)))

  pub writing_done : (k : ℕ) (p : Pass) (out o₀ : List ℕ) → k ≡ suc (halves_of s xs) → Writing k p out o₀ → out ≡ over (flat (events_of s xs)) o₀
  writing_done k p out o₀ e w =
      let i = w.sag ∙ ap (opens s h Sag) e in
      let j = w.interruption ∙ ap (opens s h Interruption) e in
      let l = w.swell ∙ ap (opens s h Swell) e in
      sym (
      not_waiting Swell p.swell (filled Interruption p.interruption (filled Sag p.sag out)) l
      ∙ not_waiting Interruption p.interruption (filled Sag p.sag out) j
      ∙ not_waiting Sag p.sag out i)
      ∙ w.whole
      ∙ ap (λ (x : List ℕ). over x o₀) (ap words_below e ∙ below_all)

  -- ---- many turns: what they ask, and where they lead

  module _ (k : ℕ) (p : Pass) (out o₀ : List ℕ) (w : Writing k p out o₀) (room : length (flat (events_of s xs)) ≤ length o₀) where
    pub turns-ready : (d : ℕ) → k + d ≤ halves_of s xs → ReadyAll s xs (k + d) (turns s xs k d p) (length out)
    turns-ready d l =
        subst (ReadyAll s xs (k + d) (turns s xs k d p)) (outs_length k d p out)
        (writing_ready (k + d) (turns s xs k d p) (turns_out s xs k d p out) o₀ (writing_turns k d p out o₀ w (omega arith) room)
        (le_trans (below-fits (k + d) (omega arith)) room))

    pub turns-written : (j : ℕ) → k ≤ j → j ≤ suc (halves_of s xs) → (q : Pass) (o : List ℕ) → q ≡ turns s xs k (j - k) p → o ≡ turns_out s xs k (j - k) p out → Writing j q o o₀
    turns-written j l u q o e f =
        let i : k + (j - k) ≡ j = omega arith in
        rw (e, f) (subst (λ (x : ℕ). Writing x (turns s xs k (j - k) p) (turns_out s xs k (j - k) p out) o₀) i (writing_turns k (j - k) p out o₀ w (omega arith) room))
