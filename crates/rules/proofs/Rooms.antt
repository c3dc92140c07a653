-- A call that writes into a lent run, whatever it writes: its checks accept or refuse exactly if the table of refusals says so, and its
-- answer says which. Assumes nothing.
use Rattle.std.specs.Prelude.{Result, Ok, Err, ⊤}
use Prim.Native.Nat.{ℕ, ◌*◌, ◌≤◌, ◌<◌}
use mathlib.Core.Path.{◌≡◌, refl, sym, ap}
use mathlib.Core.Bool.{Bool, true, false}
use mathlib.Core.List.{List}
use mathlib.Core.Logic.{◌↔◌, ◌⊎◌, inl, inr}
use borrow.Author.Tests.{lt-ltb, le-ltb}
use lib.IntN.{ℤ}
use Rattle.rules.specs.Recorder.{bad_setting, settings_good}
use Rattle.rules.specs.Refusals.{recording_check, by_check, and_then, settings_check, room_for}
use Rattle.rules.specs.Meanings.{Checked}
use Rattle.rules.specs.declared.Settings.{Settings}
use Rattle.rules.specs.declared.Refusal.{Refusal}
use Rattle.rules.specs.declared.Refusal.TheVariants.{Setting}
use Rattle.rules.proofs.Choices.{lower}
use Rattle.rules.proofs.Refusals.{settings_by, recording_check_is}

-- ---- a call that writes n things, of so many numbers each

module _ (s : Settings) (xs : List ℤ) (size n room : ℕ) where
  abbrev answer_of : Result ⊤ Refusal
  answer_of = and_then (settings_check s) (and_then (recording_check s xs) (room_for size n room))

  -- what it answers: by the settings, by the recording, by the room
  by_room : settings_good s ≡ true → recording_check s xs ≡ Ok tt → answer_of ≡ room_for size n room
  by_room g c = rw (settings_by s true g, c)

  by_recording : (r : Refusal) → settings_good s ≡ true → recording_check s xs ≡ Err r → answer_of ≡ Err r
  by_recording r g c = rw (settings_by s true g, c)

  by_settings : settings_good s ≡ false → answer_of ≡ Err (Setting (bad_setting s))
  by_settings g = rw (settings_by s false g)

  with_room : settings_good s ≡ true → recording_check s xs ≡ Ok tt → (room < size * n) ⊎ (size * n ≤ room) → Checked s xs size n room answer_of
  with_room g c (inl l) = rw (by_room g c, lt-ltb room (size * n) l) (inr (inr (g, (recording_check_is s g xs (Ok tt)).0 c, refl, l)))
  with_room g c (inr l) = rw (by_room g c, le-ltb room (size * n) l) (g, (recording_check_is s g xs (Ok tt)).0 c, l)

  with_recording : settings_good s ≡ true → (t : Result ⊤ Refusal) → recording_check s xs ≡ t → Checked s xs size n room answer_of
  with_recording g (Ok _) c = with_room g c (lower room (size * n))
  with_recording g (Err r) c = rw (by_recording r g c) (inr (inl (g, (recording_check_is s g xs (Err r)).0 c)))

  with_settings : (b : Bool) → settings_good s ≡ b → Checked s xs size n room answer_of
  with_settings true g = with_recording g (recording_check s xs) refl
  with_settings false g = rw (by_settings g) (inl (g, refl))

  checked : (t : Result ⊤ Refusal) → Checked s xs size n room t → answer_of ≡ t
  checked (Ok _) w = rw (by_room w.0 ((recording_check_is s w.0 xs (Ok tt)).1 w.1), le-ltb room (size * n) w.2)
  checked (Err r) (inl w) = rw (by_settings w.0, w.1)
  checked (Err r) (inr (inl w)) = by_recording r w.0 ((recording_check_is s w.0 xs (Err r)).1 w.1)
  checked (Err r) (inr (inr w)) =
      rw (by_room w.0 ((recording_check_is s w.0 xs (Ok tt)).1 w.1), lt-ltb room (size * n) w.3, w.2)

  -- THE LAW: such a call accepts or refuses exactly if the table says so
  pub checks_are : (t : Result ⊤ Refusal) → (answer_of ≡ t) ↔ Checked s xs size n room t
  checks_are t = (λ e. rw e at (with_settings (settings_good s) refl), checked t)

-- ---- an answer and its check, over any two words of the answer: so many, and turned away

module _ {A : Type 0} (many : ℕ → A) (turned : Refusal → A)
    (apart : (n : ℕ) (r : Refusal) → many n ≡ turned r → ⊥) (same-many : (m n : ℕ) → many m ≡ many n → m ≡ n) (same-turned : (q r : Refusal) → turned q ≡ turned r → q ≡ r) where
  pub so_many : (c : Result ⊤ Refusal) (m n : ℕ) → by_check c (many m) turned ≡ many n → (c ≡ Ok tt) × (m ≡ n)
  so_many (Ok _) m n h = (refl, same-many m n h)
  so_many (Err r) m n h = absurd (apart n r (sym h))

  pub turned_away_lem : (c : Result ⊤ Refusal) (m : ℕ) (r : Refusal) → by_check c (many m) turned ≡ turned r → c ≡ Err r
  turned_away_lem (Ok _) m r h = absurd (apart m r h)
  turned_away_lem (Err q) m r h = ap Err (same-turned q r h)
