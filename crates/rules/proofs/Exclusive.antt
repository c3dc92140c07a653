-- No half-cycle both begins and ends an event of a kind, whatever the settings, and where an event ends none of its kind starts.
-- Assumes nothing.
use Rattle.std.specs.Prelude.{None}
use Prim.Native.Nat.{ℕ, ◌≤◌}
use mathlib.Core.Path.{◌≡◌}
use mathlib.Core.Bool.{true, false}
use mathlib.Core.Logic.{⊎_elim}
use Rattle.rules.specs.Events.{begins_by, ends_by, starts, end_of}
use Rattle.rules.specs.declared.Settings.{Settings}
use Rattle.rules.specs.declared.Sums.{Sums}
use Rattle.rules.specs.Halves.{Half}
use Rattle.rules.specs.declared.Kind.{Kind}
use Rattle.rules.proofs.Booleans.{cases}
use Rattle.rules.proofs.Channels.{begins_is, ends_is, not_at_once}
use Rattle.rules.proofs.Longest.{outside-after}

-- THE LAW: what begins an event of a kind does not end one
pub begins_not_ends : (s : Settings) (kind : Kind) (v : Sums) → begins_by s kind v ≡ true → ends_by s kind v ≡ false
begins_not_ends s kind v b =
    ⊎_elim (λ e. absurd (not_at_once s kind v ((begins_is s kind v).0 b) ((ends_is s kind v).0 e))) (λ e. e) (cases (ends_by s kind v))

-- THE LAW: where an event ends, its end seen or not, no event of its kind starts
pub none_starts_at_end : (s : Settings) (h : ℕ → Half) (n : ℕ) → ((k : ℕ) → n ≤ k → h k ≡ None) → (kind : Kind) (a : ℕ)
    → starts s h kind a ≡ true → starts s h kind (end_of s h n kind a) ≡ false
unfolding starts
none_starts_at_end s h n past kind a e = rw (outside-after s h n past kind a e)
