-- Borders as the code has them.
use Rattle.std.specs.Prelude.{ℕ, ◌+◌, ◌*◌, List, map}
use Rattle.rules.specs.Borders as rules
use Rattle.borders.specs.declared.Border.{Border}
use Rattle.borders.specs.declared.Borders.{Borders}

-- borders of columns at frequency f, in fifths of a half-cycle
abbrev pub at_frequency : ℕ → List Border → List ℕ
at_frequency f = map (λ b. b.fifths + b.times * f)

-- a set's borders at frequency f, in the rules' record
abbrev pub lists_at : ℕ → Borders → rules.Borders
lists_at f b = record { rows = b.rows.now; columns = at_frequency f b.columns.now }
