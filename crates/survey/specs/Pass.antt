-- The pass over a recording that a site table takes, as the code runs it; proofs/ ties it to the rules.
use Rattle.std.specs.Prelude.{ℕ, suc, ◌*◌, ◌≤◌, ◌≡◌, List}
use Rattle.rules.specs.Halves.{begin, half_at, halves_of}
use Rattle.rules.specs.Events.{three}
use Rattle.rules.specs.Borders.{borders_of}
use Rattle.rules.specs.declared.Settings.{Settings}
use Rattle.rules.specs.declared.Table.{Table}
use Rattle.checks.specs.Flags.{RangedBelow, as_read}
use Rattle.halves.specs.Steps.{step_at}
use Rattle.halves.specs.declared.Recording.{Recording}
use Rattle.ledger.specs.State.{survey_at, cells_at}
use Rattle.ledger.specs.declared.Landed.{Landed}
use Rattle.ledger.specs.declared.Survey.{Survey}
use Rattle.survey.specs.declared.Surveyed.{Surveyed}

-- ---- the quiet half-cycles and the next

-- all samples before step k are in range
abbrev pub Clear : Recording → ℕ → Type 0
Clear r k = RangedBelow r.samples.now (3 * begin r.settings k)

-- the pass stands before half-cycle k: of the recording as it is read the survey and the cells are those of k, the step is k's first, and
-- all samples up to it are in range
pub record Reached (r : Recording) (set : ℕ) (on : Surveyed) (cs : List ℕ) : Type 0 where
  pub high : on.k ≤ r.halves
  pub state : on.survey ≡ survey_at r.settings (half_at r.settings (as_read r.samples.now)) (halves_of r.settings (as_read r.samples.now)) on.k
  pub cells_are : cs ≡ cells_at r.settings (borders_of r.settings set) (half_at r.settings (as_read r.samples.now)) (halves_of r.settings (as_read r.samples.now)) on.k
  pub step_is : on.step ≡ step_at r.settings r.samples.now on.k
  pub every_in_range : Clear r (suc on.k)

-- ---- the whole recording

-- the table of the numbers counted
abbrev pub table_with : Settings → (set halves : ℕ) → Survey → Landed → List ℕ → Table
table_with s set halves p d cs =
    record {
      settings = s;
      set = set;
      total = halves;
      healthy = p.classes.healthy;
      disturbed = p.classes.disturbed;
      unknown = p.classes.unknown;
      cells = cs;
      unplaced = d.unplaced;
      sags = p.starts.sags;
      interruptions = p.starts.interruptions;
      swells = p.starts.swells;
      shortfall = three d.parts;
      parts = d.parts;
    }
