-- Two tables added, number by number.
use Rattle.std.specs.Prelude.{Ok, Err, ℕ, ◌+◌, ◌-◌, ◌≤◌, cond, ltb, get_or}
use Rattle.rules.specs.Halves.{of_channel, channels}
use Rattle.rules.specs.Events.{three}
use Rattle.rules.specs.Site.{cells_from, most_halves}
use Rattle.rules.specs.declared.Table.{Table}
use Rattle.rules.specs.declared.Site.{Site as Handed}
use Rattle.rules.specs.declared.Refusal.TheVariants.{Full}

unfoldable pub merged : Table → Table → Table
merged t u =
    record {
      settings = t.settings;
      set = t.set;
      total = t.total + u.total;
      healthy = t.healthy + u.healthy;
      disturbed = t.disturbed + u.disturbed;
      unknown = t.unknown + u.unknown;
      cells = cells_from (λ i. get_or u.cells i 0) t.cells 0;
      unplaced = t.unplaced + u.unplaced;
      sags = t.sags + u.sags;
      interruptions = t.interruptions + u.interruptions;
      swells = t.swells + u.swells;
      shortfall = t.shortfall + u.shortfall;
      parts = channels (λ c. of_channel c t.parts + of_channel c u.parts);
    }

-- sums that fit
pub record Mergeable (t u : Table) : Type 0 where
  pub total-few : t.total + u.total ≤ 4000000
  pub healthy-few : t.healthy + u.healthy ≤ 4000000
  pub disturbed-few : t.disturbed + u.disturbed ≤ 4000000
  pub unknown-few : t.unknown + u.unknown ≤ 4000000
  pub cells-few : (i : ℕ) → get_or t.cells i 0 + get_or u.cells i 0 ≤ 4000000
  pub unplaced-few : t.unplaced + u.unplaced ≤ 4000000
  pub sags-few : t.sags + u.sags ≤ 4000000
  pub interruptions-few : t.interruptions + u.interruptions ≤ 4000000
  pub swells-few : t.swells + u.swells ≤ 4000000
  pub shortfall-low : t.shortfall + u.shortfall ≤ 15360000000000000000
  pub parts_low : three t.parts + three u.parts ≤ 15360000000000000000

-- the table of a recording added to a sound table, where there is room for its half-cycles
pub record Adding (t u : Table) : Type 0 where
  pub total-high : t.total ≤ most_halves
  pub mergeable : t.total + u.total ≤ most_halves → Mergeable t u

unfoldable pub added_to : Table → Table → Handed
added_to t u =
    let full = ltb (most_halves - t.total) u.total in
    record { answer = cond full (Err (Full (most_halves - t.total))) (Ok tt); table = cond full t (merged t u) }
