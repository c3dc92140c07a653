-- What the callees hand back makes the event, and its shortfall is what the channels' make up. Assumes nothing.
use mathlib.Core.Path.{◌≡◌, refl}
use Rattle.rules.specs.Halves.{of_channel, channels}
use Rattle.rules.specs.Events.{three}
use Rattle.rules.specs.EventList.{of_sag}
use Rattle.rules.specs.declared.Sums.{Sums}
use Rattle.rules.specs.declared.Kind.{Kind}
use Rattle.rules.specs.declared.Kind.TheVariants.{Sag, Interruption, Swell}
use Rattle.kinds.specs.Machine.{finished_by}
use Rattle.ended.proofs.finish.Goals as goal

made_up : (kind : Kind) (v : Sums) → three (channels (λ c. of_sag kind (of_channel c v))) ≡ of_sag kind (three v)
made_up Sag v = refl
made_up Interruption v = refl
made_up Swell v = refl

pub returns : goal.returns
unfolding finished_by
returns c =
    rw (
      c.parts_of-parts.ensures,
      made_up c.args.kind c.args.o.short,
      c.number_of.ensures,
      c.seen_number.ensures,
      c.retained.ensures,
      c.class_of.ensures,
    )
