use Rattle.stamp_codec.proofs.Bounded.{spells_something}
use Rattle.stamp_codec.proofs.first_fault.first_fault.Goals as goal

pub unreachable-requires : goal.unreachable-requires
unreachable-requires c =
    let shaped = c.requires.shaped in
    let none = rw c.in-Ok-None.field-0-is at (c.in-Ok-None.ensures shaped.0 shaped.1 shaped.2) in
    spells_something c.args.text.now shaped.0 shaped.1 (record { within = record { spells = shaped.2; bounded = none.0 }; normal = none.1 }) c.requires.refused
