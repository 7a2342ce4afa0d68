use Rattle.std.proofs.Common.{ap, ◌∙◌}
use Rattle.std.proofs.Math.Seq.{map-set_same}
use Rattle.tenant_ledger.proofs.book.packing.retire_in.Goals as goal

pub returns-in-Some-clause-ids : goal.returns-in-Some-clause-ids
returns-in-Some-clause-ids g c =
    map-set_same g.I.KeptId.id c.args.ids.now.items c.args.place c.retire.new.self c.in-Some.id.now (c.retire.ensures ∙ ap g.I.KeptId.id c.in-Some.ensures.value)
