use Rattle.std.proofs.Common.{sym, ◌∙◌, arith}
use Rattle.tenant_ledger.proofs.Words.{same_Some, slice_get_within}
use Rattle.tenant_ledger.proofs.keeping.Kept.{event_within, one_place, id_at_event}
use Rattle.tenant_ledger.proofs.book.Book.event_id.Goals as goal

pub place-requires : goal.place-requires
place-requires g c =
    let inside = event_within c.args.self.now c.args.event c.requires.event in
    (inside.0, omega (arith, inside.1, one_place c.args.self.now c.requires.kept))

pub id_at-requires-clause-place : goal.id_at-requires-clause-place
id_at-requires-clause-place g c =
    let inside = event_within c.args.self.now c.args.event c.requires.event in
    slice_get_within _ c.place.result _ (id_at_event c.args.self.now c.requires.kept c.args.event c.place.result inside.0 inside.1 c.place.ensures)

pub returns : goal.returns
returns g c =
    let inside = event_within c.args.self.now c.args.event c.requires.event in
    same_Some _ _ (sym c.id_at.ensures ∙ id_at_event c.args.self.now c.requires.kept c.args.event c.place.result inside.0 inside.1 c.place.ensures)
