use Rattle.std.proofs.Common.{Some, arith}
use Rattle.trace_session.proofs.Shelves.{has_slot, taken}
use Rattle.trace_session.proofs.shelf.Shelf.take_at_once.Goals as goal

pub swap_new_seat-found-requires : goal.swap_new_seat-found-requires
swap_new_seat-found-requires c = (omega (arith, c.args.self.now.words), taken c.args.self.now.table.shared.key c.args.self.now.table.shared.table_id.slots c.args.word c.requires)

pub exchange-requires : goal.exchange-requires
exchange-requires c =
    let has = c.swap_new_seat-found.ensures.1.0 c.if-found-ne-THERE.false in
    (c.swap_new_seat-found.ensures.0, (Some has.0, has_slot c.swap_new_seat-found.result.1.me (Some has.0) has.1))
