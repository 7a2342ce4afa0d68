use Rattle.std.proofs.Common.{◌≡◌, [], None, arith, subst, sym, ◌∙◌}
use Rattle.atomic_table.specs.Table.{Allows}
use Rattle.trace_session.proofs.Shelves.{has_slot, put_down}
use Rattle.trace_session.specs.Shelves.{KeepsFor}
use Rattle.trace_session.proofs.shelf.Shelf.put.Goals as goal

pub exchange-before-requires : goal.exchange-before-requires
exchange-before-requires c = (c.requires.turn.0, (None, has_slot c.args.turn.me None c.requires.turn.1))

pub swap-found-requires : goal.swap-found-requires
swap-found-requires c =
    let key = c.args.self.now.table.shared.key in
    let seat = c.exchange-before.new.seat in (
      c.exchange-before.ensures.0 ∙ c.requires.turn.0,
      omega (arith, c.args.self.now.words),
      subst (λ slots. Allows (KeepsFor key) slots seat.id seat.me 0 (λ found. 0) (λ found after. after.1 ≡ [])) (sym c.args.self.now.slots)
          (put_down key c.args.turn.me.0 seat.id c.args.turn.me seat.me c.args.resting c.requires.turn.1 c.exchange-before.ensures.3 c.requires.rests),
    )
