use Rattle.std.proofs.Common.{sym, ◌∙◌, ap, length}
use Rattle.tenant_desk.specs.Histories.{rows_in}
use Rattle.tenant_desk.proofs.Adding.{may_add}
use Rattle.tenant_desk.proofs.row_log.Front.grown.Goals as goal

pub compare_exchange-found-requires : goal.compare_exchange-found-requires
compare_exchange-found-requires c =
    let head = c.requires in
    let seen = c.again-seen.ensures in
    let offer = c.plain-offer.ensures in
    let pen = c.no_pen-pen.ensures in
    let same_book = ap (λ word. word.book) head ∙ ap (λ line. line.log.identity) (sym c.self.view_is) in (
      ap (λ word. word.tracked) head,
      ap (λ found. found.book) seen ∙ sym same_book,
      pen.0 ∙ ap (λ found. found.book) seen ∙ sym same_book,
      offer.0,
      rw (ap (λ word. word.key) head, pen.1, offer.1, offer.3)
          (may_add c.again-seen.result.log c.args.row.now c.self.inside.count (c.self.invariant.0 ∙ sym (ap (λ found. length (rows_in found.log)) seen))),
    )
