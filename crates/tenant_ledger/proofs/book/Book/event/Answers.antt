use Rattle.std.proofs.Common.{◌≡◌, suc, ◌+◌, length, ◌∙◌, arith}
use Rattle.tenant_ledger.specs.Events.{acting_after, named_after}
use Rattle.tenant_ledger.proofs.Words.{length-reverse, history_in}
use Rattle.tenant_ledger.proofs.book.Book.event.Goals as goal

pub returns-clause-event : goal.returns-clause-event
returns-clause-event g c =
    let book = c.args.self.now in
    let report = c.args.report.now in
    let number : c.event_count-event.result + 1 ≡ suc (length (history_in book)) = omega (arith, c.event_count-event.ensures, length-reverse book.rows) in
    λ i. record {
      home = c.requires.made.home i;
      row = c.row_after-row.ensures i;
      tree = c.requires.made.tree i;
      point = c.args.made.point;
      ids = c.requires.made.ids i;
      acting = (c.left-after.ensures.acting ∙ (λ i. acting_after report.deed (number i) (c.id_count.ensures.count i) report.acting)) i;
      named = (c.left-after.ensures.named ∙ (λ i. named_after report.deed (number i) (c.id_count.ensures.count i))) i;
    }
