use Rattle.std.proofs.Common.{◌∙◌}
use Rattle.tenant_ledger.proofs.Words.{increasing}
use Rattle.tenant_ledger.proofs.keeping.Report.{acting_last, second_is}
use Rattle.tenant_ledger.proofs.book.Book.row_after.Goals as goal

pub returns : goal.returns
returns g c =
    let second = c.second.ensures ∙ second_is c.requires.book c.requires.report in
    λ i. record {
      task = c.args.report.now.task;
      kind = c.kind.ensures i;
      name = c.name.ensures i;
      preds = (c.increasing.ensures ∙ (λ j. increasing (acting_last c.requires.book c.requires.report j) (second j))) i;
    }
