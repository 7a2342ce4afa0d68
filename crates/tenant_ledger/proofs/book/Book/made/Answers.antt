use Rattle.std.proofs.Common.{◌∙◌}
use Rattle.tenant_ledger.proofs.Words.{id_for, kind_of}
use Rattle.tenant_ledger.proofs.keeping.Report.{acting_of_made, own_place, own_is}
use Rattle.tenant_ledger.proofs.book.Book.made.Goals as goal

pub id-requires-clause-place : goal.id-requires-clause-place
id-requires-clause-place g c = own_place c.requires.book c.requires.report

pub ids_made-requires-clause-own : goal.ids_made-requires-clause-own
ids_made-requires-clause-own g c = c.as_tree-own.ensures ∙ own_is c.requires.book c.requires.report c.in_ok-held.ensures

pub tree_after-requires-clause-id : goal.tree_after-requires-clause-id
tree_after-requires-clause-id g c =
    let own = c.as_tree-own.ensures ∙ own_is c.requires.book c.requires.report c.in_ok-held.ensures in
    c.acting-id.ensures ∙ (λ i. id_for (c.in_ok-ids.ensures i) (own i)) ∙ acting_of_made (kind_of c.args.report.now.deed) _ _
