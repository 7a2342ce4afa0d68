use Rattle.std.proofs.Common.{ap, ◌∙◌}
use Rattle.tenant_ledger.proofs.Words.{split, sum}
use Rattle.tenant_ledger.specs.declared.book.ids.Ids.TheVariants as ids
use Rattle.tenant_ledger.proofs.keeping.Report.{joined_place, joined_is, disjoint}
use Rattle.tenant_ledger.proofs.book.Book.ids_made.Goals as goal

pub id-requires-clause-place : goal.id-requires-clause-place
id-requires-clause-place g c = joined_place c.requires.book c.requires.report c.in-Join.is

pub sum-requires : goal.sum-requires
sum-requires g c =
    disjoint c.requires.book c.requires.report c.in-Join.is c.requires.own
    (c.as_tree.ensures ∙ joined_is c.requires.book c.requires.report c.in-Join.is c.in_ok-joined-in-Join.ensures)

pub returns-in_ok-kept-in-Spawn : goal.returns-in_ok-kept-in-Spawn
returns-in_ok-kept-in-Spawn g c =
    let parts = c.in_ok-kept-in-Spawn.ensures.exact ∙ ap split c.requires.own in
    rw c.in-Spawn.is (λ i. ids.Split (parts i).0 (parts i).1)

pub returns-in_ok-sum-in-Join : goal.returns-in_ok-sum-in-Join
returns-in_ok-sum-in-Join g c =
    let acts = c.requires.own in
    let taken = c.as_tree.ensures ∙ joined_is c.requires.book c.requires.report c.in-Join.is c.in_ok-joined-in-Join.ensures in
    rw c.in-Join.is (ap ids.Sum (c.in_ok-sum-in-Join.ensures.exact ∙ (λ i. sum (acts i) (taken i))))
