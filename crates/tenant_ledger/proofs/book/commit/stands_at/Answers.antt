use Rattle.std.proofs.Common.{Some, sym, ap, ◌∙◌}
use Rattle.tenant_ledger.proofs.Words.{is_same_iff}
use Rattle.tenant_ledger.proofs.book.commit.stands_at.Goals as goal

pub returns-in-Some : goal.returns-in-Some
returns-in-Some g c is = (
  c.in-Some.field-0-1.now,
  sym c.in-Some.ensures.entry ∙ ap (λ name. Some (name, c.in-Some.field-0-1.now)) ((is_same_iff c.in-Some.there.now c.args.name.now).0 (sym c.eq.ensures ∙ is)),
)
