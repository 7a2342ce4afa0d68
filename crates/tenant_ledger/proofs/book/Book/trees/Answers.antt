use Rattle.std.proofs.Common.{◌≡◌, All, sym, subst}
use Rattle.tenant_ledger.proofs.Words.{Contents}
use Rattle.tenant_ledger.proofs.keeping.Lists.{unmapped}
use Rattle.tenant_ledger.proofs.book.Book.trees.Goals as goal

pub returns-clause-kept : goal.returns-clause-kept
returns-clause-kept g c =
    let home_of = g.S.Keep.home_of in
    let home = c.args.self.now.home in
    let homes = subst (λ (book : Contents). All (λ one. one ≡ home) book.homes) (sym c.self.view_is) c.requires.homes in
    subst (All (λ kept. home_of kept ≡ home)) (sym c.deref.ensures.value) (unmapped home_of (λ one. one ≡ home) c.self.inside.trees.items homes)
