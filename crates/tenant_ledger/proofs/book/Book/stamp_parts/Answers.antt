use Rattle.std.proofs.Common.{arith}
use Rattle.tenant_ledger.proofs.Words.{tenant_of}
use Rattle.tenant_ledger.proofs.keeping.Answered.{as_many_kept, kept_in_place}
use Rattle.tenant_ledger.proofs.book.Book.stamp_parts.Goals as goal

pub offset_bounds-trees-place : goal.offset_bounds-trees-place
offset_bounds-trees-place g c =
    omega (arith, c.in_ok-place.ensures.place.1, as_many_kept g.S.Kept.Meant.tree (tenant_of c.args.self.now) c.trees.result.now c.trees.ensures.trees)

pub bounds-trees-place : goal.bounds-trees-place
bounds-trees-place g c =
    omega (arith, c.in_ok-place.ensures.place.1, as_many_kept g.S.Kept.Meant.tree (tenant_of c.args.self.now) c.trees.result.now c.trees.ensures.trees)

pub returns-clause-tree : goal.returns-clause-tree
returns-clause-tree g c =
    let place = c.in_ok-place.ensures.place in
    kept_in_place g.S.Kept.Meant.tree (tenant_of c.args.self.now) c.trees.result.now c.trees.ensures.trees c.args.event c.in_ok-place.place c.index-trees-place.result place.0 place.1 c.index-trees-place.is
