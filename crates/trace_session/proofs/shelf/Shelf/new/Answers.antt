use Rattle.std.proofs.Common.{◌≡◌, List, [], ◌∷◌, ◌++◌, Some, ap, sym, subst, ◌∙◌}
use Rattle.std.specs.Prelude.{Option}
use Rattle.atomic_table.specs.Table.{opening}
use Rattle.trace_session.proofs.Shelves.{begins}
use Rattle.trace_session.proofs.Soundness.{whole_belongs}
use Rattle.trace_session.specs.Resting.{Rests}
use Rattle.trace_session.specs.Shelves.{KeepsFor}
use Rattle.trace_session.proofs.shelf.Shelf.new.Goals as goal

pub new-requires : goal.new-requires
new-requires c =
    let owner = c.args.owner.now in
    let items : c.push_reserved.new.self.items ≡ Some c.args.resting ∷ [] = c.push_reserved.ensures.items ∙ ap (λ (front : List (Option Rests)). front ++ Some c.args.resting ∷ []) c.in-Ok.ensures.items in
    subst (λ (slots : List (Option Rests)). KeepsFor owner (opening (0 ∷ []) slots owner)) (sym items) (begins owner c.args.resting (whole_belongs owner c.args.resting c.requires))
