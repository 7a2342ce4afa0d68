use Rattle.std.proofs.Common.{◌≡◌, ◌+◌, ℕ, suc, length, arith, subst}
use Rattle.trace_export.specs.Edges.{Placing}
use Rattle.trace_export.specs.Listing.{Listed, listed_of}
use Rattle.trace_export.specs.Verdict.{ComesNext, IsPlacedAs}
use Rattle.trace_export.specs.declared.placed.Placed.{Placed}
use Rattle.trace_export.proofs.graph.Graph.add_listed.Goals as goal

-- the event of the next number comes next
comes_next : (earlier : Placing) (count : ℕ) (listed : Listed) (placed : Placed) → count ≡ length earlier → IsPlacedAs (count + 1) listed placed → ComesNext earlier listed placed
comes_next earlier count listed placed all known =
    let number : count + 1 ≡ suc (length earlier) = omega (arith, all) in
    subst (λ event. IsPlacedAs event listed placed) number known

pub returns-then-branch-clause-right : goal.returns-then-branch-clause-right
returns-then-branch-clause-right c =
    let known = rw c.in-Ok.is at c.in_ok-reason.ensures.placed in (
      c.in-Ok.placed,
      comes_next c.args.self.now.placed.items c.len.result (listed_of c.args.listed.now) c.in-Ok.placed c.len.ensures known,
      c.in_ok-add-in-Ok.ensures.ordered c.if-branch.true,
      (c.in_ok-add-in-Ok.ensures.added c.if-branch.true).0,
      (c.in_ok-add-in-Ok.ensures.added c.if-branch.true).1,
    )

pub returns-else-branch-clause-refused : goal.returns-else-branch-clause-refused
returns-else-branch-clause-refused c =
    let known = rw c.in-Ok.is at c.in_ok-reason.ensures.placed in
    let comes = comes_next c.args.self.now.placed.items c.len.result (listed_of c.args.listed.now) c.in-Ok.placed c.len.ensures known in
    ((c.in-Ok.placed, comes, c.in_ok-add-in-Ok.ensures.refuted c.if-branch.false), c.in_ok-add-in-Ok.ensures.same c.if-branch.false)
