use Rattle.std.proofs.Common.{◌≡◌, ◌+◌, ◌∙◌, suc, length, ap, subst, arith, Vec, Global}
use Rattle.trace_export.specs.Edges.{listed_tree}
use Rattle.trace_export.specs.Raised.{IsPointOf}
use Rattle.trace_export.specs.declared.placed.Placed.{Placed}
use Rattle.trace_export.proofs.RaisedPoints.{points_put, with_points}
use Rattle.trace_export.proofs.graph.Graph.find_hints.Goals as goal

pub loop-place-preserved : goal.loop-place-preserved
loop-place-preserved c =
    let old = c.loop-place.invariant.graph in
    let placing = c.loop-place.self.placed.items in
    let next : c.loop-place.place + 1 ≡ suc c.loop-place.place = omega arith in
    let tree = ap (λ (found : Placed). found.tree) c.at-placed.ensures ∙ ap (listed_tree placing) next in
    record {
      placed = c.loop-place.invariant.placed;
      reaching = c.loop-place.invariant.reaching;
      graph = with_points c.loop-place.self c.put.new.self old
          (points_put c.loop-place.self.hints.points.items c.put.new.self.points.items placing c.loop-place.place c.first_hints-sides.result.1 old.points (omega (arith, c.loop-place-test.true, c.len-place-end.ensures, ap (λ (placed : Vec Placed Global). length placed.items) c.loop-place.invariant.placed)) (subst (IsPointOf c.first_hints-sides.result.1) tree c.first_hints-sides.ensures) c.put.ensures.points);
      given_back = λ before. c.put.ensures.given_back (c.loop-place.invariant.given_back before);
    }
