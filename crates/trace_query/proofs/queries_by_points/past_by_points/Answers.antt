use Rattle.std.proofs.Common.{◌≡◌, ◌+◌, ◌-◌, ◌<◌, true, map, ap, sym, ◌∙◌, is_ok, arith}
use Rattle.trace_types.specs.declared.order.Order.TheVariants.{Before}
use Rattle.trace_query.proofs.Gathered.{ArePlaced, refuted_by, listed_one, listed_none, refused_one}
use Rattle.trace_query.proofs.InOrder.{found_earlier, earlier_many, placed_earlier, earlier_before, decided_earlier}
use Rattle.trace_query.proofs.queries_by_points.past_by_points.Given.{Over}
use Rattle.trace_query.proofs.queries_by_points.past_by_points.Goals.{After-index-earlier-place, then-is_below_later+in_ok-map_err, else-is_below_later}
use Rattle.trace_query.proofs.queries_by_points.past_by_points.Goals as goal

-- what is compared, an earlier event's tree with that of the event
placed : (g : Over) (c : After-index-earlier-place g) → (c.loop-place.place + 1 < c.args.event)
    × ArePlaced g.K.Meant.tree c.args.kept.now c.args.event c.loop-place.place c.index-earlier-place.result c.in_ok-tree.tree.now
placed g c =
    placed_earlier g.K.Meant.tree c.args.kept.now c.args.event c.in_ok-tree.ensures.known c.loop-place.place c.index-earlier-place.result c.in_ok-tree.tree.now
    c.index-earlier-place.is c.in_ok-tree.ensures.tree c.loop-place-test.true

pub loop-place-preserved : goal.loop-place-preserved
loop-place-preserved g c =
    let seen = placed g (goal.at.loop-place-preserved g c).After-index-earlier-place in
    let told = earlier_before seen.1 c.requires.in_order seen.0 c.is_below_later.result c.is_below_later.ensures in
    elim c.if-is_below_later.branch [
      | then-is_below_later+in_ok-map_err w ↦ (
          let ok : is_ok w.push.result ≡ true = sym w.map_err.ensures.variant ∙ ap is_ok w.in_ok-map_err.was in
          rw w.events-is
          (listed_one seen.1 Before c.loop-place.events.items c.loop-place.invariant (told.0 w.if-is_below_later.true)
          w.push.new.self.items (rw ok at w.push.ensures.items))
          )
      | else-is_below_later w ↦
          rw w.events-is
          (listed_none seen.1 Before c.loop-place.events.items c.loop-place.invariant (refuted_by told w.if-is_below_later.false))
    ]

pub returns : goal.returns
returns g c =
    let trees = map g.K.Meant.tree c.args.kept.now in
    let many = earlier_many g.K.Meant.tree c.args.kept.now c.args.event c.in_ok-tree.ensures.known in
    let last : c.loop-place.place ≡ c.args.event - 1 = omega (arith, many, c.loop-place-test.false, c.loop-place.auto.place-end) in
    found_earlier trees c.args.event c.loop-place.place c.loop-place.events c.requires.in_order c.in_ok-tree.ensures.known last c.loop-place.invariant

pub is_below_later-requires-clause-decided : goal.is_below_later-requires-clause-decided
is_below_later-requires-clause-decided g c =
    let seen = placed g (goal.at.is_below_later-requires-clause-decided g c).After-index-earlier-place in
    decided_earlier seen.1 c.args.points.now c.requires.decided seen.0

pub returns-in_err-map_err : goal.returns-in_err-map_err
returns-in_err-map_err g c =
    let seen = placed g (goal.at.returns-in_err-map_err g c).After-index-earlier-place in
    refused_one seen.1 Before ((earlier_before seen.1 c.requires.in_order seen.0 c.is_below_later.result c.is_below_later.ensures).0 c.if-is_below_later.true)
    c.from_residual-in_err-map_err.result c.from_residual-in_err-map_err.ensures.1
