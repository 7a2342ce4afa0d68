use Rattle.std.proofs.Common.{◌≡◌, ◌-◌, ◌<◌, true, map, length, ap, sym, ◌∙◌, is_ok, arith}
use Rattle.std.proofs.lemmas.List.{length-map}
use Rattle.trace_query.proofs.Gathered.{ArePlaced, refuted_by}
use Rattle.trace_query.proofs.InOrder.{decided_earlier}
use Rattle.trace_query.proofs.Listed.{event_bounds}
use Rattle.trace_query.proofs.LastEvents.{refused, IsInside, inside, gathered_itself, passed_marked, passed_apart, listed_one, under_place, gathered_all}
use Rattle.trace_query.proofs.queries_by_points.cut_by_points.Given.{Over}
use Rattle.trace_query.proofs.queries_by_points.cut_by_points.Goals.{After-index, After-index-kept-place, else-not-index-via-then-not-index+else-is_below_later, else-not-index-via-else-not-index}
use Rattle.trace_query.proofs.queries_by_points.cut_by_points.Goals as goal

-- the place is that of an earlier event, and the marks have its task
seen : (g : Over) (c : After-index g) → (c.loop-place.place < c.args.event)
    × IsInside (map g.K.Meant.tree c.args.kept.now) c.args.tasks.now c.loop-place.place (length c.loop-place.is_listed.items)
seen g c =
    let bounds = event_bounds (map g.K.Meant.tree c.args.kept.now) c.args.event c.in_ok-tree.ensures.known in
    let earlier : c.loop-place.place < c.args.event = omega (arith, bounds.0) in (
      earlier,
      inside (map g.K.Meant.tree c.args.kept.now) c.args.tasks.now c.loop-place.place (length c.loop-place.is_listed.items) c.requires.earlier
          (c.requires.tasks ∙ sym (length-map c.args.kept.now g.K.Meant.tree)) (omega arith)
          (omega (arith, earlier, c.loop-place.invariant.0, c.loop-place.is_listed.ok.0)) (omega (arith, earlier, bounds.1)),
    )

-- what is compared
placed : (g : Over) (c : After-index-kept-place g)
    → ArePlaced g.K.Meant.tree c.args.kept.now c.args.event (c.loop-place.place - 1) c.index-kept-place.result c.in_ok-tree.tree.now
placed g c =
    record {
      other_is = c.index-kept-place.is;
      one_is = c.in_ok-tree.ensures.tree;
      within = omega (arith, (seen g (goal.at.After-index-kept-place g c).After-index).1.listed, length-map c.args.kept.now g.K.Meant.tree);
      event_is = c.in_ok-tree.ensures.known;
    }

pub returns-in_err-is_listed : goal.returns-in_err-is_listed
returns-in_err-is_listed g c =
    refused (map g.K.Meant.tree c.args.kept.now) c.args.tasks.now c.args.event c.in_ok-tree.ensures.known c.from_residual-in_err-is_listed.result
    c.from_residual-in_err-is_listed.ensures.1

pub returns-in_err-map_err : goal.returns-in_err-map_err
returns-in_err-map_err g c =
    refused (map g.K.Meant.tree c.args.kept.now) c.args.tasks.now c.args.event c.in_ok-tree.ensures.known c.from_residual-in_err-map_err.result
    c.from_residual-in_err-map_err.ensures.1

pub returns-in_err-map_err-2 : goal.returns-in_err-map_err-2
returns-in_err-map_err-2 g c =
    refused (map g.K.Meant.tree c.args.kept.now) c.args.tasks.now c.args.event c.in_ok-tree.ensures.known c.from_residual-in_err-map_err-2.result
    c.from_residual-in_err-map_err-2.ensures.1

pub loop-place-init : goal.loop-place-init
loop-place-init g c =
    let trees = map g.K.Meant.tree c.args.kept.now in
    let ok : is_ok c.push.result ≡ true = sym c.map_err.ensures.variant ∙ ap is_ok c.in_ok-map_err.was in (
      c.in_ok-is_listed.ensures.len,
      gathered_itself trees c.args.tasks.now c.args.event c.requires.in_order c.in_ok-tree.ensures.known c.requires.earlier
          (c.requires.tasks ∙ sym (length-map c.args.kept.now g.K.Meant.tree))
          c.in_ok-is_listed.is_listed.items c.in_ok-is_listed.ensures.none c.new-events.result.items c.push.new.self.items c.new-events.ensures.items (rw ok at c.push.ensures.items),
    )

pub is_below_later-requires-clause-decided : goal.is_below_later-requires-clause-decided
is_below_later-requires-clause-decided g c =
    let at = goal.at.is_below_later-requires-clause-decided g c in
    decided_earlier (placed g at.After-index-kept-place) c.args.points.now c.requires.decided (omega (arith, (seen g at.After-index).0))

pub loop-place-preserved-then-is_below_later : goal.loop-place-preserved-then-is_below_later
loop-place-preserved-then-is_below_later g c =
    let at = goal.at.loop-place-preserved-then-is_below_later g c in
    let there = (seen g at.After-index).1 in
    let ok : is_ok c.push-then-is_below_later.result ≡ true = sym c.map_err-then-is_below_later.ensures.variant ∙ ap is_ok c.in_ok-map_err-2.was in (
      c.loop-place.invariant.0,
      listed_one there.listed there.behind_is c.loop-place.invariant.1 c.index.result.now (sym c.index.ensures ∙ c.if-not-index.true) there.room
          ((under_place (placed g at.After-index-kept-place)).0 (c.is_below_later.ensures.0 c.if-is_below_later.true))
          c.push-then-is_below_later.new.self.items (rw ok at c.push-then-is_below_later.ensures.items),
    )

pub loop-place-preserved : goal.loop-place-preserved
loop-place-preserved g c =
    let there = (seen g (goal.at.loop-place-preserved g c).After-index).1 in (
      c.loop-place.invariant.0,
      elim c.else-not-index.branch [
        | else-not-index-via-then-not-index+else-is_below_later w ↦ (
            let other : ArePlaced g.K.Meant.tree c.args.kept.now c.args.event (c.loop-place.place - 1) w.index-kept-place.result c.in_ok-tree.tree.now =
            record { other_is = w.index-kept-place.is; one_is = c.in_ok-tree.ensures.tree; within = omega (arith, there.listed, length-map c.args.kept.now g.K.Meant.tree); event_is = c.in_ok-tree.ensures.known } in
            passed_apart there.listed there.behind_is c.loop-place.invariant.1 (λ below. refuted_by w.is_below_later.ensures w.if-is_below_later.false ((under_place other).1 below))
            )
        | else-not-index-via-else-not-index w ↦ passed_marked there.listed there.behind_is c.loop-place.invariant.1 c.index.result.now (sym c.index.ensures ∙ w.if-not-index.false) there.room
      ],
    )

pub returns : goal.returns
returns g c =
    gathered_all (map g.K.Meant.tree c.args.kept.now) c.args.tasks.now c.args.event c.loop-place.place c.loop-place.is_listed.items c.loop-place.events.items c.reverse.new.self
    c.in_ok-tree.ensures.known (omega arith) c.loop-place.invariant.1 c.reverse.ensures.items
