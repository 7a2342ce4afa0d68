use Rattle.std.proofs.Common.{◌≡◌, ◌-◌, true, map, length, ap, sym, ◌∙◌, is_ok, arith}
use Rattle.std.proofs.lemmas.List.{length-map}
use Rattle.trace_query.proofs.Gathered.{ArePlaced, refuted_by}
use Rattle.trace_query.proofs.LastEvents.{refused, IsInside, inside, gathered_none, passed_marked, passed_apart, listed_one, under_place, gathered_all}
use Rattle.trace_query.proofs.queries.cut.Given.{Over}
use Rattle.trace_query.proofs.queries.cut.Goals.{After-index, else-not-index-via-then-not-index+else-is_below, else-not-index-via-else-not-index}
use Rattle.trace_query.proofs.queries.cut.Goals as goal

-- the place is there, and the marks have the task of its event
seen : (g : Over) (c : After-index g) → IsInside (map g.K.Meant.tree c.args.kept.now) c.args.tasks.now c.loop-place.place (length c.loop-place.is_listed.items)
seen g c =
    let all = length-map c.args.kept.now g.K.Meant.tree in
    inside (map g.K.Meant.tree c.args.kept.now) c.args.tasks.now c.loop-place.place (length c.loop-place.is_listed.items) c.requires.earlier (c.requires.tasks ∙ sym all) (omega arith)
    (omega (arith, c.loop-place.invariant.0, c.loop-place.is_listed.ok.0)) (omega (arith, all))

pub returns-in_err-is_listed : goal.returns-in_err-is_listed
returns-in_err-is_listed g c =
    refused (map g.K.Meant.tree c.args.kept.now) c.args.tasks.now c.args.event c.in_ok-tree.ensures.known c.from_residual-in_err-is_listed.result
    c.from_residual-in_err-is_listed.ensures.1

pub loop-place-init : goal.loop-place-init
loop-place-init g c =
    let trees = map g.K.Meant.tree c.args.kept.now in (
      c.in_ok-is_listed.ensures.len,
      gathered_none trees c.args.tasks.now c.args.event (length c.args.kept.now) (length c.args.kept.now) (sym (length-map c.args.kept.now g.K.Meant.tree))
          c.in_ok-is_listed.is_listed.items c.in_ok-is_listed.ensures.none c.new-events.result.items c.new-events.ensures.items,
    )

pub returns-in_err-map_err : goal.returns-in_err-map_err
returns-in_err-map_err g c =
    refused (map g.K.Meant.tree c.args.kept.now) c.args.tasks.now c.args.event c.in_ok-tree.ensures.known c.from_residual-in_err-map_err.result
    c.from_residual-in_err-map_err.ensures.1

pub loop-place-preserved-then-is_below : goal.loop-place-preserved-then-is_below
loop-place-preserved-then-is_below g c =
    let there = seen g (goal.at.loop-place-preserved-then-is_below g c).After-index in
    let placed : ArePlaced g.K.Meant.tree c.args.kept.now c.args.event (c.loop-place.place - 1) c.index-kept-place.result c.in_ok-tree.tree.now =
    record { other_is = c.index-kept-place.is; one_is = c.in_ok-tree.ensures.tree; within = omega (arith, there.listed, length-map c.args.kept.now g.K.Meant.tree); event_is = c.in_ok-tree.ensures.known } in
    let ok : is_ok c.push.result ≡ true = sym c.map_err.ensures.variant ∙ ap is_ok c.in_ok-map_err.was in (
      c.loop-place.invariant.0,
      listed_one there.listed there.behind_is c.loop-place.invariant.1 c.index.result.now (sym c.index.ensures ∙ c.if-not-index.true) there.room
          ((under_place placed).0 (c.is_below.ensures.0 c.if-is_below.true)) c.push.new.self.items (rw ok at c.push.ensures.items),
    )

pub loop-place-preserved : goal.loop-place-preserved
loop-place-preserved g c =
    let there = seen g (goal.at.loop-place-preserved g c).After-index in (
      c.loop-place.invariant.0,
      elim c.else-not-index.branch [
        | else-not-index-via-then-not-index+else-is_below w ↦ (
            let placed : ArePlaced g.K.Meant.tree c.args.kept.now c.args.event (c.loop-place.place - 1) w.index-kept-place.result c.in_ok-tree.tree.now =
            record { other_is = w.index-kept-place.is; one_is = c.in_ok-tree.ensures.tree; within = omega (arith, there.listed, length-map c.args.kept.now g.K.Meant.tree); event_is = c.in_ok-tree.ensures.known } in
            passed_apart there.listed there.behind_is c.loop-place.invariant.1 (λ below. refuted_by w.is_below.ensures w.if-is_below.false ((under_place placed).1 below))
            )
        | else-not-index-via-else-not-index w ↦ passed_marked there.listed there.behind_is c.loop-place.invariant.1 c.index.result.now (sym c.index.ensures ∙ w.if-not-index.false) there.room
      ],
    )

pub returns : goal.returns
returns g c =
    gathered_all (map g.K.Meant.tree c.args.kept.now) c.args.tasks.now c.args.event c.loop-place.place c.loop-place.is_listed.items c.loop-place.events.items c.reverse.new.self
    c.in_ok-tree.ensures.known (omega arith) c.loop-place.invariant.1 c.reverse.ensures.items
