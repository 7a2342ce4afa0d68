use Rattle.std.proofs.Common.{◌≡◌, true, ap, sym, ◌∙◌, is_ok, arith}
use Rattle.trace_query.proofs.Gathered.{ArePlaced, tested, refuted_by, listed_one, listed_none, refused_one, found_all}
use Rattle.trace_query.proofs.queries.others_standing.Given.{Over}
use Rattle.trace_query.proofs.queries.others_standing.Goals.{After-index-kept-place, then-number-event+then-eq+in_ok-map_err, else-number-event, else-number-event-via-then-number-event+else-eq, else-number-event-via-else-number-event}
use Rattle.trace_query.proofs.queries.others_standing.Goals as goal

-- what is compared
placed : (g : Over) (c : After-index-kept-place g) → ArePlaced g.K.Meant.tree c.args.kept.now c.args.event c.loop-place.place c.index-kept-place.result c.in_ok-tree.tree.now
placed g c = record { other_is = c.index-kept-place.is; one_is = c.in_ok-tree.ensures.tree; within = c.loop-place-test.true; event_is = c.in_ok-tree.ensures.known }

pub loop-place-preserved : goal.loop-place-preserved
loop-place-preserved g c =
    let seen = placed g (goal.at.loop-place-preserved g c).After-index-kept-place in
    let e = g.K.Meant.tree c.index-kept-place.result in
    let f = g.K.Meant.tree c.in_ok-tree.tree.now in
    elim c.if-number-event.branch [
      | then-number-event+then-eq+in_ok-map_err w ↦ (
          let ok : is_ok w.push.result ≡ true = sym w.map_err.ensures.variant ∙ ap is_ok w.in_ok-map_err.was in
          rw w.events-is
          (listed_one seen c.args.wanted c.loop-place.events.items c.loop-place.invariant
          (w.if-number-event.true, (tested c.args.wanted w.order.result e f w.eq.result w.order.ensures w.eq.ensures).0 w.if-eq.true)
          w.push.new.self.items (rw ok at w.push.ensures.items))
          )
      | else-number-event w ↦
          rw w.events-is
          (listed_none seen c.args.wanted c.loop-place.events.items c.loop-place.invariant
          (λ stands. elim w.else-number-event.branch [
            | else-number-event-via-then-number-event+else-eq w' ↦
                refuted_by (tested c.args.wanted w'.order.result e f w'.eq.result w'.order.ensures w'.eq.ensures) w'.if-eq.false stands.1
            | else-number-event-via-else-number-event w' ↦ stands.0 w'.if-number-event.false
          ]))
    ]

pub returns : goal.returns
returns g c =
    found_all g.K.Meant.tree c.args.kept.now c.args.wanted c.args.event c.loop-place.place c.loop-place.events c.in_ok-tree.ensures.known
    (omega (arith, c.loop-place-test.false, c.loop-place.auto.place-end)) c.loop-place.invariant

pub returns-in_err-map_err : goal.returns-in_err-map_err
returns-in_err-map_err g c =
    let e = g.K.Meant.tree c.index-kept-place.result in
    let f = g.K.Meant.tree c.in_ok-tree.tree.now in
    refused_one (placed g (goal.at.returns-in_err-map_err g c).After-index-kept-place) c.args.wanted
    (c.if-number-event.true, (tested c.args.wanted c.order.result e f c.eq.result c.order.ensures c.eq.ensures).0 c.if-eq.true)
    c.from_residual-in_err-map_err.result c.from_residual-in_err-map_err.ensures.1
