use Rattle.std.proofs.Common.{◌≡◌, ◌↔◌, ◌+◌, true, IsTrue, ap, sym, ◌∙◌, is_ok, Less, Equal, Greater, arith}
use Rattle.std.proofs.lemmas.Bool.{false≢true}
use Rattle.std.proofs.lemmas.Cmp.{ranked}
use Rattle.trace_types.specs.declared.order.Order.TheVariants.{Concurrent}
use Rattle.trace_query.proofs.Gathered.{ArePlaced, IsOtherStanding, refuted_by, listed_one, listed_none, refused_one, found_all}
use Rattle.trace_query.proofs.InOrder.{earlier_apart, later_apart, decided_earlier, decided_later}
use Rattle.trace_query.proofs.queries_by_points.concurrent_by_points.Given.{Over}
use Rattle.trace_query.proofs.queries_by_points.concurrent_by_points.Goals.{After-index-kept-place, in-Less, in-Equal, in-Greater, then-is_apart+in_ok-map_err, else-is_apart}
use Rattle.trace_query.proofs.queries_by_points.concurrent_by_points.Goals as goal

-- what is compared
placed : (g : Over) (c : After-index-kept-place g) → ArePlaced g.K.Meant.tree c.args.kept.now c.args.event c.loop-place.place c.index-kept-place.result c.in_ok-tree.tree.now
placed g c = record { other_is = c.index-kept-place.is; one_is = c.in_ok-tree.ensures.tree; within = c.loop-place-test.true; event_is = c.in_ok-tree.ensures.known }

pub loop-place-preserved : goal.loop-place-preserved
loop-place-preserved g c =
    let seen = placed g (goal.at.loop-place-preserved g c).After-index-kept-place in
    let number = c.loop-place.place + 1 in
    let told : IsTrue c.match-cmp.is_apart ↔ IsOtherStanding Concurrent g.K.Meant.tree c.args.event c.loop-place.place c.index-kept-place.result c.in_ok-tree.tree.now =
    elim c.match-cmp.branch [
      | in-Less w ↦ rw w.is_apart-is (earlier_apart seen c.requires.in_order (ranked number c.args.event Less w.in-Less.ensures) w.is_below_later.result w.is_below_later.ensures)
      | in-Equal w ↦ rw w.is_apart-is ((λ is. absurd (false≢true is)), (λ holds. absurd (holds.0 (ranked number c.args.event Equal w.in-Equal.ensures))))
      | in-Greater w ↦
          rw w.is_apart-is
          (later_apart seen c.requires.in_order (ranked number c.args.event Greater w.in-Greater.ensures) w.is_below_later-in-Greater.result w.is_below_later-in-Greater.ensures)
    ] in
    elim c.if-is_apart.branch [
      | then-is_apart+in_ok-map_err w ↦ (
          let ok : is_ok w.push.result ≡ true = sym w.map_err.ensures.variant ∙ ap is_ok w.in_ok-map_err.was in
          rw w.events-is
          (listed_one seen Concurrent c.loop-place.events.items c.loop-place.invariant (told.0 w.if-is_apart.true) w.push.new.self.items (rw ok at w.push.ensures.items))
          )
      | else-is_apart w ↦ rw w.events-is (listed_none seen Concurrent c.loop-place.events.items c.loop-place.invariant (refuted_by told w.if-is_apart.false))
    ]

pub returns : goal.returns
returns g c =
    found_all g.K.Meant.tree c.args.kept.now Concurrent c.args.event c.loop-place.place c.loop-place.events c.in_ok-tree.ensures.known
    (omega (arith, c.loop-place-test.false, c.loop-place.auto.place-end)) c.loop-place.invariant

pub is_below_later-requires-clause-decided : goal.is_below_later-requires-clause-decided
is_below_later-requires-clause-decided g c =
    decided_earlier (placed g (goal.at.is_below_later-requires-clause-decided g c).After-index-kept-place) c.args.points.now c.requires.decided
    (ranked (c.loop-place.place + 1) c.args.event Less c.in-Less.ensures)

pub is_below_later-requires-in-Greater-clause-decided : goal.is_below_later-requires-in-Greater-clause-decided
is_below_later-requires-in-Greater-clause-decided g c =
    decided_later (placed g (goal.at.is_below_later-requires-in-Greater-clause-decided g c).After-index-kept-place) c.args.points.now c.requires.decided
    (ranked (c.loop-place.place + 1) c.args.event Greater c.in-Greater.ensures)

pub returns-in_err-map_err : goal.returns-in_err-map_err
returns-in_err-map_err g c =
    let seen = placed g (goal.at.returns-in_err-map_err g c).After-index-kept-place in
    let number = c.loop-place.place + 1 in
    let apart : IsOtherStanding Concurrent g.K.Meant.tree c.args.event c.loop-place.place c.index-kept-place.result c.in_ok-tree.tree.now =
    elim c.match-cmp.branch [
      | in-Less w ↦
          (earlier_apart seen c.requires.in_order (ranked number c.args.event Less w.in-Less.ensures) w.is_below_later.result w.is_below_later.ensures).0 (sym w.is_apart-is ∙ c.if-is_apart.true)
      | in-Equal w ↦ absurd (false≢true (sym w.is_apart-is ∙ c.if-is_apart.true))
      | in-Greater w ↦
          (later_apart seen c.requires.in_order (ranked number c.args.event Greater w.in-Greater.ensures) w.is_below_later-in-Greater.result w.is_below_later-in-Greater.ensures).0
          (sym w.is_apart-is ∙ c.if-is_apart.true)
    ] in
    refused_one seen Concurrent apart
    c.from_residual-in_err-map_err.result c.from_residual-in_err-map_err.ensures.1
