-- An id that owns points of one half alone, and not all of them, has its event in that half. Where growth is told, it is raised.
use Rattle.std.proofs.Common.{◌≡◌, ◌≢◌, ℕ, ◌≤◌, true, inl, inr, Option, Some, None, IfSome, refl, ◌∙◌, arith}
use Rattle.trace_types.specs.clock.Id.{Id, Zero, One, Pair}
use Rattle.trace_types.specs.clock.Id as ids
use Rattle.trace_types.specs.clock.EventTree.{EventTree, Node, IsNormal}
use Rattle.trace_types.specs.clock.Norm.{norm}
use Rattle.trace_types.specs.clock.Fill.{fill}
use Rattle.trace_types.specs.clock.Grow.{is_cheaper, cost, grown}
use Rattle.trace_types.specs.clock.Event.{normalised, event}
use Rattle.event_tree.specs.Grew.{GrewAt}
use Rattle.event_tree.specs.PointCode.{halves_of}
use Rattle.event_tree.specs.Raised.{StaysOutside}
use Rattle.event_tree.specs.Risen.{IsRaisedAt}
use Rattle.event_tree.specs.declared.ev_tree.growth.GrownPoint.{GrownPoint}
use Rattle.event_tree.specs.declared.point.RaisedPoint.{RaisedPoint}
use Rattle.event_tree.proofs.Events.{event_by_fill, event_by_growth}
use Rattle.event_tree.proofs.Filled.{node_filled-both, normal_fill, otherwise_fill}
use Rattle.event_tree.proofs.Grown.{cost-some, normalised-normal}
use Rattle.event_tree.proofs.Costs.{cheaper_than_none}
use Rattle.event_tree.proofs.Raising.{rises_left, rises_right, rises_norm}
use Rattle.event_tree.proofs.Risen.{raised_at}
use Rattle.event_tree.proofs.Values.{norm-normal}

module _ (id : Id) (n : ℕ) (l r : EventTree) (normal : IsNormal (Node n l r)) (part : id ≢ One) where
  fill_right : fill (Pair Zero id) (Node n l r) ≡ norm n l (fill id r)
  fill_right = node_filled-both n Zero id l r l (fill id r) (λ e. cc) part

  fill_left : fill (Pair id Zero) (Node n l r) ≡ norm n (fill id l) r
  fill_left = node_filled-both n id Zero l r (fill id l) r part (λ e. cc)

  grown_right : normalised (grown (Pair Zero id) (Node n l r)) ≡ norm n l (normalised (grown id r))
  grown_right = rw (normalised-normal l normal.0) refl

  pub event_right : event (Pair Zero id) (Node n l r) ≡ norm n l (event id r)
  event_right =
      elim (otherwise_fill id r normal.1) [
        | inl same ↦
            let whole : fill (Pair Zero id) (Node n l r) ≡ Node n l r = fill_right ∙ (rw same (norm-normal n l r normal)) in
            rw (event_by_growth (Pair Zero id) (Node n l r) whole, grown_right, event_by_growth id r same) refl
        | inr rises ↦
            let above = rises_norm n l r l (fill id r) normal.0 (normal_fill id r normal.1) (rises_right n l r l (fill id r) rises) in
            rw (event_by_fill (Pair Zero id) (Node n l r) (rw fill_right above), fill_right, event_by_fill id r rises) refl
      ]

  module _ (id_normal : ids.IsNormalId id) (some : id ≢ Zero) where
    grown_left : normalised (grown (Pair id Zero) (Node n l r)) ≡ norm n (normalised (grown id l)) r
    grown_left =
        let cheaper : is_cheaper (cost id l) (cost Zero r) ≡ true = cheaper_than_none (cost id l) (cost-some id l id_normal some) in
        rw (cheaper, normalised-normal r normal.1) refl

    pub event_left : event (Pair id Zero) (Node n l r) ≡ norm n (event id l) r
    event_left =
        elim (otherwise_fill id l normal.0) [
          | inl same ↦
              let whole : fill (Pair id Zero) (Node n l r) ≡ Node n l r = fill_left ∙ (rw same (norm-normal n l r normal)) in
              rw (event_by_growth (Pair id Zero) (Node n l r) whole, grown_left, event_by_growth id l same) refl
          | inr rises ↦
              let above = rises_norm n l r (fill id l) r (normal_fill id l normal.0) normal.1 (rises_left n l r (fill id l) r rises) in
              rw (event_by_fill (Pair id Zero) (Node n l r) (rw fill_left above), fill_left, event_by_fill id l rises) refl
        ]

-- where a tree grew, the point that is told is raised, and has its value
module _ (id : Id) (before after : EventTree) (outside : StaysOutside id before after) (steps : ℕ) (there : GrownPoint) (grew : GrewAt steps before after there) where
  raised_there : steps ≤ 128 → IsRaisedAt id before after (halves_of 128 there.halves)
  raised_there few =
      let told = grew.told few in
      raised_at id before after outside (halves_of 128 there.halves) (omega (arith, told.raised 128 few, told.reached 128 few))

  pub raised_where : (found : Option RaisedPoint) → IfSome found (λ raised. raised.point ≡ halves_of 128 there.halves) → IfSome found (λ raised. steps ≤ 128)
      → IfSome found (λ raised. IsRaisedAt id before after raised.point)
  raised_where None point few = tt
  raised_where (Some raised) point few = rw point (raised_there few)
