-- A point that an event raised stays one of it, and the points that are kept are right after one more row.
use Rattle.std.proofs.Common.{◌≡◌, ◌≢◌, ℕ, zero, suc, List, [], ◌∷◌, ◌++◌, length, Option, Some, None, Result, Ok, Err, IfOk, IfSome, refl, sym, ap, ◌∙◌, subst, inl, inr, arith}
use Rattle.tenant_ledger.proofs.Words.{cases_eq, length-append, transport, Id, EventTree, History, Row, tree_clock, tree_of, acting_id, value, Contents, MayHavePoint, MayRaise, ArePoints, history_in, row_of_report, Report}
use Rattle.trace_query.specs.Deciding.{point_in}
use Rattle.event_tree.specs.declared.point.RaisedPoint.{RaisedPoint}
use Rattle.event_tree.specs.Risen.{IsRaisedAt}
use Rattle.trace_types.specs.clock.Points.{Point}
use Rattle.tenant_ledger.specs.Laws.{IsRaisedBy, known_before_event}
use Rattle.tenant_ledger.specs.Making.{tree_of_report}
use Rattle.tenant_ledger.proofs.clock.Events.{known_before_new, tree_of-new, tree_of-older}
use Rattle.tenant_ledger.proofs.clock.Reaching.{new_event}

-- the point in each place of a list with one more
point_in-last : (points : List (Option RaisedPoint)) (point : Option RaisedPoint) → point_in (points ++ point ∷ []) (length points) ≡ point
point_in-last [] point = refl
point_in-last (first ∷ points) point = point_in-last points point

point_in-other : (points : List (Option RaisedPoint)) (point : Option RaisedPoint) (place : ℕ) → place ≢ length points
    → point_in (points ++ point ∷ []) place ≡ point_in points place
point_in-other [] point zero other = absurd (other refl)
point_in-other [] point (suc place) other = refl
point_in-other (first ∷ points) point zero other = refl
point_in-other (first ∷ points) point (suc place) other = point_in-other points point place (λ same. other (ap suc same))

-- no rows have no points
pub no_points : ArePoints [] []
no_points = record { counted = refl; each = λ place. tt }

-- an event that raised a point is not the next one
is_older : (history : History) (event : ℕ) (point : Point) → IsRaisedBy history event point → event ≢ new_event history
is_older history event point raised newest =
    omega (arith, newest, raised.number, ap length raised.rows, length-append raised.later (raised.row ∷ raised.earlier))

module _ (row : Row) (history : History) where
  -- a row more leaves what events raised
  raised_stays : (event : ℕ) (point : Point) → IsRaisedBy history event point → IsRaisedBy (row ∷ history) event point
  raised_stays event point raised = record {
    later = row ∷ raised.later;
    row = raised.row;
    earlier = raised.earlier;
    rows = ap (λ h. row ∷ h) raised.rows;
    number = raised.number;
    raised = subst (λ tree. IsRaisedAt (acting_id tree_clock raised.earlier raised.row) (known_before_event raised.row raised.earlier) tree point)
        (sym (tree_of-older tree_clock row history event (is_older history event point raised))) raised.raised;
  }

  point_stays : (event : ℕ) (found : Option RaisedPoint) → MayHavePoint history event found → MayHavePoint (row ∷ history) event found
  point_stays event None none = tt
  point_stays event (Some deciding) is = record {
    raised = raised_stays event deciding.point is.raised;
    own = is.own ∙ ap (λ tree. value tree deciding.point) (sym (tree_of-older tree_clock row history event (is_older history event deciding.point is.raised)));
  }

  -- the new event has the points with its own
  pub points_with_one : (points : List (Option RaisedPoint)) (point : Option RaisedPoint) → ArePoints history points
      → MayHavePoint (row ∷ history) (new_event history) point → ArePoints (row ∷ history) (points ++ point ∷ [])
  points_with_one points point before newest = record {
    counted = omega (arith, before.counted, length-append points (point ∷ []));
    each = λ place. elim (cases_eq place (length points)) [
      | inl last ↦
          let here : point ≡ point_in (points ++ point ∷ []) place = sym (ap (point_in (points ++ point ∷ [])) last ∙ point_in-last points point) in
          let number : new_event history ≡ suc place = omega (arith, last, before.counted) in
          subst (λ e. MayHavePoint (row ∷ history) e (point_in (points ++ point ∷ []) place)) number
          (subst (MayHavePoint (row ∷ history) (new_event history)) here newest)
      | inr other ↦
          subst (MayHavePoint (row ∷ history) (suc place)) (sym (point_in-other points point place other))
          (point_stays (suc place) (point_in points place) (before.each place))
    ];
  }

-- the last of the points is that of the newest event
pub newest_point : (row : Row) (history : History) (points : List (Option RaisedPoint)) (point : Option RaisedPoint) → ArePoints (row ∷ history) (points ++ point ∷ [])
    → MayHavePoint (row ∷ history) (new_event history) point
newest_point row history points point are =
    let last : length points ≡ length history = omega (arith, are.counted, length-append points (point ∷ [])) in
    subst (MayHavePoint (row ∷ history) (new_event history)) (ap (point_in (points ++ point ∷ [])) (sym last) ∙ point_in-last points point) (are.each (length history))

-- a point that was found of the newest event is one that it raised
raised_by_newest : (row : Row) (history : History) (found : Option RaisedPoint)
    → IfSome found (λ deciding. IsRaisedAt (acting_id tree_clock history row) (known_before_new tree_clock row history) (tree_of tree_clock (row ∷ history) (new_event history)) deciding.point)
    → IfSome found (λ deciding. deciding.value ≡ value (tree_of tree_clock (row ∷ history) (new_event history)) deciding.point)
    → MayHavePoint (row ∷ history) (new_event history) found
raised_by_newest row history None raised own = tt
raised_by_newest row history (Some deciding) raised own = record {
  raised = record { later = []; row = row; earlier = history; rows = refl; number = refl; raised = raised };
  own = own;
}

-- what an event of a report was made as is what it knows
pub tree_by_report : (book : Contents) (report : Report) {id : Id} {known : EventTree} {Fault : Type 0}
    → id ≡ acting_id tree_clock (history_in book) (row_of_report book report) → known ≡ known_before_new tree_clock (row_of_report book report) (history_in book)
    → (found : Result (EventTree × Option RaisedPoint) Fault) → IfOk found (λ f. f.0 ≡ tree_clock.event id known) → IfOk found (λ f. f.0 ≡ tree_of_report book report)
tree_by_report book report id_is known_is (Ok (tree, point)) tree_is =
    tree_is ∙ (λ i. tree_clock.event (id_is i) (known_is i)) ∙ sym (tree_of-new tree_clock (row_of_report book report) (history_in book))
tree_by_report book report id_is known_is (Err fault) tree_is = tt

-- so is one that was found with the tree that the event of a report was made of
pub found_by_report : (book : Contents) (report : Report) {id : Id} {known : EventTree} {Fault : Type 0}
    → id ≡ acting_id tree_clock (history_in book) (row_of_report book report) → known ≡ known_before_new tree_clock (row_of_report book report) (history_in book)
    → (found : Result (EventTree × Option RaisedPoint) Fault) → IfOk found (λ f. f.0 ≡ tree_clock.event id known)
    → IfOk found (λ f. IfSome f.1 (λ deciding. IsRaisedAt id known f.0 deciding.point)) → IfOk found (λ f. IfSome f.1 (λ deciding. deciding.value ≡ value f.0 deciding.point))
    → IfOk found (λ f. MayRaise book report f.1)
found_by_report book report {id} {known} {Fault} id_is known_is (Ok (tree, point)) tree_is raised own =
    let row = row_of_report book report in
    let same : tree ≡ tree_of tree_clock (row ∷ history_in book) (new_event (history_in book)) =
    tree_by_report book report {id = id} {known = known} {Fault = Fault} id_is known_is (Ok (tree, point)) tree_is in
    raised_by_newest row (history_in book) point (transport (λ i. IfSome point (λ deciding. IsRaisedAt (id_is i) (known_is i) (same i) deciding.point)) raised)
    (transport (λ i. IfSome point (λ deciding. deciding.value ≡ value (same i) deciding.point)) own)
found_by_report book report id_is known_is (Err fault) tree_is raised own = tt
