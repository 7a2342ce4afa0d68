-- What stands in the lists.
use Rattle.std.proofs.Common.{◌≡◌, ◌≢◌, ℕ, suc, ◌<◌, ◌≤◌, ◌↔◌, Bool, not, IsTrue, eqb, ltb, List, length, Contains, sym, subst, arith}
use Rattle.std.specs.List.Sorted.{IsStrictlyIncreasing}
use Rattle.std.proofs.lemmas.Bool.{and_parts, and_from, ltb-true, lt-ltb, eqb-false, ne_eqb, not-true, not_from_false}
use Rattle.std.proofs.lemmas.List.Kept.{IsStrictlyIncreasing-filter}
use Rattle.trace_types.specs.declared.order.Order.{Order}
use Rattle.trace_types.specs.clock.EventTree.{EventTree}
use Rattle.trace_types.proofs.Chosen.{Contains-filter, filter-Contains, Contains-numbers, numbers_increase}
use Rattle.event_tree.specs.Comparison.{StandsAs}
use Rattle.trace_query.specs.Compared.{is_order}
use Rattle.trace_query.specs.Queries.{has_tree, events_of, tree_at, order_between, is_other_standing, others_standing}
use Rattle.trace_query.proofs.ComparedTrees.{tree_order_stands, stands_as_compared, is_order_iff}

pub event_bounds : (trees : List EventTree) (event : ℕ) → IsTrue (has_tree trees event) → (0 < event) × (event ≤ length trees)
event_bounds trees event is =
    let parts = and_parts (ltb 0 event) (ltb event (suc (length trees))) is in
    let high : event < suc (length trees) = ltb-true event (suc (length trees)) parts.1 in
    (ltb-true 0 event parts.0, omega (arith, high))

pub event_from_bounds : (trees : List EventTree) (event : ℕ) → 0 < event → event ≤ length trees → IsTrue (has_tree trees event)
event_from_bounds trees event positive within =
    and_from (ltb 0 event) (ltb event (suc (length trees))) (lt-ltb 0 event positive) (lt-ltb event (suc (length trees)) (omega (arith, within)))

-- the list of the events has each event
pub Contains-events : (trees : List EventTree) (event : ℕ) → Contains (events_of trees) event ↔ IsTrue (has_tree trees event)
Contains-events trees event = (
  λ one. let bounds = (Contains-numbers (length trees) event).0 one in event_from_bounds trees event bounds.0 bounds.1,
  λ is. (Contains-numbers (length trees) event).1 (event_bounds trees event is),
)

-- the test is what it says
pub is_other_standing_iff : (wanted : Order) (trees : List EventTree) (first second : ℕ)
    → IsTrue (is_other_standing wanted trees first second) ↔ ((first ≢ second) × StandsAs wanted (tree_at trees first) (tree_at trees second))
is_other_standing_iff wanted trees first second = (
  λ is.
      let parts = and_parts (not (eqb first second)) (is_order wanted (order_between trees first second)) is in
      let same : wanted ≡ order_between trees first second = (is_order_iff wanted (order_between trees first second)).0 parts.1 in (
        eqb-false first second (not-true (eqb first second) parts.0),
        subst (λ (order : Order). StandsAs order (tree_at trees first) (tree_at trees second)) (sym same) (tree_order_stands (tree_at trees first) (tree_at trees second)),
      ),
  λ holds.
      and_from (not (eqb first second)) (is_order wanted (order_between trees first second))
      (not_from_false (eqb first second) (ne_eqb first second holds.0))
      ((is_order_iff wanted (order_between trees first second)).1 (stands_as_compared wanted (tree_at trees first) (tree_at trees second) holds.1)),
)

pub others_are_exact : (wanted : Order) (trees : List EventTree) (event other : ℕ) → Contains (others_standing wanted trees event) other
    ↔ (IsTrue (has_tree trees other) × (other ≢ event) × StandsAs wanted (tree_at trees other) (tree_at trees event))
others_are_exact wanted trees event other =
    let test : ℕ → Bool = λ one. is_other_standing wanted trees one event in
    let told = is_other_standing_iff wanted trees other event in (
      λ one.
          let kept = filter-Contains test (events_of trees) other one in
          let holds = told.0 kept.1 in
          ((Contains-events trees other).0 kept.0, holds.0, holds.1),
      λ holds. Contains-filter test (events_of trees) other ((Contains-events trees other).1 holds.0) (told.1 (holds.1, holds.2)),
    )

pub others_increase : (wanted : Order) (trees : List EventTree) (event : ℕ) → IsStrictlyIncreasing (others_standing wanted trees event)
others_increase wanted trees event = IsStrictlyIncreasing-filter (λ other. is_other_standing wanted trees other event) (events_of trees) (numbers_increase (length trees))
