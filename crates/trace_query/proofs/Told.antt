-- The lists of events that have an order of their own, as their trees tell it.
use Rattle.std.proofs.Common.{◌≡◌, ℕ, ◌⊎◌, Bool, true, false, not, ◌&&◌, ◌||◌, ◌↔◌, IsTrue, eqb, ltb, List, [], ◌∷◌, Contains, refl, sym, ap, ◌∙◌, inl, inr, arith}
use Rattle.std.specs.List.{filter, list_any}
use Rattle.std.proofs.lemmas.Bool.{and_left, cases_Bool, eqb-true, not_from_true, not_from_false}
use Rattle.trace_types.specs.declared.order.Order.{Order}
use Rattle.trace_types.specs.declared.order.Order.TheVariants.{Same}
use Rattle.trace_types.specs.clock.EventTree.{EventTree}
use Rattle.trace_query.specs.Compared.{is_below, is_order}
use Rattle.trace_query.specs.Queries.{has_tree, events_of, tree_at, order_between, is_other_standing, others_standing, is_outdated_by_trees, cut_by_trees}
use Rattle.trace_query.specs.Laws.{Tells, TellsReach, TellsTasks, cut_by}
use Rattle.trace_query.proofs.ComparedTrees.{is_below_iff, stands_as_compared, tree_order_itself}
use Rattle.trace_types.proofs.Chosen.{Contains-cons}
use Rattle.trace_query.proofs.Listed.{Contains-events}

-- two tests that agree at each element keep the same elements
filter_agree_at : {X : Type 0} (p q : X → Bool) (xs : List X) → ((x : X) → Contains xs x → p x ≡ q x) → filter p xs ≡ filter q xs
filter_agree_at p q [] agree = refl
filter_agree_at p q (x ∷ xs) agree =
    let here : p x ≡ q x = agree x (0, omega arith, refl) in
    let later : filter p xs ≡ filter q xs = filter_agree_at p q xs (λ y one. agree y (Contains-cons x xs y one)) in
    rw (here, later)

pub told_by_orders : (wanted : Order) → is_order wanted Same ≡ false → (trees : List EventTree) (order_of : ℕ → ℕ → Order) → Tells trees order_of
    → (event : ℕ) → IsTrue (has_tree trees event) → others_standing wanted trees event ≡ filter (λ other. is_order wanted (order_of other event)) (events_of trees)
told_by_orders wanted differs trees order_of tells event is =
    filter_agree_at (λ other. is_other_standing wanted trees other event) (λ other. is_order wanted (order_of other event)) (events_of trees) agree
  where
    at : (other : ℕ) → order_of other event ≡ order_between trees other event → (eqb other event ≡ true) ⊎ (eqb other event ≡ false)
        → is_other_standing wanted trees other event ≡ is_order wanted (order_of other event)
    at other told (inl same) =
        let itself : order_of other event ≡ Same = told ∙ ap (λ one. order_between trees one event) (eqb-true other event same) ∙ sym (tree_order_itself (tree_at trees event)) in
        and_left (not (eqb other event)) _ (not_from_true (eqb other event) same) ∙ sym (ap (is_order wanted) itself ∙ differs)
    at other told (inr another) =
        let open_test : not (eqb other event) ≡ true = not_from_false (eqb other event) another in
        ap (λ b. b && is_order wanted (order_between trees other event)) open_test ∙ ap (is_order wanted) (sym told)

    agree : (other : ℕ) → Contains (events_of trees) other → is_other_standing wanted trees other event ≡ is_order wanted (order_of other event)
    agree other one =
        let told : order_of other event ≡ order_between trees other event =
        stands_as_compared (order_of other event) (tree_at trees other) (tree_at trees event) (tells other event ((Contains-events trees other).0 one) is) in
        at other told (cases_Bool (eqb other event))

-- tests of the same fact are the same
same_test : {P : Type 0} (a b : Bool) → (IsTrue a ↔ P) → (IsTrue b ↔ P) → a ≡ b
same_test true b first second = sym (second.1 (first.0 refl))
same_test false true first second = first.1 (second.0 refl)
same_test false false first second = refl

-- two tests that agree at each element find one or none alike
list_any_agree_at : {X : Type 0} (p q : X → Bool) (xs : List X) → ((x : X) → Contains xs x → p x ≡ q x) → list_any p xs ≡ list_any q xs
list_any_agree_at p q [] agree = refl
list_any_agree_at p q (x ∷ xs) agree =
    let here : p x ≡ q x = agree x (0, omega arith, refl) in
    let later : list_any p xs ≡ list_any q xs = list_any_agree_at p q xs (λ y one. agree y (Contains-cons x xs y one)) in
    λ i. here i || later i

pub told_by_reach : (trees : List EventTree) (tasks : List ℕ) (reach same : ℕ → ℕ → Bool) → TellsReach trees reach → TellsTasks trees tasks same
    → (event : ℕ) → IsTrue (has_tree trees event) → cut_by_trees trees tasks event ≡ cut_by reach same (events_of trees) event
told_by_reach trees tasks reach same tells_reach tells_tasks event is =
    filter_agree_at
    (λ other. is_below (tree_at trees other) (tree_at trees event) && not (is_outdated_by_trees trees tasks event other))
    (λ other. reach other event && not (list_any (λ later. ltb other later && (same other later && reach later event)) (events_of trees))) (events_of trees)
    (λ other one. λ i. told other one i && not (outdated other one i))
  where
    told : (other : ℕ) → Contains (events_of trees) other → is_below (tree_at trees other) (tree_at trees event) ≡ reach other event
    told other one =
        same_test (is_below (tree_at trees other) (tree_at trees event)) (reach other event) (is_below_iff (tree_at trees other) (tree_at trees event))
        (tells_reach other event ((Contains-events trees other).0 one) is)

    outdated : (other : ℕ) → Contains (events_of trees) other
        → is_outdated_by_trees trees tasks event other ≡ list_any (λ later. ltb other later && (same other later && reach later event)) (events_of trees)
    outdated other one =
        list_any_agree_at _ _ (events_of trees)
        (λ later next. λ i. ltb other later && (sym (tells_tasks other later ((Contains-events trees other).0 one) ((Contains-events trees later).0 next)) i && told later next i))
