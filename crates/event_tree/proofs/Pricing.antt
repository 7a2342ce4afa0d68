-- The tree that is grown at a price: on the right if it is to be had there, else on the left.
use Rattle.std.proofs.Common.{◌≡◌, ◌+◌, ◌<◌, ◌≤◌, ◌⊎◌, Bool, true, false, Some, None, if◌then◌else◌, refl, sym, ◌∙◌, arith}
use Rattle.trace_types.specs.clock.Id.{Id, Pair}
use Rattle.trace_types.specs.clock.Grow.{Cost}
use Rattle.trace_types.specs.clock.EventTree.{EventTree, maximum, IsNormal}
use Rattle.trace_types.specs.clock.Norm.{norm}
use Rattle.trace_types.specs.clock.Grow.{root_number, left_of, right_of, expansion, is_cheaper, cheaper, cost, grown}
use Rattle.trace_types.specs.clock.Event.{normalised}
use Rattle.event_tree.specs.GrownFor.{costs, grown_for}
use Rattle.event_tree.proofs.Costs.{is_cheaper-further, costs-further, costs-spent, first_not_cheaper, second_not_cheaper, costs-itself, second_taken, first_taken, neither_taken}
use Rattle.event_tree.proofs.Grown.{maximum-grown-le, maximum-normalised-le, normalised-normal, normal_normalised}

-- what is given on a test, and is given, has passed it
given_some : {A : Type 0} (b : Bool) (x t : A) → (if b then Some x else None) ≡ Some t → (b ≡ true) × (t ≡ x)
given_some true x t given = (refl, cc)
given_some false x t given = absurd (cc)

given_none : {A : Type 0} (b : Bool) (x : A) → (if b then Some x else None) ≡ None → b ≡ false
given_none true x given = absurd (cc)
given_none false x given = refl

-- the grown tree is higher by one at most
pub maximum-grown_for : (price : Cost) (id : Id) (tree t : EventTree) → grown_for price id tree ≡ Some t → maximum t ≤ maximum tree + 1
maximum-grown_for price id tree t found =
    let is = given_some (costs price (cost id tree)) (normalised (grown id tree)) t found in
    rw is.1 (omega (arith, maximum-normalised-le (grown id tree), maximum-grown-le id tree))

-- at its own cost the tree is had
pub grown_for-cost : (price : Cost) (id : Id) (tree : EventTree) → Some price ≡ cost id tree → grown_for price id tree ≡ Some (normalised (grown id tree))
grown_for-cost price id tree is = rw (← is, costs-itself price) refl

module _ (il ir : Id) (tree : EventTree) (p q : Cost) (expansions : p.expansions ≡ q.expansions + expansion tree) (steps : p.steps ≡ q.steps + 1) (least : is_cheaper (cost (Pair il ir) tree) (Some p) ≡ false) where
  least_here : is_cheaper (cheaper (cost il (left_of tree)) (cost ir (right_of tree))) (Some q) ≡ false
  least_here = sym (is_cheaper-further (expansion tree) p q expansions steps (cheaper (cost il (left_of tree)) (cost ir (right_of tree)))) ∙ least

  pub least_left : is_cheaper (cost il (left_of tree)) (Some q) ≡ false
  least_left = first_not_cheaper (cost il (left_of tree)) (cost ir (right_of tree)) q least_here

  pub least_right : is_cheaper (cost ir (right_of tree)) (Some q) ≡ false
  least_right = second_not_cheaper (cost il (left_of tree)) (cost ir (right_of tree)) q least_here

  costs_here : costs p (cost (Pair il ir) tree) ≡ costs q (cheaper (cost il (left_of tree)) (cost ir (right_of tree)))
  costs_here = costs-further (expansion tree) p q expansions steps (cheaper (cost il (left_of tree)) (cost ir (right_of tree)))

  pub found_right : (t : EventTree) → IsNormal (left_of tree) → grown_for q ir (right_of tree) ≡ Some t → Some (norm (root_number tree) (left_of tree) t) ≡ grown_for p (Pair il ir) tree
  found_right t normal found =
      let is = given_some (costs q (cost ir (right_of tree))) (normalised (grown ir (right_of tree))) t found in
      let taken = second_taken (cost il (left_of tree)) (cost ir (right_of tree)) q least_left is.0 in
      rw (costs_here, taken, is.0, normalised-normal (left_of tree) normal, is.1) refl

  pub found_left : (t : EventTree) → IsNormal (right_of tree) → grown_for q ir (right_of tree) ≡ None → grown_for q il (left_of tree) ≡ Some t → Some (norm (root_number tree) t (right_of tree)) ≡ grown_for p (Pair il ir) tree
  found_left t normal not_right found =
      let is = given_some (costs q (cost il (left_of tree))) (normalised (grown il (left_of tree))) t found in
      let dear = given_none (costs q (cost ir (right_of tree))) (normalised (grown ir (right_of tree))) not_right in
      let taken = first_taken (cost il (left_of tree)) (cost ir (right_of tree)) q least_right dear is.0 in
      rw (costs_here, taken, is.0, normalised-normal (right_of tree) normal, is.1) refl

  pub found_none : grown_for q ir (right_of tree) ≡ None → grown_for q il (left_of tree) ≡ None → None ≡ grown_for p (Pair il ir) tree
  found_none not_right not_left =
      let right = given_none (costs q (cost ir (right_of tree))) (normalised (grown ir (right_of tree))) not_right in
      let left = given_none (costs q (cost il (left_of tree))) (normalised (grown il (left_of tree))) not_left in
      rw (costs_here, neither_taken (cost il (left_of tree)) (cost ir (right_of tree)) q left right) refl

-- what was grown is normal
pub normal-grown_for : (price : Cost) (id : Id) (tree t : EventTree) → grown_for price id tree ≡ Some t → IsNormal t
normal-grown_for price id tree t found =
    let is = given_some (costs price (cost id tree)) (normalised (grown id tree)) t found in
    rw is.1 (normal_normalised (grown id tree))

-- a price that no step leaves anything of buys nothing
pub spent_none : (il ir : Id) (tree : EventTree) (price : Cost) → (price.expansions < expansion tree) ⊎ (price.steps ≡ 0) → None ≡ grown_for price (Pair il ir) tree
spent_none il ir tree price spent = rw (costs-spent price (expansion tree) (cheaper (cost il (left_of tree)) (cost ir (right_of tree))) spent) refl
