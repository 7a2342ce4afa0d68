-- The computed comparison is the way in which two trees stand to each other.
use Rattle.std.proofs.Common.{◌≡◌, ℕ, ◌+◌, ◌↔◌, Bool, true, false, IsTrue, refl, arith}
use Rattle.std.proofs.lemmas.Bool.{false≢true, leb-true, le-leb, and_parts, and_from}
use Rattle.trace_types.specs.declared.order.Order.{Order}
use Rattle.trace_types.specs.declared.order.Order.TheVariants.{Same, Before, After, Concurrent}
use Rattle.trace_types.specs.clock.EventTree.{EventTree, Leaf, Node, minimum, maximum}
use Rattle.event_tree.specs.Comparison.{IsBelow, StandsAs}
use Rattle.event_tree.specs.Lifted.{IsLiftedBelow}
use Rattle.event_tree.proofs.Walk.{ranges_from_below, below_from_ranges, below_on, below_from_sides}
use Rattle.event_tree.proofs.Standing.{stand_one_way, stands_same}
use Rattle.trace_types.specs.clock.Points.{Left, Right}
use Rattle.trace_query.specs.Compared.{is_lifted_below, is_below, order_from, tree_order, is_order}

is_lifted_below_iff : (m n : ℕ) (e f : EventTree) → IsTrue (is_lifted_below m e n f) ↔ IsLiftedBelow m e n f
is_lifted_below_iff m n (Leaf a) f =
    (λ is. below_from_ranges m n (Leaf a) f (leb-true (m + a) (n + minimum f) is), λ below. le-leb (m + a) (n + minimum f) (ranges_from_below m n (Leaf a) f below).0)
is_lifted_below_iff m n (Node a l r) (Leaf b) = (
  λ is. below_from_ranges m n (Node a l r) (Leaf b) (leb-true (m + maximum (Node a l r)) (n + b) is),
  λ below. le-leb (m + maximum (Node a l r)) (n + b) (ranges_from_below m n (Node a l r) (Leaf b) below).1,
)
is_lifted_below_iff m n (Node a l r) (Node b l' r') = both (is_lifted_below_iff (m + a) (n + b) l l') (is_lifted_below_iff (m + a) (n + b) r r')
  where
    both : (IsTrue (is_lifted_below (m + a) l (n + b) l') ↔ IsLiftedBelow (m + a) l (n + b) l') → (IsTrue (is_lifted_below (m + a) r (n + b) r') ↔ IsLiftedBelow (m + a) r (n + b) r')
        → IsTrue (is_lifted_below m (Node a l r) n (Node b l' r')) ↔ IsLiftedBelow m (Node a l r) n (Node b l' r')
    both left right = (
      λ is. let sides = and_parts (is_lifted_below (m + a) l (n + b) l') (is_lifted_below (m + a) r (n + b) r') is in below_from_sides m n a b l r l' r' (left.0 sides.0) (right.0 sides.1),
      λ below. and_from (is_lifted_below (m + a) l (n + b) l') (is_lifted_below (m + a) r (n + b) r') (left.1 (below_on m n a b l r l' r' Left below)) (right.1 (below_on m n a b l r l' r' Right below)),
    )

pub is_below_iff : (e f : EventTree) → IsTrue (is_below e f) ↔ IsBelow e f
is_below_iff e f =
    let lifted = is_lifted_below_iff 0 0 e f in
    (λ is point. let at = lifted.0 is point in omega (arith, at), λ below. lifted.1 (λ point. omega (arith, below point)))

pub tree_order_stands : (e f : EventTree) → StandsAs (tree_order e f) e f
tree_order_stands e f = at (is_below e f) (is_below f e) (is_below_iff e f) (is_below_iff f e)
  where
    at : (forth back : Bool) → (IsTrue forth ↔ IsBelow e f) → (IsTrue back ↔ IsBelow f e) → StandsAs (order_from forth back) e f
    at true true forth back = (forth.0 refl, back.0 refl)
    at true false forth back = (forth.0 refl, λ below. false≢true (back.1 below))
    at false true forth back = (λ below. false≢true (forth.1 below), back.0 refl)
    at false false forth back = (λ below. false≢true (forth.1 below), λ below. false≢true (back.1 below))

-- the trees stand in no other way
pub stands_as_compared : (order : Order) (e f : EventTree) → StandsAs order e f → order ≡ tree_order e f
stands_as_compared order e f stands = stand_one_way e f order (tree_order e f) stands (tree_order_stands e f)

-- a tree is the same as itself
pub tree_order_itself : (e : EventTree) → Same ≡ tree_order e e
tree_order_itself e = stands_as_compared Same e e (stands_same e)

pub is_order_iff : (wanted order : Order) → IsTrue (is_order wanted order) ↔ (wanted ≡ order)
is_order_iff Same Same = (λ is. refl, λ same. refl)
is_order_iff Same Before = (λ is. absurd (false≢true is), λ same. cc)
is_order_iff Same After = (λ is. absurd (false≢true is), λ same. cc)
is_order_iff Same Concurrent = (λ is. absurd (false≢true is), λ same. cc)
is_order_iff Before Same = (λ is. absurd (false≢true is), λ same. cc)
is_order_iff Before Before = (λ is. refl, λ same. refl)
is_order_iff Before After = (λ is. absurd (false≢true is), λ same. cc)
is_order_iff Before Concurrent = (λ is. absurd (false≢true is), λ same. cc)
is_order_iff After Same = (λ is. absurd (false≢true is), λ same. cc)
is_order_iff After Before = (λ is. absurd (false≢true is), λ same. cc)
is_order_iff After After = (λ is. refl, λ same. refl)
is_order_iff After Concurrent = (λ is. absurd (false≢true is), λ same. cc)
is_order_iff Concurrent Same = (λ is. absurd (false≢true is), λ same. cc)
is_order_iff Concurrent Before = (λ is. absurd (false≢true is), λ same. cc)
is_order_iff Concurrent After = (λ is. absurd (false≢true is), λ same. cc)
is_order_iff Concurrent Concurrent = (λ is. refl, λ same. refl)
