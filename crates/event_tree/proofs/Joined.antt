-- The join has the greater value at each point and is normal, and it is the one of the table.
use Rattle.std.proofs.Common.{◌≡◌, ℕ, ◌+◌, ◌-◌, ◌≤◌, min, max, arith}
use Rattle.trace_types.specs.clock.Points.{Half, Left, Right, Point, half_of, within_half, at_half}
use Rattle.trace_types.specs.clock.EventTree.{EventTree, Leaf, Node, value, minimum, maximum, IsNormal}
use Rattle.trace_types.specs.clock.Norm.{norm}
use Rattle.trace_types.specs.clock.Join.{lifted, joined_number, joined, join}
use Rattle.event_tree.specs.Lifted.{IsLiftedBelow}
use Rattle.event_tree.specs.Tables.{IsPublishedJoin}
use Rattle.event_tree.proofs.Bounds.{minimum-le-value, value-le-maximum, reaches_maximum}
use Rattle.event_tree.proofs.Canonical.{same_from_values}
use Rattle.event_tree.proofs.NormLemmas.{value-norm, normal_norm}
use Rattle.event_tree.proofs.Values.{on_both}

pub normal_joined_number : (m b : ℕ) (f : EventTree) → IsNormal (joined_number m b f)
normal_joined_number m b (Leaf n) = tt
normal_joined_number m b (Node n l r) =
    let low = min m (b + n) in
    normal_norm low _ _ (normal_joined_number (m - low) ((b + n) - low) l) (normal_joined_number (m - low) ((b + n) - low) r)

pub normal_joined : (a : ℕ) (e : EventTree) (b : ℕ) (f : EventTree) → IsNormal (joined a e b f)
normal_joined a (Leaf m) b f = normal_joined_number (a + m) b f
normal_joined a (Node m l r) b (Leaf n) = normal_joined_number (b + n) a (Node m l r)
normal_joined a (Node m l r) b (Node n l' r') =
    let low = min (a + m) (b + n) in
    normal_norm low _ _ (normal_joined ((a + m) - low) l ((b + n) - low) l') (normal_joined ((a + m) - low) r ((b + n) - low) r')

-- a normal form has a node's values, so a fact of its children's values on either side is one of its own
module _ (n : ℕ) (left right : EventTree) (left_normal : IsNormal left) (right_normal : IsNormal right) where
  pub value-norm-both : (P : ℕ → ℕ → Type 0) (f g : EventTree) (point : Point) → P (n + value left (within_half point)) (value f (within_half point)) → P (n + value right (within_half point)) (value g (within_half point)) → P (value (norm n left right) point) (at_half (half_of point) (value f (within_half point)) (value g (within_half point)))
  value-norm-both P f g point on_left on_right =
      rw (value-norm n left right left_normal right_normal point)
      (on_both (λ v w. P (n + v) w) (half_of point) (value left (within_half point)) (value right (within_half point)) (value f (within_half point)) (value g (within_half point)) on_left on_right)

pub value-joined_number : (m b : ℕ) (f : EventTree) (point : Point) → value (joined_number m b f) point ≡ max m (b + value f point)
value-joined_number m b (Leaf n) point = omega arith
value-joined_number m b (Node n l r) point =
    let low = min m (b + n) in
    let one = joined_number (m - low) ((b + n) - low) l in
    let other = joined_number (m - low) ((b + n) - low) r in
    value-norm-both low one other (normal_joined_number _ _ l) (normal_joined_number _ _ r) (λ v w. v ≡ max m (b + (n + w))) l r point
    (omega (arith, value-joined_number (m - low) ((b + n) - low) l (within_half point)))
    (omega (arith, value-joined_number (m - low) ((b + n) - low) r (within_half point)))

pub value-joined : (a : ℕ) (e : EventTree) (b : ℕ) (f : EventTree) (point : Point) → value (joined a e b f) point ≡ max (a + value e point) (b + value f point)
value-joined a (Leaf m) b f point = value-joined_number (a + m) b f point
value-joined a (Node m l r) b (Leaf n) point = omega (arith, value-joined_number (b + n) a (Node m l r) point)
value-joined a (Node m l r) b (Node n l' r') point =
    let low = min (a + m) (b + n) in
    let one = joined ((a + m) - low) l ((b + n) - low) l' in
    let other = joined ((a + m) - low) r ((b + n) - low) r' in
    let here = half_of point in
    let rest = within_half point in
    rw (value-norm low one other (normal_joined _ l _ l') (normal_joined _ r _ r') point)
    (by_half low m n a b here (value one rest) (value other rest) (value l rest) (value r rest) (value l' rest) (value r' rest)
    (omega (arith, value-joined ((a + m) - low) l ((b + n) - low) l' rest))
    (omega (arith, value-joined ((a + m) - low) r ((b + n) - low) r' rest)))
  where
    by_half : (low m n a b : ℕ) (half : Half) (x y v w v' w' : ℕ) → low + x ≡ max (a + (m + v)) (b + (n + v')) → low + y ≡ max (a + (m + w)) (b + (n + w')) → low + at_half half x y ≡ max (a + (m + at_half half v w)) (b + (n + at_half half v' w'))
    by_half low m n a b Left x y v w v' w' left right = left
    by_half low m n a b Right x y v w v' w' left right = right

-- the join has no greater value than the greater of the two
pub maximum-joined-le : (a : ℕ) (e : EventTree) (b : ℕ) (f : EventTree) → maximum (joined a e b f) ≤ max (a + maximum e) (b + maximum f)
maximum-joined-le a e b f =
    let high = reaches_maximum (joined a e b f) in
    omega (arith, high.1, value-joined a e b f high.0, value-le-maximum e high.0, value-le-maximum f high.0)

pub maximum-joined_number-le : (m b : ℕ) (f : EventTree) → maximum (joined_number m b f) ≤ max m (b + maximum f)
maximum-joined_number-le m b f =
    let high = reaches_maximum (joined_number m b f) in
    omega (arith, high.1, value-joined_number m b f high.0, value-le-maximum f high.0)

value-lifted : (m : ℕ) (tree : EventTree) (point : Point) → value (lifted m tree) point ≡ m + value tree point
value-lifted m (Leaf n) point = omega arith
value-lifted m (Node n l r) point = omega arith

normal_lifted : (m : ℕ) (tree : EventTree) → IsNormal tree → IsNormal (lifted m tree)
normal_lifted m (Leaf n) normal = tt
normal_lifted m (Node n l r) normal = normal

-- the join with a tree that is below is the other tree
pub joined-first : (a : ℕ) (e : EventTree) (b : ℕ) (f : EventTree) → IsNormal e → IsLiftedBelow b f a e → joined a e b f ≡ lifted a e
joined-first a e b f normal below =
    same_from_values (joined a e b f) (lifted a e) (normal_joined a e b f) (normal_lifted a e normal) (λ point. omega (arith, value-joined a e b f point, value-lifted a e point, below point))

pub joined-second : (a : ℕ) (e : EventTree) (b : ℕ) (f : EventTree) → IsNormal f → IsLiftedBelow a e b f → joined a e b f ≡ lifted b f
joined-second a e b f normal below =
    same_from_values (joined a e b f) (lifted b f) (normal_joined a e b f) (normal_lifted b f normal) (λ point. omega (arith, value-joined a e b f point, value-lifted b f point, below point))

-- the join with a number that no value of the tree is below is the tree
pub joined_number-below : (m b : ℕ) (f : EventTree) → IsNormal f → m ≤ b + minimum f → joined_number m b f ≡ lifted b f
joined_number-below m b f normal below =
    same_from_values (joined_number m b f) (lifted b f) (normal_joined_number m b f) (normal_lifted b f normal) (λ point. omega (arith, value-joined_number m b f point, value-lifted b f point, minimum-le-value f point))

-- a number that no value of the tree exceeds is the join
pub joined_number-above : (m b : ℕ) (f : EventTree) → b + maximum f ≤ m → joined_number m b f ≡ Leaf m
joined_number-above m b f above =
    same_from_values (joined_number m b f) (Leaf m) (normal_joined_number m b f) tt (λ point. omega (arith, value-joined_number m b f point, value-le-maximum f point))

-- two joins that have the same values are the same tree
same_join : (e f g h : EventTree) → ((point : Point) → max (value e point) (value f point) ≡ max (value g point) (value h point)) → join e f ≡ join g h
same_join e f g h same =
    same_from_values (join e f) (join g h) (normal_joined 0 e 0 f) (normal_joined 0 g 0 h) (λ point. omega (arith, value-joined 0 e 0 f point, value-joined 0 g 0 h point, same point))

-- a number has the values of a node over 0 and 0
value-over_0 : (n : ℕ) (point : Point) → value (Node n (Leaf 0) (Leaf 0)) point ≡ n
value-over_0 n point = omega (arith, on_both (λ v w. v ≡ 0) (half_of point) 0 0 0 0 (omega arith) (omega arith))

join-nodes : (m n : ℕ) (l r l' r' : EventTree) → m ≤ n → join (Node m l r) (Node n l' r') ≡ norm m (join l (lifted (n - m) l')) (join r (lifted (n - m) r'))
join-nodes m n l r l' r' le =
    let one = join l (lifted (n - m) l') in
    let other = join r (lifted (n - m) r') in
    let one_normal = normal_joined 0 l 0 (lifted (n - m) l') in
    let other_normal = normal_joined 0 r 0 (lifted (n - m) r') in
    same_from_values (join (Node m l r) (Node n l' r')) (norm m one other) (normal_joined 0 (Node m l r) 0 (Node n l' r')) (normal_norm m one other one_normal other_normal)
    (λ point.
    let rest = within_half point in
    let on_left : m + value one rest ≡ max (m + value l rest) (n + value l' rest) = omega (arith, value-joined 0 l 0 (lifted (n - m) l') rest, value-lifted (n - m) l' rest) in
    let on_right : m + value other rest ≡ max (m + value r rest) (n + value r' rest) = omega (arith, value-joined 0 r 0 (lifted (n - m) r') rest, value-lifted (n - m) r' rest) in
    let here = by_half m n (half_of point) (value one rest) (value other rest) (value l rest) (value r rest) (value l' rest) (value r' rest) on_left on_right in
    omega (arith, value-joined 0 (Node m l r) 0 (Node n l' r') point, value-norm m one other one_normal other_normal point, here))
  where
    by_half : (m n : ℕ) (half : Half) (x y v w v' w' : ℕ) → m + x ≡ max (m + v) (n + v') → m + y ≡ max (m + w) (n + w') → m + at_half half x y ≡ max (m + at_half half v w) (n + at_half half v' w')
    by_half m n Left x y v w v' w' left right = left
    by_half m n Right x y v w v' w' left right = right

-- the join of two nodes, by the joins of their sides with all of both numbers on them
pub joined-sides : (m n : ℕ) (l r l' r' : EventTree) → norm 0 (joined m l n l') (joined m r n r') ≡ joined 0 (Node m l r) 0 (Node n l' r')
joined-sides m n l r l' r' =
    let one = joined m l n l' in
    let other = joined m r n r' in
    let one_normal = normal_joined m l n l' in
    let other_normal = normal_joined m r n r' in
    same_from_values (norm 0 one other) (joined 0 (Node m l r) 0 (Node n l' r')) (normal_norm 0 one other one_normal other_normal) (normal_joined 0 (Node m l r) 0 (Node n l' r'))
    (λ point.
    let rest = within_half point in
    let here = by_half m n (half_of point) (value one rest) (value other rest) (value l rest) (value r rest) (value l' rest) (value r' rest) (value-joined m l n l' rest) (value-joined m r n r' rest) in
    omega (arith, value-joined 0 (Node m l r) 0 (Node n l' r') point, value-norm 0 one other one_normal other_normal point, here))
  where
    by_half : (m n : ℕ) (half : Half) (x y v w v' w' : ℕ) → x ≡ max (m + v) (n + v') → y ≡ max (m + w) (n + w') → at_half half x y ≡ max (m + at_half half v w) (n + at_half half v' w')
    by_half m n Left x y v w v' w' left right = left
    by_half m n Right x y v w v' w' left right = right

pub is_published_join : IsPublishedJoin
is_published_join = record {
  numbers = λ m n. same_from_values (join (Leaf m) (Leaf n)) (Leaf (max m n)) (normal_joined 0 (Leaf m) 0 (Leaf n)) tt (λ point. omega (arith, value-joined 0 (Leaf m) 0 (Leaf n) point));
  number_first = λ m n l r. same_join (Leaf m) (Node n l r) (Node m (Leaf 0) (Leaf 0)) (Node n l r) (λ point. omega (arith, value-over_0 m point));
  number_second = λ m l r n. same_join (Node m l r) (Leaf n) (Node m l r) (Node n (Leaf 0) (Leaf 0)) (λ point. omega (arith, value-over_0 n point));
  nodes = join-nodes;
  swapped = λ e f. same_join e f f e (λ point. omega arith);
}

pub value-join : (e f : EventTree) (point : Point) → value (join e f) point ≡ max (value e point) (value f point)
value-join e f point = omega (arith, value-joined 0 e 0 f point)
