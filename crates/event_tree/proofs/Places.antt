-- The places of an event tree's inner nodes: each operation on trees has its inner nodes where the trees before it had
-- theirs, or where the id does.
use Rattle.std.proofs.Common.{◌≡◌, ℕ, ◌+◌, ◌-◌, ◌≤◌, min, max, refl, arith}
use Rattle.std.proofs.lemmas.Bool.{cond_both}
use Rattle.std.specs.Prelude.{◌==◌}
use Rattle.trace_types.specs.clock.Id.{Id, Zero, One, Pair}
use Rattle.trace_types.specs.clock.EventTree.{EventTree, Leaf, Node, minimum, maximum}
use Rattle.trace_types.specs.clock.Norm.{lowered, sunk, norm}
use Rattle.trace_types.specs.clock.Join.{joined_number, joined, join}
use Rattle.trace_types.specs.clock.Fill.{node_filled, fill}
use Rattle.trace_types.specs.clock.Grow.{root_number, left_of, right_of, cost, is_cheaper, grown}
use Rattle.trace_types.specs.clock.Event.{is_same_tree, normalised, event}
use Rattle.trace_types.specs.clock.Size.{inner_of_tree}
use Rattle.id_tree.proofs.Places as ids
use Rattle.id_tree.proofs.Places.{Places, Nowhere, Here, place_count, AreAmong, place_count-le}

-- the places of a tree's inner nodes
abbrev pub inside : EventTree → Places
inside (Leaf n) = Nowhere
inside (Node n left right) = Here (inside left) (inside right)

place_count-inside : (tree : EventTree) → place_count (inside tree) ≡ inner_of_tree tree
place_count-inside (Leaf n) = refl
place_count-inside (Node n left right) = omega (arith, place_count-inside left, place_count-inside right)

-- a tree whose inner nodes are at these places has no more of them
pub inner_of_tree-le : (tree : EventTree) (places : Places) → AreAmong (inside tree) places → inner_of_tree tree ≤ place_count places
inner_of_tree-le tree places among = omega (arith, place_count-inside tree, place_count-le (inside tree) places among)

-- the tree has its inner nodes at these places
abbrev IsAmong : EventTree → Places → Type 0
IsAmong tree places = AreAmong (inside tree) places

among-lowered : (m : ℕ) (tree : EventTree) (places : Places) → IsAmong tree places → IsAmong (lowered m tree) places
among-lowered m (Leaf n) places among = tt
among-lowered m (Node n left right) places among = among

among-sunk : (n : ℕ) (left right : EventTree) (p q : Places) → IsAmong left p → IsAmong right q → IsAmong (sunk n left right) (Here p q)
among-sunk n left right p q in_left in_right =
    let m = min (minimum left) (minimum right) in (among-lowered m left p in_left, among-lowered m right q in_right)

-- the normal form of a node has no other places than the node
among-norm : (n : ℕ) (left right : EventTree) (p q : Places) → IsAmong left p → IsAmong right q → IsAmong (norm n left right) (Here p q)
among-norm n (Leaf l) (Leaf r) p q in_left in_right =
    cond_both (l == r) (Leaf (n + l)) (sunk n (Leaf l) (Leaf r)) (λ tree. IsAmong tree (Here p q)) (λ same. tt) (λ differ. (tt, tt))
among-norm n (Leaf l) (Node m l' r') p q in_left in_right = among-sunk n (Leaf l) (Node m l' r') p q in_left in_right
among-norm n (Node m l' r') right p q in_left in_right = among-sunk n (Node m l' r') right p q in_left in_right

among-joined_number : (m b : ℕ) (tree : EventTree) (places : Places) → IsAmong tree places → IsAmong (joined_number m b tree) places
among-joined_number m b (Leaf n) places among = tt
among-joined_number m b (Node n left right) Nowhere among = absurd among
among-joined_number m b (Node n left right) (Here p q) among =
    let low = min m (b + n) in
    among-norm low (joined_number (m - low) ((b + n) - low) left) (joined_number (m - low) ((b + n) - low) right) p q
    (among-joined_number (m - low) ((b + n) - low) left p among.0)
    (among-joined_number (m - low) ((b + n) - low) right q among.1)

-- a join has no other places than the two trees
among-joined : (a : ℕ) (e : EventTree) (b : ℕ) (f : EventTree) (places : Places) → IsAmong e places → IsAmong f places → IsAmong (joined a e b f) places
among-joined a (Leaf m) b f places in_e in_f = among-joined_number (a + m) b f places in_f
among-joined a (Node m l r) b (Leaf n) places in_e in_f = among-joined_number (b + n) a (Node m l r) places in_e
among-joined a (Node m l r) b (Node n l' r') Nowhere in_e in_f = absurd in_e
among-joined a (Node m l r) b (Node n l' r') (Here p q) in_e in_f =
    let low = min (a + m) (b + n) in
    among-norm low (joined ((a + m) - low) l ((b + n) - low) l') (joined ((a + m) - low) r ((b + n) - low) r') p q
    (among-joined ((a + m) - low) l ((b + n) - low) l' p in_e.0 in_f.0)
    (among-joined ((a + m) - low) r ((b + n) - low) r' q in_e.1 in_f.1)

pub among-join : (e f : EventTree) (places : Places) → AreAmong (inside e) places → AreAmong (inside f) places → AreAmong (inside (join e f)) places
among-join e f places in_e in_f = among-joined 0 e 0 f places in_e in_f

-- a filled node has no other places than its children before or after
among-node_filled : (n : ℕ) (il ir : Id) (l r l' r' : EventTree) (p q : Places) → IsAmong l' p → IsAmong r' q → IsAmong (node_filled n il ir l r l' r') (Here p q)
among-node_filled n One ir l r l' r' p q in_left in_right = among-norm n (Leaf (max (maximum l) (minimum r'))) r' p q tt in_right
among-node_filled n Zero One l r l' r' p q in_left in_right = among-norm n l' (Leaf (max (maximum r) (minimum l'))) p q in_left tt
among-node_filled n (Pair a b) One l r l' r' p q in_left in_right = among-norm n l' (Leaf (max (maximum r) (minimum l'))) p q in_left tt
among-node_filled n Zero Zero l r l' r' p q in_left in_right = among-norm n l' r' p q in_left in_right
among-node_filled n Zero (Pair c d) l r l' r' p q in_left in_right = among-norm n l' r' p q in_left in_right
among-node_filled n (Pair a b) Zero l r l' r' p q in_left in_right = among-norm n l' r' p q in_left in_right
among-node_filled n (Pair a b) (Pair c d) l r l' r' p q in_left in_right = among-norm n l' r' p q in_left in_right

-- a filled tree has no other places than the tree
among-fill : (id : Id) (tree : EventTree) (places : Places) → IsAmong tree places → IsAmong (fill id tree) places
among-fill Zero tree places among = among
among-fill One tree places among = tt
among-fill (Pair il ir) (Leaf n) places among = tt
among-fill (Pair il ir) (Node n l r) Nowhere among = absurd among
among-fill (Pair il ir) (Node n l r) (Here p q) among =
    among-node_filled n il ir l r (fill il l) (fill ir r) p q (among-fill il l p among.0) (among-fill ir r q among.1)

-- the children of a number have no places
among-children : (tree : EventTree) (p q : Places) → IsAmong tree (Here p q) → IsAmong (left_of tree) p × IsAmong (right_of tree) q
among-children (Leaf n) p q among = (tt, tt)
among-children (Node n left right) p q among = (among.0, among.1)

-- a grown tree has no other places than the tree and the id: a number is opened only where the id has an inner node
among-grown : (id : Id) (tree : EventTree) (places : Places) → AreAmong (ids.inside id) places → IsAmong tree places → IsAmong (grown id tree) places
among-grown Zero tree places in_id in_tree = in_tree
among-grown One tree places in_id in_tree = tt
among-grown (Pair il ir) tree Nowhere in_id in_tree = absurd in_id
among-grown (Pair il ir) tree (Here p q) in_id in_tree =
    let children = among-children tree p q in_tree in
    cond_both (is_cheaper (cost il (left_of tree)) (cost ir (right_of tree)))
    (Node (root_number tree) (grown il (left_of tree)) (right_of tree))
    (Node (root_number tree) (left_of tree) (grown ir (right_of tree)))
    (λ after. IsAmong after (Here p q))
    (λ left. (among-grown il (left_of tree) p in_id.0 children.0, children.1))
    (λ right. (children.0, among-grown ir (right_of tree) q in_id.1 children.1))

-- nor has its normal form
among-normalised : (tree : EventTree) (places : Places) → IsAmong tree places → IsAmong (normalised tree) places
among-normalised (Leaf n) places among = tt
among-normalised (Node n left right) Nowhere among = absurd among
among-normalised (Node n left right) (Here p q) among =
    among-norm n (normalised left) (normalised right) p q (among-normalised left p among.0) (among-normalised right q among.1)

-- so the tree after an event has no other places than the tree before it and the id
pub among-event : (id : Id) (tree : EventTree) (places : Places) → AreAmong (ids.inside id) places → AreAmong (inside tree) places → AreAmong (inside (event id tree)) places
among-event id tree places in_id in_tree =
    cond_both (is_same_tree (fill id tree) tree) (normalised (grown id tree)) (fill id tree) (λ after. IsAmong after places)
    (λ same. among-normalised (grown id tree) places (among-grown id tree places in_id in_tree))
    (λ differ. among-fill id tree places in_tree)
