-- Lifting a node is lifting its number.
use Rattle.std.proofs.Common.{◌≡◌, ℕ, ◌+◌, ◌||◌, true, [], ◌∷◌, Result, Ok, Err, IfOk, arith}
use Rattle.trace_types.specs.clock.Points.{Left, Right}
use Rattle.trace_types.specs.clock.EventTree.{EventTree, Node}
use Rattle.trace_types.specs.declared.memory.Memory.{Memory}
use Rattle.event_tree.specs.Lifted.{IsLiftedBelow}
use Rattle.event_tree.specs.Joins.{gives_second, gives_first, StandsInPlace, IsJoin}
use Rattle.event_tree.specs.declared.ev_tree.joining.Join.{Join}
use Rattle.event_tree.specs.declared.ev_tree.joining.Join.TheVariants.{Made, Second, First, Either}

-- a join that one of the two trees is needs no tree that was made
pub given-is : (join : Join) (made : EventTree) (a : ℕ) (e : EventTree) (b : ℕ) (f : EventTree) → (gives_second join || gives_first join) ≡ true → StandsInPlace join made a e b f
given-is Made made a e b f given = absurd (cc)
given-is Second made a e b f given = tt
given-is First made a e b f given = tt
given-is Either made a e b f given = tt

below_nodes : (a m b n : ℕ) (l r l' r' : EventTree) → IsLiftedBelow 0 (Node (a + m) l r) 0 (Node (b + n) l' r') → IsLiftedBelow a (Node m l r) b (Node n l' r')
below_nodes a m b n l r l' r' below [] = omega (arith, below [])
below_nodes a m b n l r l' r' below (Left ∷ point) = omega (arith, below (Left ∷ point))
below_nodes a m b n l r l' r' below (Right ∷ point) = omega (arith, below (Right ∷ point))

module _ (made : EventTree) (a m b n : ℕ) (l r l' r' : EventTree) where
  made_nodes : (join : Join) → StandsInPlace join made 0 (Node (a + m) l r) 0 (Node (b + n) l' r') → StandsInPlace join made a (Node m l r) b (Node n l' r')
  made_nodes Made is =
      let root : 0 + (a + m) ≡ a + m = omega arith in
      let other_root : 0 + (b + n) ≡ b + n = omega arith in
      rw (root, other_root) at is
  made_nodes Second is = is
  made_nodes First is = is
  made_nodes Either is = is

  -- the join of two nodes, each with what lifts it in its number
  pub lifted_nodes : (found : Result Join Memory) → IfOk found (λ join. IsJoin join made 0 (Node (a + m) l r) 0 (Node (b + n) l' r')) → IfOk found (λ join. IsJoin join made a (Node m l r) b (Node n l' r'))
  lifted_nodes (Ok join) is = record {
    exact = made_nodes join is.exact;
    second = λ given. below_nodes a m b n l r l' r' (is.second given);
    first = λ given. below_nodes b n a m l' r' l r (is.first given);
  }
  lifted_nodes (Err memory) is = is
