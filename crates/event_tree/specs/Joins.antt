-- What the join of two lifted trees is found to be.
use Rattle.std.specs.Prelude.{◌≡◌, ℕ, Bool, true, false, IsTrue, ◌==◌, if◌then◌else◌}
use Rattle.trace_types.specs.clock.EventTree.{EventTree}
use Rattle.trace_types.specs.clock.Join.{joined}
use Rattle.event_tree.specs.Lifted.{IsLiftedBelow}
use Rattle.event_tree.specs.declared.ev_tree.joining.Join.{Join}
use Rattle.event_tree.specs.declared.ev_tree.joining.Join.TheVariants.{Made, Second, First, Either}

-- it is the second tree, since the first is below it
abbrev pub gives_second : Join → Bool
gives_second Made = false
gives_second Second = true
gives_second First = false
gives_second Either = true

-- it is the first tree, since the second is below it
abbrev pub gives_first : Join → Bool
gives_first Made = false
gives_first Second = false
gives_first First = true
gives_first Either = true

-- whether it is the second, as the lowest bit, and whether it is the first, as the next one
abbrev pub bits_of : Join → ℕ
bits_of Made = 0
bits_of Second = 1
bits_of First = 2
bits_of Either = 3

-- the join with these bits
abbrev pub join_of : ℕ → Join
join_of bits = if bits == 0 then Made else (if bits == 1 then Second else (if bits == 2 then First else Either))

-- a join that is neither is the tree that was made
abbrev pub StandsInPlace : Join → EventTree → ℕ → EventTree → ℕ → EventTree → Type 0
StandsInPlace Made made a e b f = made ≡ joined a e b f
StandsInPlace Second made a e b f = Unit {0}
StandsInPlace First made a e b f = Unit {0}
StandsInPlace Either made a e b f = Unit {0}

-- the join of the first tree lifted by a and of the second lifted by b
pub record IsJoin (join : Join) (made : EventTree) (a : ℕ) (e : EventTree) (b : ℕ) (f : EventTree) : Type 0 where
  pub exact : StandsInPlace join made a e b f
  pub second : IsTrue (gives_second join) → IsLiftedBelow a e b f
  pub first : IsTrue (gives_first join) → IsLiftedBelow b f a e
