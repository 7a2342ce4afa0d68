-- What reading a text as a stamp gives.
use Rattle.std.specs.Prelude.{◌≡◌, ℕ, List, Result, Ok, Err}
use Rattle.trace_types.specs.clock.Id.{Id}
use Rattle.trace_types.specs.clock.EventTree.{EventTree}
use Rattle.stamp_codec.specs.StampText.{Written, SpellsStamp, written_tree}
use Rattle.stamp_codec.specs.Faults.{IsShapeFault, IsLeast, IsTooLargeAt, IsNotNormalAt}
use Rattle.stamp_codec.specs.declared.stamp.Stamp.{Stamp}
use Rattle.stamp_codec.specs.declared.reading.StampFault.{StampFault}
use Rattle.stamp_codec.specs.declared.reading.StampFault.TheVariants.{Shape, TooLarge, NotNormal, Memory}

-- the text is shaped as this id and this tree, and neither nests too deep nor sums too high
pub record SpellsBounded (text : List ℕ) (id : Id) (tree : Written) : Type 0 where
  pub spells : SpellsStamp text id tree
  pub bounded : (place : ℕ) → ¬ IsTooLargeAt id tree place

-- and each node is normal
pub record SpellsNormal (text : List ℕ) (id : Id) (tree : Written) : Type 0 where
  pub within : SpellsBounded text id tree
  pub normal : (place : ℕ) → ¬ IsNotNormalAt id tree place

-- why the text is refused: its shape, else its size, else a node that is not normal; want of memory may come before
abbrev pub Refuses : List ℕ → StampFault → Type 0
Refuses text (Shape place) = IsShapeFault text place
Refuses text (TooLarge place) = (id : Id) × (tree : Written) × SpellsStamp text id tree × IsLeast (IsTooLargeAt id tree) place
Refuses text (NotNormal place) = (id : Id) × (tree : Written) × SpellsBounded text id tree × IsLeast (IsNotNormalAt id tree) place
Refuses text Memory = Unit {0}

-- the stamp that the text spells, or why there is none
abbrev pub ReadsStamp : List ℕ → Result Stamp StampFault → Type 0
ReadsStamp text (Ok stamp) = (tree : Written) × SpellsNormal text stamp.id tree × (stamp.tree ≡ written_tree tree)
ReadsStamp text (Err fault) = Refuses text fault

-- there was no memory
abbrev pub IsNoMemory : StampFault → Type 0
IsNoMemory (Shape place) = ⊥
IsNoMemory (TooLarge place) = ⊥
IsNoMemory (NotNormal place) = ⊥
IsNoMemory Memory = Unit {0}

-- the stamp of this id and this tree, unless memory ran out
abbrev pub GivesStamp : Result Stamp StampFault → Id → EventTree → Type 0
GivesStamp (Ok stamp) id tree = (stamp.id ≡ id) × (stamp.tree ≡ tree)
GivesStamp (Err fault) id tree = IsNoMemory fault
