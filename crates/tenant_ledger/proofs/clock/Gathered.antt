-- What is known before the new event: what its task knew, or the join of that with what its second event knew.
use Rattle.std.proofs.Common.{◌≡◌, ℕ, ◌≤◌, false, Option, refl, inl, inr, arith}
use Rattle.std.proofs.lemmas.Bool.{cond_both, cases_lt}
use Rattle.tenant_ledger.proofs.Words.{Text, History, second_event, Clock, tree_of, takes_in, Row, Kind, Local, ClockLaws, value_of}
use Rattle.tenant_ledger.proofs.clock.Events.{known_before_new, tree_of-nothing}
use Rattle.tenant_ledger.proofs.clock.Reaching.{first_of, second_of, Follows}

-- a report that takes nothing in follows no second event
second_event-nothing : (history : History) (kind : Kind) (name : Option Text) → takes_in kind ≡ false → second_event history kind name ≡ 0
second_event-nothing history Local name alone = refl
second_event-nothing history kind name alone = cc

module _ {Id Tree : Type 0} {clock : Clock Id Tree} {Point : Type 0} {IsNormalId : Id → Type 0} {IsNormalTree : Tree → Type 0}
    (laws : ClockLaws clock Point IsNormalId IsNormalTree) (row : Row) (earlier : History) where
  -- the tree is what the events that the row follows know
  pub record Gathers (tree : Tree) : Type 0 where
    pub normal : IsNormalTree tree
    pub followed_below : (event : ℕ) → Follows row earlier event → (point : Point) → value_of laws earlier event point ≤ laws.value tree point
    pub from_followed : (point : Point) → (event : ℕ) × Follows row earlier event × (laws.value tree point ≤ value_of laws earlier event point)

  module _ (normal : (event : ℕ) → IsNormalTree (tree_of clock earlier event)) where
    abbrev first : Tree
    first = tree_of clock earlier (first_of row earlier)

    abbrev second : Tree
    second = tree_of clock earlier (second_of row earlier)

    alone : takes_in row.kind ≡ false → Gathers first
    alone takes = record {
      normal = normal (first_of row earlier);
      followed_below = λ event follows point.
          grind (arith, second_event-nothing earlier row.kind row.name takes, tree_of-nothing clock earlier, laws.start_value point);
      from_followed = λ point. (first_of row earlier, inl refl, omega arith);
    }

    joined : Gathers (clock.join first second)
    joined = record {
      normal = laws.join_normal first second (normal (first_of row earlier)) (normal (second_of row earlier));
      followed_below = λ event follows point. grind (arith, laws.join_value first second point);
      from_followed = λ point. elim (cases_lt (laws.value first point) (laws.value second point)) [
        | inl less ↦ (second_of row earlier, inr refl, omega (arith, laws.join_value first second point, less))
        | inr other ↦ (first_of row earlier, inl refl, omega (arith, laws.join_value first second point, other))
      ];
    }

    pub gathers : Gathers (known_before_new clock row earlier)
    gathers = cond_both (takes_in row.kind) _ _ Gathers (λ _. joined) alone
