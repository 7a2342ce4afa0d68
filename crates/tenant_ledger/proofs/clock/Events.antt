-- The numbers of events, and what is known at them after one row more.
use Rattle.std.proofs.lemmas.Bool.Decides.{nat_tests}
use Rattle.std.proofs.Common.{◌≡◌, ◌≢◌, ℕ, ◌<◌, ◌≤◌, IsTrue, eqb, [], ◌∷◌, length, refl, ◌∙◌, arith}
use Rattle.std.proofs.lemmas.Bool.{eq-eqb, ne_eqb, cond-true, cond-false}
use Rattle.tenant_ledger.proofs.Words.{History, is_event, Clock, tree_of, acting_id, known_before, Row}
use Rattle.tenant_ledger.proofs.clock.Reaching.{new_event, first_of, second_of}

pub event_bounds : (history : History) (event : ℕ) → IsTrue (is_event history event) → (0 < event) × (event ≤ length history)
event_bounds history event is = grind (arith, nat_tests)

pub event_from_bounds : (history : History) (event : ℕ) → 0 < event → event ≤ length history → IsTrue (is_event history event)
event_from_bounds history event positive within = grind (arith, nat_tests)

-- what is no event knows nothing
pub tree_of-nothing : {Id Tree : Type 0} (clock : Clock Id Tree) (history : History) → tree_of clock history 0 ≡ clock.start
tree_of-nothing clock [] = refl
tree_of-nothing clock (row ∷ earlier) =
    cond-false (eqb 0 (new_event earlier)) _ _ (ne_eqb 0 (new_event earlier) (λ same. omega (arith, same)))
    ∙ tree_of-nothing clock earlier

module _ {Id Tree : Type 0} (clock : Clock Id Tree) (row : Row) (earlier : History) where
  -- what the new event's task knows before it
  abbrev pub known_before_new : Tree
  known_before_new = known_before clock row.kind (tree_of clock earlier (first_of row earlier)) (tree_of clock earlier (second_of row earlier))

  pub tree_of-new : tree_of clock (row ∷ earlier) (new_event earlier) ≡ clock.event (acting_id clock earlier row) known_before_new
  tree_of-new = cond-true (eqb (new_event earlier) (new_event earlier)) _ _ (eq-eqb (new_event earlier) (new_event earlier) refl)

  pub tree_of-older : (event : ℕ) → event ≢ new_event earlier → tree_of clock (row ∷ earlier) event ≡ tree_of clock earlier event
  tree_of-older event older = cond-false (eqb event (new_event earlier)) _ _ (ne_eqb event (new_event earlier) older)
