-- The inner nodes of all ids and trees of a history lie at places of which each spawn adds one at most.
use Rattle.std.proofs.Common.{◌≡◌, ℕ, suc, ◌≤◌, [], ◌∷◌, length, ◌+◌, Option, Some, None, subst, cond, arith}
use Rattle.std.proofs.lemmas.Bool.{cond_both}
use Rattle.std.proofs.lemmas.List.Sums.{sum_by-cons}
use Rattle.std.specs.Prelude.{◌==◌}
use Rattle.trace_types.specs.clock.Id.{Id, Zero, One}
use Rattle.trace_types.specs.clock.EventTree.{EventTree}
use Rattle.trace_types.specs.clock.Event.{event as after_event}
use Rattle.trace_types.specs.clock.Clock.{tree_clock}
use Rattle.trace_types.specs.clock.Stamps.{of_named, id_at, id_kept, id_given, id_of, acting_id, known_before, tree_of}
use Rattle.trace_types.specs.tenant.Reachability.{second_event}
use Rattle.trace_types.specs.tenant.Rows.{History, last_event, names, spawn_count, starts_task}
use Rattle.trace_types.specs.text.Name.{Text, is_same, root}
use Rattle.trace_types.specs.declared.row.Row.{Row}
use Rattle.trace_types.specs.declared.row.Kind.{Kind}
use Rattle.trace_types.specs.declared.row.Kind.TheVariants.{Local, Spawn, Send, Recv, End, Join}
use Rattle.trace_types.proofs.Names.{is_same_iff}
use Rattle.id_tree.proofs.Places.{Places, Nowhere, place_count, AreAmong, AreAmong-trans, inside, among-sum, opened, place_count-opened, among-opened, among-split}
use Rattle.event_tree.proofs.Places as trees

-- the places after a row: a spawn opens one where it splits its task's id
abbrev places_with : Kind → Id → Places → Places
places_with Local own places = places
places_with Spawn own places = opened own places
places_with Send own places = places
places_with Recv own places = places
places_with End own places = places
places_with Join own places = places

-- the places of a history
abbrev pub places_of : History → Places
places_of [] = Nowhere
places_of (row ∷ earlier) = places_with row.kind (id_of tree_clock earlier row.task) (places_of earlier)

-- a row adds a place only where it is a spawn
place_count-with : (kind : Kind) (own : Id) (places : Places) → place_count (places_with kind own places) ≤ cond (starts_task kind) 1 0 + place_count places
place_count-with Spawn own places = omega (arith, place_count-opened own places)
place_count-with Local own places = omega arith
place_count-with Send own places = omega arith
place_count-with Recv own places = omega arith
place_count-with End own places = omega arith
place_count-with Join own places = omega arith

-- how many spawns there are with a row
pub spawn_count-cons : (row : Row) (earlier : History) → spawn_count (row ∷ earlier) ≡ cond (starts_task row.kind) 1 0 + spawn_count earlier
spawn_count-cons row earlier = sum_by-cons (λ (r : Row). cond (starts_task r.kind) 1 0) row earlier

-- they are as many as the spawns, or fewer
pub place_count-le_spawns : (history : History) → place_count (places_of history) ≤ spawn_count history
place_count-le_spawns [] = omega arith
place_count-le_spawns (row ∷ earlier) =
    omega (arith, spawn_count-cons row earlier, place_count-with row.kind (id_of tree_clock earlier row.task) (places_of earlier), place_count-le_spawns earlier)

-- the id has its inner nodes at these places
abbrev IsIdAmong : Places → Id → Type 0
IsIdAmong places id = AreAmong (inside id) places

-- the places that were are among those after a row
among-places_with : (kind : Kind) (own : Id) (places : Places) (some : Places) → AreAmong some places → AreAmong some (places_with kind own places)
among-places_with Spawn own places some among = AreAmong-trans some places (opened own places) among (among-opened own places)
among-places_with Local own places some among = among
among-places_with Send own places some among = among
among-places_with Recv own places some among = among
among-places_with End own places some among = among
among-places_with Join own places some among = among

module _ (own named : Id) (places : Places) (own_among : IsIdAmong places own) (named_among : IsIdAmong places named) where
  among-id_at : (kind : Kind) → IsIdAmong places (id_at tree_clock kind own named)
  among-id_at Join = among-sum own named places own_among named_among
  among-id_at kind = own_among

  among-id_kept : (kind : Kind) → IsIdAmong (places_with kind own places) (id_kept tree_clock kind own named)
  among-id_kept Spawn = (among-split own places own_among).0
  among-id_kept Join = among-sum own named places own_among named_among
  among-id_kept Local = own_among
  among-id_kept Send = own_among
  among-id_kept Recv = own_among
  among-id_kept End = own_among

  among-id_given : (kind : Kind) → IsIdAmong (places_with kind own places) (id_given tree_clock kind own named)
  among-id_given Spawn = (among-split own places own_among).1
  among-id_given Join = tt
  among-id_given Local = named_among
  among-id_given Send = named_among
  among-id_given Recv = named_among
  among-id_given End = named_among

among-of_named : (places : Places) (id : Text → Id) → ((task : Text) → IsIdAmong places (id task)) → (name : Option Text) → IsIdAmong places (of_named Zero id name)
among-of_named places id among None = tt
among-of_named places id among (Some name) = among name

-- the id of the task that the row names
abbrev named : Row → History → Id
named row earlier = of_named Zero (id_of tree_clock earlier) row.name

among-named : (row : Row) (earlier : History) → ((task : Text) → IsIdAmong (places_of earlier) (id_of tree_clock earlier task)) → IsIdAmong (places_of earlier) (named row earlier)
among-named row earlier before = among-of_named (places_of earlier) (id_of tree_clock earlier) before row.name

-- each task's id has its inner nodes at the places of the history
pub among-id_of : (history : History) (task : Text) → IsIdAmong (places_of history) (id_of tree_clock history task)
among-id_of [] task = cond_both (is_same task root) One Zero (IsIdAmong Nowhere) (λ whole. tt) (λ nobody. tt)
among-id_of (row ∷ earlier) task =
    let before = among-id_of earlier in
    let places = places_of earlier in
    let own = id_of tree_clock earlier row.task in
    let among = IsIdAmong (places_of (row ∷ earlier)) in
    cond_both (is_same row.task task) _ _ among
    (λ acts. subst (λ name. among (id_kept tree_clock row.kind (id_of tree_clock earlier name) (named row earlier))) ((is_same_iff row.task task).0 acts)
    (among-id_kept own (named row earlier) places (before row.task) (among-named row earlier before) row.kind))
    λ other. cond_both (names row task) _ _ among
    (λ is. among-id_given own (id_of tree_clock earlier task) places (before row.task) (before task) row.kind)
    (λ none. among-places_with row.kind own places (inside (id_of tree_clock earlier task)) (before task))

among-acting_id : (row : Row) (earlier : History) → IsIdAmong (places_of earlier) (acting_id tree_clock earlier row)
among-acting_id row earlier =
    let before = among-id_of earlier in
    among-id_at (id_of tree_clock earlier row.task) (named row earlier) (places_of earlier) (before row.task) (among-named row earlier before) row.kind

-- the tree has its inner nodes at these places
abbrev IsTreeAmong : Places → EventTree → Type 0
IsTreeAmong places tree = AreAmong (trees.inside tree) places

among-known_before : (kind : Kind) (own second : EventTree) (places : Places) → IsTreeAmong places own → IsTreeAmong places second
    → IsTreeAmong places (known_before tree_clock kind own second)
among-known_before Recv own second places own_among second_among = trees.among-join own second places own_among second_among
among-known_before Join own second places own_among second_among = trees.among-join own second places own_among second_among
among-known_before Local own second places own_among second_among = own_among
among-known_before Spawn own second places own_among second_among = own_among
among-known_before Send own second places own_among second_among = own_among
among-known_before End own second places own_among second_among = own_among

-- what each event knows has its inner nodes at the places of the history
pub among-tree_of : (history : History) (event : ℕ) → IsTreeAmong (places_of history) (tree_of tree_clock history event)
among-tree_of [] event = tt
among-tree_of (row ∷ earlier) event =
    let before = among-tree_of earlier in
    let places = places_of earlier in
    let own = tree_of tree_clock earlier (last_event earlier row.task) in
    let second = tree_of tree_clock earlier (second_event earlier row.kind row.name) in
    let known = known_before tree_clock row.kind own second in
    let after = after_event (acting_id tree_clock earlier row) known in
    let acting = id_of tree_clock earlier row.task in
    cond_both (event == suc (length earlier)) after (tree_of tree_clock earlier event) (IsTreeAmong (places_of (row ∷ earlier)))
    (λ new. among-places_with row.kind acting places (trees.inside after)
    (trees.among-event (acting_id tree_clock earlier row) known places (among-acting_id row earlier)
    (among-known_before row.kind own second places (before (last_event earlier row.task)) (before (second_event earlier row.kind row.name)))))
    (λ old. among-places_with row.kind acting places (trees.inside (tree_of tree_clock earlier event)) (before event))
