-- Ways along listed edges, and one event more.
use Rattle.std.proofs.Common.{◌≡◌, ◌≢◌, ◌↔◌, ℕ, suc, ◌+◌, ◌-◌, ◌<◌, ◌≤◌, List, [], ◌∷◌, ◌++◌, length, slice_index_or, refl, sym, ap, subst, inl, inr, ◌∙◌, arith, length-append}
use Rattle.std.specs.List.{Contains}
use Rattle.std.proofs.lemmas.List.{get_or_append_left, get_or-append-add}
use Rattle.std.proofs.lemmas.List.Elements.{All-contains}
use Rattle.std.proofs.lemmas.Bool.{cases_eq}
use Rattle.trace_types.specs.clock.EventTree.{Leaf}
use Rattle.trace_export.specs.declared.placed.Placed.{Placed}
use Rattle.trace_export.specs.Edges.{Placing, IsPlaced, placed_at, listed_preds, IsWayBack, IsConnected}
use Rattle.trace_export.specs.Graph.{AreEarlier, EdgesLeadBack}

-- the events with one more
abbrev pub with_next : Placing → Placed → Placing
with_next placing placed = placing ++ placed ∷ []

pub length-with_next : (placing : Placing) (placed : Placed) → length (with_next placing placed) ≡ suc (length placing)
length-with_next placing placed = omega (arith, length-append placing (placed ∷ []))

pub placed_at-earlier : (placing : Placing) (placed : Placed) (event : ℕ) → IsPlaced placing event → placed_at (with_next placing placed) event ≡ placed_at placing event
placed_at-earlier placing placed event within = get_or_append_left placing (placed ∷ []) (record { preds = []; tree = Leaf 0 }) (event - 1) (omega (arith, within.0, within.1))

pub placed_at-next : (placing : Placing) (placed : Placed) → placed_at (with_next placing placed) (suc (length placing)) ≡ placed
placed_at-next placing placed =
    let place : suc (length placing) - 1 ≡ length placing + 0 = omega arith in
    ap (λ k. slice_index_or (with_next placing placed) k (record { preds = []; tree = Leaf 0 })) place
    ∙ get_or-append-add placing (placed ∷ []) 0 (record { preds = []; tree = Leaf 0 })

-- ---- ways

pub earlier_pred : (placing : Placing) → EdgesLeadBack placing → (event pred : ℕ) → IsPlaced placing event → Contains (listed_preds placing event) pred → (0 < pred) × (pred < event)
earlier_pred placing back event pred within has = All-contains (λ one. (0 < one) × (one < event)) (listed_preds placing event) pred (back event within) has

pub placed_before : (placing : Placing) → EdgesLeadBack placing → (a b : ℕ) (way : List ℕ) → IsPlaced placing b → IsWayBack placing b way a → IsPlaced placing a × (a ≤ b)
placed_before placing back a b [] within leads = (subst (IsPlaced placing) leads within, omega (arith, leads))
placed_before placing back a b (event ∷ way) within leads =
    let one = earlier_pred placing back b event within leads.0 in
    let known = placed_before placing back a event way (one.0, omega (arith, one.1, within.1)) leads.1 in
    (known.0, omega (arith, known.1, one.1))

pub connected_before : (placing : Placing) → EdgesLeadBack placing → (a b : ℕ) → IsPlaced placing b → IsConnected placing a b → IsPlaced placing a × (a ≤ b)
connected_before placing back a b within connected = placed_before placing back a b connected.0 within connected.1

pub connected_itself : (placing : Placing) (event : ℕ) → IsConnected placing event event
connected_itself placing event = ([], refl)

pub connected_by : (placing : Placing) (a pred b : ℕ) → Contains (listed_preds placing b) pred → IsConnected placing a pred → IsConnected placing a b
connected_by placing a pred b has connected = (pred ∷ connected.0, (has, connected.1))

way_more : (placing : Placing) (placed : Placed) → EdgesLeadBack placing → (a b : ℕ) (way : List ℕ) → IsPlaced placing b → IsWayBack placing b way a → IsWayBack (with_next placing placed) b way a
way_more placing placed back a b [] within leads = leads
way_more placing placed back a b (event ∷ way) within leads =
    let one = earlier_pred placing back b event within leads.0 in (
      subst (λ (at : Placed). Contains at.preds event) (sym (placed_at-earlier placing placed b within)) leads.0,
      way_more placing placed back a event way (one.0, omega (arith, one.1, within.1)) leads.1,
    )

way_fewer : (placing : Placing) (placed : Placed) → EdgesLeadBack placing → (a b : ℕ) (way : List ℕ) → IsPlaced placing b → IsWayBack (with_next placing placed) b way a → IsWayBack placing b way a
way_fewer placing placed back a b [] within leads = leads
way_fewer placing placed back a b (event ∷ way) within leads =
    let has = subst (λ (at : Placed). Contains at.preds event) (placed_at-earlier placing placed b within) leads.0 in
    let one = earlier_pred placing back b event within has in
    (has, way_fewer placing placed back a event way (one.0, omega (arith, one.1, within.1)) leads.1)

-- the event more changes no way to an earlier one
pub connected-with_next : (placing : Placing) (placed : Placed) → EdgesLeadBack placing → (a b : ℕ) → IsPlaced placing b → IsConnected (with_next placing placed) a b ↔ IsConnected placing a b
connected-with_next placing placed back a b within = (
  (λ (connected : IsConnected (with_next placing placed) a b). (connected.0, way_fewer placing placed back a b connected.0 within connected.1)),
  (λ (connected : IsConnected placing a b). (connected.0, way_more placing placed back a b connected.0 within connected.1)),
)

-- an earlier event reaches the next one by one that this follows
pub connected_next : (placing : Placing) (placed : Placed) → EdgesLeadBack placing → AreEarlier placed.preds (suc (length placing))
    → (a : ℕ) → a ≢ suc (length placing) → IsConnected (with_next placing placed) a (suc (length placing))
    → (pred : ℕ) × Contains placed.preds pred × IsPlaced placing pred × IsConnected placing a pred
connected_next placing placed back earlier a other ([], leads) = absurd (other (sym leads))
connected_next placing placed back earlier a other (event ∷ way, leads) =
    let has = subst (λ (at : Placed). Contains at.preds event) (placed_at-next placing placed) leads.0 in
    let one = All-contains (λ pred. (0 < pred) × (pred < suc (length placing))) placed.preds event earlier has in
    let within : IsPlaced placing event = (one.0, omega (arith, one.1)) in
    (event, has, within, (way, way_fewer placing placed back a event way within leads.1))

pub next_connected : (placing : Placing) (placed : Placed) → EdgesLeadBack placing
    → (a pred : ℕ) → Contains placed.preds pred → IsPlaced placing pred → IsConnected placing a pred → IsConnected (with_next placing placed) a (suc (length placing))
next_connected placing placed back a pred has within connected =
    connected_by (with_next placing placed) a pred (suc (length placing))
    (subst (λ (at : Placed). Contains at.preds pred) (sym (placed_at-next placing placed)) has)
    ((connected-with_next placing placed back a pred within).1 connected)

-- the edges of the next event lead back, and so all do
pub back-with_next : (placing : Placing) (placed : Placed) → EdgesLeadBack placing → AreEarlier placed.preds (suc (length placing)) → EdgesLeadBack (with_next placing placed)
back-with_next placing placed back earlier event within = elim (cases_eq event (suc (length placing))) [
  | inl next ↦ subst (λ at. AreEarlier (listed_preds (with_next placing placed) at) at) (sym next) (subst (λ (at : Placed). AreEarlier at.preds (suc (length placing))) (sym (placed_at-next placing placed)) earlier)
  | inr older ↦
      let old : IsPlaced placing event = (within.0, omega (arith, within.1, older, length-with_next placing placed)) in
      subst (λ (at : Placed). AreEarlier at.preds event) (sym (placed_at-earlier placing placed event old)) (back event old)
]
