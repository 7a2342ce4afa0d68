-- An event that is compared with some of the earlier ones is ordered as the edges say.
use Rattle.std.proofs.Common.{◌≡◌, ◌↔◌, ◌⊎◌, ℕ, suc, zero, ◌+◌, ◌-◌, ◌/◌, ◌%◌, ◌<◌, ◌≤◌, List, [], ◌∷◌, length, slice_index_or, refl, sym, subst, inl, inr, arith}
use Rattle.std.specs.List.{Contains, All}
use Rattle.std.specs.Int.{bit_at}
use Rattle.std.proofs.lemmas.Bool.{cases_eq, cases_lt}
use Rattle.std.proofs.lemmas.List.Elements.{All-contains}
use Rattle.trace_types.specs.clock.EventTree.{EventTree}
use Rattle.event_tree.specs.Comparison.{IsBelow}
use Rattle.trace_export.specs.declared.placed.Placed.{Placed}
use Rattle.trace_export.specs.Bits.{HasBit}
use Rattle.trace_export.specs.Edges.{Placing, IsPlaced, listed_preds, listed_tree, IsConnected, AreOrderedAlike}
use Rattle.trace_export.specs.Graph.{AreEarlier, AreReaching, reaching_row, IsGraph, IsReachedBy, IsComparedNext, RefutesNext}
use Rattle.trace_export.specs.Verdict.{IsOrderedNext}
use Rattle.trace_export.proofs.Alike.{tree_earlier, tree_next}
use Rattle.trace_export.proofs.Connecting.{with_next, earlier_pred, connected_before, connected_by, connected_itself, connected-with_next, connected_next, next_connected}

below_itself : (e : EventTree) → IsBelow e e
below_itself e point = omega arith

below_through : (e f g : EventTree) → IsBelow e f → IsBelow f g → IsBelow e g
below_through e f g first second point = omega (arith, first point, second point)

-- whether a bit is there
pub cases_bit : (bits : List ℕ) (place : ℕ) → HasBit bits place ⊎ (¬ HasBit bits place)
cases_bit bits place = cases_eq (bit_at (slice_index_or bits (place / 64) 0) (place % 64)) 1

all_cons : {X : Type 0} (P : X → Type 0) (x : X) (xs : List X) → P x → All P xs → All P (x ∷ xs)
all_cons P x xs first others zero d small = first
all_cons P x xs first others (suc k) d small = others k d (omega (arith, small))

contains_cons : (x y : ℕ) (xs : List ℕ) → Contains xs y → Contains (x ∷ xs) y
contains_cons x y xs has = (suc has.0, omega (arith, has.1), has.2)

-- all events of a list have the bit, or one has not
all_or_one : (bits : List ℕ) (events : List ℕ) → All (λ event. HasBit bits (event - 1)) events ⊎ ((event : ℕ) × Contains events event × (¬ HasBit bits (event - 1)))
all_or_one bits [] = inl (λ k d small. absurd (omega (arith, small)))
all_or_one bits (event ∷ events) = elim (cases_bit bits (event - 1)) [
  | inl has ↦ elim (all_or_one bits events) [
    | inl all ↦ inl (all_cons (λ one. HasBit bits (one - 1)) event events has all)
    | inr one ↦ inr (one.0, contains_cons event one.0 events one.1, one.2)
  ]
  | inr not ↦ inr (event, (0, omega arith, refl), not)
]

module _ (placing : Placing) (rows : List (List ℕ)) (followed : List ℕ) (graph : IsGraph placing rows followed) (whole : length rows ≡ length placing) (placed : Placed)
    (earlier : AreEarlier placed.preds (suc (length placing))) where
  -- an event that the next one follows
  followed_placed : (pred : ℕ) → Contains placed.preds pred → IsPlaced placing pred
  followed_placed pred has =
      let one = All-contains (λ event. (0 < event) × (event < suc (length placing))) placed.preds pred earlier has in
      (one.0, omega (arith, one.1))

  -- the next event reaches no earlier one
  next_reaches_none : (event : ℕ) → IsPlaced placing event → ¬ IsConnected (with_next placing placed) (suc (length placing)) event
  next_reaches_none event within connected =
      let old = (connected-with_next placing placed graph.back (suc (length placing)) event within).0 connected in
      let known = connected_before placing graph.back (suc (length placing)) event within old in
      omega (arith, known.1, within.1)

  -- an earlier event is below each that follows it
  below_follower : (event later : ℕ) → IsPlaced placing later → Contains (listed_preds placing later) event → IsBelow (listed_tree placing event) (listed_tree placing later)
  below_follower event later within has =
      let one = earlier_pred placing graph.back later event within has in
      let old : IsPlaced placing event = (one.0, omega (arith, one.1, within.1)) in
      (graph.alike event later old within one.1).0.1 (connected_by placing event event later has (connected_itself placing event))

  -- what the next event follows is or reaches each above whose tree the next one's is not
  pub followed_reach : (event : ℕ) → IsPlaced placing event → All (λ pred. IsBelow (listed_tree placing pred) placed.tree) placed.preds → IsBelow placed.tree (listed_tree placing event)
      → All (λ pred. (pred ≡ event) ⊎ HasBit (reaching_row rows event) (pred - 1)) placed.preds
  followed_reach event within above below k d small = one (slice_index_or placed.preds k d) (earlier k d small) (above k d small)
    where
      one : (pred : ℕ) → (0 < pred) × (pred < suc (length placing)) → IsBelow (listed_tree placing pred) placed.tree → (pred ≡ event) ⊎ HasBit (reaching_row rows event) (pred - 1)
      one pred known first =
          let old : IsPlaced placing pred = (known.0, omega (arith, known.1)) in
          let through = below_through (listed_tree placing pred) placed.tree (listed_tree placing event) first below in
          elim (cases_eq pred event) [
            | inl same ↦ inl same
            | inr other ↦ elim (cases_lt pred event) [
              | inl before ↦
                  let place : suc (pred - 1) ≡ pred = omega (arith, known.0) in
                  let connected = (graph.alike pred event old within before).0.0 through in
                  inr ((graph.reaching event within.0 (omega (arith, whole, within.1)) (pred - 1)).1 (omega (arith, known.0, before), subst (λ at. IsConnected placing at event) (sym place) connected))
              | inr after ↦
                  let connected = (graph.alike event pred within old (omega (arith, after, other))).1.0 through in
                  absurd (omega (arith, other, after, (connected_before placing graph.back pred event within connected).1))
            ]
          ]

  -- bits of the events that reach those which are followed are those of the events that reach the next one
  pub reaching_next : (bits : List ℕ) → ((place : ℕ) → HasBit bits place ↔ IsReachedBy rows placed.preds place) → AreReaching (with_next placing placed) bits (suc (length placing))
  reaching_next bits reached place = (
    (λ has.
        let by = (reached place).0 has in
        let within = followed_placed by.0 by.1 in
        elim by.2 [
          | inl before ↦
              let known = (graph.reaching by.0 within.0 (omega (arith, whole, within.1)) place).0 before in
              (omega (arith, known.0, within.1), next_connected placing placed graph.back (suc place) by.0 by.1 within known.1)
          | inr same ↦
              let this : by.0 ≡ suc place = omega (arith, same, within.0) in
              (omega (arith, this, within.1), next_connected placing placed graph.back (suc place) by.0 by.1 within (subst (λ at. IsConnected placing (suc place) at) (sym this) (connected_itself placing (suc place))))
        ]),
    (λ (known : (suc place < suc (length placing)) × IsConnected (with_next placing placed) (suc place) (suc (length placing))).
        let by = connected_next placing placed graph.back earlier (suc place) (λ same. omega (arith, same, known.0)) known.1 in
        (reached place).1 (
          by.0,
          by.1,
          elim (cases_eq (suc place) by.0) [
            | inl same ↦ inr (omega (arith, same))
            | inr other ↦
                let before = connected_before placing graph.back (suc place) by.0 by.2 by.3 in
                inl ((graph.reaching by.0 by.2.0 (omega (arith, whole, by.2.1)) place).1 (omega (arith, before.1, other), by.3))
          ],
        )),
  )

  module _ (bits : List ℕ) (reaching : AreReaching (with_next placing placed) bits (suc (length placing))) where
    -- the bit is there exactly where the event reaches the next one
    bit-iff : (event : ℕ) → IsPlaced placing event → HasBit bits (event - 1) ↔ IsConnected (with_next placing placed) event (suc (length placing))
    bit-iff event within =
        let place : suc (event - 1) ≡ event = omega (arith, within.0) in
        let known = reaching (event - 1) in (
          (λ has. subst (λ at. IsConnected (with_next placing placed) at (suc (length placing))) place (known.0 has).1),
          (λ connected. known.1 (omega (arith, within.0, within.1), subst (λ at. IsConnected (with_next placing placed) at (suc (length placing))) (sym place) connected)),
        )

    -- what refutes the next event
    pub not_ordered_next : RefutesNext placing bits placed → (other : ℕ) × IsPlaced placing other × (¬ AreOrderedAlike (with_next placing placed) other (suc (length placing)))
    not_ordered_next (inl above) =
        let within = followed_placed above.0 above.1 in (
          above.0,
          within,
          λ alike.
              let below = alike.0.1 (next_connected placing placed graph.back above.0 above.0 above.1 within (connected_itself placing above.0)) in
              above.2 (subst (λ e. IsBelow (listed_tree placing above.0) e) (tree_next placing placed) (subst (λ e. IsBelow e (listed_tree (with_next placing placed) (suc (length placing)))) (tree_earlier placing placed above.0 within) below)),
        )
    not_ordered_next (inr refuted) = (
      refuted.0,
      refuted.1,
      λ alike. elim refuted.2 [
        | inl below ↦ next_reaches_none refuted.0 refuted.1 (alike.1.0 (subst (λ e. IsBelow e (listed_tree (with_next placing placed) refuted.0)) (sym (tree_next placing placed)) (subst (λ e. IsBelow placed.tree e) (sym (tree_earlier placing placed refuted.0 refuted.1)) below)))
        | inr above ↦ above.0 ((bit-iff refuted.0 refuted.1).1 (alike.0.0 (subst (λ e. IsBelow e (listed_tree (with_next placing placed) (suc (length placing)))) (sym (tree_earlier placing placed refuted.0 refuted.1)) (subst (λ e. IsBelow (listed_tree placing refuted.0) e) (sym (tree_next placing placed)) above.1))))
      ],
    )

    module _ (compared : IsComparedNext placing followed bits placed) where
      -- what reaches the next event is below it
      reaching_below : (event : ℕ) → IsPlaced placing event → HasBit bits (event - 1) → IsBelow (listed_tree placing event) placed.tree
      reaching_below event within has =
          let by = connected_next placing placed graph.back earlier event (λ same. omega (arith, same, within.1)) ((bit-iff event within).0 has) in
          let above = All-contains (λ pred. IsBelow (listed_tree placing pred) placed.tree) placed.preds by.0 compared.above by.1 in
          elim (cases_eq event by.0) [
            | inl same ↦ subst (λ at. IsBelow (listed_tree placing at) placed.tree) (sym same) above
            | inr other ↦
                let before = connected_before placing graph.back event by.0 by.2 by.3 in
                below_through (listed_tree placing event) (listed_tree placing by.0) placed.tree ((graph.alike event by.0 within by.2 (omega (arith, before.1, other))).0.1 by.3) above
          ]

      -- what is below it reaches it
      below_reaching : (bound event : ℕ) → event ≤ bound → IsPlaced placing event → IsBelow (listed_tree placing event) placed.tree → HasBit bits (event - 1)
      below_reaching zero event small within below = absurd (omega (arith, small, within.0))
      below_reaching (suc bound) event small within below = elim (cases_bit bits (event - 1)) [
        | inl has ↦ has
        | inr not ↦ elim (all_or_one bits (listed_preds placing event)) [
          | inl all ↦ absurd ((compared.apart event within).not_above not all below)
          | inr one ↦
              let known = earlier_pred placing graph.back event one.0 within one.1 in
              let old : IsPlaced placing one.0 = (known.0, omega (arith, known.1, within.1)) in
              absurd (one.2 (below_reaching bound one.0 (omega (arith, known.1, small)) old (below_through (listed_tree placing one.0) (listed_tree placing event) placed.tree (below_follower one.0 event within one.1) below)))
        ]
      ]

      -- where it is below an event, it is below one that follows this
      climbs : (event : ℕ) → IsPlaced placing event → IsBelow placed.tree (listed_tree placing event) → (later : ℕ) × (event < later) × IsPlaced placing later × IsBelow placed.tree (listed_tree placing later)
      climbs event within below = elim (cases_bit followed (event - 1)) [
        | inl has ↦
            let by = (graph.followed_are (event - 1)).0 has in
            let place : suc (event - 1) ≡ event = omega (arith, within.0) in
            let follows = subst (λ at. Contains (listed_preds placing by.0) at) place by.2 in
            let later : IsPlaced placing by.0 = (by.1.0, omega (arith, whole, by.1.1)) in
            (by.0, (earlier_pred placing graph.back by.0 event later follows).1, later, below_through placed.tree (listed_tree placing event) (listed_tree placing by.0) below (below_follower event by.0 later follows))
        | inr not ↦ absurd ((compared.apart event within).not_below not below)
      ]

      -- so it is below none
      below_none : (left event : ℕ) → length placing ≤ event + left → IsPlaced placing event → ¬ IsBelow placed.tree (listed_tree placing event)
      below_none zero event small within below =
          let up = climbs event within below in
          omega (arith, small, up.1, up.2.1)
      below_none (suc left) event small within below =
          let up = climbs event within below in
          below_none left up.0 (omega (arith, small, up.1)) up.2 up.3

      pub ordered_next : IsOrderedNext placing placed
      ordered_next other within = (
        (
          (λ below. (bit-iff other within).0 (below_reaching other other (omega arith) within (subst (λ e. IsBelow (listed_tree placing other) e) (tree_next placing placed) (subst (λ e. IsBelow e (listed_tree (with_next placing placed) (suc (length placing)))) (tree_earlier placing placed other within) below)))),
          (λ connected. subst (λ e. IsBelow e (listed_tree (with_next placing placed) (suc (length placing)))) (sym (tree_earlier placing placed other within)) (subst (λ e. IsBelow (listed_tree placing other) e) (sym (tree_next placing placed)) (reaching_below other within ((bit-iff other within).1 connected)))),
        ),
        (
          (λ below. absurd (below_none (length placing) other (omega arith) within (subst (λ e. IsBelow placed.tree e) (tree_earlier placing placed other within) (subst (λ e. IsBelow e (listed_tree (with_next placing placed) other)) (tree_next placing placed) below)))),
          (λ connected. absurd (next_reaches_none other within connected)),
        ),
      )
