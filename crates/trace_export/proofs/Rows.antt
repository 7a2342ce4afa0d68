-- What is kept of more events: one is listed more, or the bits of one more are made.
use Rattle.std.proofs.Common.{◌≡◌, ◌↔◌, ◌⊎◌, ℕ, suc, ◌+◌, ◌-◌, ◌*◌, ◌<◌, ◌≤◌, List, [], ◌∷◌, ◌++◌, length, slice_index_or, sym, ap, subst, inl, inr, ◌∙◌, arith, length-append}
use Rattle.std.specs.List.{Contains}
use Rattle.std.proofs.lemmas.Bool.{cases_eq}
use Rattle.std.proofs.lemmas.List.{get_or_append_left, get_or-append-add}
use Rattle.trace_export.specs.declared.placed.Placed.{Placed}
use Rattle.trace_export.specs.Bits.{HasBit}
use Rattle.trace_export.specs.Edges.{Placing, IsPlaced, IsWayBack, IsConnected, listed_preds}
use Rattle.trace_export.specs.Graph.{AreEarlier, AreReaching, HaveRoom, IsFollowed, IsGraph, IsReachedBy, reaching_row}
use Rattle.trace_export.specs.Verdict.{IsOrderedNext}
use Rattle.trace_export.proofs.Alike.{alike_next}
use Rattle.trace_export.proofs.Connecting.{with_next, length-with_next, placed_at-earlier, earlier_pred, connected_before, connected_by, connected_itself, connected-with_next, back-with_next}

module _ (placing : Placing) (rows : List (List ℕ)) (followed : List ℕ) (graph : IsGraph placing rows followed) where
  module _ (placed : Placed) (earlier : AreEarlier placed.preds (suc (length placing))) (ordered : IsOrderedNext placing placed) where
    preds_same : (event : ℕ) → IsPlaced placing event → listed_preds (with_next placing placed) event ≡ listed_preds placing event
    preds_same event within = ap (λ (at : Placed). at.preds) (placed_at-earlier placing placed event within)

    reaching_same : (event : ℕ) → 0 < event → event ≤ length rows → AreReaching (with_next placing placed) (reaching_row rows event) event
    reaching_same event some small place =
        let old : IsPlaced placing event = (some, omega (arith, small, graph.row_count)) in
        let known = graph.reaching event some small place in
        let edges = connected-with_next placing placed graph.back (suc place) event old in (
          (λ has. ((known.0 has).0, edges.1 (known.0 has).1)),
          (λ (reaches : (suc place < event) × IsConnected (with_next placing placed) (suc place) event). known.1 (reaches.0, edges.0 reaches.1)),
        )

    followed_same : (place : ℕ) → HasBit followed place ↔ IsFollowed (with_next placing placed) (length rows) (suc place)
    followed_same place = (
      (λ has.
          let by = (graph.followed_are place).0 has in
          (by.0, by.1, subst (λ preds. Contains preds (suc place)) (sym (preds_same by.0 (by.1.0, omega (arith, by.1.1, graph.row_count)))) by.2)),
      (λ (by : IsFollowed (with_next placing placed) (length rows) (suc place)).
          (graph.followed_are place).1 (by.0, by.1, subst (λ preds. Contains preds (suc place)) (preds_same by.0 (by.1.0, omega (arith, by.1.1, graph.row_count))) by.2)),
    )

    -- one event is listed more
    pub one_listed : IsGraph (with_next placing placed) rows followed
    one_listed = record {
      back = back-with_next placing placed graph.back earlier;
      alike = alike_next placing placed graph.back graph.alike ordered;
      row_count = omega (arith, graph.row_count, length-with_next placing placed);
      reaching = reaching_same;
      room = graph.room;
      followed_are = followed_same;
    }

  module _ (some : length rows < length placing) (bits : List ℕ) (reached : (place : ℕ) → HasBit bits place ↔ IsReachedBy rows (listed_preds placing (suc (length rows))) place) where
    next_placed : IsPlaced placing (suc (length rows))
    next_placed = (omega arith, omega (arith, some))

    reaching_more : AreReaching placing bits (suc (length rows))
    reaching_more place = (
      (λ has.
          let by = (reached place).0 has in
          let before = earlier_pred placing graph.back (suc (length rows)) by.0 next_placed by.1 in
          elim by.2 [
            | inl reaches ↦
                let known = (graph.reaching by.0 before.0 (omega (arith, before.1)) place).0 reaches in
                (omega (arith, known.0, before.1), connected_by placing (suc place) by.0 (suc (length rows)) by.1 known.1)
            | inr same ↦
                let this : by.0 ≡ suc place = omega (arith, same, before.0) in
                (omega (arith, this, before.1), connected_by placing (suc place) by.0 (suc (length rows)) by.1 (subst (λ at. IsConnected placing (suc place) at) (sym this) (connected_itself placing (suc place))))
          ]),
      (λ (known : (suc place < suc (length rows)) × IsConnected placing (suc place) (suc (length rows))). (reached place).1 (by_one known.0 known.1.0 known.1.1)),
    )
      where
        by_one : suc place < suc (length rows) → (way : List ℕ) → IsWayBack placing (suc (length rows)) way (suc place) → IsReachedBy rows (listed_preds placing (suc (length rows))) place
        by_one less [] leads = absurd (omega (arith, less, leads))
        by_one less (event ∷ way) leads =
            let before = earlier_pred placing graph.back (suc (length rows)) event next_placed leads.0 in
            let within : IsPlaced placing event = (before.0, omega (arith, before.1, some)) in (
              event,
              leads.0,
              elim (cases_eq (suc place) event) [
                | inl same ↦ inr (omega (arith, same))
                | inr other ↦
                    let known = connected_before placing graph.back (suc place) event within (way, leads.1) in
                    inl ((graph.reaching event before.0 (omega (arith, before.1)) place).1 (omega (arith, known.1, other), (way, leads.1)))
              ],
            )

    row_earlier : (event : ℕ) → 0 < event → event ≤ length rows → reaching_row (rows ++ bits ∷ []) event ≡ reaching_row rows event
    row_earlier event least small = get_or_append_left rows (bits ∷ []) [] (event - 1) (omega (arith, least, small))

    row_next : reaching_row (rows ++ bits ∷ []) (suc (length rows)) ≡ bits
    row_next =
        let place : suc (length rows) - 1 ≡ length rows + 0 = omega arith in
        ap (λ k. slice_index_or (rows ++ bits ∷ []) k []) place ∙ get_or-append-add rows (bits ∷ []) 0 []

    more : length (rows ++ bits ∷ []) ≡ suc (length rows)
    more = omega (arith, length-append rows (bits ∷ []))

    reaching_all : (event : ℕ) → 0 < event → event ≤ length (rows ++ bits ∷ []) → AreReaching placing (reaching_row (rows ++ bits ∷ []) event) event
    reaching_all event least small = elim (cases_eq event (suc (length rows))) [
      | inl next ↦ subst (λ at. AreReaching placing (reaching_row (rows ++ bits ∷ []) at) at) (sym next) (subst (λ row. AreReaching placing row (suc (length rows))) (sym row_next) reaching_more)
      | inr other ↦
          let old : event ≤ length rows = omega (arith, other, small, more) in
          subst (λ row. AreReaching placing row event) (sym (row_earlier event least old)) (graph.reaching event least old)
    ]

    room_all : 64 * length bits ≤ suc (length rows) + 63 → HaveRoom (rows ++ bits ∷ [])
    room_all short event least small = elim (cases_eq event (suc (length rows))) [
      | inl next ↦ subst (λ at. 64 * length (reaching_row (rows ++ bits ∷ []) at) ≤ at + 63) (sym next) (subst (λ (row : List ℕ). 64 * length row ≤ suc (length rows) + 63) (sym row_next) short)
      | inr other ↦
          let old : event ≤ length rows = omega (arith, other, small, more) in
          subst (λ (row : List ℕ). 64 * length row ≤ event + 63) (sym (row_earlier event least old)) (graph.room event least old)
    ]

    module _ (followed' : List ℕ) (added : (place : ℕ) → HasBit followed' place ↔ (HasBit followed place ⊎ Contains (listed_preds placing (suc (length rows))) (suc place))) where
      followed_all : (place : ℕ) → HasBit followed' place ↔ IsFollowed placing (length (rows ++ bits ∷ [])) (suc place)
      followed_all place = (
        (λ has. elim ((added place).0 has) [
          | inl before ↦
              let by = (graph.followed_are place).0 before in
              (by.0, (by.1.0, omega (arith, by.1.1, more)), by.2)
          | inr now ↦ (suc (length rows), (omega arith, omega (arith, more)), now)
        ]),
        (λ (by : IsFollowed placing (length (rows ++ bits ∷ [])) (suc place)). elim (cases_eq by.0 (suc (length rows))) [
          | inl next ↦ (added place).1 (inr (subst (λ at. Contains (listed_preds placing at) (suc place)) next by.2))
          | inr other ↦ (added place).1 (inl ((graph.followed_are place).1 (by.0, (by.1.0, omega (arith, other, by.1.1, more)), by.2)))
        ]),
      )

      -- the bits of one event more are made
      pub one_made : 64 * length bits ≤ suc (length rows) + 63 → IsGraph placing (rows ++ bits ∷ []) followed'
      one_made short = record {
        back = graph.back;
        alike = graph.alike;
        row_count = omega (arith, more, some);
        reaching = reaching_all;
        room = room_all short;
        followed_are = followed_all;
      }
