-- Chains of events: of each chain a first part reaches the next event, and what is behind it does not.
use Rattle.std.proofs.Common.{◌≡◌, ◌⊎◌, ℕ, zero, suc, ◌+◌, ◌-◌, ◌<◌, ◌≤◌, List, [], ◌∷◌, ◌++◌, length, slice_index_or, refl, sym, ap, subst, inl, inr, ◌∙◌, arith, length-append}
use Rattle.std.specs.List.{Contains}
use Rattle.std.proofs.lemmas.Bool.{cases_eq, cases_lt}
use Rattle.std.proofs.lemmas.List.{get_or_append_left, get_or-append-add}
use Rattle.std.proofs.lemmas.List.Elements.{All-contains}
use Rattle.trace_types.specs.clock.EventTree.{EventTree}
use Rattle.trace_export.specs.Bits.{HasBit}
use Rattle.trace_export.specs.Chains.{AreChains, IsInside, IsOnChain, IsPutBehind, LeadBack, back_by, before_of}
use Rattle.trace_export.specs.Edges.{Placing, IsPlaced, IsWayBack, IsConnected, listed_preds}
use Rattle.trace_export.specs.Graph.{AreClosed, AreReaching, EdgesLeadBack, IsApartFrom, IsApartFromChain, IsFirstMissing, IsGraph}
use Rattle.trace_export.specs.declared.placed.Placed.{Placed}
use Rattle.trace_export.proofs.Connecting.{with_next, placed_at-earlier, earlier_pred, connected_by, connected_itself}
use Rattle.trace_export.proofs.Ordering.{cases_bit}

-- what an event follows reaches all that the event reaches
reaches_through : (placing : Placing) (a e : ℕ) → Contains (listed_preds placing e) a → (b : ℕ) (way : List ℕ) → IsWayBack placing b way e → IsConnected placing a b
reaches_through placing a e has b [] leads = connected_by placing a a b (subst (λ at. Contains (listed_preds placing at) a) (sym leads) has) (connected_itself placing a)
reaches_through placing a e has b (event ∷ way) leads = connected_by placing a event b leads.0 (reaches_through placing a e has event way leads.1)

-- so the events that reach the next one have with an event all that it follows
pub reaching_closed : (placing : Placing) (placed : Placed) → EdgesLeadBack placing → (bits : List ℕ) → AreReaching (with_next placing placed) bits (suc (length placing)) → AreClosed placing bits
reaching_closed placing placed back bits reaching event pred within has bit =
    let one = earlier_pred placing back event pred within has in
    let this : suc (event - 1) ≡ event = omega (arith, within.0) in
    let before : suc (pred - 1) ≡ pred = omega (arith, one.0) in
    let known = (reaching (event - 1)).0 bit in
    let listed = subst (λ (at : Placed). Contains at.preds pred) (sym (placed_at-earlier placing placed event within)) has in
    let way = subst (λ at. IsConnected (with_next placing placed) at (suc (length placing))) this known.1 in
    (reaching (pred - 1)).1 (
      omega (arith, one.1, within.1, before),
      subst (λ at. IsConnected (with_next placing placed) at (suc (length placing))) (sym before) (reaches_through (with_next placing placed) pred event listed (suc (length placing)) way.0 way.1),
    )

module _ (placing : Placing) (before tails : List ℕ) (back : EdgesLeadBack placing) (chains : AreChains placing before tails) (count : length before ≤ length placing) where
  placed_of : (event : ℕ) → 0 < event → event ≤ length before → IsPlaced placing event
  placed_of event some small = (some, omega (arith, small, count))

  -- what is before an event in its chain is an earlier one
  pub chains_lead_back : LeadBack before
  chains_lead_back event some small = elim (chains.follows event some small) [
    | inl none ↦ omega (arith, none, some)
    | inr has ↦ (earlier_pred placing back event (before_of before event) (placed_of event some small) has).1
  ]

  module _ (set : List ℕ) (closed : AreClosed placing set) where
    -- where the set has an event, it has the one before it, if there is one
    stays_inside : (event : ℕ) → event ≤ length before → IsInside set event → IsInside set (before_of before event)
    stays_inside zero small inside = inl refl
    stays_inside (suc place) small inside = elim (chains.follows (suc place) (omega arith) small) [
      | inl none ↦ inl none
      | inr has ↦ elim inside [
        | inl none ↦ absurd (omega (arith, none))
        | inr bit ↦ inr (closed (suc place) (before_of before (suc place)) (placed_of (suc place) (omega arith) small) has bit)
      ]
    ]

    module _ (tail : ℕ) (tail_small : tail ≤ length before) where
      small_back : (steps : ℕ) → back_by before steps tail ≤ length before
      small_back zero = tail_small
      small_back (suc steps) = elim (cases_eq (back_by before steps tail) 0) [
        | inl none ↦ subst (λ event. before_of before event ≤ length before) (sym none) (omega arith)
        | inr some ↦ omega (arith, chains_lead_back (back_by before steps tail) (omega (arith, some)) (small_back steps), small_back steps)
      ]

      -- if it has the one before an event of the chain, it has all further ones
      beyond : (from : ℕ) → IsInside set (before_of before (back_by before from tail)) → (steps : ℕ) → from < steps → IsInside set (back_by before steps tail)
      beyond from inside zero less = absurd (omega (arith, less))
      beyond from inside (suc steps) less = elim (cases_eq from steps) [
        | inl same ↦ subst (λ at. IsInside set (before_of before (back_by before at tail))) same inside
        | inr other ↦ stays_inside (back_by before steps tail) (small_back steps) (beyond from inside steps (omega (arith, less, other)))
      ]

      -- so only one event of the chain is not in the set while the one before it is
      pub one_first : (event other : ℕ) → IsOnChain before event tail → IsOnChain before other tail → ¬ IsInside set event → IsInside set (before_of before event)
          → ¬ IsInside set other → IsInside set (before_of before other) → event ≡ other
      one_first event other on on_other outside first other_outside other_first = elim (cases_eq on.0 on_other.0) [
        | inl same ↦ sym on.1 ∙ ap (λ steps. back_by before steps tail) same ∙ on_other.1
        | inr differ ↦ elim (cases_lt on.0 on_other.0) [
          | inl sooner ↦
              absurd (other_outside (subst (IsInside set) on_other.1 (beyond on.0 (subst (λ at. IsInside set (before_of before at)) (sym on.1) first) on_other.0 sooner)))
          | inr later ↦
              absurd (outside (subst (IsInside set) on.1 (beyond on_other.0 (subst (λ at. IsInside set (before_of before at)) (sym on_other.1) other_first) on.0 (omega (arith, later, differ)))))
        ]
      ]

      -- all events of a chain are in the set if the last one is
      all_inside : IsInside set tail → (steps : ℕ) → IsInside set (back_by before steps tail)
      all_inside inside zero = inside
      all_inside inside (suc steps) = stays_inside (back_by before steps tail) (small_back steps) (all_inside inside steps)

    outside_of : (event : ℕ) → 0 < event → ¬ HasBit set (event - 1) → ¬ IsInside set event
    outside_of event some missing inside = elim inside [ inl none ↦ omega (arith, none, some) | inr bit ↦ missing bit ]

    -- the event before one of the first that are missing is in the set
    first_inside : (event : ℕ) → 0 < event → event ≤ length before → IsFirstMissing placing set event → IsInside set (before_of before event)
    first_inside event some small missing = elim (chains.follows event some small) [
      | inl none ↦ inl none
      | inr has ↦ inr (All-contains (λ pred. HasBit set (pred - 1)) (listed_preds placing event) (before_of before event) missing.1 has)
    ]

    -- what is missing first in a chain is the one event that was found there
    pub found_first : (tail event first : ℕ) → tail ≤ length before → 0 < event → event ≤ length before → IsOnChain before event tail → IsFirstMissing placing set event
        → 0 < first → IsOnChain before first tail → ¬ HasBit set (first - 1) → IsInside set (before_of before first) → event ≡ first
    found_first tail event first small some event_small on missing first_some on_first outside inside =
        one_first tail small event first on on_first (outside_of event some missing.0) (first_inside event some event_small missing) (outside_of first first_some outside) inside

    -- a chain whose last event is in the set has none that is missing
    pub none_missing : (tail event : ℕ) → tail ≤ length before → 0 < event → HasBit set (tail - 1) → IsOnChain before event tail → ¬ HasBit set (event - 1) → ⊥
    none_missing tail event small some bit on missing = outside_of event some missing (subst (IsInside set) on.1 (all_inside tail small (inr bit) on.0))

  -- each event stands in a chain with a last event
  chain_of : (left event : ℕ) → length before ≤ event + left → 0 < event → event ≤ length before
      → (tail : ℕ) × (0 < tail) × (tail ≤ length before) × HasBit tails (tail - 1) × IsOnChain before event tail
  chain_of zero event long some small = elim (cases_bit tails (event - 1)) [
    | inl bit ↦ (event, some, small, bit, (0, refl))
    | inr not ↦
        let by = chains.ends event some small not in
        absurd (omega (arith, long, chains_lead_back by.0 by.1 by.2, by.2, by.3))
  ]
  chain_of (suc left) event long some small = elim (cases_bit tails (event - 1)) [
    | inl bit ↦ (event, some, small, bit, (0, refl))
    | inr not ↦
        let by = chains.ends event some small not in
        let found = chain_of left by.0 (omega (arith, long, chains_lead_back by.0 by.1 by.2, by.3)) by.1 by.2 in
        (found.0, found.1, found.2, found.3, (suc found.4.0, ap (before_of before) found.4.1 ∙ by.3))
  ]

  module _ (rows : List (List ℕ)) (followed : List ℕ) (graph : IsGraph placing rows followed) (all : length before ≡ length placing) (made : length rows ≡ length placing)
      (reaching : List ℕ) (tree : EventTree)
      (apart : (tail : ℕ) → 0 < tail → tail ≤ length placing → HasBit tails (tail - 1) → IsApartFromChain placing before followed reaching tree tail) where
    -- where the tree is apart from all chains, it is apart from all events
    pub apart_from_all : (event : ℕ) → IsPlaced placing event → IsApartFrom placing followed reaching tree event
    apart_from_all event within = record {
      not_below = λ unfollowed. elim (cases_bit tails (event - 1)) [
        | inl bit ↦ (apart event within.0 within.1 bit).not_below unfollowed
        | inr not ↦
            let by = chains.ends event within.0 (omega (arith, within.1, all)) not in
            let this : suc (event - 1) ≡ event = omega (arith, within.0) in
            elim (chains.follows by.0 by.1 by.2) [
              | inl none ↦ absurd (omega (arith, none, by.3, within.0))
              | inr has ↦
                  let follows = subst (λ pred. Contains (listed_preds placing by.0) pred) (by.3 ∙ sym this) has in
                  absurd (unfollowed ((graph.followed_are (event - 1)).1 (by.0, (by.1, omega (arith, by.2, all, made)), follows)))
            ]
      ];
      not_above = λ missing first.
          let found = chain_of (length before) event (omega arith) within.0 (omega (arith, within.1, all)) in
          (apart found.0 found.1 (omega (arith, found.2, all)) found.3).not_above event within found.4 (missing, first);
    }

-- one event more stands behind another one, or begins a chain
module _ (placing : Placing) (preds before tails before' tails' : List ℕ) (chains : AreChains placing before tails) (put : IsPutBehind preds before tails before' tails')
    (same : preds ≡ listed_preds placing (suc (length before))) where
  count_more : length before' ≡ suc (length before)
  count_more = ap length put.grown ∙ omega (arith, length-append before (put.last ∷ []))

  before_earlier : (event : ℕ) → event ≤ length before → before_of before' event ≡ before_of before event
  before_earlier zero small = refl
  before_earlier (suc place) small = ap (λ (list : List ℕ). slice_index_or list place 0) put.grown ∙ get_or_append_left before (put.last ∷ []) 0 place (omega (arith, small))

  before_next : before_of before' (suc (length before)) ≡ put.last
  before_next =
      let place : length before ≡ length before + 0 = omega arith in
      ap (λ (list : List ℕ). slice_index_or list (length before) 0) put.grown ∙ ap (λ k. slice_index_or (before ++ put.last ∷ []) k 0) place ∙ get_or-append-add before (put.last ∷ []) 0 0

  pub one_chained : AreChains placing before' tails'
  one_chained = record {
    follows = λ event some small. elim (cases_eq event (suc (length before))) [
      | inl next ↦ subst (λ at. (before_of before' at ≡ 0) ⊎ Contains (listed_preds placing at) (before_of before' at)) (sym next)
          (subst (λ last. (last ≡ 0) ⊎ Contains (listed_preds placing (suc (length before))) last) (sym before_next)
          (subst (λ (events : List ℕ). (put.last ≡ 0) ⊎ Contains events put.last) same put.follows))
      | inr other ↦
          let old : event ≤ length before = omega (arith, other, small, count_more) in
          subst (λ last. (last ≡ 0) ⊎ Contains (listed_preds placing event) last) (sym (before_earlier event old)) (chains.follows event some old)
    ];
    ends = λ event some small not. elim (cases_eq event (suc (length before))) [
      | inl next ↦
          let place : event - 1 ≡ length before = omega (arith, next) in
          absurd (not (subst (HasBit tails') (sym place) put.end))
      | inr other ↦
          let old : event ≤ length before = omega (arith, other, small, count_more) in
          let this : suc (event - 1) ≡ event = omega (arith, some) in
          elim (cases_eq event put.last) [
            | inl now ↦ (suc (length before), omega arith, omega (arith, count_more), before_next ∙ sym now)
            | inr still ↦
                let by = chains.ends event some old (λ bit. not (put.others (event - 1) bit (λ is. still (sym this ∙ is)))) in
                (by.0, by.1, omega (arith, by.2, count_more), before_earlier by.0 by.2 ∙ by.3)
          ]
    ];
  }

-- with one event more listed, the chains of the earlier ones are the same
pub chains-with_next : (placing : Placing) (placed : Placed) (before tails : List ℕ) → length before ≤ length placing → AreChains placing before tails → AreChains (with_next placing placed) before tails
chains-with_next placing placed before tails count chains = record {
  follows = λ event some small. subst (λ (at : Placed). (before_of before event ≡ 0) ⊎ Contains at.preds (before_of before event))
      (sym (placed_at-earlier placing placed event (some, omega (arith, small, count)))) (chains.follows event some small);
  ends = chains.ends;
}

-- what is kept of an event is what is before it in its chain
pub before_is : (before : List ℕ) (event : ℕ) → 0 < event → slice_index_or before (event - 1) 0 ≡ before_of before event
before_is before zero some = absurd (omega (arith, some))
before_is before (suc place) some =
    let at : suc place - 1 ≡ place = omega arith in
    ap (λ k. slice_index_or before k 0) at
