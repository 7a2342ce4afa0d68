-- Lines that are right one after another make a good export.
use Rattle.std.proofs.Common.{◌≡◌, ℕ, suc, ◌+◌, ◌-◌, List, [], ◌∷◌, ◌++◌, length, slice_index_or, refl, sym, ap, subst, inl, inr, ◌∙◌, arith, length-append, append_assoc}
use Rattle.std.proofs.lemmas.Bool.{cases_eq, cases_lt}
use Rattle.std.proofs.lemmas.List.{get_or_append_left, get_or-append-add, append-nil}
use Rattle.trace_types.specs.text.Name.{Text}
use Rattle.trace_export.specs.declared.placed.Placed.{Placed}
use Rattle.trace_export.specs.Edges.{Placing, IsPlaced, placed_at, AreOrderedAlike}
use Rattle.trace_export.specs.Graph.{AreEarlier, EdgesLeadBack, AreAllAlike}
use Rattle.trace_export.specs.Listing.{ListsAs}
use Rattle.trace_export.specs.Laws.{event_line, IsListedIn, AreGoodEvents}
use Rattle.trace_export.specs.Verdict.{AreRightAfter, IsRightNext, HasTree}
use Rattle.trace_export.proofs.Alike.{alike_next}
use Rattle.trace_export.proofs.Connecting.{with_next, length-with_next, placed_at-earlier, placed_at-next, back-with_next, connected_itself}

-- so far they do
record IsGoodSoFar (before : List Text) (placing : Placing) : Type 0 where
  counted : length before ≡ length placing
  listed : (event : ℕ) → IsPlaced placing event → IsListedIn (event_line before event) placing event
  back : EdgesLeadBack placing
  alike : AreAllAlike placing

good_none : IsGoodSoFar [] []
good_none = record {
  counted = refl;
  listed = λ event within. absurd (omega (arith, within.0, within.1));
  back = λ event within. absurd (omega (arith, within.0, within.1));
  alike = λ a b first second less. absurd (omega (arith, first.0, first.1));
}

-- what is at an event, listed by a line
listed_at : (line line' : Text) (placing placing' : Placing) (event : ℕ) → line' ≡ line → placed_at placing' event ≡ placed_at placing event → IsListedIn line placing event → IsListedIn line' placing' event
listed_at line line' placing placing' event same at known = record {
  listed = known.listed;
  lists = subst (λ (text : Text). ListsAs text known.listed) (sym same) known.lists;
  number = known.number;
  preds = ap (λ (placed : Placed). placed.preds) at ∙ known.preds;
  tree = subst (λ (placed : Placed). HasTree known.listed placed.tree) (sym at) known.tree;
}

good_more : (before : List Text) (placing : Placing) (line : Text) (placed : Placed) → IsGoodSoFar before placing → IsRightNext placing line placed → IsGoodSoFar (before ++ line ∷ []) (with_next placing placed)
good_more before placing line placed good next = record {
  counted = omega (arith, length-append before (line ∷ []), length-with_next placing placed, good.counted);
  listed = listed;
  back = back-with_next placing placed good.back earlier;
  alike = alike_next placing placed good.back good.alike next.ordered;
}
  where
    preds_number : next.listed.event ≡ suc (length placing)
    preds_number = next.comes.number.0

    earlier : AreEarlier placed.preds (suc (length placing))
    earlier = subst (λ preds. AreEarlier preds (suc (length placing))) (sym next.comes.edges) (subst (AreEarlier next.listed.preds) preds_number next.comes.preds.1)

    newest : IsListedIn line (with_next placing placed) (suc (length placing))
    newest = record {
      listed = next.listed;
      lists = next.listing.1;
      number = preds_number;
      preds = ap (λ (at : Placed). at.preds) (placed_at-next placing placed) ∙ next.comes.edges;
      tree = subst (λ (at : Placed). HasTree next.listed at.tree) (sym (placed_at-next placing placed)) next.comes.tree;
    }

    line_next : event_line (before ++ line ∷ []) (suc (length placing)) ≡ line
    line_next =
        let place : suc (length placing) - 1 ≡ length before + 0 = omega (arith, good.counted) in
        ap (λ k. slice_index_or (before ++ line ∷ []) k []) place ∙ get_or-append-add before (line ∷ []) 0 []

    listed : (event : ℕ) → IsPlaced (with_next placing placed) event → IsListedIn (event_line (before ++ line ∷ []) event) (with_next placing placed) event
    listed event within = elim (cases_eq event (suc (length placing))) [
      | inl last ↦ subst (λ at. IsListedIn (event_line (before ++ line ∷ []) at) (with_next placing placed) at) (sym last) (subst (λ (text : Text). IsListedIn text (with_next placing placed) (suc (length placing))) (sym line_next) newest)
      | inr other ↦
          let old : IsPlaced placing event = (within.0, omega (arith, other, within.1, length-with_next placing placed)) in
          listed_at (event_line before event) (event_line (before ++ line ∷ []) event) placing (with_next placing placed) event
          (get_or_append_left before (line ∷ []) [] (event - 1) (omega (arith, old.0, old.1, good.counted))) (placed_at-earlier placing placed event old) (good.listed event old)
    ]

good_all : (before rest : List Text) (earlier placing : Placing) → IsGoodSoFar before earlier → AreRightAfter earlier rest placing → IsGoodSoFar (before ++ rest) placing
good_all before [] earlier placing good right = subst (λ (these : List Text). IsGoodSoFar these placing) (sym (append-nil before)) (subst (IsGoodSoFar before) (sym right) good)
good_all before (line ∷ rest) earlier placing good right =
    subst (λ (these : List Text). IsGoodSoFar these placing) (append_assoc before (line ∷ []) rest)
    (good_all (before ++ line ∷ []) rest (with_next earlier right.0) placing (good_more before earlier line right.0 good right.1) right.2)

ordered_all : (placing : Placing) → AreAllAlike placing → (a b : ℕ) → IsPlaced placing a → IsPlaced placing b → AreOrderedAlike placing a b
ordered_all placing alike a b first second = elim (cases_eq a b) [
  | inl same ↦
      let itself : AreOrderedAlike placing a a = (((λ below. connected_itself placing a), (λ connected point. omega arith)), ((λ below. connected_itself placing a), (λ connected point. omega arith))) in
      subst (AreOrderedAlike placing a) same itself
  | inr other ↦ elim (cases_lt a b) [
    | inl less ↦ alike a b first second less
    | inr more ↦ let known = alike b a second first (omega (arith, more, other)) in (known.1, known.0)
  ]
]

pub good_events : (these : List Text) (placing : Placing) → AreRightAfter [] these placing → AreGoodEvents these placing
good_events these placing right =
    let good = good_all [] these [] placing good_none right in
    record { counted = good.counted; listed = good.listed; ordered = ordered_all placing good.alike }
