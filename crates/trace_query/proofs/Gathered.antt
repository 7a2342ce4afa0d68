-- The answers of the queries, step by step.
use Rattle.std.proofs.Common.{◌≡◌, ◌≢◌, ℕ, zero, suc, ◌+◌, ◌-◌, ◌<◌, ◌≤◌, ◌↔◌, Bool, true, false, ◌&&◌, cond, List, [], ◌∷◌, ◌++◌, length, get_or, map, IsTrue, Result, Ok, Err, IsErrAnd, refl, sym, ap, subst, ◌∙◌, inl, inr, arith, rules}
use Rattle.std.specs.Global.{Vec}
use Rattle.std.specs.List.{filter, range_with_len}
use Rattle.std.proofs.Math.Path.{transport}
use Rattle.std.proofs.lemmas.Bool.{false≢true, and_from, cases_Bool, cond-true, cond-false}
use Rattle.std.proofs.lemmas.List.{get_or-map, length-map, map-id, append-nil}
use Rattle.std.proofs.lemmas.List.FromFn.{filter_of_map_range_with_len_more}
use denote.Enum.Bare.{sameb, same_true, true_same}
use Rattle.trace_types.specs.contracts.order.Order.{the_type}
use Rattle.trace_types.specs.declared.order.Order.{Order}
use Rattle.trace_types.specs.clock.EventTree.{EventTree, Leaf}
use Rattle.event_tree.specs.Comparison.{StandsAs}
use Rattle.event_tree.proofs.Standing.{stand_one_way}
use Rattle.trace_query.specs.Compared.{tree_order}
use Rattle.trace_query.specs.Queries.{has_tree, tree_at, order_between, is_other_standing, others_standing, order_due, ListsExactly}
use Rattle.trace_query.specs.declared.queries.QueryFault.{QueryFault}
use Rattle.trace_query.specs.declared.queries.QueryFault.TheVariants.{Unknown, Memory}
use Rattle.trace_query.proofs.ComparedTrees.{stands_as_compared}
use Rattle.trace_query.proofs.Listed.{event_from_bounds, is_other_standing_iff, others_are_exact}

-- two trees that stand in this way, tested for the way that is wanted
pub tested : (wanted order : Order) (e f : EventTree) (found : Bool) → StandsAs order e f → found ≡ sameb the_type order wanted → IsTrue found ↔ StandsAs wanted e f
tested wanted order e f found stands is = (
  λ passes. subst (λ (o : Order). StandsAs o e f) (same_true the_type (search rules) order wanted (sym is ∙ passes)) stands,
  λ asked. is ∙ true_same the_type order wanted (stand_one_way e f order wanted stands asked),
)

-- one event more
more : (test : ℕ → Bool) (place : ℕ) → filter test (range_with_len 1 (place + 1)) ≡ filter test (range_with_len 1 place) ++ cond (test (place + 1)) ((place + 1) ∷ []) []
more test place =
    let all : filter test (map (λ (event : ℕ). event) (range_with_len 1 (place + 1))) ≡ filter test (map (λ (event : ℕ). event) (range_with_len 1 place)) ++ cond (test (place + 1)) ((place + 1) ∷ []) [] =
    filter_of_map_range_with_len_more test (λ (event : ℕ). event) 1 place (place + 1) (omega arith) in
    rw (map-id (range_with_len 1 (place + 1)), map-id (range_with_len 1 place)) at all

-- an event that passes is added
gathered_one : (test : ℕ → Bool) (place : ℕ) (events : List ℕ) → events ≡ filter test (range_with_len 1 place) → test (place + 1) ≡ true
    → events ++ (place + 1) ∷ [] ≡ filter test (range_with_len 1 (place + 1))
gathered_one test place events so_far passes =
    ap (λ list. list ++ (place + 1) ∷ []) so_far
    ∙ sym (more test place ∙ ap (λ list. filter test (range_with_len 1 place) ++ list) (cond-true (test (place + 1)) ((place + 1) ∷ []) [] passes))

-- another one is passed over
gathered_none : (test : ℕ → Bool) (place : ℕ) (events : List ℕ) → events ≡ filter test (range_with_len 1 place) → test (place + 1) ≡ false
    → events ≡ filter test (range_with_len 1 (place + 1))
gathered_none test place events so_far fails =
    so_far
    ∙ sym (more test place ∙ ap (λ list. filter test (range_with_len 1 place) ++ list) (cond-false (test (place + 1)) ((place + 1) ∷ []) [] fails) ∙ append-nil (filter test (range_with_len 1 place)))

-- the order of two events that there are
pub ordered : (trees : List EventTree) (first second : ℕ) (one other : EventTree) (order : Order) → has_tree trees first ≡ true → has_tree trees second ≡ true
    → one ≡ tree_at trees first → other ≡ tree_at trees second → StandsAs order one other → Ok order ≡ order_due trees first second
ordered trees first second one other order is_first is_second is_one is_other stands =
    let both : (has_tree trees first && has_tree trees second) ≡ true = and_from (has_tree trees first) (has_tree trees second) is_first is_second in
    let told : order ≡ order_between trees first second = stands_as_compared order one other stands ∙ ap (λ e. tree_order e other) is_one ∙ ap (tree_order (tree_at trees first)) is_other in
    ap Ok told ∙ sym (cond-true (has_tree trees first && has_tree trees second) (Ok (order_between trees first second)) (Err Unknown) both)

-- of trees of which none more passes the events are all there
passed_over : (test : ℕ → Bool) (n place left : ℕ) → place + left ≡ n → ((later : ℕ) → place < later → later ≤ n → test later ≡ false)
    → filter test (range_with_len 1 place) ≡ filter test (range_with_len 1 n)
passed_over test n place zero whole none = let all : place ≡ n = omega (arith, whole) in ap (λ many. filter test (range_with_len 1 many)) all
passed_over test n place (suc left) whole none =
    gathered_none test place (filter test (range_with_len 1 place)) refl (none (place + 1) (omega arith) (omega arith))
    ∙ passed_over test n (place + 1) left (omega arith) (λ later above within. none later (omega (arith, above)) within)

-- what was tested and is not
pub refuted_by : {P : Type 0} {b : Bool} → (IsTrue b ↔ P) → b ≡ false → ¬ P
refuted_by told is holds = false≢true (sym is ∙ told.1 holds)

-- what is no fact is not tested to be one
pub refuted : {P : Type 0} (b : Bool) → (IsTrue b → P) → (¬ P) → b ≡ false
refuted b told refutes = elim (cases_Bool b) [ inl is ↦ absurd (refutes (told is)) | inr is_not ↦ is_not ]

module _ (wanted : Order) (trees : List EventTree) (event : ℕ) where
  abbrev pub is_listed : ℕ → Bool
  is_listed number = is_other_standing wanted trees number event

  -- the events up to this place that are listed
  abbrev pub listed_to : ℕ → List ℕ
  listed_to place = filter is_listed (range_with_len 1 place)

  -- an event is passed over where it is no other one that stands so
  pub unlisted : (number : ℕ) → (number ≢ event → ¬ StandsAs wanted (tree_at trees number) (tree_at trees event)) → is_listed number ≡ false
  unlisted number refutes = refuted (is_listed number) ((is_other_standing_iff wanted trees number event).0) (λ holds. refutes holds.0 holds.1)

  found : (events : Vec ℕ) → IsTrue (has_tree trees event) → events.items ≡ others_standing wanted trees event → ListsExactly (others_standing wanted) trees event (Ok events)
  found events is all = record { known = is; events = all; fault = tt; empty = λ none. tt }

  -- where no later one is listed they are all there
  pub found_before : (place : ℕ) (events : Vec ℕ) → IsTrue (has_tree trees event) → place ≤ length trees → ((later : ℕ) → place < later → later ≤ length trees → is_listed later ≡ false)
      → events.items ≡ listed_to place → ListsExactly (others_standing wanted) trees event (Ok events)
  found_before place events is within none so_far = found events is (so_far ∙ passed_over is_listed (length trees) place (length trees - place) (omega arith) none)

-- past the last place they are all there
pub found_all : {K : Type 0} (tree : K → EventTree) (kept : List K) (wanted : Order) (event place : ℕ) (events : Vec ℕ) → IsTrue (has_tree (map tree kept) event)
    → place ≡ length kept → events.items ≡ listed_to wanted (map tree kept) event place → ListsExactly (others_standing wanted) (map tree kept) event (Ok events)
found_all tree kept wanted event place events is last so_far =
    let all = length-map kept tree in
    found_before wanted (map tree kept) event place events is (omega (arith, last, all)) (λ later above within. absurd (omega (arith, above, within, last, all))) so_far

-- what is kept in a place, and what is kept for an event
pub record ArePlaced {K : Type 0} (tree : K → EventTree) (kept : List K) (event place : ℕ) (other one : K) : Type 0 where
  pub other_is : other ≡ get_or kept place other
  pub one_is : tree one ≡ tree_at (map tree kept) event
  pub within : place < length kept
  pub event_is : IsTrue (has_tree (map tree kept) event)

-- the event in the place is another one than the event, and stands so to it
abbrev pub IsOtherStanding : {K : Type 0} → Order → (K → EventTree) → ℕ → ℕ → K → K → Type 0
IsOtherStanding wanted tree event place other one = (place + 1 ≢ event) × StandsAs wanted (tree other) (tree one)

module _ {K : Type 0} {tree : K → EventTree} {kept : List K} {event place : ℕ} {other one : K} (placed : ArePlaced tree kept event place other one) where
  -- there is an event in the place
  pub here : IsTrue (has_tree (map tree kept) (place + 1))
  here = event_from_bounds (map tree kept) (place + 1) (omega arith) (omega (arith, placed.within, length-map kept tree))

  -- what is kept there is its tree
  pub tree_in_place : tree other ≡ tree_at (map tree kept) (place + 1)
  tree_in_place =
      let back : (place + 1) - 1 ≡ place = omega arith in
      ap tree placed.other_is ∙ sym (get_or-map tree kept place other (Leaf 0) placed.within) ∙ ap (λ (k : ℕ). get_or (map tree kept) k (Leaf 0)) (sym back)

  -- it is listed where it is another one that stands so
  listed_iff : (wanted : Order) → IsTrue (is_listed wanted (map tree kept) event (place + 1)) ↔ IsOtherStanding wanted tree event place other one
  listed_iff wanted =
      transport
      (λ i. IsTrue (is_listed wanted (map tree kept) event (place + 1)) ↔ ((place + 1 ≢ event) × StandsAs wanted (sym tree_in_place i) (sym placed.one_is i)))
      (is_other_standing_iff wanted (map tree kept) (place + 1) event)

  pub listed_one : (wanted : Order) (events : List ℕ) → events ≡ listed_to wanted (map tree kept) event place → IsOtherStanding wanted tree event place other one
      → (next : List ℕ) → next ≡ events ++ (place + 1) ∷ [] → next ≡ listed_to wanted (map tree kept) event (place + 1)
  listed_one wanted events so_far stands next is_next =
      is_next ∙ gathered_one (is_listed wanted (map tree kept) event) place events so_far ((listed_iff wanted).1 stands)

  -- any other one is passed over
  pub listed_none : (wanted : Order) (events : List ℕ) → events ≡ listed_to wanted (map tree kept) event place → ¬ IsOtherStanding wanted tree event place other one
      → events ≡ listed_to wanted (map tree kept) event (place + 1)
  listed_none wanted events so_far refutes =
      gathered_none (is_listed wanted (map tree kept) event) place events so_far (refuted _ (listed_iff wanted).0 refutes)

  -- for a list that has it memory may be wanting
  pub refused_one : (wanted : Order) → IsOtherStanding wanted tree event place other one → (result : Result (Vec ℕ) QueryFault) → IsErrAnd result (λ fault. fault ≡ Memory)
      → ListsExactly (others_standing wanted) (map tree kept) event result
  refused_one wanted stands (Ok events) never = absurd never
  refused_one wanted stands (Err fault) refused = record {
    known = tt;
    events = tt;
    fault = refused ∙ sym (cond-true (has_tree (map tree kept) event) Memory Unknown placed.event_is);
    empty = λ none.
        let others = (is_other_standing_iff wanted (map tree kept) (place + 1) event).0 ((listed_iff wanted).1 stands) in
        let listed = (others_are_exact wanted (map tree kept) event (place + 1)).1 (here, others.0, others.1) in
        let nothing : length (others_standing wanted (map tree kept) event) ≡ 0 = ap (λ list. length list) none in
        absurd (omega (arith, listed.1, nothing));
  }
