-- The lists that are told by comparing the kept trees are those of the graph, and so is the row of an event.
use Rattle.std.proofs.Common.{◌≡◌, ℕ, suc, ◌-◌, ◌<◌, ◌≤◌, Bool, true, false, cond, not, ◌&&◌, IsTrue, eqb, ltb, List, [], ◌∷◌, ◌++◌, length, get_or, slice_get, reverse, map, option_map, Option, Some, None, Result, Ok, Err, IfOk, IfErr, refl, sym, ap, ◌∙◌, subst, inl, inr, arith}
use Rattle.trace_query.specs.Compared.{is_order}
use Rattle.tenant_ledger.proofs.Words.{transport, filter, range_with_len, cases_Bool, eq-eqb, eqb-true, cond-true, cond-false, nat_tests, length-reverse, map-append, reverse-append, reverse-reverse, get_or_from_slice_get, same_Some, slice_get-map, slice_get_read, of_each, start_of, tree_at, StandInOrder, order_between, others_standing, History, history_of, is_event, row_of, events, reaches, order_of, past_of, concurrent_with, cut_of, are_of_one_task, EventTree, Leaf, tree_clock, tree_of, stamp_of, Order, Same, Before, After, Concurrent, Row, is_report, MayLackMemory, Answers, reply_to_view, NoEvent, Reply, Request, IsBelow, Tenant, AreLegal, ArePoints, IsLegal, MayHavePoint, value, code_of}
use Rattle.trace_types.specs.declared.reply.Reply.TheVariants as reply
use Rattle.trace_types.specs.declared.request.Request.TheVariants as request
use Rattle.trace_query.specs.Deciding.{DecideInOrder, DecidesBelow, IsDecidedBy, point_in}
use Rattle.trace_query.specs.Queries as query
use Rattle.trace_query.specs.Laws.{Tells, TellsReach, TellsTasks, cut_by}
use Rattle.trace_query.specs.Queries.{ComeBefore, Lists, ListsExactly}
use Rattle.std.specs.Global.{Vec}
use Rattle.trace_query.proofs.ComparedTrees.{tree_order_stands}
use Rattle.trace_query.proofs.Told.{told_by_orders, told_by_reach}
use Rattle.trace_types.proofs.Reachability.{reaches_newest, reaches_earlier}
use Rattle.event_tree.specs.declared.point.RaisedPoint.{RaisedPoint}
use Rattle.trace_query.specs.declared.queries.QueryFault.{QueryFault}
use Rattle.trace_query.specs.declared.queries.QueryFault.TheVariants.{Unknown}
use Rattle.event_tree.proofs.Standing.{stand_one_way}
use Rattle.tenant_ledger.proofs.keeping.Kept.{one_tree, tree_at_event}
use Rattle.tenant_ledger.proofs.clock.Events.{event_bounds, event_from_bounds}
use Rattle.tenant_ledger.proofs.keeping.Lists.{at_event, length-of_each}
use Rattle.tenant_ledger.proofs.keeping.Starts.{one_task_by_start, start_of-before, start_of-older}
use Rattle.tenant_ledger.proofs.clock.Legality.{IsLegal_from_AreLegal}
use Rattle.tenant_ledger.proofs.clock.Consequences.{below_iff_reaches, decides_reach, stands_as_ordered}
use Rattle.tenant_ledger.proofs.clock.Reaching.{reaches_forward}
use Rattle.tenant_ledger.proofs.clock.TreeClock.{tree_clock_laws}
use Rattle.tenant_ledger.proofs.clock.Upheld.{invariant_upheld}

-- each event reaches itself
reaches_itself : (history : History) (event : ℕ) → reaches history event event ≡ true
reaches_itself [] event = eq-eqb event event refl
reaches_itself (row ∷ earlier) event =
    grind (arith, nat_tests, reaches_newest row earlier event event, reaches_earlier row earlier event event, reaches_itself earlier event)

-- an event is in the past of another one where it is another one and reaches it
before_by : (same forth back : Bool) → is_order Before (cond same Same (cond forth Before (cond back After Concurrent))) ≡ (not same && forth)
before_by same forth back = grind (arith, nat_tests)

-- and concurrent with it where neither reaches the other
concurrent_by : (same forth back : Bool) → (same ≡ true → forth ≡ true) → is_order Concurrent (cond same Same (cond forth Before (cond back After Concurrent))) ≡ (not forth && not back)
concurrent_by same forth back itself = grind (arith, nat_tests, itself)

-- the reply that gives the order that was found
abbrev pub order_reply : Result Order QueryFault → Reply
order_reply (Ok order) = reply.Ordering order
order_reply (Err fault) = reply.Refused (code_of fault)

-- what is kept of each event is its tree, and the rows are legal
module _ (tenant : Tenant) (trees : List EventTree) (legal : AreLegal tenant.limits tenant.rows) (are : trees ≡ of_each (tree_of tree_clock) (history_of tenant.rows)) where
  abbrev pub history : History
  history = history_of tenant.rows

  as_many : length trees ≡ length history
  as_many = one_tree tenant.rows trees are ∙ sym (length-reverse tenant.rows)

  -- an event by the trees is one by the rows
  pub same_events : (event : ℕ) → query.has_tree trees event ≡ is_event history event
  same_events event = ap (λ n. ltb 0 event && ltb event (suc n)) as_many

  -- the tree that is kept of an event is what it knows
  pub tree_is_kept : (event : ℕ) → IsTrue (is_event history event) → tree_at trees event ≡ tree_of tree_clock history event
  tree_is_kept event event_is =
      let bounds = event_bounds history event event_is in
      let within : event ≤ length tenant.rows = omega (arith, bounds.1, length-reverse tenant.rows) in
      get_or_from_slice_get trees (event - 1) (tree_of tree_clock history event) (Leaf 0) (tree_at_event tenant.rows trees are event bounds.0 within)

  -- the trees tell the order of the events
  pub trees_tell : Tells trees (order_of history)
  trees_tell first second first_is second_is =
      let one_is : IsTrue (is_event history first) = sym (same_events first) ∙ first_is in
      let other_is : IsTrue (is_event history second) = sym (same_events second) ∙ second_is in
      rw (tree_is_kept first one_is, tree_is_kept second other_is)
      (stands_as_ordered history (IsLegal_from_AreLegal tenant.limits tenant.rows legal) first second one_is other_is)

  -- what an event knows is not below what an earlier one does: to be below it is to reach it
  pub stand_in_order : StandInOrder trees
  stand_in_order earlier later earlier_is later_is before below =
      let one_is : IsTrue (is_event history earlier) = sym (same_events earlier) ∙ earlier_is in
      let other_is : IsTrue (is_event history later) = sym (same_events later) ∙ later_is in
      let holds = invariant_upheld tree_clock_laws history (IsLegal_from_AreLegal tenant.limits tenant.rows legal) in
      let kept_below = transport (λ i. IsBelow (tree_is_kept later other_is i) (tree_is_kept earlier one_is i)) below in
      elim (reaches_forward history later earlier ((below_iff_reaches tree_clock_laws history holds later earlier other_is).0 kept_below)) [ inl same ↦ omega (arith, same, before) | inr after ↦ omega (arith, after.0, before) ]

  -- a point that an event raised decides which later events it reaches, and so which trees its own is below
  pub decide_in_order : (points : List (Option RaisedPoint)) → ArePoints history points → DecideInOrder trees points
  decide_in_order points are_points earlier later earlier_is later_is before =
      by (point_in points (earlier - 1)) (subst (λ e. MayHavePoint history e (point_in points (earlier - 1))) number (are_points.each (earlier - 1)))
    where
      one_is : IsTrue (is_event history earlier)
      one_is = sym (same_events earlier) ∙ earlier_is

      other_is : IsTrue (is_event history later)
      other_is = sym (same_events later) ∙ later_is

      number : suc (earlier - 1) ≡ earlier
      number = omega (arith, (event_bounds history earlier one_is).0)

      legal_history : IsLegal history
      legal_history = IsLegal_from_AreLegal tenant.limits tenant.rows legal

      by : (found : Option RaisedPoint) → MayHavePoint history earlier found → IsDecidedBy found (tree_at trees earlier) (tree_at trees later)
      by None none = tt
      by (Some deciding) has = record {
        own = has.own ∙ ap (λ tree. value tree deciding.point) (sym (tree_is_kept earlier one_is));
        decides = transport (λ i. DecidesBelow deciding.point (sym (tree_is_kept earlier one_is) i) (sym (tree_is_kept later other_is) i))
            (λ known. (invariant_upheld tree_clock_laws history legal_history).trees_rise earlier later ((decides_reach history legal_history earlier deciding.point has.raised later).0 known));
      }

  told : (wanted : Order) → is_order wanted Same ≡ false → (event : ℕ) → IsTrue (query.has_tree trees event)
      → others_standing wanted trees event ≡ filter (λ other. is_order wanted (order_of history other event)) (events history)
  told wanted differs event event_is =
      told_by_orders wanted differs trees (order_of history) trees_tell event event_is
      ∙ ap (λ n. filter (λ other. is_order wanted (order_of history other event)) (range_with_len 1 n)) as_many

  -- so the lists are those of the graph
  pub past_told : (event : ℕ) → IsTrue (query.has_tree trees event) → query.trees_before trees event ≡ past_of history event
  past_told event event_is =
      told Before refl event event_is
      ∙ (λ i. filter (λ other. before_by (eqb other event) (reaches history other event) (reaches history event other) i) (events history))

  pub concurrent_told : (event : ℕ) → IsTrue (query.has_tree trees event) → query.concurrent_of trees event ≡ concurrent_with history event
  concurrent_told event event_is =
      let itself = λ (other : ℕ) (same : eqb other event ≡ true). ap (λ e. reaches history e event) (eqb-true other event same) ∙ reaches_itself history event in
      told Concurrent refl event event_is
      ∙ (λ i. filter (λ other. concurrent_by (eqb other event) (reaches history other event) (reaches history event other) (itself other) i) (events history))

  -- an event reaches another where its tree is below that of the other
  trees_reach : TellsReach trees (reaches history)
  trees_reach first second first_is second_is =
      let one_is : IsTrue (is_event history first) = sym (same_events first) ∙ first_is in
      let other_is : IsTrue (is_event history second) = sym (same_events second) ∙ second_is in
      let holds = invariant_upheld tree_clock_laws history (IsLegal_from_AreLegal tenant.limits tenant.rows legal) in
      let both = below_iff_reaches tree_clock_laws history holds first second one_is in (
        λ reached. transport (λ i. IsBelow (sym (tree_is_kept first one_is) i) (sym (tree_is_kept second other_is) i)) (both.1 reached),
        λ below. both.0 (transport (λ i. IsBelow (tree_is_kept first one_is i) (tree_is_kept second other_is i)) below),
      )

  -- what is kept of each event is the event that started its task
  module _ (starts : List ℕ) (starts_are : starts ≡ of_each start_of (history_of tenant.rows)) where
    legal_rows : IsLegal history
    legal_rows = IsLegal_from_AreLegal tenant.limits tenant.rows legal

    pub as_many_starts : length starts ≡ length trees
    as_many_starts = ap length starts_are ∙ length-of_each start_of history ∙ sym as_many

    start_is_kept : (event : ℕ) → IsTrue (is_event history event) → query.task_at starts event ≡ start_of history event
    start_is_kept event event_is =
        let bounds = event_bounds history event event_is in
        get_or_from_slice_get starts (event - 1) (start_of history event) 0
        (ap (λ found. slice_get found (event - 1)) starts_are ∙ at_event start_of start_of-older history event bounds.0 bounds.1)

    -- it comes before the event
    pub starts_before : ComeBefore starts
    starts_before event positive within =
        let there : IsTrue (is_event history event) = event_from_bounds history event positive (omega (arith, within, as_many_starts, as_many)) in
        subst (λ start. start < event) (sym (start_is_kept event there)) (start_of-before history legal_rows event there)

    -- and tells the tasks apart
    starts_tell : TellsTasks trees starts (are_of_one_task history)
    starts_tell first second first_is second_is =
        let one_is : IsTrue (is_event history first) = sym (same_events first) ∙ first_is in
        let other_is : IsTrue (is_event history second) = sym (same_events second) ∙ second_is in
        one_task_by_start history legal_rows first second one_is other_is
        ∙ (λ i. eqb (sym (start_is_kept first one_is) i) (sym (start_is_kept second other_is) i))

    -- so the cut by trees is that of the graph
    pub cut_told : (event : ℕ) → IsTrue (query.has_tree trees event) → query.cut_by_trees trees starts event ≡ cut_of history event
    cut_told event event_is =
        told_by_reach trees starts (reaches history) (are_of_one_task history) trees_reach starts_tell event event_is
        ∙ ap (λ n. cut_by (reaches history) (are_of_one_task history) (range_with_len 1 n) event) as_many

  module _ (event : ℕ) (answer : Reply) where
    -- a search through the trees for this list was answered
    abbrev IsAnswered : Request → Lists → Result (Vec ℕ) QueryFault → Type 0
    IsAnswered asked list_of found = ListsExactly list_of trees event found
        → IfOk found (λ events. answer ≡ reply.List events.items) → IfErr found (λ refusal. answer ≡ reply.Refused (code_of refusal)) → Answers tenant asked answer

    -- a list of events that is told by the trees is answered as it is due
    list_answered : (asked : Request) (graph : List ℕ) (list_of : Lists) → (is_event history event ≡ true → list_of trees event ≡ graph)
        → (is_event history event ≡ true → (reply.List graph ≡ reply_to_view tenant asked) × IsTrue (not (is_report asked)) × MayLackMemory tenant asked)
        → (is_event history event ≡ false → reply.Refused NoEvent ≡ reply_to_view tenant asked) → (found : Result (Vec ℕ) QueryFault) → IsAnswered asked list_of found
    list_answered asked graph list_of same due none (Ok events) exact listed refused =
        let there = sym (same_events event) ∙ exact.known in inl (listed ∙ ap reply.List (exact.events ∙ same there) ∙ (due there).0)
    list_answered asked graph list_of same due none (Err refusal) exact listed refused = elim (cases_Bool (query.has_tree trees event)) [
      | inl there ↦
          let given = due (sym (same_events event) ∙ there) in
          inr (given.1, given.2, refused ∙ ap (λ f. reply.Refused (code_of f)) (exact.fault ∙ cond-true (query.has_tree trees event) _ _ there))
      | inr nowhere ↦
          inl (refused ∙ ap (λ f. reply.Refused (code_of f)) (exact.fault ∙ cond-false (query.has_tree trees event) _ _ nowhere) ∙ none (sym (same_events event) ∙ nowhere))
    ]

    pub past_answered : (found : Result (Vec ℕ) QueryFault) → IsAnswered (request.Past event) query.trees_before found
    past_answered =
        list_answered (request.Past event) (past_of history event) query.trees_before
        (λ there. past_told event (same_events event ∙ there))
        (λ there. (rw there refl, refl, (refl, rw there refl))) (λ nowhere. rw nowhere refl)

    pub concurrent_answered : (found : Result (Vec ℕ) QueryFault) → IsAnswered (request.Concurrent event) query.concurrent_of found
    concurrent_answered =
        list_answered (request.Concurrent event) (concurrent_with history event) query.concurrent_of
        (λ there. concurrent_told event (same_events event ∙ there))
        (λ there. (rw there refl, refl, (refl, rw there refl))) (λ nowhere. rw nowhere refl)

    pub cut_answered : (starts : List ℕ) → starts ≡ of_each start_of history → (found : Result (Vec ℕ) QueryFault)
        → IsAnswered (request.Cut event) (λ trees event. query.cut_by_trees trees starts event) found
    cut_answered starts starts_are =
        list_answered (request.Cut event) (cut_of history event) (λ trees event. query.cut_by_trees trees starts event)
        (λ there. cut_told starts starts_are event (same_events event ∙ there))
        (λ there. (rw there refl, refl, (refl, rw there refl))) (λ nowhere. rw nowhere refl)

  -- an order that is told by the trees is answered as it is due
  pub order_answered : (first second : ℕ) → order_reply (query.order_due trees first second) ≡ reply_to_view tenant (request.Order first second)
  order_answered first second =
      ap order_reply (λ i. cond (same_events first i && same_events second i) (Ok (order_between trees first second)) (Err Unknown))
      ∙ elim (cases_Bool (is_event history first)) [
        | inl one ↦ elim (cases_Bool (is_event history second)) [
          | inl other ↦
              let told = trees_tell first second (same_events first ∙ one) (same_events second ∙ other) in
              let same = stand_one_way (tree_at trees first) (tree_at trees second) (order_between trees first second) (order_of history first second)
              (tree_order_stands (tree_at trees first) (tree_at trees second)) told in
              rw (one, other) (ap reply.Ordering same)
          | inr nowhere ↦ rw (one, nowhere) refl
        ]
        | inr nowhere ↦ rw nowhere refl
      ]

-- the rows stand in the order of the events
rows_in_order : (history : History) → of_each row_of history ≡ map Some (reverse history)
rows_in_order [] = refl
rows_in_order (row ∷ earlier) =
    let newest = cond-true (eqb (suc (length earlier)) (suc (length earlier))) (Some row) (row_of earlier (suc (length earlier))) (eq-eqb _ (suc (length earlier)) refl) in
    (λ i. rows_in_order earlier i ++ newest i ∷ []) ∙ sym (map-append Some (reverse earlier) (row ∷ [])) ∙ ap (map Some) (sym (reverse-append (row ∷ []) earlier))

-- so the row that stands in the place of an event is that of the event
pub row_is_kept : (rows : List Row) (event : ℕ) (row : Row) → is_event (history_of rows) event ≡ true → row ≡ get_or rows (event - 1) row
    → row_of (history_of rows) event ≡ Some row
row_is_kept rows event row event_is row_is =
    let bounds = event_bounds (history_of rows) event event_is in
    let inside : event - 1 < length rows = omega (arith, bounds.0, bounds.1, length-reverse rows) in
    same_Some _ _ (sym (at_event row_of (λ newest earlier e older. grind (arith, nat_tests)) (history_of rows) event bounds.0 bounds.1)
    ∙ ap (λ found. slice_get found (event - 1)) (rows_in_order (history_of rows) ∙ ap (map Some) (reverse-reverse rows))
    ∙ slice_get-map Some rows (event - 1) ∙ ap (option_map Some) (slice_get_read rows (length rows) (event - 1) row refl inside row_is))

-- the stamp of an event is its task's id and what it knows
pub stamp_knows : (history : History) (event : ℕ) → (stamp_of tree_clock history event).1 ≡ tree_of tree_clock history event
stamp_knows [] event = refl
stamp_knows (row ∷ earlier) event = grind (arith, nat_tests, stamp_knows earlier event)
