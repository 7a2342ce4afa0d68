-- The cut of an event: what stands in it, and how it is gathered from the last event to the first.
use Rattle.std.proofs.Common.{◌≡◌, ◌≢◌, ◌↔◌, ◌⊎◌, ℕ, zero, suc, ◌+◌, ◌-◌, ◌<◌, ◌≤◌, Bool, true, false, not, ◌&&◌, IsTrue, eqb, ltb, List, [], ◌∷◌, ◌++◌, length, get_or, set, replicate, reverse, filter, map, Contains, Result, Ok, Err, IsErrAnd, refl, sym, ap, subst, ◌∙◌, inl, inr, arith}
use Rattle.std.specs.Global.{Vec}
use Rattle.std.specs.List.{range_with_len}
use Rattle.std.specs.List.Sorted.{IsStrictlyIncreasing}
use Rattle.std.proofs.Math.Path.{transport}
use Rattle.std.proofs.lemmas.Bool.{false≢true, cases_Bool, cases_eq, and_parts, and_from, lt-ltb, ltb-true, eq-eqb, eqb-true, cond-true, cond-false, not-true, not_from_false}
use Rattle.std.proofs.lemmas.List.{get_or-replicate, get_or-set_same, get_or-set_other, length-replicate, length-set, reverse-append, reverse-reverse}
use Rattle.std.proofs.lemmas.List.Folds.{list_any_at}
use Rattle.std.proofs.lemmas.List.Kept.{IsStrictlyIncreasing-filter}
use Rattle.trace_types.specs.clock.EventTree.{EventTree}
use Rattle.trace_types.proofs.Chosen.{Contains-filter, filter-Contains, numbers_increase}
use Rattle.trace_types.proofs.Reachability.{Contains_from_list_any}
use Rattle.event_tree.specs.Comparison.{IsBelow}
use Rattle.trace_query.specs.Compared.{is_below}
use Rattle.trace_query.specs.Queries.{has_tree, events_of, tree_at, task_at, ComeBefore, is_outdated_by_trees, cut_by_trees, StandInOrder, ListsExactly}
use Rattle.trace_query.specs.Laws.{IsLastBelow}
use Rattle.trace_query.specs.declared.queries.QueryFault.{QueryFault}
use Rattle.trace_query.specs.declared.queries.QueryFault.TheVariants.{Unknown, Memory}
use Rattle.trace_query.proofs.ComparedTrees.{is_below_iff}
use Rattle.trace_query.proofs.Listed.{event_bounds, event_from_bounds, Contains-events}
use Rattle.trace_query.proofs.Gathered.{ArePlaced, refuted, refuted_by, tree_in_place}

-- An event behind the place is of the task, and its tree is below that of the event.
pub record IsFoundBehind (trees : List EventTree) (tasks : List ℕ) (event place task : ℕ) : Type 0 where
  pub later : ℕ
  pub there : IsTrue (has_tree trees later)
  pub behind : place < later
  pub same : task ≡ task_at tasks later
  pub below : IsBelow (tree_at trees later) (tree_at trees event)

module _ (trees : List EventTree) (tasks : List ℕ) (event other : ℕ) where
  abbrev outdates : ℕ → Bool
  outdates later = ltb other later && (eqb (task_at tasks other) (task_at tasks later) && is_below (tree_at trees later) (tree_at trees event))

  -- the test is what it says
  pub outdated_iff : IsTrue (is_outdated_by_trees trees tasks event other) ↔ IsFoundBehind trees tasks event other (task_at tasks other)
  outdated_iff = (
    λ is.
        let found = Contains_from_list_any outdates (events_of trees) is in
        let parts = and_parts (ltb other found.0) _ found.2 in
        let rest = and_parts (eqb (task_at tasks other) (task_at tasks found.0)) _ parts.1 in
        record {
          later = found.0;
          there = (Contains-events trees found.0).0 found.1;
          behind = ltb-true other found.0 parts.0;
          same = eqb-true (task_at tasks other) (task_at tasks found.0) rest.0;
          below = (is_below_iff (tree_at trees found.0) (tree_at trees event)).0 rest.1;
        },
    λ by.
        let one = (Contains-events trees by.later).1 by.there in
        list_any_at outdates (events_of trees) one.0 by.later one.1
        (ap outdates one.2
        ∙ and_from (ltb other by.later) _ (lt-ltb other by.later by.behind)
        (and_from (eqb (task_at tasks other) (task_at tasks by.later)) _ (eq-eqb (task_at tasks other) (task_at tasks by.later) by.same) ((is_below_iff (tree_at trees by.later) (tree_at trees event)).1 by.below))),
  )

module _ (trees : List EventTree) (tasks : List ℕ) (event : ℕ) where
  abbrev pub is_under : ℕ → Bool
  is_under other = is_below (tree_at trees other) (tree_at trees event)

  abbrev pub is_in_cut : ℕ → Bool
  is_in_cut other = is_under other && not (is_outdated_by_trees trees tasks event other)

  under_iff : (other : ℕ) → IsTrue (is_under other) ↔ IsBelow (tree_at trees other) (tree_at trees event)
  under_iff other = is_below_iff (tree_at trees other) (tree_at trees event)

  -- what is below the event and not outdated is in the cut
  in_cut : (other : ℕ) → IsBelow (tree_at trees other) (tree_at trees event) → ¬ IsFoundBehind trees tasks event other (task_at tasks other) → is_in_cut other ≡ true
  in_cut other below last =
      and_from (is_under other) _ ((under_iff other).1 below)
      (not_from_false (is_outdated_by_trees trees tasks event other) (refuted (is_outdated_by_trees trees tasks event other) (outdated_iff trees tasks event other).0 last))

  pub members : (other : ℕ) → Contains (cut_by_trees trees tasks event) other ↔ IsLastBelow trees tasks event other
  members other = (
    λ one.
        let kept = filter-Contains is_in_cut (events_of trees) other one in
        let parts = and_parts (is_under other) _ kept.1 in
        record {
          there = (Contains-events trees other).0 kept.0;
          below = (under_iff other).0 parts.0;
          last = λ later behind there same below.
              refuted_by (outdated_iff trees tasks event other) (not-true (is_outdated_by_trees trees tasks event other) parts.1)
              (record { later = later; there = there; behind = behind; same = same; below = below });
        },
    λ is.
        Contains-filter is_in_cut (events_of trees) other ((Contains-events trees other).1 is.there)
        (in_cut other is.below (λ by. is.last by.later by.behind by.there by.same by.below)),
  )

  pub increases : IsStrictlyIncreasing (cut_by_trees trees tasks event)
  increases = IsStrictlyIncreasing-filter is_in_cut (events_of trees) (numbers_increase (length trees))

  not_outdated : (other : ℕ) → IsTrue (has_tree trees other) → IsBelow (tree_at trees other) (tree_at trees event) → is_outdated_by_trees trees tasks event other ≡ false
      → Contains (cut_by_trees trees tasks event) other
  not_outdated other there below last =
      Contains-filter is_in_cut (events_of trees) other ((Contains-events trees other).1 there)
      (in_cut other below (refuted_by (outdated_iff trees tasks event other) last))

  -- the last event of a task that is below the event, looked for from one that is
  climbed : (steps other : ℕ) → length trees ≤ other + steps → IsTrue (has_tree trees other) → IsBelow (tree_at trees other) (tree_at trees event)
      → (one : ℕ) × Contains (cut_by_trees trees tasks event) one
  climbed zero other few there below = at (cases_Bool (is_outdated_by_trees trees tasks event other))
    where
      at : (is_outdated_by_trees trees tasks event other ≡ true) ⊎ (is_outdated_by_trees trees tasks event other ≡ false) → (one : ℕ) × Contains (cut_by_trees trees tasks event) one
      at (inl old) =
          let by = (outdated_iff trees tasks event other).0 old in
          absurd (omega (arith, by.behind, few, (event_bounds trees by.later by.there).1))
      at (inr last) = (other, not_outdated other there below last)
  climbed (suc steps) other few there below = at (cases_Bool (is_outdated_by_trees trees tasks event other)) (climbed steps)
    where
      at : (is_outdated_by_trees trees tasks event other ≡ true) ⊎ (is_outdated_by_trees trees tasks event other ≡ false)
          → ((later : ℕ) → length trees ≤ later + steps → IsTrue (has_tree trees later) → IsBelow (tree_at trees later) (tree_at trees event)
          → (one : ℕ) × Contains (cut_by_trees trees tasks event) one)
          → (one : ℕ) × Contains (cut_by_trees trees tasks event) one
      at (inl old) climb =
          let by = (outdated_iff trees tasks event other).0 old in
          climb by.later (omega (arith, by.behind, few)) by.there by.below
      at (inr last) climb = (other, not_outdated other there below last)

  -- an event has itself or a later one in its cut
  never_empty : IsTrue (has_tree trees event) → ¬ (cut_by_trees trees tasks event ≡ [])
  never_empty there none =
      let found = climbed (length trees) event (omega arith) there (λ point. omega arith) in
      let nothing : length (cut_by_trees trees tasks event) ≡ 0 = ap (λ list. length list) none in
      omega (arith, found.1.1, nothing)

  -- so memory may be wanting
  pub refused : IsTrue (has_tree trees event) → (result : Result (Vec ℕ) QueryFault) → IsErrAnd result (λ fault. fault ≡ Memory)
      → ListsExactly (λ trees event. cut_by_trees trees tasks event) trees event result
  refused there (Ok events) never = absurd never
  refused there (Err fault) is = record {
    known = tt;
    events = tt;
    fault = is ∙ sym (cond-true (has_tree trees event) Memory Unknown there);
    empty = λ none. absurd (never_empty there none);
  }

  -- the events of the cut that are behind the place
  abbrev pub cut_behind : ℕ → List ℕ
  cut_behind place = filter is_in_cut (range_with_len (place + 1) (length trees - place))

-- of tests that all fail nothing is kept
none_kept : (test : ℕ → Bool) (first many : ℕ) → ((k : ℕ) → first ≤ k → k < first + many → test k ≡ false) → filter test (range_with_len first many) ≡ []
none_kept test first zero fails = refl
none_kept test first (suc many) fails =
    cond-false (test first) (first ∷ filter test (range_with_len (first + 1) many)) (filter test (range_with_len (first + 1) many)) (fails first (omega arith) (omega arith))
    ∙ none_kept test (first + 1) many (λ k low high. fails k (omega (arith, low)) (omega (arith, high)))

task_in_place : (tasks : List ℕ) (place : ℕ) → get_or tasks place 0 ≡ task_at tasks (place + 1)
task_in_place tasks place = let back : place ≡ (place + 1) - 1 = omega arith in ap (λ (k : ℕ). get_or tasks k 0) back

-- the number of a task fits the marks
task_before : (tasks : List ℕ) (place : ℕ) → ComeBefore tasks → place < length tasks → get_or tasks place 0 < place + 1
task_before tasks place earlier within = omega (arith, task_in_place tasks place, earlier (place + 1) (omega arith) (omega (arith, within)))

-- The place before this one is there, and the number of its task is below the bound.
pub record IsInside (trees : List EventTree) (tasks : List ℕ) (behind bound : ℕ) : Type 0 where
  pub behind_is : behind ≡ (behind - 1) + 1
  pub listed : behind - 1 < length trees
  pub room : get_or tasks (behind - 1) 0 < bound

pub inside : (trees : List EventTree) (tasks : List ℕ) (behind bound : ℕ) → ComeBefore tasks → length tasks ≡ length trees → 0 < behind → behind ≤ bound → behind ≤ length trees
    → IsInside trees tasks behind bound
inside trees tasks behind bound earlier long positive low high =
    let before = task_before tasks (behind - 1) earlier (omega (arith, positive, high, long)) in
    record { behind_is = omega (arith, positive); listed = omega (arith, positive, high); room = omega (arith, before, positive, low) }

-- The events behind the place that are in the cut, from the last to the first, and for each task whether one is among them.
pub record IsGathered (trees : List EventTree) (tasks : List ℕ) (event place : ℕ) (is_listed : List Bool) (events : List ℕ) : Type 0 where
  pub marks : (task : ℕ) (d : Bool) → task < length is_listed → IsTrue (get_or is_listed task d) ↔ IsFoundBehind trees tasks event place task
  pub listed : events ≡ reverse (cut_behind trees tasks event place)

-- where nothing behind the place is below the event, nothing is gathered
pub gathered_nothing : (trees : List EventTree) (tasks : List ℕ) (event place many : ℕ)
    → ((later : ℕ) → place < later → IsTrue (has_tree trees later) → ¬ IsBelow (tree_at trees later) (tree_at trees event))
    → IsGathered trees tasks event place (replicate many false) []
gathered_nothing trees tasks event place many above = record {
  marks = λ task d within. (
    λ is.
        let short : task < many = omega (arith, within, length-replicate many false) in
        absurd (false≢true (sym (get_or-replicate many task false d short) ∙ is)),
    λ by. absurd (above by.later by.behind by.there by.below),
  );
  listed = sym (ap reverse (none_kept (is_in_cut trees tasks event) (place + 1) (length trees - place)
      (λ k low high.
      refuted (is_in_cut trees tasks event k)
      (λ is. (is_below_iff (tree_at trees k) (tree_at trees event)).0 (and_parts (is_under trees tasks event k) _ is).0)
      (above k (omega (arith, low)) (event_from_bounds trees k (omega (arith, low)) (omega (arith, low, high)))))));
}

-- one event more
module _ {trees : List EventTree} {tasks : List ℕ} {event place behind : ℕ} {is_listed : List Bool} {events : List ℕ} (within : place < length trees)
    (behind_is : behind ≡ place + 1) (gathered : IsGathered trees tasks event behind is_listed events) where
  abbrev number : ℕ
  number = place + 1

  abbrev task : ℕ
  task = get_or tasks place 0

  task_is : task ≡ task_at tasks number
  task_is = task_in_place tasks place

  so_far : IsGathered trees tasks event number is_listed events
  so_far = subst (λ (k : ℕ). IsGathered trees tasks event k is_listed events) behind_is gathered

  number_there : IsTrue (has_tree trees number)
  number_there = event_from_bounds trees number (omega arith) (omega (arith, within))

  -- what is behind it is behind the place
  found_more : (one : ℕ) → IsFoundBehind trees tasks event number one → IsFoundBehind trees tasks event place one
  found_more one by = record { later = by.later; there = by.there; behind = omega (arith, by.behind); same = by.same; below = by.below }

  found_here : IsBelow (tree_at trees number) (tree_at trees event) → IsFoundBehind trees tasks event place task
  found_here below = record { later = number; there = number_there; behind = omega arith; same = task_is; below = below }

  -- and nothing else but itself
  found_split : (one : ℕ) → IsFoundBehind trees tasks event place one → IsFoundBehind trees tasks event number one ⊎ ((one ≡ task) × IsBelow (tree_at trees number) (tree_at trees event))
  found_split one by = elim (cases_eq by.later number) [
    | inl is ↦ inr (by.same ∙ ap (task_at tasks) is ∙ sym task_is, subst (λ (k : ℕ). IsBelow (tree_at trees k) (tree_at trees event)) is by.below)
    | inr differ ↦ inl (record { later = by.later; there = by.there; behind = omega (arith, by.behind, differ); same = by.same; below = by.below })
  ]

  behind_more : cut_behind trees tasks event place ≡ filter (is_in_cut trees tasks event) (number ∷ range_with_len (number + 1) (length trees - number))
  behind_more =
      let left : length trees - place ≡ suc (length trees - number) = omega (arith, within) in
      ap (λ many. filter (is_in_cut trees tasks event) (range_with_len number many)) left

  -- it is passed over where an event of its task is listed, or where it is not below the event
  passed_over : (IsBelow (tree_at trees number) (tree_at trees event) → IsFoundBehind trees tasks event number task) → IsGathered trees tasks event place is_listed events
  passed_over found = record {
    marks = λ one d short. (
      λ is. found_more one ((so_far.marks one d short).0 is),
      λ by. elim (found_split one by) [
        | inl more ↦ (so_far.marks one d short).1 more
        | inr here ↦ (so_far.marks one d short).1 (subst (λ (k : ℕ). IsFoundBehind trees tasks event number k) (sym here.0) (found here.1))
      ],
    );
    listed =
        so_far.listed
        ∙ ap reverse
        (sym
        (behind_more
        ∙ cond-false (is_in_cut trees tasks event number) (number ∷ cut_behind trees tasks event number) (cut_behind trees tasks event number)
        (refuted (is_in_cut trees tasks event number) id not_last)));
  }
    where
      id : IsTrue (is_in_cut trees tasks event number) → IsTrue (is_in_cut trees tasks event number)
      id is = is

      not_last : ¬ IsTrue (is_in_cut trees tasks event number)
      not_last is =
          let parts = and_parts (is_under trees tasks event number) _ is in
          let below = (is_below_iff (tree_at trees number) (tree_at trees event)).0 parts.0 in
          refuted_by (outdated_iff trees tasks event number) (not-true (is_outdated_by_trees trees tasks event number) parts.1)
          (subst (λ (k : ℕ). IsFoundBehind trees tasks event number k) task_is (found below))

  pub passed_marked : (d : Bool) → get_or is_listed task d ≡ true → task < length is_listed → IsGathered trees tasks event place is_listed events
  passed_marked d is room = passed_over (λ _. (so_far.marks task d room).0 is)

  pub passed_apart : (¬ IsBelow (tree_at trees number) (tree_at trees event)) → IsGathered trees tasks event place is_listed events
  passed_apart apart = passed_over (λ below. absurd (apart below))

  -- it is listed, and its task is marked
  pub listed_one : (d : Bool) → get_or is_listed task d ≡ false → task < length is_listed → IsBelow (tree_at trees number) (tree_at trees event)
      → (next : List ℕ) → next ≡ events ++ number ∷ [] → IsGathered trees tasks event place (set is_listed task true) next
  listed_one d unlisted room below next is_next = record {
    marks = λ one e short. marked one e short (cases_eq one task);
    listed =
        is_next ∙ ap (λ list. list ++ number ∷ []) so_far.listed
        ∙ sym (reverse-append (number ∷ []) (cut_behind trees tasks event number))
        ∙ ap reverse
        (sym
        (behind_more
        ∙ cond-true (is_in_cut trees tasks event number) (number ∷ cut_behind trees tasks event number) (cut_behind trees tasks event number)
        (in_cut trees tasks event number below (subst (λ (k : ℕ). ¬ IsFoundBehind trees tasks event number k) task_is none_yet))));
  }
    where
      none_yet : ¬ IsFoundBehind trees tasks event number task
      none_yet = refuted_by (so_far.marks task d room) unlisted

      marked : (one : ℕ) (e : Bool) → one < length (set is_listed task true) → (one ≡ task) ⊎ (one ≢ task)
          → IsTrue (get_or (set is_listed task true) one e) ↔ IsFoundBehind trees tasks event place one
      marked one e short (inl is) = (
        λ _. subst (λ (k : ℕ). IsFoundBehind trees tasks event place k) (sym is) (found_here below),
        λ _. ap (λ (k : ℕ). get_or (set is_listed task true) k e) is ∙ get_or-set_same is_listed task true e room,
      )
      marked one e short (inr differ) =
          let same : get_or (set is_listed task true) one e ≡ get_or is_listed one e = get_or-set_other is_listed task one true e differ in
          let old = so_far.marks one e (omega (arith, short, length-set is_listed task true)) in (
            λ is. found_more one (old.0 (sym same ∙ is)),
            λ by. same ∙ elim (found_split one by) [ inl more ↦ old.1 more | inr here ↦ absurd (differ here.0) ],
          )

-- where the trees stand in order, the event itself is the last that is listed
pub gathered_itself : (trees : List EventTree) (tasks : List ℕ) (event : ℕ) → StandInOrder trees → IsTrue (has_tree trees event) → ComeBefore tasks → length tasks ≡ length trees
    → (is_listed : List Bool) → is_listed ≡ replicate event false → (before next : List ℕ) → before ≡ [] → next ≡ before ++ event ∷ []
    → IsGathered trees tasks event (event - 1) (set is_listed (get_or tasks (event - 1) 0) true) next
gathered_itself trees tasks event in_order there earlier long is_listed unmarked before next none is_next =
    let bounds = event_bounds trees event there in
    let within : event - 1 < length trees = omega (arith, bounds.0, bounds.1) in
    let behind : event ≡ (event - 1) + 1 = omega (arith, bounds.0) in
    let nothing : IsGathered trees tasks event event is_listed before =
    subst (λ (marks : List Bool). IsGathered trees tasks event event marks before) (sym unmarked)
    (subst (λ (list : List ℕ). IsGathered trees tasks event event (replicate event false) list) (sym none)
    (gathered_nothing trees tasks event event event (λ later above later_there below. in_order event later there later_there above below))) in
    let room : get_or tasks (event - 1) 0 < event = omega (arith, task_before tasks (event - 1) earlier (omega (arith, within, long)), behind) in
    let wide : length is_listed ≡ event = ap (λ (marks : List Bool). length marks) unmarked ∙ length-replicate event false in
    let unlisted : get_or is_listed (get_or tasks (event - 1) 0) false ≡ false =
    ap (λ (marks : List Bool). get_or marks (get_or tasks (event - 1) 0) false) unmarked ∙ get_or-replicate event (get_or tasks (event - 1) 0) false false room in
    listed_one within behind nothing false unlisted (omega (arith, room, wide))
    (subst (λ (k : ℕ). IsBelow (tree_at trees k) (tree_at trees event)) behind (λ point. omega arith))
    next (is_next ∙ ap (λ (k : ℕ). before ++ k ∷ []) behind)

-- past the last place nothing is gathered yet
pub gathered_none : (trees : List EventTree) (tasks : List ℕ) (event place many : ℕ) → place ≡ length trees → (is_listed : List Bool) → is_listed ≡ replicate many false
    → (events : List ℕ) → events ≡ [] → IsGathered trees tasks event place is_listed events
gathered_none trees tasks event place many last is_listed unmarked events none =
    subst (λ (marks : List Bool). IsGathered trees tasks event place marks events) (sym unmarked)
    (subst (λ (list : List ℕ). IsGathered trees tasks event place (replicate many false) list) (sym none)
    (gathered_nothing trees tasks event place many (λ later above there below. omega (arith, above, last, (event_bounds trees later there).1))))

-- the comparison of what is kept is that of the trees
pub under_place : {K : Type 0} {tree : K → EventTree} {kept : List K} {event place : ℕ} {other one : K} → ArePlaced tree kept event place other one
    → IsBelow (tree other) (tree one) ↔ IsBelow (tree_at (map tree kept) (place + 1)) (tree_at (map tree kept) event)
under_place placed = (
  transport (λ i. IsBelow (tree_in_place placed i) (placed.one_is i)),
  transport (λ i. IsBelow (sym (tree_in_place placed) i) (sym placed.one_is i)),
)

-- all events are gone through
pub gathered_all : (trees : List EventTree) (tasks : List ℕ) (event place : ℕ) (is_listed : List Bool) (events : List ℕ) (all : Vec ℕ) → IsTrue (has_tree trees event)
    → place ≡ 0 → IsGathered trees tasks event place is_listed events → all.items ≡ reverse events
    → ListsExactly (λ trees event. cut_by_trees trees tasks event) trees event (Ok all)
gathered_all trees tasks event place is_listed events all there last gathered turned = record {
  known = there;
  events =
      let done : events ≡ reverse (cut_behind trees tasks event 0) = gathered.listed ∙ ap (λ (k : ℕ). reverse (cut_behind trees tasks event k)) last in
      let whole : length trees - 0 ≡ length trees = omega arith in
      turned ∙ ap reverse done ∙ reverse-reverse (cut_behind trees tasks event 0) ∙ ap (λ many. filter (is_in_cut trees tasks event) (range_with_len 1 many)) whole;
  fault = tt;
  empty = λ none. tt;
}
