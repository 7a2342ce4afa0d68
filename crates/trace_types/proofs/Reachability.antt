-- The computed reachability is the relation, and what an event follows comes before it.
use Rattle.std.proofs.Common.{◌≡◌, ◌≢◌, ◌↔◌, ◌⊎◌, ℕ, suc, ◌<◌, ◌≤◌, Bool, true, ◌||◌, IsTrue, eqb, ltb, List, [], ◌∷◌, length, Option, Some, None, Contains, refl, sym, ap, subst, ◌∙◌, inl, inr, arith}
use Rattle.std.specs.List.{list_any, AllByRecursion}
use Rattle.std.proofs.lemmas.Bool.{false≢true, eq-eqb, ne_eqb, eqb-true, eqb-false, cases_eq, cond-true, cond-false, cond_both, or_cases, or_left, or_right}
use Rattle.std.proofs.lemmas.List.Elements.{All-from_recursion, All-contains}
use Rattle.std.proofs.lemmas.List.Folds.{list_any_at}
use Rattle.trace_types.specs.text.Name.{Text}
use Rattle.trace_types.specs.tenant.Rows.{History, newest, is_of, starts, sends, last_event}
use Rattle.trace_types.specs.tenant.Reachability.{event_or_none, increasing, second_event, predecessors, predecessors_of, LeadsBack, Reaches, reaches}
use Rattle.trace_types.specs.declared.row.Row.{Row}
use Rattle.trace_types.specs.declared.row.Kind.{Kind}
use Rattle.trace_types.specs.declared.row.Kind.TheVariants.{Local, Spawn, Send, Recv, End, Join}

pub newest-le : (test : Row → Bool) (history : History) → newest test history ≤ length history
newest-le test [] = omega arith
newest-le test (row ∷ earlier) =
    let within : newest test earlier ≤ length earlier = newest-le test earlier in
    cond_both (test row) (suc (length earlier)) (newest test earlier) (λ event. event ≤ suc (length earlier)) (λ _. omega arith) (λ _. omega arith)

pub last_event-le : (history : History) (task : Text) → last_event history task ≤ length history
last_event-le history task =
    cond_both (eqb (newest (is_of task) history) 0) (newest (starts task) history) (newest (is_of task) history) (λ event. event ≤ length history)
    (λ _. newest-le (starts task) history) (λ _. newest-le (is_of task) history)

pub second_event-le : (history : History) (kind : Kind) (name : Option Text) → second_event history kind name ≤ length history
second_event-le history Local name = omega arith
second_event-le history Spawn name = omega arith
second_event-le history Send name = omega arith
second_event-le history Recv None = omega arith
second_event-le history Recv (Some name) = newest-le (sends name) history
second_event-le history End name = omega arith
second_event-le history Join None = omega arith
second_event-le history Join (Some name) = last_event-le history name

-- an event that there is among n
abbrev IsAmong : ℕ → ℕ → Type 0
IsAmong n event = (1 ≤ event) × (event ≤ n)

event_or_none_among : (n event : ℕ) → event ≤ n → AllByRecursion (IsAmong n) (event_or_none event)
event_or_none_among n event within =
    cond_both (eqb event 0) [] (event ∷ []) (AllByRecursion (IsAmong n)) (λ _. tt)
    (λ some. let positive : event ≢ 0 = eqb-false event 0 some in ((omega arith, within), tt))

increasing_among : (n a b : ℕ) → a ≤ n → b ≤ n → AllByRecursion (IsAmong n) (increasing a b)
increasing_among n a b first second =
    cond_both (eqb a 0) _ _ (AllByRecursion (IsAmong n)) (λ _. event_or_none_among n b second)
    λ some. cond_both (eqb b 0) _ _ (AllByRecursion (IsAmong n)) (λ _. event_or_none_among n a first)
    λ other.
    let is_a : IsAmong n a = (let positive : a ≢ 0 = eqb-false a 0 some in omega arith, first) in
    let is_b : IsAmong n b = (let positive : b ≢ 0 = eqb-false b 0 other in omega arith, second) in
    cond_both (eqb a b) _ _ (AllByRecursion (IsAmong n)) (λ _. (is_a, tt))
    λ _. cond_both (ltb a b) _ _ (AllByRecursion (IsAmong n)) (λ _. (is_a, (is_b, tt))) (λ _. (is_b, (is_a, tt)))

-- What a report follows are events before it, and never 0.
pub predecessors_among : (earlier : History) (task : Text) (kind : Kind) (name : Option Text) (event : ℕ) → Contains (predecessors earlier task kind name) event → (1 ≤ event) × (event ≤ length earlier)
predecessors_among earlier task kind name event one =
    All-contains (IsAmong (length earlier)) (predecessors earlier task kind name) event
    (All-from_recursion (IsAmong (length earlier)) (predecessors earlier task kind name)
    (increasing_among (length earlier) (last_event earlier task) (second_event earlier kind name) (last_event-le earlier task) (second_event-le earlier kind name)))
    one

predecessors_of_newest : (row : Row) (earlier : History) (event : ℕ) → event ≡ suc (length earlier) → predecessors_of (row ∷ earlier) event ≡ predecessors earlier row.task row.kind row.name
predecessors_of_newest row earlier event is = cond-true (eqb event (suc (length earlier))) _ _ (eq-eqb event (suc (length earlier)) is)

predecessors_of_earlier : (row : Row) (earlier : History) (event : ℕ) → event ≢ suc (length earlier) → predecessors_of (row ∷ earlier) event ≡ predecessors_of earlier event
predecessors_of_earlier row earlier event differ = cond-false (eqb event (suc (length earlier))) _ _ (ne_eqb event (suc (length earlier)) differ)

-- What an event follows comes before it, and both are events.
pub predecessors_of_before : (history : History) (event earlier : ℕ) → Contains (predecessors_of history event) earlier → (1 ≤ earlier) × (earlier < event) × (event ≤ length history)
predecessors_of_before [] event earlier one = absurd (omega (arith, one.1))
predecessors_of_before (row ∷ history) event earlier one = at (cases_eq event (suc (length history))) (predecessors_of_before history event earlier)
  where
    at : (event ≡ suc (length history)) ⊎ (event ≢ suc (length history))
        → (Contains (predecessors_of history event) earlier → (1 ≤ earlier) × (earlier < event) × (event ≤ length history))
        → (1 ≤ earlier) × (earlier < event) × (event ≤ suc (length history))
    at (inl last) known =
        let among : (1 ≤ earlier) × (earlier ≤ length history) =
        predecessors_among history row.task row.kind row.name earlier (subst (λ events. Contains events earlier) (predecessors_of_newest row history event last) one) in
        omega arith
    at (inr older) known =
        let before : (1 ≤ earlier) × (earlier < event) × (event ≤ length history) =
        known (subst (λ events. Contains events earlier) (predecessors_of_earlier row history event older) one) in
        omega arith

-- one row more takes no path away
LeadsBack-more : (row : Row) (history : History) (b : ℕ) (path : List ℕ) (a : ℕ) → LeadsBack history b path a → LeadsBack (row ∷ history) b path a
LeadsBack-more row history b [] a leads = leads
LeadsBack-more row history b (event ∷ path) a leads =
    let known : (1 ≤ event) × (event < b) × (b ≤ length history) = predecessors_of_before history b event leads.0 in (
      subst (λ events. Contains events event) (sym (predecessors_of_earlier row history b (omega arith))) leads.0,
      LeadsBack-more row history event path a leads.1,
    )

-- and no path from an earlier event goes by the newest one
LeadsBack-fewer : (row : Row) (history : History) (b : ℕ) (path : List ℕ) (a : ℕ) → b ≢ suc (length history) → LeadsBack (row ∷ history) b path a → LeadsBack history b path a
LeadsBack-fewer row history b [] a older leads = leads
LeadsBack-fewer row history b (event ∷ path) a older leads =
    let one : Contains (predecessors_of history b) event = subst (λ events. Contains events event) (predecessors_of_earlier row history b older) leads.0 in
    let known : (1 ≤ event) × (event < b) × (b ≤ length history) = predecessors_of_before history b event one in
    (one, LeadsBack-fewer row history event path a (omega arith) leads.1)

pub Contains_from_list_any : {X : Type 0} (test : X → Bool) (xs : List X) → list_any test xs ≡ true → (x : X) × Contains xs x × (test x ≡ true)
Contains_from_list_any test [] any = absurd (false≢true any)
Contains_from_list_any {X} test (first ∷ xs) any = at (or_cases (test first) (list_any test xs) any) (Contains_from_list_any test xs)
  where
    at : (test first ≡ true) ⊎ (list_any test xs ≡ true) → (list_any test xs ≡ true → (x : X) × Contains xs x × (test x ≡ true)) → (x : X) × Contains (first ∷ xs) x × (test x ≡ true)
    at (inl passes) later = (first, (0, omega arith, refl), passes)
    at (inr passes) later = let found = later passes in (found.0, (suc found.1.0, omega (arith, found.1.1), found.1.2), found.2)

-- what reaches the newest event is itself or reaches one of its predecessors
pub reaches_newest : (row : Row) (history : History) (a b : ℕ) → b ≡ suc (length history) → reaches (row ∷ history) a b ≡ (eqb b a || list_any (λ event. reaches history a event) (predecessors history row.task row.kind row.name))
reaches_newest row history a b is = cond-true (eqb b (suc (length history))) _ _ (eq-eqb b (suc (length history)) is)

-- what reaches any other event did so before the newest came
pub reaches_earlier : (row : Row) (history : History) (a b : ℕ) → b ≢ suc (length history) → reaches (row ∷ history) a b ≡ reaches history a b
reaches_earlier row history a b differ = cond-false (eqb b (suc (length history))) _ _ (ne_eqb b (suc (length history)) differ)

Reaches_from_test : (history : History) (a b : ℕ) → IsTrue (reaches history a b) → Reaches history a b
Reaches_from_test [] a b passes = ([], eqb-true b a passes)
Reaches_from_test (row ∷ history) a b passes = at (cases_eq b (suc (length history))) (Reaches_from_test history a)
  where
    from_newest : b ≡ suc (length history) → ((event : ℕ) → IsTrue (reaches history a event) → Reaches history a event)
        → (eqb b a ≡ true) ⊎ (list_any (λ event. reaches history a event) (predecessors history row.task row.kind row.name) ≡ true) → Reaches (row ∷ history) a b
    from_newest last known (inl same) = ([], eqb-true b a same)
    from_newest last known (inr any) =
        let found = Contains_from_list_any (λ event. reaches history a event) (predecessors history row.task row.kind row.name) any in
        let way : Reaches history a found.0 = known found.0 found.2 in (
          found.0 ∷ way.0,
          (
            subst (λ events. Contains events found.0) (sym (predecessors_of_newest row history b last)) found.1,
            LeadsBack-more row history found.0 way.0 a way.1,
          ),
        )

    at : (b ≡ suc (length history)) ⊎ (b ≢ suc (length history)) → ((event : ℕ) → IsTrue (reaches history a event) → Reaches history a event) → Reaches (row ∷ history) a b
    at (inl last) known = from_newest last known (or_cases (eqb b a) _ (sym (reaches_newest row history a b last) ∙ passes))
    at (inr older) known =
        let way : Reaches history a b = known b (sym (reaches_earlier row history a b older) ∙ passes) in
        (way.0, LeadsBack-more row history b way.0 a way.1)

test_from_LeadsBack : (history : History) (a b : ℕ) (path : List ℕ) → LeadsBack history b path a → IsTrue (reaches history a b)
test_from_LeadsBack [] a b [] leads = eq-eqb b a leads
test_from_LeadsBack [] a b (event ∷ path) leads = absurd (omega (arith, leads.0.1))
test_from_LeadsBack (row ∷ history) a b [] leads = at (cases_eq b (suc (length history))) (test_from_LeadsBack history a b [] leads)
  where
    at : (b ≡ suc (length history)) ⊎ (b ≢ suc (length history)) → IsTrue (reaches history a b) → IsTrue (reaches (row ∷ history) a b)
    at (inl last) known = reaches_newest row history a b last ∙ or_left (eqb b a) _ (eq-eqb b a leads)
    at (inr older) known = reaches_earlier row history a b older ∙ known
test_from_LeadsBack (row ∷ history) a b (event ∷ path) leads = at (cases_eq b (suc (length history))) (test_from_LeadsBack history a)
  where
    at : (b ≡ suc (length history)) ⊎ (b ≢ suc (length history)) → ((c : ℕ) (p : List ℕ) → LeadsBack history c p a → IsTrue (reaches history a c)) → IsTrue (reaches (row ∷ history) a b)
    at (inl last) known =
        let one : Contains (predecessors history row.task row.kind row.name) event = subst (λ events. Contains events event) (predecessors_of_newest row history b last) leads.0 in
        let among : (1 ≤ event) × (event ≤ length history) = predecessors_among history row.task row.kind row.name event one in
        let reached : reaches history a event ≡ true = known event path (LeadsBack-fewer row history event path a (omega arith) leads.1) in
        reaches_newest row history a b last
        ∙ or_right (eqb b a) _ (list_any_at (λ c. reaches history a c) (predecessors history row.task row.kind row.name) one.0 event one.1 (ap (λ c. reaches history a c) one.2 ∙ reached))
    at (inr older) known = reaches_earlier row history a b older ∙ known b (event ∷ path) (LeadsBack-fewer row history b (event ∷ path) a older leads)

pub reaches_iff : (history : History) (a b : ℕ) → IsTrue (reaches history a b) ↔ Reaches history a b
reaches_iff history a b = (Reaches_from_test history a b, λ found. test_from_LeadsBack history a b found.0 found.1)
