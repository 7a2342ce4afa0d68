-- What a table of names has once a value is put under a name.
use Rattle.std.proofs.Common.{◌≡◌, ◌+◌, true, false, cond, List, [], ◌∷◌, length, Option, Some, None, is_some, refl, sym, ap, ◌∙◌, subst, inl, inr, arith}
use Rattle.std.specs.Map.{lookup}
use Rattle.indexmap.specs.IndexMap.{insert_entry}
use Rattle.tenant_ledger.specs.Adding.{entries_with}
use Rattle.tenant_ledger.proofs.Words.{cases_Bool, cond-false, is_same_iff, Text, is_same, Event, Contents, value_with, value_with_some, count_with, count_with_some, with_event, tasks_with, task_count_with, task_in}
use Rattle.tenant_ledger.proofs.keeping.Known.{differ_back}

same_back : (one other : Text) → is_same one other ≡ true → is_same other one ≡ true
same_back one other same = (is_same_iff other one).1 (sym ((is_same_iff one other).0 same))

module _ {V : Type 0} where
  -- what a table has under a name
  abbrev found : List (Text × V) → Text → Option V
  found entries name = lookup (is_same name) entries

  at_head : (first : Text × V) (entries : List (Text × V)) (other : Text) → found (first ∷ entries) other ≡ cond (is_same other first.0) (Some first.1) (found entries other)
  at_head first entries other = refl

  pub found_inserted : (entries : List (Text × V)) (name : Text) (value : V) (other : Text)
      → lookup (is_same other) (insert_entry is_same entries name value) ≡ value_with name value (found entries) other
  found_inserted [] name value other = elim (cases_Bool (is_same name other)) [
    | inl same ↦ rw (same, same_back name other same) refl
    | inr differ ↦ rw (differ, differ_back name other differ) refl
  ]
  found_inserted (first ∷ entries) name value other = elim (cases_Bool (is_same name first.0)) [
    | inl here ↦ elim (cases_Bool (is_same name other)) [
      | inl same ↦ (
          let there : is_same other first.0 ≡ true = (is_same_iff other first.0).1 (sym ((is_same_iff name other).0 same) ∙ (is_same_iff name first.0).0 here) in
          rw (here, same, there) refl
          )
      | inr differ ↦ (
          let apart : is_same other first.0 ≡ false =
          subst (λ n. is_same other n ≡ false) ((is_same_iff name first.0).0 here) (differ_back name other differ) in
          rw (here, differ, apart) refl
          )
    ]
    | inr away ↦ (
        let rest = found_inserted entries name value other in
        elim (cases_Bool (is_same name other)) [
          | inl same ↦ (
              let apart : is_same other first.0 ≡ false = subst (λ n. is_same n first.0 ≡ false) ((is_same_iff name other).0 same) away in
              rw (away, apart) rest
              )
          | inr differ ↦ rw away (ap (cond (is_same other first.0) (Some first.1)) (rest ∙ cond-false (is_same name other) _ _ differ) ∙ sym (cond-false (is_same name other) _ _ differ))
        ]
        )
  ]

  pub length-inserted : (entries : List (Text × V)) (name : Text) (value : V) → length (insert_entry is_same entries name value) ≡ count_with name (found entries) (length entries)
  length-inserted [] name value = refl
  length-inserted (first ∷ entries) name value = elim (cases_Bool (is_same name first.0)) [
    | inl here ↦ rw here (omega arith)
    | inr away ↦ rw away (omega (arith, length-inserted entries name value))
  ]

  pub found_with : (value : Option V) (name : Option Text) (entries : List (Text × V)) (other : Text)
      → lookup (is_same other) (entries_with value name entries) ≡ value_with_some value name (found entries) other
  found_with None name entries other = refl
  found_with (Some value) None entries other = refl
  found_with (Some value) (Some name) entries other = found_inserted entries name value other

  pub length-with : (value : Option V) (name : Option Text) (entries : List (Text × V)) → length (entries_with value name entries) ≡ count_with_some value name (found entries) (length entries)
  length-with None name entries = refl
  length-with (Some value) None entries = refl
  length-with (Some value) (Some name) entries = length-inserted entries name value

-- the tasks that a book has with an event
module _ (event : Event) (book : Contents) where
  pub tasks_found : (name : Text) → task_in (with_event event book) name ≡ tasks_with event book name
  tasks_found name =
      found_inserted (entries_with event.named event.row.name book.tasks) event.row.task event.acting name
      ∙ ap (cond (is_same event.row.task name) (Some event.acting)) (found_with event.named event.row.name book.tasks name)

  pub tasks_counted : length (with_event event book).tasks ≡ task_count_with event book
  tasks_counted =
      length-inserted (entries_with event.named event.row.name book.tasks) event.row.task event.acting
      ∙ (λ i. length-with event.named event.row.name book.tasks i + cond (is_some (found_with event.named event.row.name book.tasks event.row.task i)) 0 1)

-- A book to which this event was added has it, however much room there is then. The event and the book before are told by equal ones.
pub committed : (new : Contents) {event event_now : Event} {book book_now : Contents} → event ≡ event_now → book ≡ book_now
    → new.home ≡ (with_event event book).home → new.limits ≡ (with_event event book).limits → new.rows ≡ (with_event event book).rows
    → new.trees ≡ (with_event event book).trees → new.homes ≡ (with_event event book).homes → new.points ≡ (with_event event book).points
    → new.starts ≡ (with_event event book).starts → new.places ≡ (with_event event book).places → new.ids ≡ (with_event event book).ids
    → new.kept_ids ≡ (with_event event book).kept_ids
    → new.tasks ≡ (with_event event book).tasks → new.messages ≡ (with_event event book).messages
    → new ≡ record (with_event event_now book_now) { room = new.room }
committed new {event} {event_now} {book} {book_now} event_is book_is home limits rows trees homes points starts places ids kept_ids tasks messages =
    (λ i. record {
      home = home i;
      limits = limits i;
      rows = rows i;
      trees = trees i;
      homes = homes i;
      points = points i;
      starts = starts i;
      places = places i;
      ids = ids i;
      kept_ids = kept_ids i;
      tasks = tasks i;
      messages = messages i;
      room = new.room;
    })
    ∙ (λ i. record (with_event (event_is i) (book_is i)) { room = new.room })
