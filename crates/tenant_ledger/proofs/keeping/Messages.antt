-- The book of messages that the rows tell of answers as it is due.
use Rattle.std.proofs.Common.{◌≡◌, ◌⊎◌, ℕ, suc, ◌+◌, ◌<◌, ◌||◌, ◌&&◌, Bool, true, false, cond, if◌then◌else◌, not, eqb, nat_le, nat_eq, List, [], ◌∷◌, ◌++◌, length, map, Option, Some, None, option_map, is_some, Result, Ok, Err, IfOk, OnOk, refl, sym, ap, ◌∙◌, subst, inl, inr, arith}
use Rattle.std.proofs.lemmas.List.Folds.{list_any-append}
use Rattle.std.specs.Option.{option_map_or}
use Rattle.std.specs.Result.{result_err}
use Rattle.message_book.specs.Book.{Book, Messages, Receipt, Sent, entry_of, entry_with_receipt, has_receipt_by, refusal_of_receive, refusal_of_send, with_changed, with_message, with_receipt}
use Rattle.trace_types.specs.declared.code.Code.{Code}
use Rattle.trace_types.specs.declared.code.Code.TheVariants.{NoMessage, MessageExists, AlreadyReceived, MessagesFull}
use Rattle.tenant_ledger.specs.Answers.{message_due}
use Rattle.tenant_ledger.specs.Adding.{messages_after}
use Rattle.tenant_ledger.specs.Contents.{messages_in}
use Rattle.tenant_ledger.specs.Messages.{messages_of, noted}
use Rattle.tenant_ledger.specs.Refusals.{refusals_of_received, refusals_of_sent}
use Rattle.tenant_ledger.specs.declared.book.report.Deed.TheVariants as deed
use Rattle.trace_types.specs.tenant.Refusal.{first_code}
use Rattle.trace_types.proofs.Reachability.{newest-le}
use Rattle.tenant_ledger.proofs.Words.{false≢true, cases_Bool, cond-false, eq-eqb, eqb-true, nat_tests, sum_by-append, length-append, map-append, is_same_iff, Text, is_same, History, sends_message, starts, receives, is_known, is_sent, has_received, start_event, send_event, receipts, message_count, Row, Kind, Send, Recv, Spawn, AllowsNamed, IsLegal, Contents, IsKept, history_in, kind_of, name_of, IsFound, Deed, Task, task_in}
use Rattle.tenant_ledger.proofs.clock.Tasks.{live_is_not_unknown, unwas_known}
use Rattle.tenant_ledger.proofs.keeping.Known.{differ_back, legal_history, task_kept}
use Rattle.tenant_ledger.proofs.keeping.Starts.{one_start, start_event-other, start_event-started, started_was_unknown}

-- one message more, if the row sends one
message_count-more : (row : Row) (earlier : History) → message_count (row ∷ earlier) ≡ message_count earlier + cond (sends_message row.kind) 1 0
message_count-more row earlier = let sums = sum_by-append (λ (r : Row). cond (sends_message r.kind) 1 0) (row ∷ []) earlier in omega (arith, sums)

-- a message that a row may receive was sent
received_was_sent : (earlier : History) (row : Row) (name : Text) (kind : Kind) (named : Option Text) → AllowsNamed earlier kind named
    → receives name (record row { kind = kind; name = named }) ≡ true → is_sent earlier name ≡ true
received_was_sent earlier row name Recv (Some message) allowed received = subst (λ m. is_sent earlier m ≡ true) ((is_same_iff message name).0 received) allowed
received_was_sent earlier row name Recv None allowed received = absurd allowed
received_was_sent earlier row name kind named allowed received = absurd (false≢true received)

-- so one that was not sent was received by no event
unsent_has_no_events : (history : History) (name : Text) → IsLegal history → is_sent history name ≡ false → receipts history name ≡ []
unsent_has_no_events [] name legal unsent = refl
unsent_has_no_events (row ∷ earlier) name legal unsent =
    let was_unsent : is_sent earlier name ≡ false = grind (arith, nat_tests, unsent) in
    elim (cases_Bool (receives name row)) [
      | inl is ↦ absurd (false≢true (sym was_unsent ∙ received_was_sent earlier row name row.kind row.name legal.0.1 is))
      | inr not_it ↦ cond-false (receives name row) _ _ not_it ∙ unsent_has_no_events earlier name legal.1 was_unsent
    ]

-- nor did a task that is not known receive a message
unknown_received_nothing : (history : History) (task message : Text) → IsLegal history → is_known history task ≡ false → has_received history task message ≡ false
unknown_received_nothing [] task message legal unknown = refl
unknown_received_nothing (row ∷ earlier) task message legal unknown =
    let was_unknown = unwas_known row earlier task unknown in
    let other = live_is_not_unknown earlier row.task task legal.0.0 was_unknown in
    (λ i. (receives message row && other i) || unknown_received_nothing earlier task message legal.1 was_unknown i) ∙ neither (receives message row)
  where
    neither : (one : Bool) → ((one && false) || false) ≡ false
    neither true = refl
    neither false = refl

-- ---- what is found once a message is added or changed

module _ {T : Type 0} where
  abbrev or_this : Option (Sent T) → Option (Sent T) → Option (Sent T)
  or_this (Some entry) other = Some entry
  or_this None other = other

  entry_of-added : (messages : Messages T) (name : Text) (event : ℕ) (other : Text)
      → entry_of (with_message name event messages) other ≡ or_this (entry_of messages other) (cond (is_same other name) (Some (record { sent = event; receipts = [] })) None)
  entry_of-added [] name event other = refl
  entry_of-added (first ∷ rest) name event other = by (is_same other first.0) (entry_of-added rest name event other)
    where
      by : (here : Bool) → entry_of (with_message name event rest) other ≡ or_this (entry_of rest other) (cond (is_same other name) (Some (record { sent = event; receipts = [] })) None)
          → cond here (Some first.1) (entry_of (with_message name event rest) other)
          ≡ or_this (cond here (Some first.1) (entry_of rest other)) (cond (is_same other name) (Some (record { sent = event; receipts = [] })) None)
      by true behind = refl
      by false behind = behind

  entry_of-changed : (change : Sent T → Sent T) (messages : Messages T) (name : Text) → entry_of (with_changed change name messages) name ≡ option_map change (entry_of messages name)
  entry_of-changed change [] name = refl
  entry_of-changed change (first ∷ rest) name = elim (cases_Bool (is_same name first.0)) [
    | inl here ↦ rw here (rw here refl)
    | inr away ↦ rw away (rw away (entry_of-changed change rest name))
  ]

  entry_of-other : (change : Sent T → Sent T) (messages : Messages T) (name other : Text) → is_same name other ≡ false → entry_of (with_changed change name messages) other ≡ entry_of messages other
  entry_of-other change [] name other differ = refl
  entry_of-other change (first ∷ rest) name other differ = elim (cases_Bool (is_same name first.0)) [
    | inl here ↦
        let apart : is_same other first.0 ≡ false = subst (λ n. is_same other n ≡ false) ((is_same_iff name first.0).0 here) (differ_back name other differ) in
        rw (here, apart) refl
    | inr away ↦ rw away (ap (cond (is_same other first.0) (Some first.1)) (entry_of-other change rest name other differ))
  ]

  length-changed : (change : Sent T → Sent T) (name : Text) (messages : Messages T) → length (with_changed change name messages) ≡ length messages
  length-changed change name [] = refl
  length-changed change name (first ∷ rest) = elim (cases_Bool (is_same name first.0)) [ inl here ↦ rw here refl | inr away ↦ rw away (ap suc (length-changed change name rest)) ]

-- ---- each message as the rows tell of it

-- the send of a message and its receipts
abbrev told : Option (Sent ℕ) → Option (ℕ × List ℕ)
told found = option_map (λ (entry : Sent ℕ). (entry.sent, map (λ (receipt : Receipt ℕ). receipt.event) entry.receipts)) found

abbrev due : Bool → ℕ → List ℕ → Option (ℕ × List ℕ)
due sent event events = if sent then Some (event, events) else None

-- and each of the two
abbrev sent_in : Option (ℕ × List ℕ) → ℕ
sent_in None = 0
sent_in (Some found) = found.0

abbrev events_in : Option (ℕ × List ℕ) → List ℕ
events_in None = []
events_in (Some found) = found.1

pub is_told : (history : History) → IsLegal history → (name : Text) → told (entry_of (messages_of history) name) ≡ message_due history name
is_told [] legal name = refl
is_told (row ∷ earlier) legal name = by row.kind row.name legal.0.1 (is_told earlier legal.1)
  where
    event : ℕ
    event = suc (length earlier)

    -- the row, whatever it does
    with_kind : Kind → Option Text → History
    with_kind kind named = record row { kind = kind; name = named } ∷ earlier

    absent : (found : Option (Sent ℕ)) → told found ≡ None → found ≡ None
    absent None none = refl
    absent (Some entry) none = cc

    sent_now : (sent : Text) → is_sent earlier sent ≡ false → ((other : Text) → told (entry_of (messages_of earlier) other) ≡ message_due earlier other)
        → (is_same sent name ≡ true) ⊎ (is_same sent name ≡ false)
        → told (entry_of (with_message sent event (messages_of earlier)) name) ≡ message_due (with_kind Send (Some sent)) name
    sent_now sent new before (inl same) =
        let is_it : sent ≡ name = (is_same_iff sent name).0 same in
        let unsent : is_sent earlier name ≡ false = subst (λ n. is_sent earlier n ≡ false) is_it new in
        let none = absent (entry_of (messages_of earlier) name) (before name ∙ ap (λ is. due is (send_event earlier name) (receipts earlier name)) unsent) in
        let back : is_same name sent ≡ true = (is_same_iff name sent).1 (sym is_it) in
        ap told (entry_of-added (messages_of earlier) sent event name ∙ (λ i. or_this (none i) (cond (back i) (Some (record { sent = event; receipts = [] })) None)))
        ∙ sym ((λ i. due (same i || is_sent earlier name) (cond (same i) event (send_event earlier name)) (unsent_has_no_events earlier name legal.1 unsent i)))
    sent_now sent new before (inr differ) =
        ap told (entry_of-added (messages_of earlier) sent event name ∙ (λ i. or_this (entry_of (messages_of earlier) name) (cond (differ_back sent name differ i) (Some (record { sent = event; receipts = [] })) None))
        ∙ as_before (entry_of (messages_of earlier) name))
        ∙ before name ∙ sym ((λ i. due (differ i || is_sent earlier name) (cond (differ i) event (send_event earlier name)) (receipts earlier name)))
      where
        as_before : (found : Option (Sent ℕ)) → or_this found None ≡ found
        as_before None = refl
        as_before (Some entry) = refl

    with_one : (found : Option (Sent ℕ)) (start : ℕ) (number : ℕ) (events : List ℕ) → told found ≡ Some (number, events)
        → told (option_map (entry_with_receipt start event) found) ≡ Some (number, events ++ event ∷ [])
    with_one None start number events is = cc
    with_one (Some entry) start number events is =
        ap (λ list. Some (entry.sent, list)) (map-append (λ (receipt : Receipt ℕ). receipt.event) entry.receipts (record { task = start; event = event } ∷ []))
        ∙ (λ i. Some (ap sent_in is i, ap events_in is i ++ event ∷ []))

    got_now : (got : Text) → is_sent earlier got ≡ true → ((other : Text) → told (entry_of (messages_of earlier) other) ≡ message_due earlier other)
        → (is_same got name ≡ true) ⊎ (is_same got name ≡ false)
        → told (entry_of (with_receipt got (start_event earlier row.task) event (messages_of earlier)) name) ≡ message_due (with_kind Recv (Some got)) name
    got_now got sent before (inl same) =
        let is_it : got ≡ name = (is_same_iff got name).0 same in
        let was : is_sent earlier name ≡ true = subst (λ n. is_sent earlier n ≡ true) is_it sent in
        let start = start_event earlier row.task in
        let here : told (entry_of (messages_of earlier) name) ≡ Some (send_event earlier name, receipts earlier name) =
        before name ∙ ap (λ is. due is (send_event earlier name) (receipts earlier name)) was in
        ap (λ n. told (entry_of (with_receipt n start event (messages_of earlier)) name)) is_it
        ∙ ap told (entry_of-changed (entry_with_receipt start event) (messages_of earlier) name)
        ∙ with_one (entry_of (messages_of earlier) name) start (send_event earlier name) (receipts earlier name) here
        ∙ sym (λ i. due (was i) (send_event earlier name) (cond (same i) (receipts earlier name ++ event ∷ []) (receipts earlier name)))
    got_now got sent before (inr differ) =
        ap told (entry_of-other (entry_with_receipt (start_event earlier row.task) event) (messages_of earlier) got name differ) ∙ before name
        ∙ sym (λ i. due (is_sent earlier name) (send_event earlier name) (cond (differ i) (receipts earlier name ++ event ∷ []) (receipts earlier name)))

    by : (kind : Kind) (named : Option Text) → AllowsNamed earlier kind named → ((other : Text) → told (entry_of (messages_of earlier) other) ≡ message_due earlier other)
        → told (entry_of (noted kind named (start_event earlier row.task) event (messages_of earlier)) name) ≡ message_due (with_kind kind named) name
    by Send (Some sent) allowed before = sent_now sent allowed before (cases_Bool (is_same sent name))
    by Send None allowed before = absurd allowed
    by Recv (Some got) allowed before = got_now got allowed before (cases_Bool (is_same got name))
    by Recv None allowed before = absurd allowed
    by kind named allowed before = before name

-- the messages are counted
pub are_counted : (history : History) → IsLegal history → length (messages_of history) ≡ message_count history
are_counted [] legal = refl
are_counted (row ∷ earlier) legal = omega (arith, by row.kind row.name legal.0.1, message_count-more row earlier, are_counted earlier legal.1)
  where
    by : (kind : Kind) (named : Option Text) → AllowsNamed earlier kind named
        → length (noted kind named (start_event earlier row.task) (suc (length earlier)) (messages_of earlier)) ≡ length (messages_of earlier) + cond (sends_message kind) 1 0
    by Send (Some sent) allowed = length-append (messages_of earlier) ((sent, record { sent = suc (length earlier); receipts = [] }) ∷ [])
    by Send None allowed = absurd allowed
    by Recv (Some got) allowed =
        omega (arith, length-changed (entry_with_receipt (start_event earlier row.task) (suc (length earlier))) got (messages_of earlier))
    by Recv None allowed = absurd allowed
    by kind named allowed = omega arith

-- ---- who received a message is told by the events that started the tasks

-- a message that is just sent has no receipt
had_added : (messages : Messages ℕ) (name : Text) (event : ℕ) (other : Text) (start : ℕ)
    → has_receipt_by nat_eq start (entry_of (with_message name event messages) other) ≡ has_receipt_by nat_eq start (entry_of messages other)
had_added messages name event other start =
    ap (has_receipt_by nat_eq start) (entry_of-added messages name event other) ∙ by (entry_of messages other) (is_same other name)
  where
    by : (found : Option (Sent ℕ)) (here : Bool) → has_receipt_by nat_eq start (or_this found (cond here (Some (record { sent = event; receipts = [] })) None)) ≡ has_receipt_by nat_eq start found
    by None true = refl
    by None false = refl
    by (Some entry) here = refl

-- one that is received has a receipt more
had_received : (found : Option (Sent ℕ)) (by_start event start : ℕ) → is_some found ≡ true
    → has_receipt_by nat_eq start (option_map (entry_with_receipt by_start event) found) ≡ (has_receipt_by nat_eq start found || nat_eq by_start start)
had_received None by_start event start some = absurd (false≢true some)
had_received (Some entry) by_start event start some =
    list_any-append (λ (receipt : Receipt ℕ). nat_eq receipt.task start) entry.receipts (record { task = by_start; event = event } ∷ [])
    ∙ ap (λ last. list_any_in || last) (last_one (nat_eq by_start start))
  where
    list_any_in : Bool
    list_any_in = has_receipt_by nat_eq start (Some entry)

    last_one : (is : Bool) → (is || false) ≡ is
    last_one true = refl
    last_one false = refl

is_there : (history : History) → IsLegal history → (name : Text) → is_some (entry_of (messages_of history) name) ≡ is_sent history name
is_there history legal name = some_told (entry_of (messages_of history) name) ∙ ap is_some (is_told history legal name) ∙ by (is_sent history name)
  where
    some_told : (found : Option (Sent ℕ)) → is_some found ≡ is_some (told found)
    some_told None = refl
    some_told (Some entry) = refl

    by : (sent : Bool) → is_some (due sent (send_event history name) (receipts history name)) ≡ sent
    by true = refl
    by false = refl

-- none is by a later event
none_by_later : (history : History) → IsLegal history → (start : ℕ) (message : Text) → length history < start → has_receipt_by nat_eq start (entry_of (messages_of history) message) ≡ false
none_by_later [] legal start message later = refl
none_by_later (row ∷ earlier) legal start message later = by row.kind row.name legal.0.1 (none_by_later earlier legal.1 start message (omega (arith, later)))
  where
    not_this : nat_eq (start_event earlier row.task) start ≡ false
    not_this = grind (arith, nat_tests, later, newest-le (starts row.task) earlier)

    by : (kind : Kind) (named : Option Text) → AllowsNamed earlier kind named → has_receipt_by nat_eq start (entry_of (messages_of earlier) message) ≡ false
        → has_receipt_by nat_eq start (entry_of (noted kind named (start_event earlier row.task) (suc (length earlier)) (messages_of earlier)) message) ≡ false
    by Send (Some sent) allowed before = had_added (messages_of earlier) sent (suc (length earlier)) message start ∙ before
    by Recv (Some got) allowed before = elim (cases_Bool (is_same got message)) [
      | inl same ↦ (
          let is_it : got ≡ message = (is_same_iff got message).0 same in
          let there = is_there earlier legal.1 message ∙ subst (λ n. is_sent earlier n ≡ true) is_it allowed in
          ap (λ n. has_receipt_by nat_eq start (entry_of (with_receipt n (start_event earlier row.task) (suc (length earlier)) (messages_of earlier)) message)) is_it
          ∙ ap (has_receipt_by nat_eq start) (entry_of-changed (entry_with_receipt (start_event earlier row.task) (suc (length earlier))) (messages_of earlier) message)
          ∙ had_received (entry_of (messages_of earlier) message) (start_event earlier row.task) (suc (length earlier)) start there
          ∙ (λ i. before i || not_this i)
          )
      | inr differ ↦
          ap (has_receipt_by nat_eq start) (entry_of-other (entry_with_receipt (start_event earlier row.task) (suc (length earlier))) (messages_of earlier) got message differ) ∙ before
    ]
    by kind named allowed before = before

-- The receipts tell whether a task that is known received the message.
pub is_receiver : (history : History) → IsLegal history → (task message : Text) → is_known history task ≡ true
    → has_receipt_by nat_eq (start_event history task) (entry_of (messages_of history) message) ≡ has_received history task message
is_receiver [] legal task message known = refl
is_receiver (row ∷ earlier) legal task message known = at (cases_Bool (starts task row)) (is_receiver earlier legal.1 task message)
  where
    was_known : starts task row ≡ false → is_known earlier task ≡ true
    was_known not_started = grind (arith, nat_tests, known, not_started)

    -- a row that starts a task is no receipt
    at_start : (kind : Kind) (named : Option Text) → starts task (record row { kind = kind; name = named }) ≡ true → (start : ℕ)
        → has_receipt_by nat_eq start (entry_of (messages_of earlier) message) ≡ has_received earlier task message
        → has_receipt_by nat_eq start (entry_of (noted kind named (start_event earlier row.task) (suc (length earlier)) (messages_of earlier)) message)
        ≡ has_received (record row { kind = kind; name = named } ∷ earlier) task message
    at_start Spawn named started start same = same
    at_start kind named started start same = absurd (false≢true started)

    -- whether the acting task is this one
    one_task : is_known earlier task ≡ true → nat_eq (start_event earlier row.task) (start_event earlier task) ≡ is_same row.task task
    one_task task_known = elim (cases_Bool (is_same row.task task)) [
      | inl same ↦
          eq-eqb (start_event earlier row.task) (start_event earlier task) (ap (start_event earlier) ((is_same_iff row.task task).0 same)) ∙ sym same
      | inr differ ↦ elim (cases_Bool (eqb (start_event earlier row.task) (start_event earlier task))) [
        | inl is ↦
            let one = one_start earlier legal.1 row.task task legal.0.0.0 task_known (eqb-true (start_event earlier row.task) (start_event earlier task) is) in
            absurd (false≢true (sym differ ∙ (is_same_iff row.task task).1 one))
        | inr is_not ↦ is_not ∙ sym differ
      ]
    ]

    other_way : (had one two : Bool) → (had || two) ≡ ((true && two) || had)
    other_way true one true = refl
    other_way true one false = refl
    other_way false one true = refl
    other_way false one false = refl

    at_row : is_known earlier task ≡ true → (kind : Kind) (named : Option Text) → AllowsNamed earlier kind named
        → has_receipt_by nat_eq (start_event earlier task) (entry_of (messages_of earlier) message) ≡ has_received earlier task message
        → has_receipt_by nat_eq (start_event earlier task) (entry_of (noted kind named (start_event earlier row.task) (suc (length earlier)) (messages_of earlier)) message)
        ≡ has_received (record row { kind = kind; name = named } ∷ earlier) task message
    at_row task_known Send (Some sent) allowed before = had_added (messages_of earlier) sent (suc (length earlier)) message (start_event earlier task) ∙ before
    at_row task_known Recv (Some got) allowed before = elim (cases_Bool (is_same got message)) [
      | inl same ↦ (
          let is_it : got ≡ message = (is_same_iff got message).0 same in
          let there = is_there earlier legal.1 message ∙ subst (λ n. is_sent earlier n ≡ true) is_it allowed in
          ap (λ n. has_receipt_by nat_eq (start_event earlier task) (entry_of (with_receipt n (start_event earlier row.task) (suc (length earlier)) (messages_of earlier)) message)) is_it
          ∙ ap (has_receipt_by nat_eq (start_event earlier task)) (entry_of-changed (entry_with_receipt (start_event earlier row.task) (suc (length earlier))) (messages_of earlier) message)
          ∙ had_received (entry_of (messages_of earlier) message) (start_event earlier row.task) (suc (length earlier)) (start_event earlier task) there
          ∙ (λ i. before i || one_task task_known i)
          ∙ other_way (has_received earlier task message) true (is_same row.task task)
          ∙ sym (ap (λ is. (is && is_same row.task task) || has_received earlier task message) same)
          )
      | inr differ ↦
          ap (has_receipt_by nat_eq (start_event earlier task)) (entry_of-other (entry_with_receipt (start_event earlier row.task) (suc (length earlier))) (messages_of earlier) got message differ)
          ∙ before ∙ sym (ap (λ is. (is && is_same row.task task) || has_received earlier task message) differ)
    ]
    at_row task_known kind named allowed before = before

    at : (starts task row ≡ true) ⊎ (starts task row ≡ false)
        → (is_known earlier task ≡ true → has_receipt_by nat_eq (start_event earlier task) (entry_of (messages_of earlier) message) ≡ has_received earlier task message)
        → has_receipt_by nat_eq (start_event (row ∷ earlier) task) (entry_of (messages_of (row ∷ earlier)) message) ≡ has_received (row ∷ earlier) task message
    at (inl started) before =
        let unknown = started_was_unknown earlier row task row.kind row.name legal.0.1 started in
        let later : length earlier < start_event (row ∷ earlier) task = omega (arith, start_event-started row earlier task started) in
        at_start row.kind row.name started (start_event (row ∷ earlier) task)
        (none_by_later earlier legal.1 (start_event (row ∷ earlier) task) message later ∙ sym (unknown_received_nothing earlier task message legal.1 unknown))
    at (inr unstarted) before =
        ap (λ start. has_receipt_by nat_eq start (entry_of (messages_of (row ∷ earlier)) message)) (start_event-other row earlier task unstarted)
        ∙ at_row (was_known unstarted) row.kind row.name legal.0.1 (before (was_known unstarted))

-- a message that is told was sent by the event that is found
sent_as : (found : Option (Sent ℕ)) {sent event : ℕ} → option_map (λ (entry : Sent ℕ). entry.sent) found ≡ Some sent → (was : Bool) (events : List ℕ)
    → told found ≡ due was event events → sent ≡ event
sent_as None none was events is = cc
sent_as (Some entry) some false events is = cc
sent_as (Some entry) some true events is = sym (ap (λ (found : Option ℕ). option_map_or (λ n. n) found 0) some) ∙ ap sent_in is

module _ (book : Contents) (kept : IsKept book) where
  -- what a book tells of a message
  message_told : (name : Text) → told (entry_of book.messages name) ≡ message_due (history_in book) name
  message_told name = ap (λ (messages : Messages ℕ). told (entry_of messages name)) kept.messages ∙ is_told (history_in book) (legal_history book kept) name

  pub told_as : (name : Text) (sent : ℕ) (events : List ℕ) {entry : Sent ℕ} → Some entry ≡ entry_of book.messages name → sent ≡ entry.sent → events ≡ map (λ receipt. receipt.event) entry.receipts
      → Some (sent, events) ≡ message_due (history_in book) name
  told_as name sent events {entry} found sent_is events_are = (λ i. Some (sent_is i, events_are i)) ∙ ap told found ∙ message_told name

  pub told_as_none : (name : Text) → None ≡ entry_of book.messages name → None ≡ message_due (history_in book) name
  told_as_none name absent = ap told absent ∙ message_told name

  -- the book has the messages that were sent
  pub has_message : (name : Text) → is_some (entry_of book.messages name) ≡ is_sent (history_in book) name
  has_message name = ap (λ (messages : Messages ℕ). is_some (entry_of messages name)) kept.messages ∙ is_there (history_in book) (legal_history book kept) name

  pub was_sent : (name : Text) {entry : Sent ℕ} → Some entry ≡ entry_of book.messages name → is_sent (history_in book) name ≡ true
  was_sent name {entry} found = sym (has_message name) ∙ ap is_some (sym found)

  pub messages_counted : length book.messages ≡ message_count (history_in book)
  messages_counted = ap length kept.messages ∙ are_counted (history_in book) (legal_history book kept)

  -- so it refuses a send for what is due
  pub send_refused : (name : Text) → refusal_of_send (messages_in book) name ≡ first_code (refusals_of_sent book.limits (history_in book) name)
  send_refused name = λ i. first_code ((has_message name i, MessageExists) ∷ (nat_le book.limits.messages (messages_counted i), MessagesFull) ∷ [])

  -- and a receipt
  pub receipt_refused : (task name : Text) {acting : Task} → task_in book task ≡ Some acting
      → refusal_of_receive nat_eq (messages_in book) name acting.start ≡ first_code (refusals_of_received (history_in book) task name)
  receipt_refused task name {acting} found =
      let of_task = task_kept book kept task found in
      let received : has_receipt_by nat_eq acting.start (entry_of book.messages name) ≡ has_received (history_in book) task name =
      (λ i. has_receipt_by nat_eq (of_task.4 i) (entry_of (kept.messages i) name)) ∙ is_receiver (history_in book) (legal_history book kept) task name of_task.0 in
      λ i. first_code ((not (has_message name i), NoMessage) ∷ (received i, AlreadyReceived) ∷ [])

  -- the event that sent a message that is received
  pub sent_by : (name : Text) {sent : ℕ} → option_map (λ (entry : Sent ℕ). entry.sent) (entry_of book.messages name) ≡ Some sent → sent ≡ send_event (history_in book) name
  sent_by name is = sent_as (entry_of book.messages name) is (is_sent (history_in book) name) (receipts (history_in book) name) (message_told name)

-- what was not refused, by the code with which it would have been
pub not_refused : {A : Type 0} (result : Result A Code) {refusal : Option Code} → result_err result ≡ refusal → OnOk result (refusal ≡ None)
not_refused (Ok value) is = sym is
not_refused (Err code) is = tt

-- a message that was found can be received
pub found_to_receive : (asked book : Book ℕ) → asked ≡ book → (name : Text) (start : ℕ) (result : Result (ℕ × ℕ) Code) → result_err result ≡ refusal_of_receive nat_eq asked name start
    → IfOk result (λ found. option_map (λ (entry : Sent ℕ). entry.sent) (entry_of asked.messages name) ≡ Some found.0)
    → IfOk result (λ found. (refusal_of_receive nat_eq book name start ≡ None) × (option_map (λ (entry : Sent ℕ). entry.sent) (entry_of book.messages name) ≡ Some found.0))
found_to_receive asked book same name start (Ok found) refusal sent = (
  ap (λ (b : Book ℕ). refusal_of_receive nat_eq b name start) (sym same) ∙ sym refusal,
  ap (λ (b : Book ℕ). option_map (λ (entry : Sent ℕ). entry.sent) (entry_of b.messages name)) (sym same) ∙ sent,
)
found_to_receive asked book same name start (Err code) refusal sent = tt

-- A book notes the message of a report as its row tells of it.
pub is_noted : (book : Contents) (start event : ℕ) (deed : Deed) → IsFound book start deed
    → messages_after (kind_of deed) (name_of deed) start event (messages_in book) ≡ noted (kind_of deed) (name_of deed) start event book.messages
is_noted book start event (deed.Send name) is = ap (λ refusal. option_map_or (λ (code : Code). book.messages) refusal (with_message name event book.messages)) is
is_noted book start event (deed.Recv name place sent) is = ap (λ refusal. option_map_or (λ (code : Code). book.messages) refusal (with_receipt name start event book.messages)) is.0
is_noted book start event deed.Local is = refl
is_noted book start event (deed.Spawn child) is = refl
is_noted book start event deed.End is = refl
is_noted book start event (deed.Join child place found) is = refl
