-- What a draft of a report comes to.
use Rattle.std.proofs.Common.{◌≡◌, ℕ, suc, true, ◌<◌, ◌≤◌, length, Some, None, Result, Ok, Err, refl, sym, ap, ◌∙◌, subst, inr}
use Rattle.tenant_ledger.specs.Taking.{Drafts, Takes, TakesReport}
use Rattle.tenant_ledger.proofs.Words.{with_row, Row, Request, Contents, Event, Report, IsKept, IsReport, IsReady, HasRoom, MayRaise, Prepares, accepted, answer_to, event_of, history_in, refusal_of, row_of_report, step, tenant_of, with_event, kind_of, name_of, is_report, Code, Deed, Accepted, Refused}
use Rattle.tenant_ledger.proofs.keeping.Kept.{added, keeps_report, kept_with_room, report_is_ready, report_with_room}
use Rattle.tenant_ledger.proofs.keeping.Refused.{report_may_lack, steps_to_row}

module _ (book : Contents) (request : Request) (report : Report) (found : answer_to (history_in book) request ≡ accepted (history_in book) report.task (kind_of report.deed) (name_of report.deed))
    (none : None ≡ refusal_of book.limits (history_in book) request) where
  -- with the row of the report the tenant's step is done
  step_is : (row : Row) → row_of_report book report ≡ row → step (tenant_of book) request ≡ (Accepted (suc (length book.rows)), with_row (tenant_of book) (Some row))
  step_is row is =
      steps_to_row book request report.task (kind_of report.deed) (name_of report.deed) (sym none) found
      ∙ ap (λ (row : Row). (Accepted (suc (length book.rows)), with_row (tenant_of book) (Some row))) is

  -- so the event is the next one
  pub drafted : IsKept book → 0 < book.kept_ids → IsReport book report → (event : Event) → event ≡ event_of book report event.point → MayRaise book report event.point
      → Drafts (Ok event) book request
  drafted kept seeded is event made raised = (
    subst (λ (one : Event). IsKept (with_event one book)) (sym made) (keeps_report book kept report is seeded event.point raised),
    step_is event.row (sym (ap (λ (one : Event). one.row) made)),
  )

  -- and it is ready once there is room
  pub prepared : IsKept book → (new : Contents) → new ≡ record book { kept_ids = new.kept_ids; room = new.room } → book.kept_ids ≤ new.kept_ids → HasRoom new → IsReport book report
      → (event : Event) → event ≡ event_of new report event.point → MayRaise new report event.point → Prepares (Ok event) book request new
  prepared kept new same more room is event made raised = (
    subst (IsReady new) (sym made) (report_is_ready new (kept_with_room book kept new same more) report (report_with_room book kept new same report is) room event.point raised),
    ap tenant_of same,
    step_is event.row (sym (ap (λ (one : Event). one.row) made ∙ ap (λ (book : Contents). row_of_report book report) same)),
  )

  -- what each kind takes is what is taken
  pub taken_as : is_report request ≡ true → (deed : Deed) → report.deed ≡ deed → (result : Result ℕ Code) (new : Contents)
      → TakesReport result book (record report { deed = deed }) new → Takes result book request new
  taken_as reports deed deed_is (Ok number) new taken =
      let row_is : row_of_report book report ≡ row_of_report book (record report { deed = deed }) = ap (λ deed. row_of_report book (record report { deed = deed })) deed_is in
      let tenant : with_row (tenant_of book) (Some (row_of_report book (record report { deed = deed }))) ≡ tenant_of new = sym taken.1 in
      (taken.0, step_is _ row_is ∙ (λ i. (Accepted (sym taken.2 i), tenant i)))
  taken_as reports deed deed_is (Err code) new taken = (taken.0, taken.1, inr ((report_may_lack request reports, sym none), ap Refused taken.2, refl))

-- The event of a report is added to a book with room for it.
pub report_taken : (book : Contents) (report : Report) → IsKept book → (new : Contents) → new ≡ record book { kept_ids = new.kept_ids; room = new.room } → book.kept_ids ≤ new.kept_ids
    → HasRoom new → IsReport book report → (event : Event) → event ≡ event_of new report event.point → MayRaise new report event.point
    → (last : Contents) → last ≡ record (with_event event new) { room = last.room } → (number : ℕ) → number ≡ suc (length new.rows) → TakesReport (Ok number) book report last
report_taken book report kept new same more room is event made raised last added_is number number_is =
    let ready : IsReady new event =
    subst (IsReady new) (sym made) (report_is_ready new (kept_with_room book kept new same more) report (report_with_room book kept new same report is) room event.point raised) in
    let there = added new event ready last added_is in
    let row_is : event.row ≡ row_of_report book report = ap (λ (one : Event). one.row) made ∙ ap (λ (book : Contents). row_of_report book report) same in
    (there.0, there.1 ∙ (λ i. with_row (tenant_of (same i)) (Some (row_is i))), number_is ∙ ap (λ (one : Contents). suc (length one.rows)) same)
