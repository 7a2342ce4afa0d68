-- What is kept of an event, or under a name, is answered as it is due.
use Rattle.std.proofs.Common.{◌≡◌, ℕ, suc, ◌-◌, ◌<◌, true, false, not, List, [], ◌∷◌, Option, None, Some, length, get_or, map, slice_get, option_map, refl, sym, ap, subst, ◌∙◌, inl, arith}
use Rattle.std.specs.Prelude.{IfSome, MatchOption, is_some}
use Rattle.tenant_ledger.proofs.Words.{length-map, same_Some, slice_get-map, slice_get_read, of_each, Answers, reply_to_view, Tenant, Row, Id, EventTree, Text, tree_clock, tree_of, id_after, history_of, is_event}
use Rattle.trace_types.specs.tenant.Refusal.{first_code}
use Rattle.trace_types.specs.tenant.Tenant.{Steps, step_unless}
use Rattle.trace_types.specs.declared.code.Code.TheVariants.{NoEvent}
use Rattle.trace_types.specs.text.StampText.{stamp_text}
use Rattle.trace_types.specs.declared.reply.Reply.TheVariants as reply
use Rattle.trace_types.specs.declared.request.Request.TheVariants as request
use Rattle.tenant_ledger.proofs.keeping.Kept.{one_tree, tree_at_event}
use Rattle.tenant_ledger.proofs.keeping.Told.{row_is_kept, stamp_knows}

-- the row in the place of an event is that of the event
pub row_answered : (tenant : Tenant) (event place : ℕ) (row : Row) → is_event (history_of tenant.rows) event ≡ true → event ≡ suc place → row ≡ get_or tenant.rows place row
    → reply.Event row ≡ reply_to_view tenant (request.Event event)
row_answered tenant event place row there is row_is =
    let at : event - 1 ≡ place = omega (arith, is) in
    let found = row_is_kept tenant.rows event row there (row_is ∙ ap (λ n. get_or tenant.rows n row) (sym at)) in
    rw (there, found) refl

-- what is kept of each event stands for its tree
module _ {K : Type 0} (meant : K → EventTree) (tenant : Tenant) (kept : List K) (are : map meant kept ≡ of_each (tree_of tree_clock) (history_of tenant.rows)) where
  pub as_many_kept : length kept ≡ length tenant.rows
  as_many_kept = sym (length-map kept meant) ∙ one_tree tenant.rows (map meant kept) are

  -- so what stands in the place of an event stands for what it knows
  pub kept_in_place : (event place : ℕ) (one : K) → event ≡ suc place → place < length tenant.rows → one ≡ get_or kept place one
      → meant one ≡ tree_of tree_clock (history_of tenant.rows) event
  kept_in_place event place one is within one_is =
      let at : place ≡ event - 1 = omega (arith, is) in
      let read = slice_get_read kept (length kept) place one refl (omega (arith, within, as_many_kept)) one_is in
      same_Some _ _ (sym (slice_get-map meant kept place ∙ ap (option_map meant) read) ∙ ap (slice_get (map meant kept)) at
      ∙ tree_at_event tenant.rows (map meant kept) are event (omega (arith, is)) (omega (arith, is, within)))

-- an event is answered with the text of its stamp
pub stamp_answered : (tenant : Tenant) (event : ℕ) → is_event (history_of tenant.rows) event ≡ true → (id : Id) (tree : EventTree) → id ≡ id_after (history_of tenant.rows) event
    → tree ≡ tree_of tree_clock (history_of tenant.rows) event → (text : Text) → text ≡ stamp_text id tree → Answers tenant (request.Stamp event) (reply.Stamp text)
stamp_answered tenant event there id tree id_is tree_is text is =
    let knows = tree_is ∙ sym (stamp_knows (history_of tenant.rows) event) in
    inl (rw there (ap reply.Stamp (is ∙ (λ i. stamp_text (id_is i) (knows i)))))

-- an event is told the text of its stamp, by its id and its tree
stamp_step : (tenant : Tenant) (event : ℕ) (id : Id) (tree : EventTree) → true ≡ is_event (history_of tenant.rows) event → id ≡ id_after (history_of tenant.rows) event
    → tree ≡ tree_of tree_clock (history_of tenant.rows) event → Steps tenant (request.Stamp event) (reply.Stamp (stamp_text id tree)) tenant
stamp_step tenant event id tree there id_is tree_is =
    let knows = tree_is ∙ sym (stamp_knows (history_of tenant.rows) event) in
    inl
    (ap (λ there. step_unless (first_code ((not there, NoEvent) ∷ [])) tenant (request.Stamp event)) (sym there)
    ∙ ap (λ text. (reply.Stamp text, tenant)) (sym (λ i. stamp_text (id_is i) (knows i))))

-- and so is a number that is no event
no_stamp_step : (tenant : Tenant) (event : ℕ) → false ≡ is_event (history_of tenant.rows) event → Steps tenant (request.Stamp event) (reply.Refused NoEvent) tenant
no_stamp_step tenant event is = inl (ap (λ there. step_unless (first_code ((not there, NoEvent) ∷ [])) tenant (request.Stamp event)) (sym is))

-- what is found of a stamp tells how its request is answered
module _ {A B : Type 0} (meant_id : A → Id) (meant_tree : B → EventTree) where
  told_here : (tenant : Tenant) (event : ℕ) (found : Option (A × B)) → is_some found ≡ is_event (history_of tenant.rows) event
      → IfSome found (λ parts. meant_id parts.0 ≡ id_after (history_of tenant.rows) event)
      → IfSome found (λ parts. meant_tree parts.1 ≡ tree_of tree_clock (history_of tenant.rows) event)
      → MatchOption found (Steps tenant (request.Stamp event) (reply.Refused NoEvent) tenant)
      (λ parts. Steps tenant (request.Stamp event) (reply.Stamp (stamp_text (meant_id parts.0) (meant_tree parts.1))) tenant)
  told_here tenant event None there id tree = no_stamp_step tenant event there
  told_here tenant event (Some parts) there id tree = stamp_step tenant event (meant_id parts.0) (meant_tree parts.1) there id tree

  pub stamp_told : (tenant shown : Tenant) (event : ℕ) (found : Option (A × B)) → tenant ≡ shown → is_some found ≡ is_event (history_of tenant.rows) event
      → IfSome found (λ parts. meant_id parts.0 ≡ id_after (history_of tenant.rows) event)
      → IfSome found (λ parts. meant_tree parts.1 ≡ tree_of tree_clock (history_of tenant.rows) event)
      → MatchOption found (Steps shown (request.Stamp event) (reply.Refused NoEvent) shown)
      (λ parts. Steps shown (request.Stamp event) (reply.Stamp (stamp_text (meant_id parts.0) (meant_tree parts.1))) shown)
  stamp_told tenant shown event found same there id tree =
      subst (λ (one : Tenant). MatchOption found (Steps one (request.Stamp event) (reply.Refused NoEvent) one)
      (λ parts. Steps one (request.Stamp event) (reply.Stamp (stamp_text (meant_id parts.0) (meant_tree parts.1))) one)) same (told_here tenant event found there id tree)
