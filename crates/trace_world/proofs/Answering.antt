-- The answers to lines that name a tenant.
use Rattle.std.proofs.Common.{◌≡◌, ◌<◌, slice_get, ℕ, Bool, true, false, List, [], ◌∷◌, ◌++◌, length, get_or, Option, Some, None, Result, refl, sym, ap, ◌∙◌, subst, codes}
use Rattle.std.proofs.Math.Path.{transport}
use Rattle.std.proofs.lemmas.List.{append-nil, length-set}
use Rattle.std.specs.Prelude.{IfSome, if◌then◌else◌}
use Rattle.trace_types.specs.text.Name.{Text, is_name}
use Rattle.trace_types.specs.text.Lines.{is_too_long}
use Rattle.trace_types.specs.text.Reading.{addressed_by, request_of, request_of_words, words}
use Rattle.trace_types.specs.world.Replay.{NoTenants, NoRequest, Asks, asked, asked_by, place_of}
use Rattle.trace_types.specs.world.World.{World, StepsOne, tells_want}
use Rattle.trace_types.proofs.Interleaving.{IsDue-from_step}
use Rattle.std.proofs.lemmas.Option.{get_or_from_slice_get}
use Rattle.trace_types.specs.declared.code.Code.{Code}
use Rattle.trace_types.specs.declared.code.Code.TheVariants as code
use Rattle.trace_types.specs.declared.request.Request.{Request}
use Rattle.trace_types.specs.declared.reply.Reply.{Reply}
use Rattle.trace_types.specs.declared.reply.Reply.TheVariants.{Refused}
use Rattle.line_protocol.specs.Words.{Addresses}
use Rattle.line_protocol.specs.Sink.{Taken}
use Rattle.line_protocol.specs.Writing.{WritesBoth}
use Rattle.trace_types.specs.text.Text.{reply_text}
use Rattle.trace_world.specs.Answered.{AnswersFound, AnswersRequest, DoesRequest, IsFound, TellsReply, code_to_nobody}
use Rattle.trace_world.specs.Counted.{counted_with}
use Rattle.trace_world.specs.declared.counts.Counts.{Counts}
use Rattle.trace_world.proofs.Fronts.{WritesBoth-no_failure, WritesBoth-fault, WritesBoth-interruptions}
use Rattle.trace_world.specs.Replayed.{DoesLine}
use Rattle.trace_types.proofs.Places.{IsPlace, IsPlace-place_of}

-- the name at a place that was found
named : (names : List Text) (name : Text) (tenant : ℕ) → place_of names name ≡ Some tenant → name ≡ get_or names tenant []
named names name tenant found =
    let place = subst (λ (found : Option ℕ). IfSome found (IsPlace names name)) found (IsPlace-place_of names name) in
    sym (place.1 [])

-- what a line addresses that begins with a name
addressed : (line name : Text) (request : Option Request) → Addresses line name request → is_name name ≡ true → addressed_by line ≡ Some (name, request)
addressed line name request addresses named = rw (addresses.splits, named, addresses.spells) refl

-- a request of a tenant was done
pub answers_request : (old new : World) (line name to : Text) (asks_for : Option Request) (tenant : ℕ) (request : Request) (reply : Reply)
    → is_too_long line ≡ false → Addresses line name asks_for → is_name name ≡ true → asks_for ≡ Some request → place_of old.names name ≡ Some tenant
    → slice_get old.names tenant ≡ Some to → tenant < length old.tenants → StepsOne old tenant request reply new → DoesLine old line to reply new
answers_request old new line name to asks_for tenant request reply short addresses is_named spelled found at within steps =
    let asks : asked old.names line ≡ Asks tenant request = rw (short, addressed line name asks_for addresses is_named, found, spelled) refl in
    let due = IsDue-from_step old tenant request reply new steps within in
    record {
      mark = tells_want reply;
      names = ap (λ (world : World). world.names) steps.is;
      limits = ap (λ (world : World). world.limits) steps.is;
      places = ap (λ (world : World). length world.tenants) steps.is ∙ length-set old.tenants tenant steps.later;
      addressed = rw asks (sym (get_or_from_slice_get old.names tenant to [] at));
      marked = λ calls after. rw asks (due calls after).1;
      due = λ calls after. rw asks (due calls after).0;
      leads = λ calls after. rw asks (due calls after).2;
    }

-- a line names a tenant and spells no request
pub answers_no_request : (world : World) (line name : Text) (asks_for : Option Request) (tenant : ℕ)
    → is_too_long line ≡ false → Addresses line name asks_for → is_name name ≡ true → asks_for ≡ None → place_of world.names name ≡ Some tenant
    → DoesLine world line name (Refused code.Line) world
answers_no_request world line name asks_for tenant short addresses is_named spelled found =
    let asks : asked world.names line ≡ NoRequest tenant = rw (short, addressed line name asks_for addresses is_named, found, spelled) refl in
    record {
      mark = false;
      names = refl;
      limits = refl;
      places = refl;
      addressed = rw asks (named world.names name tenant found);
      marked = λ calls after. rw asks tt;
      due = λ calls after. rw asks refl;
      leads = λ calls after. rw (asks, append-nil calls) after;
    }

-- a line names a tenant, and the rest of it was done
pub answers_rest : (old new : World) (line name rest to : Text) (tenant : ℕ) (asks_for : Option Request) (reply : Reply)
    → is_too_long line ≡ false → words line ≡ name ∷ words rest → is_name name ≡ true → request_of rest ≡ asks_for → place_of old.names name ≡ Some tenant
    → slice_get old.names tenant ≡ Some to → tenant < length old.tenants → DoesRequest old tenant asks_for reply new → DoesLine old line to reply new
answers_rest old new line name rest to tenant (Some request) reply short splits is_named spelled found at within does =
    answers_request old new line name to (request_of rest) tenant request reply short (record { rest = words rest; splits = splits; spells = refl }) is_named spelled found at within does
answers_rest old new line name rest to tenant None reply short splits is_named spelled found at within does =
    let same : name ≡ to = named old.names name tenant found ∙ get_or_from_slice_get old.names tenant to [] at in
    let refused = answers_no_request old line name (request_of rest) tenant short (record { rest = words rest; splits = splits; spells = refl }) is_named spelled found in
    transport (λ i. DoesLine old line (same i) (sym does.0 i) (sym does.1 i)) refused

-- a reply that was written and counted is told
pub tells : {E : Type 0} (before after : Taken) (to : Text) (reply : Reply) (counts counts' : Counts) (result : Result (Unit {0}) E) → counts' ≡ counted_with counts reply
    → WritesBoth before after result (to ++ codes " ") (reply_text reply ++ codes "\n") → TellsReply before after to reply counts counts' result
tells before after to reply counts counts' result counted writes = record {
  counted = counted;
  writes = writes;
  no_failure = WritesBoth-no_failure before after result _ _ writes;
  fault = WritesBoth-fault before after result _ _ writes;
  interruptions = WritesBoth-interruptions before after result _ _ writes;
}

-- a line belongs to no tenant
answers_nobody : (world : World) (line : Text) (code : Code) → asked world.names line ≡ NoTenants code → DoesLine world line (codes "?") (Refused code) world
answers_nobody world line code asks = record {
  mark = false;
  names = refl;
  limits = refl;
  places = refl;
  addressed = rw asks refl;
  marked = λ calls after. rw asks tt;
  due = λ calls after. rw asks refl;
  leads = λ calls after. rw (asks, append-nil calls) after;
}

-- a line is too long
pub answers_too_long : (world : World) (line : Text) → is_too_long line ≡ true → DoesLine world line (codes "?") (Refused code.Line) world
answers_too_long world line long = answers_nobody world line code.Line (rw long refl)

-- the first word of a line names no tenant
pub answers_no_tenant : (world : World) (line word : Text) (asks_for : Option Request) → is_too_long line ≡ false → Addresses line word asks_for → place_of world.names word ≡ None
    → DoesLine world line (codes "?") (Refused (code_to_nobody word)) world
answers_no_tenant world line word asks_for short addresses missing =
    answers_nobody world line (code_to_nobody word) (rw (short, addresses.splits) (by_word (is_name word) refl))
  where
    by_word : (named : Bool) → is_name word ≡ named
        → asked_by world.names (if is_name word then Some (word, request_of_words addresses.rest) else None) ≡ NoTenants (code_to_nobody word)
    by_word true is = rw (is, missing) refl
    by_word false is = rw is refl

-- what is done of a line that was found is done of the line that it is
pub where_found : {old new : World} {to : Text} {reply : Reply} (found : Option Text) (text : Text) → found ≡ Some text → (is_too_long text ≡ false → DoesLine old text to reply new)
    → (line : Text) → IsFound found line → DoesLine old line to reply new
where_found {old} {new} {to} {reply} found text is does line found_is =
    let it : (text ≡ line) × (is_too_long line ≡ false) = subst (λ (found : Option Text). IsFound found line) is found_is in
    subst (λ (line : Text). DoesLine old line to reply new) it.0 (does (ap is_too_long it.0 ∙ it.1))

-- a line that is too long is done
pub where_too_long : {world : World} (found : Option Text) → found ≡ None → (line : Text) → IsFound found line → DoesLine world line (codes "?") (Refused code.Line) world
where_too_long {world} found is line found_is = answers_too_long world line (subst (λ (found : Option Text). IsFound found line) is found_is)

-- a line that was found is answered as its tenant's request is
pub answers_found : {E : Type 0} {found : Option Text} {old new : World} {line name : Text} {tenant : ℕ} {request : Option Request} {before after : Taken} {counts counts' : Counts} {result : Result (Unit {0}) E}
    → (rest : Text) → found ≡ Some line → words line ≡ name ∷ words rest → is_name name ≡ true → request_of rest ≡ request → place_of old.names name ≡ Some tenant → tenant < length old.tenants
    → AnswersRequest old tenant request new before after counts counts' result → AnswersFound found old new before after counts counts' result
answers_found {found = found} {old = old} {new = new} {line = line} {name = name} {tenant = tenant} {request = request} rest is splits is_named spells at within answers = record {
  to = answers.to;
  reply = answers.reply;
  does = where_found found line is (λ short. answers_rest old new line name rest answers.to tenant request answers.reply short splits is_named spells at answers.named within answers.does);
  tells = answers.tells;
}
