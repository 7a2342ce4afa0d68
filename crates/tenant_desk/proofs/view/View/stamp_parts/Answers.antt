use Rattle.std.proofs.Common.{◌≡◌, [], sym, ap, ◌∙◌, subst}
use Rattle.std.specs.Prelude.{Some, MatchResult}
use Rattle.left_right.specs.Sides.{view as known_at}
use Rattle.trace_types.specs.tenant.Tenant.{Answers, Tenant}
use Rattle.tenant_ledger.proofs.Words.{transport}
use Rattle.tenant_ledger.proofs.keeping.Kept.{kept_roomless}
use Rattle.tenant_ledger.specs.Ledger.{roomless, tenant_of}
use Rattle.trace_types.specs.text.StampText.{stamp_text}
use Rattle.trace_types.specs.declared.request.Request.TheVariants.{Stamp}
use Rattle.trace_types.specs.declared.reply.Reply.TheVariants as reply
use Rattle.tenant_desk.specs.Histories.{Line}
use Rattle.tenant_desk.specs.Rules.{IsOfDesk}
use Rattle.tenant_desk.specs.Views.{BeginWithEach, Known, Responds}
use Rattle.tenant_desk.specs.Events.{Published}
use Rattle.tenant_desk.proofs.Cases.{value_there}
use Rattle.tenant_desk.proofs.Viewing.{entered_desk, known_of_entered, parts_respond}
use Rattle.tenant_desk.proofs.view.View.stamp_parts.Goals as goal

pub invariant_of-self-in-Err : goal.invariant_of-self-in-Err
invariant_of-self-in-Err c =
    let inside = c.self.inside in
    let is : inside.reader ≡ Some c.in-Some.reader = sym c.take.ensures.value ∙ c.in-Some.is in
    let of = value_there inside.reader c.in-Some.reader is
    (λ reader. IsOfDesk inside.seen.log inside.limits (known_at reader.place)) c.self.invariant.1 in
    (c.self.invariant.0, c.in-Err.ensures _ _ of)

pub shared_parts-parts-requires : goal.shared_parts-parts-requires
shared_parts-parts-requires c =
    let seen = c.events.ensures ∙ ap (λ (one : Published). one.events) c.get.ensures in
    kept_roomless c.events.result.now c.in-Ok.reading.part.value.events seen c.in-Ok.ensures.sees.0.events

pub returns-in-Ok-clause-answer : goal.returns-in-Ok-clause-answer
returns-in-Ok-clause-answer c =
    let inside = c.self.inside in
    let event = c.args.event in
    let found = c.shared_parts-parts.result in
    let published = c.in-Ok.reading.part.value in
    let old : Known = record { seen = inside.seen.rows; met = inside.met; limits = inside.limits; log = inside.seen.log } in
    let new : Known = record { seen = c.give_back-reader.result.1.rows; met = c.clear.new.self; limits = inside.limits; log = c.give_back-reader.result.1.log } in
    let is : inside.reader ≡ Some c.in-Some.reader = sym c.take.ensures.value ∙ c.in-Some.is in
    let of = value_there inside.reader c.in-Some.reader is
    (λ reader. IsOfDesk inside.seen.log inside.limits (known_at reader.place)) c.self.invariant.1 in
    let seen : roomless c.events.result.now ≡ published.events = c.events.ensures ∙ ap (λ (one : Published). one.events) c.get.ensures in
    let answered = subst (λ (tenant : Tenant). MatchResult found (λ parts. Answers tenant (Stamp event) (reply.Stamp (stamp_text parts.0 parts.1)))
    (λ code. Answers tenant (Stamp event) (reply.Refused code))) (ap tenant_of seen) c.shared_parts-parts.ensures in
    let front = c.give_back-reader.ensures.front in
    let met = c.clear.ensures in
    let is_new : new ≡ record { seen = published.front.rows; met = []; limits = inside.limits; log = published.front.log } =
    λ i. record { seen = (front i).rows; met = met i; limits = inside.limits; log = (front i).log } in
    subst (λ (before : Known). MatchResult found (λ parts. Responds before (Stamp event) (reply.Stamp (stamp_text parts.0 parts.1)) new)
    (λ code. Responds before (Stamp event) (reply.Refused code) new)) c.self.view_is
    (parts_respond old new _ _ published event found of c.self.invariant.0 c.in-Ok.ensures answered is_new)

pub invariant_of-self : goal.invariant_of-self
invariant_of-self c =
    let inside = c.self.inside in
    let is : inside.reader ≡ Some c.in-Some.reader = sym c.take.ensures.value ∙ c.in-Some.is in
    let of = value_there inside.reader c.in-Some.reader is (λ reader. IsOfDesk inside.seen.log inside.limits (known_at reader.place)) c.self.invariant.1 in
    let known = known_of_entered inside.seen.log inside.limits _ _ c.in-Ok.reading.part.value of c.in-Ok.ensures.sees in (
      subst (BeginWithEach c.give_back-reader.result.1.rows) (sym c.clear.ensures) tt,
      transport (λ i. IsOfDesk ((sym c.give_back-reader.ensures.front) i).log inside.limits ((sym c.give_back-reader.ensures.known) i)) known,
    )

pub returns-in-Ok-clause-log : goal.returns-in-Ok-clause-log
returns-in-Ok-clause-log c =
    let inside = c.self.inside in
    let published = c.in-Ok.reading.part.value in
    let is : inside.reader ≡ Some c.in-Some.reader = sym c.take.ensures.value ∙ c.in-Some.is in
    let of = value_there inside.reader c.in-Some.reader is
    (λ reader. IsOfDesk inside.seen.log inside.limits (known_at reader.place)) c.self.invariant.1 in
    let same = entered_desk inside.seen.log inside.limits _ _ published of c.in-Ok.ensures.sees in
    ap (λ (line : Line). line.log) c.give_back-reader.ensures.front ∙ same.0 ∙ ap (λ (before : Known). before.log) c.self.view_is
