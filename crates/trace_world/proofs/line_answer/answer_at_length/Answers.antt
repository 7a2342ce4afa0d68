use Rattle.std.proofs.Common.{refl, sym, ap, ◌∙◌, arith, length, slice_get, Some, List}
use Rattle.std.proofs.lemmas.List.{length-set}
use Rattle.trace_types.specs.text.Name.{Text}
use Rattle.trace_types.specs.world.World.{World}
use Rattle.trace_types.specs.declared.code.Code.TheVariants.{Line}
use Rattle.trace_types.specs.declared.reply.Reply.TheVariants.{Refused}
use Rattle.trace_world.proofs.line_answer.answer_at_length.Goals as goal

pub name-requires-2 : goal.name-requires-2
name-requires-2 g c =
    let places = ap (λ (world : World). length world.tenants) c.step-reply.ensures.step.is ∙ length-set c.args.world.now.tenants c.args.tenant c.step-reply.ensures.step.later in
    omega (arith, places, c.requires.tenant)

pub returns-in_default : goal.returns-in_default
returns-in_default g c = record {
  to = c.as_bytes.result.now;
  reply = Refused Line;
  named = c.name.ensures ∙ ap Some (sym c.as_bytes.ensures.text);
  does = rw (sym c.read_request.ensures ∙ c.in_default.is) (refl, refl);
  tells = c.refuse.ensures;
}

pub returns : goal.returns
returns g c = record {
  to = c.as_bytes-2.result.now;
  reply = c.step-reply.result;
  named = ap (λ (names : List Text). slice_get names c.args.tenant) (sym (ap (λ (world : World). world.names) c.step-reply.ensures.step.is)) ∙ c.name-2.ensures ∙ ap Some (sym c.as_bytes-2.ensures.text);
  does = rw (sym c.read_request.ensures ∙ c.in-Some.is) c.step-reply.ensures.step;
  tells = c.tell.ensures;
}

pub returns-in-Stamp : goal.returns-in-Stamp
returns-in-Stamp g c = rw (sym c.read_request.ensures ∙ c.in-Some.is ∙ ap Some c.in-Stamp.is) c.tell_stamp.ensures
