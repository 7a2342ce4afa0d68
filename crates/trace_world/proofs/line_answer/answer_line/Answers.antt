use Rattle.std.proofs.Common.{[], None, refl, sym, ap, ◌∙◌, codes}
use Rattle.std.specs.Option.{option_copied}
use Rattle.trace_types.specs.text.Reading.{request_of_words}
use Rattle.trace_types.specs.declared.code.Code.TheVariants.{Line}
use Rattle.trace_types.specs.declared.reply.Reply.TheVariants.{Refused}
use Rattle.line_protocol.specs.Words.{words_after}
use Rattle.trace_world.specs.Answered.{code_to_nobody}
use Rattle.trace_world.proofs.Answering.{answers_found, answers_no_request, answers_no_tenant, where_found, where_too_long}
use Rattle.trace_world.proofs.line_answer.answer_line.Goals as goal

pub returns-in_default : goal.returns-in_default
returns-in_default g c = record {
  to = codes "?";
  reply = Refused Line;
  does = where_too_long (option_copied c.args.line) (ap option_copied c.in_default.is);
  tells = c.refuse.ensures;
}

pub returns-in_default-find_text : goal.returns-in_default-find_text
returns-in_default-find_text g c =
    let rest = words_after (option_copied c.split_first.result.1) in
    let word = c.split_first.result.0.now in
    record {
      to = codes "?";
      reply = Refused (code_to_nobody word);
      does = where_found (option_copied c.args.line) c.in-Some.line.now (ap option_copied c.in-Some.is) (λ short.
          answers_no_tenant c.args.world.now c.in-Some.line.now word (request_of_words rest) short (record { rest = rest; splits = c.split_first.ensures; spells = refl })
          (sym c.find_text.ensures.place ∙ c.in_default-find_text.is));
      tells = rw (← c.code_to_nobody.ensures) c.refuse-in_default-find_text.ensures;
    }

pub returns-in_default-rest : goal.returns-in_default-rest
returns-in_default-rest g c = record {
  to = c.split_first.result.0.now;
  reply = Refused Line;
  does = where_found (option_copied c.args.line) c.in-Some.line.now (ap option_copied c.in-Some.is) (λ short.
      answers_no_request c.args.world.now c.in-Some.line.now c.split_first.result.0.now None c.in-Some-find_text.tenant short
      (record { rest = []; splits = rw c.in_default-rest.is at c.split_first.ensures; spells = refl })
      c.in-Some-find_text.ensures.name refl (sym c.in-Some-find_text.ensures.place));
  tells = c.refuse-in_default-rest.ensures;
}

pub returns-then-is_count : goal.returns-then-is_count
returns-then-is_count g c =
    answers_found c.in-Some-rest.request.now (ap option_copied c.in-Some.is) (rw c.in-Some-rest.is at c.split_first.ensures) c.in-Some-find_text.ensures.name
    (c.is_count.ensures.spelled c.if-is_count.true) (sym c.in-Some-find_text.ensures.place) c.in-Some-find_text.ensures.within c.tell_count.ensures

pub returns-in-Some-read_order : goal.returns-in-Some-read_order
returns-in-Some-read_order g c =
    answers_found c.in-Some-rest.request.now (ap option_copied c.in-Some.is) (rw c.in-Some-rest.is at c.split_first.ensures) c.in-Some-find_text.ensures.name
    (rw c.in-Some-read_order.is at c.read_order.ensures) (sym c.in-Some-find_text.ensures.place) c.in-Some-find_text.ensures.within c.tell_order.ensures

pub returns-in-None : goal.returns-in-None
returns-in-None g c =
    answers_found c.in-Some-rest.request.now (ap option_copied c.in-Some.is) (rw c.in-Some-rest.is at c.split_first.ensures) c.in-Some-find_text.ensures.name
    refl (sym c.in-Some-find_text.ensures.place) c.in-Some-find_text.ensures.within c.answer_at_length.ensures
