use Rattle.std.proofs.Common.{refl, sym, ◌∙◌, codes}
use Rattle.trace_types.specs.declared.code.Code.TheVariants.{Line}
use Rattle.trace_types.specs.declared.reply.Reply.TheVariants.{Refused}
use Rattle.trace_world.specs.Answered.{code_to_nobody}
use Rattle.trace_world.proofs.Answering.{answers_no_request, answers_no_tenant, answers_request}
use Rattle.trace_world.proofs.line_answer.do_line.Goals as goal

pub returns-in_default : goal.returns-in_default
returns-in_default g c =
    let word = c.read_addressed-request.result.0.now in (
      codes "?",
      Refused (code_to_nobody word),
      answers_no_tenant c.args.world.now c.args.line.now word _ c.requires c.read_addressed-request.ensures (sym c.find_text.ensures.place ∙ c.in_default.is),
    )

pub returns-in-Some-request : goal.returns-in-Some-request
returns-in-Some-request g c =
    let name = c.read_addressed-request.result.0.now in (
      name,
      c.step.result,
      answers_request c.args.world.now c.step.new.self c.args.line.now name name _ c.in-Some.tenant c.in-Some-request.request c.step.result c.requires c.read_addressed-request.ensures
          c.in-Some.ensures.name c.in-Some-request.is (sym c.in-Some.ensures.place) ((c.in-Some.ensures.stands c.in-Some.tenant).0 refl) c.in-Some.ensures.within c.step.ensures.step,
    )

pub returns-in_default-request : goal.returns-in_default-request
returns-in_default-request g c =
    let name = c.read_addressed-request.result.0.now in (
      name,
      Refused Line,
      answers_no_request c.args.world.now c.args.line.now name _ c.in-Some.tenant c.requires c.read_addressed-request.ensures
          c.in-Some.ensures.name c.in_default-request.is (sym c.in-Some.ensures.place),
    )
