use Rattle.std.proofs.Common.{inr, ◌∙◌}
use Rattle.trace_session.proofs.FirstLines.{IfNone-from}
use Rattle.trace_session.proofs.output.Output.hold.Goals as goal

pub returns : goal.returns
returns g c =
    let belongs = c.in-Some.ensures in
    let on = IfNone-from _ c.args.lines.now.fault c.requires.fault c.answer_lines-result.ensures.goes in
    record {
      same_source = on.same_source;
      same = on.same;
      goes = record {
        did =
            inr (record {
              lent = c.in-Some.lent;
              left = c.answer_lines-result.new.lent;
              lent_belongs = belongs;
              left_belongs = record {
                sound = c.answer_lines-result.ensures.sound belongs.sound;
                limits = c.answer_lines-result.ensures.limits ∙ belongs.limits;
                log = c.answer_lines-result.ensures.log ∙ belongs.log;
              };
              witnessed = (c.tell-began.ensures, c.take_back-ended.ensures);
              session = on.goes.did;
            });
        reads = on.goes.reads;
        fault = on.goes.fault;
        at_end = on.goes.at_end;
        let_out = on.goes.let_out;
        gate = on.goes.gate;
      };
    }
