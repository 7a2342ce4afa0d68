use Rattle.std.proofs.Common.{Ok, refl, sym, ap, ◌∙◌}
use Rattle.line_protocol.proofs.LineReadingLemmas.{Reads-on}
use Rattle.line_protocol.specs.LineReading.{FindsNext}
use Rattle.trace_session.proofs.FirstLines.{Converses-opened, IfNone-from}
use Rattle.trace_session.specs.Openings.{opening_at}
use Rattle.trace_session.specs.State.{state_of}
use Rattle.trace_session.proofs.output.Output.converse.Goals as goal
use Rattle.trace_session.proofs.output.Output.converse.Given.{Over}
use Rattle.trace_session.proofs.output.Output.converse.Goals.{After-open}

-- the first line was found
finds : (g : Over) (c : After-open g) → FindsNext (g.R.Source.seen c.args.lines.now.source.now) (g.R.Source.seen c.next.new.self.source.now) c.args.lines.now.buffer c.next.new.self.buffer (Ok c.in_ok-found.found)
finds g c = IfNone-from _ c.args.lines.now.fault c.requires.fault c.in_ok-found.ensures.finds

pub returns : goal.returns
returns g c =
    let before = state_of g.R.Source.seen g.W.Sink.seen c.args.lines.now c.args.self.now.writer.now in
    let between = state_of g.R.Source.seen g.W.Sink.seen c.next.new.self c.args.self.now.writer.now in
    let after = state_of g.R.Source.seen g.W.Sink.seen c.open.new.lines c.open.new.self.writer.now in
    let opened = c.open.ensures in
    record {
      same_source = opened.same_source ∙ c.in_ok-found.ensures.same_source;
      same = opened.same;
      goes = record {
        did =
            Converses-opened c.args.hub.now c.open.new.witness before between after c.in_ok-found.found c.in-Some.opening c.open.result (finds g c).line (finds g c).reads.reads.bounds refl
            (ap (opening_at c.in_ok-found.found) (sym c.line.ensures) ∙ sym c.opening_at.ensures ∙ c.in-Some.is) opened.goes.did;
        reads = Reads-on (finds g c).reads.reads (λ ended. ap g.R.Source.seen (opened.goes.at_end ended).0) opened.goes.reads;
        fault = opened.goes.fault;
        at_end = λ ended. let found = c.in_ok-found.ensures.at_end ended in let after = opened.goes.at_end found.1 in (after.0 ∙ found.0, after.1);
        let_out = opened.goes.let_out;
        gate = opened.goes.gate;
      };
    }
