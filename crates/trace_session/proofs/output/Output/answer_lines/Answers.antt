use Rattle.std.proofs.Common.{◌≡◌, Ok, Err, None, refl, sym, subst, ap, ◌∙◌, arith}
use Rattle.std.specs.Prelude.{Option}
use Rattle.line_protocol.proofs.LineReadingLemmas.{Reads-behind, Reads-none, Reads-on}
use Rattle.line_protocol.specs.LineReading.{Reads}
use Rattle.trace_session.proofs.AnsweredLines.{Comes, Comes-of, HasAnswered-kept, HasAnswered-none, IfNone-holds, fault_is, session_unread}
use Rattle.trace_session.proofs.Goings.{Through-none, Through-ok, Through-then, answered_unread, finished_unread, same_gate, unread_bytes, unread_fault}
use Rattle.trace_session.specs.State.{state_of}
use Rattle.line_protocol.specs.declared.line.Line.{Line}
use Rattle.trace_session.proofs.FirstLines.{IfNone-from}
use Rattle.trace_session.proofs.Reading.{FindsAsked-of}
use Rattle.trace_session.specs.Asking.{asked_by_line}
use Rattle.trace_session.specs.declared.session_end.SessionEnd.{SessionEnd}
use Rattle.trace_session.proofs.output.Output.answer_lines.Goals as goal

pub loop-found-init : goal.loop-found-init
loop-found-init g c =
    let open_now : c.args.lines.now.fault ≡ None = sym c.in_default.ensures in
    record {
      same_source = refl;
      through = Through-none (record { writer = refl; gate = refl; number = refl }) refl;
      so_far = HasAnswered-none g.L.Lent.does _ c.args.lent.now;
      few = omega arith;
      reads = Reads-none _ _;
      at_end = λ ended. (refl, ended);
      open_start = open_now;
      open_now = open_now;
      sound = λ sound. sound;
      limits = refl;
      log = refl;
    }

pub returns-in_err-found-clause-goes : goal.returns-in_err-found-clause-goes
returns-in_err-found-clause-goes g c =
    let start = state_of g.R.Source.seen g.W.Sink.seen c.args.lines.now c.args.self.now.writer.now in
    let after = state_of g.R.Source.seen g.W.Sink.seen c.next_flushing.new.self c.next_flushing.new.writer in
    let before = c.loop-found.invariant in
    let next = c.in_err-found.ensures in
    let fault = c.in_err-found.field-0.0 in
    let finds = IfNone-from _ c.loop-found.lines.fault before.open_now next.finds in
    let hands = IfNone-from _ c.loop-found.lines.fault before.open_now next.handed_on in
    let told = unread_fault Line SessionEnd fault in
    let kept = Through-then before.through (Through-none (record { writer = refl; gate = refl; number = refl }) (unread_bytes Line c.loop-found.lines.buffer fault (g.W.Sink.seen c.loop-found.self.writer.now) (g.W.Sink.seen c.next_flushing.new.writer) hands)) in
    IfNone-holds c.args.lines.now.fault (rw (fault_is c.from_residual.result _ c.from_residual.ensures.1) (record {
      same_source = next.same_source ∙ before.same_source;
      same = kept.same;
      goes = record {
        did = session_unread Line g.L.Lent.does g.R.Source.seen _ _ start _ _ _ _ _ _ _ fault before.so_far before.few finds hands;
        reads =
            subst (Reads start.given after.given start.held after.held) told.0
            (Reads-on before.reads (λ ended. ap g.R.Source.seen (next.at_end ended).0) (Reads-behind g.R.Source.seen _ _ _ _ (Err fault) finds));
        fault = next.fault ∙ told.1;
        at_end = λ ended. let was = before.at_end ended in let now = next.at_end was.1 in (now.0 ∙ was.0, now.1);
        let_out = kept.let_out;
        gate = told.2 _;
      };
    }))

pub returns-in_err-end-clause-goes : goal.returns-in_err-end-clause-goes
returns-in_err-end-clause-goes g c =
    let start = state_of g.R.Source.seen g.W.Sink.seen c.args.lines.now c.args.self.now.writer.now in
    let after = state_of g.R.Source.seen g.W.Sink.seen c.next_flushing.new.self c.answer.new.self.writer.now in
    let before = c.loop-found.invariant in
    let next = c.in_ok-found.ensures in
    let finds = IfNone-from _ c.loop-found.lines.fault before.open_now next.finds in
    let hands = (IfNone-from _ c.loop-found.lines.fault before.open_now next.handed_on).0 in
    let asks = FindsAsked-of _ _ c.loop-found.lines.buffer c.next_flushing.new.self.buffer c.in_ok-found.found c.asked_by_line-asked.result finds.line (c.asked_by_line-asked.ensures ∙ ap (asked_by_line c.in_ok-found.found) c.line.ensures) in
    let reads = Reads-on {failed = 0} before.reads (λ ended. ap g.R.Source.seen (next.at_end ended).0) finds.reads.reads in
    let through = Through-then (Through-then before.through (Through-none (record { writer = refl; gate = refl; number = refl }) hands.0)) c.in_err-end.ensures.gate in
    let unread = answered_unread g.L.Lent.does c.asked_by_line-asked.result c.loop-found.requests c.loop-found.lent c.answer.new.lent (g.W.Sink.seen c.next_flushing.new.writer) (g.W.Sink.seen c.answer.new.self.writer.now) c.in_err-end.field-0.0 c.in_err-end.ensures.answers in
    IfNone-holds c.args.lines.now.fault (rw (fault_is c.from_residual-in_err-end.result c.in_err-end.field-0.0 c.from_residual-in_err-end.ensures.1) (record {
      same_source = next.same_source ∙ before.same_source;
      same = through.same;
      goes = record {
        did =
            Comes-of g.L.Lent.does start _ after c.args.lent.now c.loop-found.lent c.answer.new.lent c.loop-found.requests c.asked_by_line-asked.result _
            (HasAnswered-kept (g.W.Sink.seen c.next_flushing.new.writer) before.so_far hands) before.few reads.bounds asks
            (λ ended. (ap (λ source. (g.R.Source.seen source).bytes) (next.at_end ended).0, (next.at_end ended).1)) c.in_err-end.ensures.answers;
        reads = subst (Reads start.given after.given start.held after.held) (sym unread.0) reads;
        fault = next.fault ∙ sym unread.1;
        at_end = λ ended. let was = before.at_end ended in let now = next.at_end was.1 in (now.0 ∙ was.0, now.1);
        let_out = through.let_out;
        gate = λ is. through.gate (same_gate SessionEnd (Option SessionEnd) c.in_err-end.field-0.0 is);
      };
    }))

pub returns-in-Some-2-clause-goes : goal.returns-in-Some-2-clause-goes
returns-in-Some-2-clause-goes g c =
    let start = state_of g.R.Source.seen g.W.Sink.seen c.args.lines.now c.args.self.now.writer.now in
    let after = state_of g.R.Source.seen g.W.Sink.seen c.next_flushing.new.self c.answer.new.self.writer.now in
    let before = c.loop-found.invariant in
    let next = c.in_ok-found.ensures in
    let finds = IfNone-from _ c.loop-found.lines.fault before.open_now next.finds in
    let hands = (IfNone-from _ c.loop-found.lines.fault before.open_now next.handed_on).0 in
    let asks = FindsAsked-of _ _ c.loop-found.lines.buffer c.next_flushing.new.self.buffer c.in_ok-found.found c.asked_by_line-asked.result finds.line (c.asked_by_line-asked.ensures ∙ ap (asked_by_line c.in_ok-found.found) c.line.ensures) in
    let reads = Reads-on {failed = 0} before.reads (λ ended. ap g.R.Source.seen (next.at_end ended).0) finds.reads.reads in
    let through = Through-then (Through-then (Through-then before.through (Through-none (record { writer = refl; gate = refl; number = refl }) hands.0)) c.in_ok-end.ensures.gate) c.finish.ensures.gate in
    let unread = finished_unread c.in-Some-2.end (g.W.Sink.seen c.answer.new.self.writer.now) (g.W.Sink.seen c.finish.new.self.writer.now) c.finish.result c.finish.ensures.finishes in
    let came =
    subst (λ end. Comes g.L.Lent.does start after c.args.lent.now c.answer.new.lent c.loop-found.requests (Ok end)) c.in-Some-2.is
    (Comes-of g.L.Lent.does start _ after c.args.lent.now c.loop-found.lent c.answer.new.lent c.loop-found.requests c.asked_by_line-asked.result _
    (HasAnswered-kept (g.W.Sink.seen c.next_flushing.new.writer) before.so_far hands) before.few reads.bounds asks
    (λ ended. (ap (λ source. (g.R.Source.seen source).bytes) (next.at_end ended).0, (next.at_end ended).1)) c.in_ok-end.ensures.answers) in
    IfNone-holds c.args.lines.now.fault (record {
      same_source = next.same_source ∙ before.same_source;
      same = through.same;
      goes = record {
        did = came (g.W.Sink.seen c.finish.new.self.writer.now) c.finish.result c.finish.ensures.finishes;
        reads = subst (Reads start.given after.given start.held after.held) (sym unread.0) reads;
        fault = next.fault ∙ sym unread.1;
        at_end = λ ended. let was = before.at_end ended in let now = next.at_end was.1 in (now.0 ∙ was.0, now.1);
        let_out = through.let_out;
        gate = through.gate;
      };
    })

pub loop-found-preserved : goal.loop-found-preserved
loop-found-preserved g c =
    let start = state_of g.R.Source.seen g.W.Sink.seen c.args.lines.now c.args.self.now.writer.now in
    let after = state_of g.R.Source.seen g.W.Sink.seen c.next_flushing.new.self c.answer.new.self.writer.now in
    let before = c.loop-found.invariant in
    let next = c.in_ok-found.ensures in
    let finds = IfNone-from _ c.loop-found.lines.fault before.open_now next.finds in
    let hands = (IfNone-from _ c.loop-found.lines.fault before.open_now next.handed_on).0 in
    let asks = FindsAsked-of _ _ c.loop-found.lines.buffer c.next_flushing.new.self.buffer c.in_ok-found.found c.asked_by_line-asked.result finds.line (c.asked_by_line-asked.ensures ∙ ap (asked_by_line c.in_ok-found.found) c.line.ensures) in
    let reads = Reads-on {failed = 0} before.reads (λ ended. ap g.R.Source.seen (next.at_end ended).0) finds.reads.reads in
    let came =
    subst (λ end. Comes g.L.Lent.does start after c.args.lent.now c.answer.new.lent c.loop-found.requests (Ok end)) c.in_default-2.is
    (Comes-of g.L.Lent.does start _ after c.args.lent.now c.loop-found.lent c.answer.new.lent c.loop-found.requests c.asked_by_line-asked.result _
    (HasAnswered-kept (g.W.Sink.seen c.next_flushing.new.writer) before.so_far hands) before.few reads.bounds asks
    (λ ended. (ap (λ source. (g.R.Source.seen source).bytes) (next.at_end ended).0, (next.at_end ended).1)) c.in_ok-end.ensures.answers) in
    record {
      same_source = next.same_source ∙ before.same_source;
      through = Through-ok (Through-then (Through-then before.through (Through-none (record { writer = refl; gate = refl; number = refl }) hands.0)) c.in_ok-end.ensures.gate);
      so_far = came.0;
      few = omega (arith, came.1);
      reads = reads;
      at_end = λ ended. let was = before.at_end ended in let now = next.at_end was.1 in (now.0 ∙ was.0, now.1);
      open_start = before.open_start;
      open_now = next.fault;
      sound = λ sound. c.in_ok-end.ensures.sound (before.sound sound);
      limits = c.in_ok-end.ensures.limits ∙ before.limits;
      log = c.in_ok-end.ensures.log ∙ before.log;
    }
