use Rattle.std.proofs.Common.{ap, subst, arith}
use Rattle.trace_types.specs.text.Name.{Text}
use Rattle.line_protocol.specs.Held.{Held, ReadingBounds}
use Rattle.line_protocol.specs.LineReading.{Finds}
use Rattle.line_protocol.proofs.LineReadingLemmas.{Reads-none, Reads-on}
use Rattle.trace_world.specs.Answered.{CarriesOut}
use Rattle.trace_world.proofs.Answering.{answers_too_long}
use Rattle.trace_world.proofs.Parts.{answered_too_long, answered_whole}
use Rattle.trace_world.proofs.TakingIn.{OnErr-holds, takes_all, takes_first, takes_line, takes_none, takes_nothing}
use Rattle.trace_world.proofs.export_replay.take_in.Goals as goal

pub returns-in_err-lines-clause-fault : goal.returns-in_err-lines-clause-fault
returns-in_err-lines-clause-fault g c = OnErr-holds c.from_residual.result (takes_nothing (g.R.Source.seen c.args.reader.now) c.args.world.now)

pub loop-lines-init : goal.loop-lines-init
loop-lines-init g c =
    let held = c.in_ok-lines.ensures in
    record {
      takes = takes_none _ c.args.world.now c.in_ok-lines.lines (ap (λ (h : Held). h.left) held);
      reads = rw held (Reads-none _ _);
      most = rw held (omega arith);
    }

pub returns-in_err-next_line-clause-fault : goal.returns-in_err-next_line-clause-fault
returns-in_err-next_line-clause-fault g c =
    let reads = Reads-on c.loop-lines.invariant.reads (λ ended. ap g.R.Source.seen (c.next_line.ensures.at_end ended).0) c.next_line.ensures.finds.reads.reads in
    OnErr-holds c.from_residual-in_err-next_line.result
    (takes_first (g.R.Source.seen c.args.reader.now) (g.R.Source.seen c.next_line.new.source) c.loop-lines.invariant.takes c.in_err-next_line.ensures.finds.none reads.whole)

pub returns-in-End-clause-ok : goal.returns-in-End-clause-ok
returns-in-End-clause-ok g c =
    let reads = Reads-on c.loop-lines.invariant.reads (λ ended. ap g.R.Source.seen (c.next_line.ensures.at_end ended).0) c.in_ok-next_line.ensures.finds.reads.reads in
    takes_all (g.R.Source.seen c.args.reader.now) (g.R.Source.seen c.next_line.new.source) c.next_line.new.self c.loop-lines.invariant.takes
    (subst (Finds (g.R.Source.seen c.loop-lines.reader).bytes (g.R.Source.seen c.next_line.new.source).bytes c.loop-lines.lines c.next_line.new.self) c.in-End.is c.in_ok-next_line.ensures.finds.line) reads

pub loop-lines-preserved-in-TooLong : goal.loop-lines-preserved-in-TooLong
loop-lines-preserved-in-TooLong g c =
    let next = c.in_ok-next_line.ensures.finds in
    let reads = Reads-on {failed = 0} c.loop-lines.invariant.reads (λ ended. ap g.R.Source.seen (c.next_line.ensures.at_end ended).0) next.reads.reads in
    let finds = subst (Finds (g.R.Source.seen c.loop-lines.reader).bytes (g.R.Source.seen c.next_line.new.source).bytes c.loop-lines.lines c.next_line.new.self) c.in-TooLong.is next.line in
    record {
      takes = takes_line {new = c.loop-lines.world} c.loop-lines.invariant.takes (answered_too_long _ _ c.loop-lines.lines c.next_line.new.self c.loop-lines.world c.loop-lines.world _ _ reads.bounds finds (answers_too_long c.loop-lines.world))
          (λ ended. (ap (λ source. (g.R.Source.seen source).bytes) (c.next_line.ensures.at_end ended).0, (c.next_line.ensures.at_end ended).1));
      reads = reads;
      most = omega (arith, next.reads.most, ap (λ (b : ReadingBounds). b.reads) reads.bounds);
    }

pub loop-lines-preserved : goal.loop-lines-preserved
loop-lines-preserved g c =
    let next = c.in_ok-next_line.ensures.finds in
    let reads = Reads-on {failed = 0} c.loop-lines.invariant.reads (λ ended. ap g.R.Source.seen (c.next_line.ensures.at_end ended).0) next.reads.reads in
    let finds = subst (Finds (g.R.Source.seen c.loop-lines.reader).bytes (g.R.Source.seen c.next_line.new.source).bytes c.loop-lines.lines c.next_line.new.self) c.in-Whole.is next.line in
    let does = subst (λ (line : Text). CarriesOut c.loop-lines.world line c.do_line.new.world) c.line.ensures c.do_line.ensures in
    record {
      takes = takes_line {new = c.do_line.new.world} c.loop-lines.invariant.takes (answered_whole _ _ c.loop-lines.lines c.next_line.new.self c.loop-lines.world c.do_line.new.world does.0 does.1 reads.bounds finds (λ _. does.2))
          (λ ended. (ap (λ source. (g.R.Source.seen source).bytes) (c.next_line.ensures.at_end ended).0, (c.next_line.ensures.at_end ended).1));
      reads = reads;
      most = omega (arith, next.reads.most, ap (λ (b : ReadingBounds). b.reads) reads.bounds);
    }
