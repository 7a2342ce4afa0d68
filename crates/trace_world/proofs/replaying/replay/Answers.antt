use Rattle.std.proofs.Common.{append_assoc, codes, Result, Ok, Err, ◌++◌, ◌≡◌, ◌<◌, IsTrue, [], refl, sym, ap, ◌∙◌, subst, arith}
use Rattle.std.specs.Option.{option_copied}
use Rattle.trace_types.specs.text.Text.{reply_text}
use Rattle.line_protocol.specs.Sink.{Taken}
use Rattle.trace_world.specs.Answered.{AnswersFound}
use Rattle.trace_world.specs.declared.counts.Counts.{Counts}
use Rattle.std.proofs.lemmas.List.{append-nil}
use Rattle.line_protocol.proofs.LineReadingLemmas.{HasRead-start, Reads-none, Reads-on, stops_at_end}
use Rattle.line_protocol.specs.Held.{Held, ReadingBounds, fresh_held}
use Rattle.line_protocol.specs.HandingOn.{FindsBehind, HandsOnBefore}
use Rattle.line_protocol.specs.LineReading.{Finds, LeavesLess, Reads, work_left}
use Rattle.line_protocol.specs.declared.line.Line.{Line}
use Rattle.line_protocol.specs.declared.line.Line.TheVariants.{End}
use Rattle.trace_world.specs.Replayed.{ReplaysInPart}
use Rattle.line_protocol.specs.declared.stream_fault.StreamFault.TheVariants.{Write}
use Rattle.trace_types.specs.world.Replay.{is_accepted, is_answered, is_refused}
use Rattle.std.specs.Io.KnownBytes.{Keeps}
use Rattle.std.proofs.KnownBytes.{Keeps-refl, Keeps-trans}
use Rattle.trace_world.proofs.Fronts.{IfErr-equal, WritesBoth-began, WritesText-both}
use Rattle.trace_world.proofs.ReplayedLines.{HasReplayed, LeadsTo-none, HasReplayed-line, WroteTexts-line}
use Rattle.trace_world.proofs.Parts.{in_part_none, in_part_read, in_part_held_back, in_part_unflushed, in_part_last, replays_all, HandsOn-flushed, HandsOn-fault, Answered, answered_where_too_long, answered_where_whole, HasReplayed-as, HasReplayed-flushed, is_no_write_fault, one_if-le}
use Rattle.line_protocol.proofs.TextsInTurn.{WroteTexts-none}
use Rattle.trace_world.proofs.replaying.replay.Goals as goal
use Rattle.trace_world.proofs.replaying.replay.Given.{Over}
use Rattle.trace_world.proofs.replaying.replay.Goals.{In-Ok, After-answer_line, After-flush, in-TooLong, in-Whole}

-- all reads that were made
all_reads : (g : Over) (c : In-Ok g) → Reads (g.R.Source.seen c.args.reader.now) (g.R.Source.seen c.next_line_flushing.new.source) fresh_held c.next_line_flushing.new.self 0
all_reads g c = Reads-on c.loop-found.invariant.reads (λ ended. ap g.R.Source.seen (c.next_line_flushing.ensures.at_end ended).0) c.in-Ok.ensures.finds.reads.reads

-- once it told the end, the reader gives nothing more
gives_no_more : (g : Over) (c : In-Ok g) → IsTrue c.loop-found.lines.is_ended
    → ((g.R.Source.seen c.next_line_flushing.new.source).bytes ≡ (g.R.Source.seen c.loop-found.reader).bytes) × IsTrue c.next_line_flushing.new.self.is_ended
gives_no_more g c ended = let at_end = c.next_line_flushing.ensures.at_end ended in (ap (λ source. (g.R.Source.seen source).bytes) at_end.0, at_end.1)

-- the answer to the line that was found
answered : (g : Over) (c : After-answer_line g) {E : Type 0} {before after : Taken} {counts counts' : Counts} {result : Result (Unit {0}) E}
    (answers : AnswersFound (option_copied c.match-found.line) c.loop-found.world c.answer_line.new.world before after counts counts' result)
    → Answered (g.R.Source.seen c.loop-found.reader).bytes (g.R.Source.seen c.next_line_flushing.new.source).bytes c.loop-found.lines c.next_line_flushing.new.self c.loop-found.world answers.to answers.reply c.answer_line.new.world
answered g c answers =
    let within = c.in-Ok.ensures.finds.reads.reads.bounds ∙ c.loop-found.invariant.reads.bounds in
    elim c.match-found.branch [
      | in-TooLong w ↦ answered_where_too_long _ _ c.loop-found.lines c.next_line_flushing.new.self c.loop-found.world c.answer_line.new.world c.in-Ok.found (option_copied c.match-found.line) answers.to answers.reply
          within w.in-TooLong.is c.in-Ok.ensures.finds.line (ap option_copied w.line-is) answers.does
      | in-Whole w ↦ answered_where_whole _ _ c.loop-found.lines c.next_line_flushing.new.self c.loop-found.world c.answer_line.new.world c.in-Ok.found (option_copied c.match-found.line) w.line.result.now answers.to answers.reply
          within w.in-Whole.is c.in-Ok.ensures.finds.line (ap option_copied w.line-is) w.line.ensures answers.does
    ]

-- no line was found any more
finds_end : (g : Over) (c : After-flush g) → Finds (g.R.Source.seen c.loop-found.reader).bytes (g.R.Source.seen c.next_line_flushing.new.source).bytes c.loop-found.lines c.next_line_flushing.new.self End
finds_end g c =
    subst (Finds (g.R.Source.seen c.loop-found.reader).bytes (g.R.Source.seen c.next_line_flushing.new.source).bytes c.loop-found.lines c.next_line_flushing.new.self) c.in-End.is c.in-Ok.ensures.finds.line

-- what was replayed so far, once it was handed on
so_far : (g : Over) (c : In-Ok g)
    → HasReplayed (g.R.Source.seen c.args.reader.now).bytes (g.R.Source.seen c.loop-found.reader).bytes (g.W.Sink.seen c.args.writer.now).bytes (g.W.Sink.seen c.next_line_flushing.new.writer).bytes
    (g.W.Sink.seen c.args.writer.now).calls (g.W.Sink.seen c.next_line_flushing.new.writer).calls c.args.world.now c.loop-found.lines c.loop-found.counts c.loop-found.world
so_far g c = HasReplayed-flushed c.in-Ok.ensures.handed_on.0.0 c.in-Ok.ensures.handed_on.0.2 c.loop-found.invariant.so_far

-- what the writer held first, it can still tell
begun : (g : Over) (c : In-Ok g) → Keeps (g.W.Sink.seen c.args.writer.now).began (g.W.Sink.seen c.next_line_flushing.new.writer).began
begun g c = Keeps-trans _ _ _ c.loop-found.invariant.began c.in-Ok.ensures.handed_on.0.1.began

begun_answer : (g : Over) (c : After-answer_line g) → Keeps (g.W.Sink.seen c.args.writer.now).began (g.W.Sink.seen c.answer_line.new.writer).began
begun_answer g c = Keeps-trans _ _ _ (Keeps-trans _ _ _ c.loop-found.invariant.began c.in-Ok.ensures.handed_on.0.1.began) (WritesBoth-began _ _ c.answer_line.result _ _ c.answer_line.ensures.tells.writes)

pub returns-in_err-lines-clause-fault : goal.returns-in_err-lines-clause-fault
returns-in_err-lines-clause-fault g c = IfErr-equal _ _ _ c.from_residual.ensures.1 (in_part_none (g.R.Source.seen c.args.reader.now) (g.W.Sink.seen c.args.writer.now) c.args.world.now)

pub returns-in_err-lines-clause-flushed : goal.returns-in_err-lines-clause-flushed
returns-in_err-lines-clause-flushed g c = HandsOn-fault _ _ _ c.from_residual.ensures.1 tt

pub returns-in-Err-Read-clause-fault : goal.returns-in-Err-Read-clause-fault
returns-in-Err-Read-clause-fault g c =
    let before = c.loop-found.invariant in
    let finds = subst (λ fault. FindsBehind g.R.Source.seen c.loop-found.reader c.next_line_flushing.new.source c.loop-found.lines c.next_line_flushing.new.self (Err fault)) c.in-Err-Read.field-0-is c.in-Err-Read.ensures.finds in
    let hands = subst (λ fault. HandsOnBefore {A = Line} c.loop-found.lines (Err fault) (g.W.Sink.seen c.loop-found.writer) (g.W.Sink.seen c.next_line_flushing.new.writer)) c.in-Err-Read.field-0-is c.in-Err-Read.ensures.handed_on in
    let reads = Reads-on before.reads (λ ended. ap g.R.Source.seen (c.next_line_flushing.ensures.at_end ended).0) finds.reads.reads in
    in_part_read (g.R.Source.seen c.args.reader.now) (g.R.Source.seen c.next_line_flushing.new.source) (g.W.Sink.seen c.args.writer.now) (g.W.Sink.seen c.next_line_flushing.new.writer)
    (HasReplayed-flushed hands.0 hands.3 before.so_far) finds.none reads.whole (Keeps-trans _ _ _ before.began hands.2.began) c.from.result (λ is. is_no_write_fault _ (sym c.from.ensures ∙ is))

pub returns-in-Err-Read-clause-flushed : goal.returns-in-Err-Read-clause-flushed
returns-in-Err-Read-clause-flushed g c =
    let hands = subst (λ fault. HandsOnBefore {A = Line} c.loop-found.lines (Err fault) (g.W.Sink.seen c.loop-found.writer) (g.W.Sink.seen c.next_line_flushing.new.writer)) c.in-Err-Read.field-0-is c.in-Err-Read.ensures.handed_on in
    HandsOn-flushed {A = Counts} (Err c.from.result) (g.W.Sink.seen c.next_line_flushing.new.writer) hands.1

pub returns-in-Err-Write-clause-fault : goal.returns-in-Err-Write-clause-fault
returns-in-Err-Write-clause-fault g c =
    let before = c.loop-found.invariant in
    let unread = subst (λ fault. FindsBehind g.R.Source.seen c.loop-found.reader c.next_line_flushing.new.source c.loop-found.lines c.next_line_flushing.new.self (Err fault)) c.in-Err-Write.field-0-is c.in-Err-Write.ensures.finds in
    let stops = subst (λ fault. HandsOnBefore {A = Line} c.loop-found.lines (Err fault) (g.W.Sink.seen c.loop-found.writer) (g.W.Sink.seen c.next_line_flushing.new.writer)) c.in-Err-Write.field-0-is c.in-Err-Write.ensures.handed_on in
    subst (λ source. ReplaysInPart Write (g.R.Source.seen c.args.reader.now) (g.R.Source.seen source) (g.W.Sink.seen c.args.writer.now) (g.W.Sink.seen c.next_line_flushing.new.writer) c.args.world.now c.loop-found.world) (sym unread.0)
    (in_part_held_back (g.R.Source.seen c.args.reader.now) (g.R.Source.seen c.loop-found.reader) (g.W.Sink.seen c.args.writer.now) (g.W.Sink.seen c.next_line_flushing.new.writer)
    (HasReplayed-as stops.0 before.so_far) stops.2 (Keeps-trans _ _ _ before.began stops.1.began) before.reads)

pub loop-found-init : goal.loop-found-init
loop-found-init g c =
    let held = c.in_ok-lines.ensures in
    let none = c.none-counts.ensures in
    record {
      so_far = record {
        found = [];
        marks = [];
        text = [];
        read = HasRead-start _ _ (ap (λ (h : Held). h.left) held);
        writes = sym (append-nil _);
        leads = rw none (LeadsTo-none c.args.world.now);
        texts = [];
        texts_are = λ calls after. refl;
        joined = refl;
        wrote = WroteTexts-none _;
      };
      reads = rw held (Reads-none _ _);
      most = rw held (omega arith);
      write_failures = refl;
      began = Keeps-refl _;
      interruptions = omega arith;
      room = rw (none, held) (omega arith);
      accepted = rw none (omega arith);
      answered = rw none (omega arith);
      refused = rw none (omega arith);
    }

pub returns-in_err-answer_line-clause-fault : goal.returns-in_err-answer_line-clause-fault
returns-in_err-answer_line-clause-fault g c =
    let at = goal.at.returns-in_err-answer_line-clause-fault g c in
    IfErr-equal _ _ _ c.from_residual-in_err-answer_line.ensures.1
    (in_part_last (g.R.Source.seen c.args.reader.now) (g.R.Source.seen c.next_line_flushing.new.source) (g.W.Sink.seen c.args.writer.now) (g.W.Sink.seen c.next_line_flushing.new.writer) (g.W.Sink.seen c.answer_line.new.writer)
    (so_far g at.In-Ok) (answered g at.After-answer_line c.in_err-answer_line.ensures) (gives_no_more g at.In-Ok) _ (all_reads g at.In-Ok) c.in_err-answer_line.ensures.tells.writes (begun_answer g at.After-answer_line))

pub returns-in_err-answer_line-clause-ends : goal.returns-in_err-answer_line-clause-ends
returns-in_err-answer_line-clause-ends g c = stops_at_end (all_reads g (goal.at.returns-in_err-answer_line-clause-ends g c).In-Ok)

pub loop-found-preserved : goal.loop-found-preserved
loop-found-preserved g c =
    let at = goal.at.loop-found-preserved g c in
    let answered = answered g at.After-answer_line c.in_ok-answer_line.ensures in
    let before = c.loop-found.invariant in
    let step = c.in-Ok.ensures.finds in
    let tells = c.in_ok-answer_line.ensures.tells in
    let wrote = WritesText-both {A = Unit {0}} {E = Unit {0}} (g.W.Sink.seen c.next_line_flushing.new.writer) (g.W.Sink.seen c.answer_line.new.writer) (Ok tt) _ _ _ (append_assoc (c.in_ok-answer_line.ensures.to ++ codes " ") (reply_text c.in_ok-answer_line.ensures.reply) (codes "\n")) tells.writes in
    let less : work_left c.next_line_flushing.new.self < work_left c.loop-found.lines =
    elim c.match-found.branch [
      | in-TooLong w ↦ subst (LeavesLess c.loop-found.lines c.next_line_flushing.new.self) w.in-TooLong.is step.less
      | in-Whole w ↦ subst (LeavesLess c.loop-found.lines c.next_line_flushing.new.self) w.in-Whole.is step.less
    ] in
    record {
      so_far = rw tells.counted (HasReplayed-line answered.line _ _ (so_far g at.In-Ok) answered.gives (gives_no_more g at.In-Ok) answered.answers wrote
          (WroteTexts-line _ _ (so_far g at.In-Ok).texts _ _ (so_far g at.In-Ok).wrote tells.writes));
      reads = Reads-on {failed = 0} before.reads (λ ended. ap g.R.Source.seen (c.next_line_flushing.ensures.at_end ended).0) step.reads.reads;
      most = omega (arith, step.reads.most, ap (λ (bounds : ReadingBounds). bounds.reads) (all_reads g at.In-Ok).bounds);
      began = begun_answer g at.After-answer_line;
      write_failures = omega (arith, before.write_failures, c.in-Ok.ensures.handed_on.0.1, tells.no_failure);
      interruptions = omega (arith, before.interruptions, c.in-Ok.ensures.handed_on.0.1, tells.interruptions);
      room = rw tells.counted (omega (arith, before.room, less));
      accepted = rw tells.counted (omega (arith, before.accepted, one_if-le (is_accepted c.in_ok-answer_line.ensures.reply)));
      answered = rw tells.counted (omega (arith, before.answered, one_if-le (is_answered c.in_ok-answer_line.ensures.reply)));
      refused = rw tells.counted (omega (arith, before.refused, one_if-le (is_refused c.in_ok-answer_line.ensures.reply)));
    }

pub returns-in_err-flush-clause-fault : goal.returns-in_err-flush-clause-fault
returns-in_err-flush-clause-fault g c =
    let at = goal.at.returns-in_err-flush-clause-fault g c in
    let finds = finds_end g at.After-flush in
    IfErr-equal _ _ _ c.from_residual-in_err-flush.ensures.1
    (in_part_unflushed (g.R.Source.seen c.args.reader.now) (g.R.Source.seen c.next_line_flushing.new.source) (g.W.Sink.seen c.args.writer.now) (g.W.Sink.seen c.flush.new.writer)
    c.next_line_flushing.new.self (HasReplayed-as c.in_err-flush.ensures.0 (so_far g at.In-Ok)) c.in_err-flush.ensures.2 (Keeps-trans _ _ _ (begun g at.In-Ok) c.in_err-flush.ensures.1.began) finds _ (all_reads g at.In-Ok))

pub returns-in_err-flush-clause-ends : goal.returns-in_err-flush-clause-ends
returns-in_err-flush-clause-ends g c = stops_at_end (all_reads g (goal.at.returns-in_err-flush-clause-ends g c).In-Ok)

pub returns-clause-ok : goal.returns-clause-ok
returns-clause-ok g c =
    let at = goal.at.returns-clause-ok g c in
    let finds = finds_end g at.After-flush in
    replays_all (g.R.Source.seen c.args.reader.now) (g.R.Source.seen c.next_line_flushing.new.source) (g.W.Sink.seen c.args.writer.now) (g.W.Sink.seen c.flush.new.writer)
    c.next_line_flushing.new.self (HasReplayed-flushed c.in_ok-flush.ensures.0 c.in_ok-flush.ensures.3 (so_far g at.In-Ok)) finds _ (all_reads g at.In-Ok)
    (Keeps-trans _ _ _ (begun g at.In-Ok) c.in_ok-flush.ensures.2.began)

pub returns-clause-ends : goal.returns-clause-ends
returns-clause-ends g c = stops_at_end (all_reads g (goal.at.returns-clause-ends g c).In-Ok)

pub returns-in_err-answer_line-clause-flushed : goal.returns-in_err-answer_line-clause-flushed
returns-in_err-answer_line-clause-flushed g c = HandsOn-fault _ _ _ c.from_residual-in_err-answer_line.ensures.1 tt

pub returns-in_err-flush-clause-flushed : goal.returns-in_err-flush-clause-flushed
returns-in_err-flush-clause-flushed g c = HandsOn-fault _ _ _ c.from_residual-in_err-flush.ensures.1 tt
