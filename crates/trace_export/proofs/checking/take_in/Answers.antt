use Rattle.std.proofs.Common.{inl, suc, refl, sym, ap, Option, Some, None, [], subst, arith}
use Rattle.trace_types.specs.text.Name.{Text}
use Rattle.line_protocol.specs.Held.{Held, ReadingBounds}
use Rattle.line_protocol.specs.LineReading.{Reads}
use Rattle.line_protocol.proofs.LineReadingLemmas.{Reads-none, Reads-on}
use Rattle.line_protocol.specs.Held.{fresh_within}
use Rattle.trace_export.specs.Checked.{IsJudged, header_in, placing_in}
use Rattle.trace_export.specs.Edges.{Placing}
use Rattle.trace_export.specs.ReadTo.{StopsAtLine}
use Rattle.trace_export.specs.declared.header.Header.{Header}
use Rattle.trace_export.proofs.Judging.{FoundRight, FindsOn, counts_more, export_bounds, found_count, found_none, judges_over, judged_right, line_count, stops_over, was_read_to_end}
use Rattle.trace_export.proofs.Stopping.{stops_next}
use Rattle.trace_export.proofs.checking.take_in.Goals as goal
use Rattle.trace_export.proofs.checking.take_in.Given.{Over}
use Rattle.trace_export.proofs.checking.take_in.Goals.{After-judge}

-- all reads that were made
reads_so_far : (g : Over) (c : After-judge g) → Reads (g.R.Source.seen c.args.reader.now) (g.R.Source.seen c.next_line.new.source) (fresh_within export_bounds) c.next_line.new.self 0
reads_so_far g c = Reads-on {failed = 0} c.loop-checked.invariant.reads (λ ended. ap g.R.Source.seen (c.next_line.ensures.at_end ended).0) c.in_ok-found.ensures.finds.reads.reads

-- what was found
found_on : (g : Over) (c : After-judge g)
    → FindsOn (g.R.Source.seen c.args.reader.now) (g.R.Source.seen c.loop-checked.reader) (g.R.Source.seen c.next_line.new.source) c.loop-checked.lines c.next_line.new.self c.loop-checked.checked c.in_ok-found.found
found_on g c = record {
  right = c.loop-checked.invariant.found;
  bounds = (reads_so_far g c).bounds;
  finds = c.in_ok-found.ensures.finds.line;
  at_end = λ ended. (ap (λ source. (g.R.Source.seen source).bytes) (c.next_line.ensures.at_end ended).0, (c.next_line.ensures.at_end ended).1);
  told = was_read_to_end (reads_so_far g c);
}

-- the line was looked for
stops_so_far : (g : Over) (c : After-judge g)
    → StopsAtLine g.R.Source.seen (suc (line_count (header_in c.loop-checked.checked) (placing_in c.loop-checked.checked))) c.args.reader.now c.next_line.new.source
stops_so_far g c =
    stops_next g.R.Source.seen c.args.reader.now c.loop-checked.reader c.next_line.new.source _ c.loop-checked.invariant.found.read (found_count c.loop-checked.invariant.found)
    c.loop-checked.invariant.stops c.in_ok-found.ensures.last

pub loop-checked-init : goal.loop-checked-init
loop-checked-init g c =
    let held = c.in_ok-lines.ensures in
    record {
      found = subst (λ (placing : Placing). FoundRight (g.R.Source.seen c.args.reader.now).bytes (g.R.Source.seen c.args.reader.now).bytes c.in_ok-lines.lines (header_in c.in_ok-checked.checked) placing) (sym c.in_ok-checked.ensures.none)
          (subst (λ (header : Option Header). FoundRight (g.R.Source.seen c.args.reader.now).bytes (g.R.Source.seen c.args.reader.now).bytes c.in_ok-lines.lines header []) (sym c.in_ok-checked.ensures.header) (found_none _ c.in_ok-lines.lines (ap (λ (h : Held). h.left) held)));
      kept = c.in_ok-checked.ensures.kept;
      reads = rw held (Reads-none _ _);
      stops = inl refl;
      most = rw held (omega arith);
    }

pub returns-in-Some-clause-verdict : goal.returns-in-Some-clause-verdict
returns-in-Some-clause-verdict g c =
    let at = goal.at.returns-in-Some-clause-verdict g c in
    judges_over (g.R.Source.seen c.args.reader.now) (g.R.Source.seen c.loop-checked.reader) (g.R.Source.seen c.next_line.new.source) c.loop-checked.lines c.next_line.new.self c.loop-checked.checked c.in_ok-next.next
    c.in_ok-found.found c.in-Some.verdict (found_on g at.After-judge)
    (subst (λ (line : Text). IsJudged c.in_ok-found.found line (Some c.in-Some.verdict) c.loop-checked.checked c.in_ok-next.next) c.line-in-loop-checked.ensures
    (subst (λ verdict. IsJudged c.in_ok-found.found c.line-in-loop-checked.result.now verdict c.loop-checked.checked c.in_ok-next.next) c.in-Some.is c.in_ok-next.ensures))

pub returns-in-Some-clause-stops : goal.returns-in-Some-clause-stops
returns-in-Some-clause-stops g c =
    let at = goal.at.returns-in-Some-clause-stops g c in
    stops_over g.R.Source.seen c.args.reader.now c.next_line.new.source c.loop-checked.checked (g.R.Source.seen c.args.reader.now) (g.R.Source.seen c.loop-checked.reader) (g.R.Source.seen c.next_line.new.source) c.loop-checked.lines c.next_line.new.self c.in_ok-next.next
    c.in_ok-found.found c.in-Some.verdict (stops_so_far g at.After-judge) (found_on g at.After-judge)
    (subst (λ (line : Text). IsJudged c.in_ok-found.found line (Some c.in-Some.verdict) c.loop-checked.checked c.in_ok-next.next) c.line-in-loop-checked.ensures
    (subst (λ verdict. IsJudged c.in_ok-found.found c.line-in-loop-checked.result.now verdict c.loop-checked.checked c.in_ok-next.next) c.in-Some.is c.in_ok-next.ensures))

pub loop-checked-preserved : goal.loop-checked-preserved
loop-checked-preserved g c =
    let at = goal.at.loop-checked-preserved g c in
    let judged =
    subst (λ (line : Text). IsJudged c.in_ok-found.found line None c.loop-checked.checked c.in_ok-next.next) c.line-in-loop-checked.ensures
    (subst (λ verdict. IsJudged c.in_ok-found.found c.line-in-loop-checked.result.now verdict c.loop-checked.checked c.in_ok-next.next) c.in_default.is c.in_ok-next.ensures) in
    let right = judged_right (g.R.Source.seen c.args.reader.now) (g.R.Source.seen c.loop-checked.reader) (g.R.Source.seen c.next_line.new.source) c.loop-checked.lines c.next_line.new.self c.loop-checked.checked c.in_ok-next.next
    c.in_ok-found.found (found_on g at.After-judge) judged in
    let more = counts_more (g.R.Source.seen c.args.reader.now) (g.R.Source.seen c.loop-checked.reader) (g.R.Source.seen c.next_line.new.source) c.loop-checked.lines c.next_line.new.self c.loop-checked.checked c.in_ok-next.next
    c.in_ok-found.found (found_on g at.After-judge) judged in
    record {
      found = right.0;
      kept = right.1;
      reads = reads_so_far g at.After-judge;
      stops = subst (λ n. StopsAtLine g.R.Source.seen n c.args.reader.now c.next_line.new.source) (sym more) (stops_so_far g at.After-judge);
      most = omega (arith, c.in_ok-found.ensures.finds.reads.most, ap (λ (b : ReadingBounds). b.reads) (reads_so_far g at.After-judge).bounds);
    }
