use Rattle.std.proofs.Common.{inl, suc, refl, sym, ap, Some, None, subst, arith}
use Rattle.trace_types.specs.text.Name.{Text}
use Rattle.line_protocol.specs.Held.{Held, ReadingBounds, fresh_within}
use Rattle.line_protocol.specs.LineReading.{Reads}
use Rattle.line_protocol.proofs.LineReadingLemmas.{Reads-none, Reads-on}
use Rattle.trace_export.specs.ReadTo.{StopsAtLine}
use Rattle.trace_export.specs.Rebuilding.{IsTaken}
use Rattle.trace_export.proofs.Judging.{export_bounds, was_read_to_end}
use Rattle.trace_export.proofs.LoadedLines.{LoadsOn, answered_over, begins_loading, counts_more, found_lines_loaded, lines_loaded, loaded_so_far, stops_over}
use Rattle.trace_export.proofs.Stopping.{stops_next}
use Rattle.trace_export.proofs.loading.take_in.Goals as goal
use Rattle.trace_export.proofs.loading.take_in.Given.{Over}
use Rattle.trace_export.proofs.loading.take_in.Goals.{After-take}

-- all reads that were made
reads_so_far : (g : Over) (c : After-take g) → Reads (g.R.Source.seen c.args.reader.now) (g.R.Source.seen c.next_line.new.source) (fresh_within export_bounds) c.next_line.new.self 0
reads_so_far g c = Reads-on {failed = 0} c.loop-lines.invariant.reads (λ ended. ap g.R.Source.seen (c.next_line.ensures.at_end ended).0) c.in_ok-found.ensures.finds.reads.reads

-- what was found
found_on : (g : Over) (c : After-take g)
    → LoadsOn (g.R.Source.seen c.args.reader.now) (g.R.Source.seen c.loop-lines.reader) (g.R.Source.seen c.next_line.new.source) c.loop-lines.lines c.next_line.new.self c.loop-lines.follower c.in_ok-found.found
found_on g c = record {
  so_far = c.loop-lines.invariant.so_far;
  bounds = (reads_so_far g c).bounds;
  finds = c.in_ok-found.ensures.finds.line;
  at_end = λ ended. (ap (λ source. (g.R.Source.seen source).bytes) (c.next_line.ensures.at_end ended).0, (c.next_line.ensures.at_end ended).1);
  told = was_read_to_end (reads_so_far g c);
}

-- the line was looked for
stops_so_far : (g : Over) (c : After-take g)
    → StopsAtLine g.R.Source.seen (suc (lines_loaded c.loop-lines.follower.header c.loop-lines.follower.ledger)) c.args.reader.now c.next_line.new.source
stops_so_far g c =
    stops_next g.R.Source.seen c.args.reader.now c.loop-lines.reader c.next_line.new.source _ c.loop-lines.invariant.so_far.read (found_lines_loaded c.loop-lines.invariant.so_far)
    c.loop-lines.invariant.stops c.in_ok-found.ensures.last

pub loop-lines-init : goal.loop-lines-init
loop-lines-init g c =
    let held = c.in_ok-lines.ensures in
    record {
      so_far = begins_loading _ c.in_ok-lines.lines c.args.follower (ap (λ (h : Held). h.left) held) c.requires;
      reads = rw held (Reads-none _ _);
      stops = inl refl;
      most = rw held (omega arith);
    }

pub returns-in-Some-clause-loads : goal.returns-in-Some-clause-loads
returns-in-Some-clause-loads g c =
    let at = goal.at.returns-in-Some-clause-loads g c in
    answered_over (g.R.Source.seen c.args.reader.now) (g.R.Source.seen c.loop-lines.reader) (g.R.Source.seen c.next_line.new.source) c.loop-lines.lines c.next_line.new.self c.loop-lines.follower c.in_ok-next.next
    c.in_ok-found.found c.in-Some.loaded (found_on g at.After-take)
    (subst (λ (line : Text). IsTaken c.in_ok-found.found line (Some c.in-Some.loaded) c.loop-lines.follower c.in_ok-next.next) c.line-in-loop-lines.ensures
    (subst (λ loaded. IsTaken c.in_ok-found.found c.line-in-loop-lines.result.now loaded c.loop-lines.follower c.in_ok-next.next) c.in-Some.is c.in_ok-next.ensures))

pub returns-in-Some-clause-stops : goal.returns-in-Some-clause-stops
returns-in-Some-clause-stops g c =
    let at = goal.at.returns-in-Some-clause-stops g c in
    stops_over g.R.Source.seen c.args.reader.now c.next_line.new.source c.loop-lines.follower (g.R.Source.seen c.args.reader.now) (g.R.Source.seen c.loop-lines.reader) (g.R.Source.seen c.next_line.new.source) c.loop-lines.lines c.next_line.new.self c.in_ok-next.next
    c.in_ok-found.found c.in-Some.loaded (stops_so_far g at.After-take) (found_on g at.After-take)
    (subst (λ (line : Text). IsTaken c.in_ok-found.found line (Some c.in-Some.loaded) c.loop-lines.follower c.in_ok-next.next) c.line-in-loop-lines.ensures
    (subst (λ loaded. IsTaken c.in_ok-found.found c.line-in-loop-lines.result.now loaded c.loop-lines.follower c.in_ok-next.next) c.in-Some.is c.in_ok-next.ensures))

pub loop-lines-preserved : goal.loop-lines-preserved
loop-lines-preserved g c =
    let at = goal.at.loop-lines-preserved g c in
    let taken =
    subst (λ (line : Text). IsTaken c.in_ok-found.found line None c.loop-lines.follower c.in_ok-next.next) c.line-in-loop-lines.ensures
    (subst (λ loaded. IsTaken c.in_ok-found.found c.line-in-loop-lines.result.now loaded c.loop-lines.follower c.in_ok-next.next) c.in_default.is c.in_ok-next.ensures) in
    let more = counts_more (g.R.Source.seen c.args.reader.now) (g.R.Source.seen c.loop-lines.reader) (g.R.Source.seen c.next_line.new.source) c.loop-lines.lines c.next_line.new.self c.loop-lines.follower c.in_ok-next.next
    c.in_ok-found.found (found_on g at.After-take) taken in
    record {
      so_far = loaded_so_far (g.R.Source.seen c.args.reader.now) (g.R.Source.seen c.loop-lines.reader) (g.R.Source.seen c.next_line.new.source) c.loop-lines.lines c.next_line.new.self c.loop-lines.follower c.in_ok-next.next
          c.in_ok-found.found (found_on g at.After-take) taken;
      reads = reads_so_far g at.After-take;
      stops = subst (λ n. StopsAtLine g.R.Source.seen n c.args.reader.now c.next_line.new.source) (sym more) (stops_so_far g at.After-take);
      most = omega (arith, c.in_ok-found.ensures.finds.reads.most, ap (λ (b : ReadingBounds). b.reads) (reads_so_far g at.After-take).bounds);
    }
