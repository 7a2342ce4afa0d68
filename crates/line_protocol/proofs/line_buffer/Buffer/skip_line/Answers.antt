use Rattle.std.proofs.Common.{Err, ◌≡◌, ◌+◌, false, List, ℕ, length-drop, subst, ap, sym, arith, ◌∙◌, append-nil, []}
use Rattle.line_protocol.specs.Held.{Held}
use Rattle.line_protocol.specs.Ends.{Skipped}
use Rattle.line_protocol.specs.LineReading.{Reads}
use Rattle.line_protocol.specs.Source.{Given, LastRead}
use Rattle.line_protocol.proofs.LineReadingLemmas.{LastRead-map, Reads-none, Reads-dropped, Reads-more, ReadsUntil-more, ReadsUntil-fault}
use Rattle.line_protocol.proofs.SkipLemmas.{Skipped-more, Skips-at}
use Rattle.line_protocol.proofs.line_buffer.Buffer.skip_line.Given.{Over}
use Rattle.line_protocol.proofs.line_buffer.Buffer.skip_line.Goals as goal
use Rattle.line_protocol.proofs.line_buffer.Buffer.skip_line.Goals.{After-read_more}

-- the reads so far, with what was left thrown away
so_far : (g : Over) (c : After-read_more g) → Reads (g.R.Source.seen c.args.source.now) (g.R.Source.seen c.loop-self.source) c.args.self.now c.drop_left.new.self 0
so_far g c = Reads-dropped c.loop-self.invariant.reads c.drop_left.ensures (omega arith)

goes_on : (g : Over) (c : After-read_more g) → c.drop_left.new.self.is_ended ≡ false
goes_on g c =
    ap (λ (held : Held). held.is_ended) c.drop_left.ensures ∙ (ap (λ (held : Held). held.is_ended) (sym c.self.view_is) ∙ c.loop-self-test.true)

-- the read that was made began where the line was skipped so far
read_on : {R : Type 0} {seen : R → Given} {source : R} {start given : List ℕ} → LastRead seen source (λ before. before ≡ given) → Skipped start given → LastRead seen source (Skipped start)
read_on {start = start} last skipped = LastRead-map last (λ before same. subst (Skipped start) (sym same) skipped)

pub loop-self-init : goal.loop-self-init
loop-self-init g c = record {
  skipped = record { skipped = []; no_end = tt; grows = sym (append-nil _) };
  last = λ ended. absurd (cc);
  more = omega arith;
  reads = Reads-none _ _;
}

pub returns-in-Some-clause-skips : goal.returns-in-Some-clause-skips
returns-in-Some-clause-skips g c =
    Skips-at _ _ _ _ _ _ _ _ c.loop-self.invariant.skipped c.in_ok-read_more.ensures.comes (ap (λ held. held.left) c.drop_left.ensures)
    c.in-Some.ensures (ap (λ held. held.left) c.drop_front.ensures)

pub returns-in-Some-clause-last : goal.returns-in-Some-clause-last
returns-in-Some-clause-last g c = read_on c.in_ok-read_more.ensures.last c.loop-self.invariant.skipped

pub returns-clause-last : goal.returns-clause-last
returns-clause-last g c = c.loop-self.invariant.last (ap (λ (held : Held). held.is_ended) (sym c.self.view_is) ∙ c.loop-self-test.false)

pub returns-in-Some-clause-reads : goal.returns-in-Some-clause-reads
returns-in-Some-clause-reads g c =
    let at = (goal.at.returns-in-Some-clause-reads g c).After-read_more in
    let reads = c.in_ok-read_more.ensures.reads in
    record {
      reads =
          Reads-dropped {failed = 0} (Reads-more {failed = 0} (so_far g at) (goes_on g at) reads.reads) c.drop_front.ensures
          (omega (arith, length-drop (c.in-Some.at + 1) c.read_more.new.self.left));
      most = rw c.drop_front.ensures reads.most;
      too_long = tt;
    }

pub returns-in_err-read_more-clause-reads : goal.returns-in_err-read_more-clause-reads
returns-in_err-read_more-clause-reads g c =
    let at = (goal.at.returns-in_err-read_more-clause-reads g c).After-read_more in
    ReadsUntil-fault _ _ c.from_residual.ensures.1 (ReadsUntil-more {result = Err c.in_err-read_more.field-0.0} (so_far g at) (goes_on g at) c.in_err-read_more.ensures.reads)

pub loop-self-preserved : goal.loop-self-preserved
loop-self-preserved g c =
    let at = (goal.at.loop-self-preserved g c).After-read_more in
    record {
      skipped =
          Skipped-more _ _ _ _ _ c.loop-self.invariant.skipped c.in_ok-read_more.ensures.comes (ap (λ held. held.left) c.drop_left.ensures)
          c.in_default.ensures;
      last = λ _. read_on c.in_ok-read_more.ensures.last c.loop-self.invariant.skipped;
      more = omega (arith, c.in_ok-read_more.ensures.progress, c.loop-self.invariant.more, ap (λ (held : Held). held.reads) c.drop_left.ensures);
      reads = Reads-more {failed = 0} (so_far g at) (goes_on g at) c.in_ok-read_more.ensures.reads.reads;
    }
