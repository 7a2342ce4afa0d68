use Rattle.std.proofs.Common.{rules, ◌≡◌, false, inl, refl, append-nil, sym, []}
use Rattle.line_protocol.specs.Ends.{HasNoEnd}
use Rattle.line_protocol.proofs.LineReadingLemmas.{Comes-more, Reads-more, Reads-none, ReadsForLine-read}
use Rattle.line_protocol.proofs.line_buffer.Buffer.find_end.Goals as goal

pub loop-self-init : goal.loop-self-init
loop-self-init g c = record {
  comes = record { gave = []; grows = sym (append-nil _); adds = sym (append-nil _) };
  reads = Reads-none _ _;
  last = inl refl;
  at_end = λ ended. (refl, refl);
}

pub loop-self-preserved : goal.loop-self-preserved
loop-self-preserved g c =
    let no_end : HasNoEnd c.loop-self.self.left = search rules in
    let goes_on : c.loop-self.self.is_ended ≡ false = search rules in
    let unended : c.args.self.now.is_ended ≡ false = search rules in
    record {
      comes = Comes-more c.loop-self.invariant.comes c.in_ok-read_more.ensures.comes;
      reads = Reads-more {failed = 0} c.loop-self.invariant.reads goes_on c.in_ok-read_more.ensures.reads.reads;
      last =
          ReadsForLine-read g.R.Source.seen c.args.source.now c.loop-self.source c.read_more.new.source c.loop-self.invariant.comes no_end unended
          c.in_ok-read_more.ensures.last;
      at_end = λ ended. absurd (cc);
    }
