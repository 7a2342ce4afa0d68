use Rattle.std.proofs.Common.{refl, arith, append-nil, sym, []}
use Rattle.line_protocol.proofs.LineReadingLemmas.{Comes-none, Reads-none}
use Rattle.line_protocol.proofs.line_buffer.Buffer.read_more.Goals as goal

pub loop-self-init : goal.loop-self-init
loop-self-init g c = record {
  comes = record { gave = []; grows = sym (append-nil _); adds = sym (append-nil _) };
  same = refl;
  goes_on = c.requires.open;
  more = omega arith;
  reads = Reads-none _ _;
}

pub returns-in-Ok-clause-last : goal.returns-in-Ok-clause-last
returns-in-Ok-clause-last g c = record {
  earlier = c.loop-self.source;
  held = Comes-none c.loop-self.invariant.comes c.loop-self.invariant.same;
  once = c.in-Ok.ensures.read.reads;
}
