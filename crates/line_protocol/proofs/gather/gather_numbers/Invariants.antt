use Rattle.std.proofs.Common.{◌≤◌, length, take, Ok}
use Rattle.trace_types.specs.text.Text.{numbers_text}
use Rattle.line_protocol.specs.declared.reply.WriteFault.{WriteFault}
use Rattle.line_protocol.specs.Writing.{Gathers, TriesToWrite}
use Rattle.line_protocol.proofs.gather.gather_numbers.Given as goal

abbrev pub invariant-loop-number : goal.invariant-loop-number
invariant-loop-number g l = record {
  gathered : Gathers (g.W.Sink.seen l.fn.writer).bytes (g.W.Sink.seen l.writer).bytes l.fn.text l.text (numbers_text (take l.number-index l.numbers));
  room : length l.text ≤ 127;
  tries : TriesToWrite {A = Unit {0}} {E = WriteFault} (g.W.Sink.seen l.fn.writer) (g.W.Sink.seen l.writer) l.fn.patience l.patience (Ok tt);
}
