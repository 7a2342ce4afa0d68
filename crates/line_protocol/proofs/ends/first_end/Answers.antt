use Rattle.std.proofs.Common.{◌==◌}
use Rattle.line_protocol.proofs.PlaceLemmas.{first_place}
use Rattle.line_protocol.proofs.ends.first_end.Goals as goal

pub returns : goal.returns
returns c = first_place (λ byte. byte == 10) c.args.bytes.now c.memchr_iter.result c.next.new.self c.next.result c.memchr_iter.ensures.value c.next.ensures.steps
