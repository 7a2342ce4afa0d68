use Rattle.std.proofs.Common.{slice_range}
use Rattle.line_protocol.proofs.EndsLemmas.{IsEnd-position}
use Rattle.line_protocol.proofs.line_buffer.Buffer.end_of_line.Goals as goal

pub returns : goal.returns
returns c =
    rw (c.self.invariant.line_feed, ← c.self.view_is)
    (IsEnd-position (slice_range c.self.inside.bytes.items c.self.inside.start c.self.inside.end))
