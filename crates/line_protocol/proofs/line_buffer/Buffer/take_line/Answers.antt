use Rattle.std.proofs.Common.{◌+◌, ◌≤◌, arith}
use Rattle.line_protocol.proofs.Ranges.{slice_range-drop, length-slice_range}
use Rattle.line_protocol.proofs.line_buffer.Buffer.take_line.Goals as goal

pub returns-clause-left : goal.returns-clause-left
returns-clause-left c =
    let few = rw (← c.self.view_is) at c.requires in
    let within : c.self.inside.start + (c.args.at + 1) ≤ c.self.inside.end =
    omega (arith, length-slice_range c.self.inside.bytes.items c.self.inside.start c.self.inside.end) in
    rw (← c.self.view_is) (slice_range-drop c.self.inside.bytes.items c.self.inside.start c.self.inside.end (c.args.at + 1) within)
