use Rattle.std.proofs.Common.{◌+◌, ◌≤◌, arith, refl}
use Rattle.line_protocol.proofs.Ranges.{slice_range-drop, length-slice_range}
use Rattle.line_protocol.proofs.line_buffer.Buffer.drop_front.Goals as goal

pub returns : goal.returns
returns c =
    let few = rw (← c.self.view_is) at c.requires in
    let within : c.self.inside.start + c.args.count ≤ c.self.inside.end =
    omega (arith, length-slice_range c.self.inside.bytes.items c.self.inside.start c.self.inside.end) in
    rw (← c.self.view_is, slice_range-drop c.self.inside.bytes.items c.self.inside.start c.self.inside.end c.args.count within) refl
