use Rattle.std.proofs.Common.{sym, subst}
use Rattle.trace_types.specs.text.StampText.{stamp_text}
use Rattle.trace_export.specs.DueLine.{StripsOn}
use Rattle.trace_export.proofs.PlainLines.{strips_some}
use Rattle.trace_export.proofs.line_text.strip_stamp.Goals as goal

pub returns-in-Some : goal.returns-in-Some
returns-in-Some c =
    let stamp = stamp_text c.args.id.now c.args.tree.now in
    subst (λ text. StripsOn text stamp c.strip_parts.result) (sym c.in-Some.is) (strips_some c.in-Some.text stamp c.strip_parts.result c.strip_parts.ensures)
