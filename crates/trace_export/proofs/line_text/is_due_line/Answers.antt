use Rattle.trace_types.specs.text.StampText.{stamp_text}
use Rattle.trace_export.specs.DueLine.{due_text}
use Rattle.trace_export.proofs.PlainLines.{due_is_read, due_line_is, is_other, is_whole}
use Rattle.trace_export.proofs.line_text.is_due_line.Goals as goal

pub returns-in-Some : goal.returns-in-Some
returns-in-Some c = record {
  is = rw (due_line_is c.args.number c.args.row.now c.args.id.now c.args.tree.now c.is_spelled.ensures)
      (is_whole c.args.line.now (due_text c.args.number c.args.row.now (stamp_text c.args.id.now c.args.tree.now)) _ c.is_empty.result c.in-Some.ensures c.is_empty.ensures);
  read = due_is_read c.args.number c.args.row.now c.args.id.now c.args.tree.now c.is_spelled.ensures;
}

pub returns-in-None : goal.returns-in-None
returns-in-None c = record {
  is = rw (due_line_is c.args.number c.args.row.now c.args.id.now c.args.tree.now c.is_spelled.ensures)
      (is_other c.args.line.now (due_text c.args.number c.args.row.now (stamp_text c.args.id.now c.args.tree.now)) c.in-None.ensures);
  read = due_is_read c.args.number c.args.row.now c.args.id.now c.args.tree.now c.is_spelled.ensures;
}
