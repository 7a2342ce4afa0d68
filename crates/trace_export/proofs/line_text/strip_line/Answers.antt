use Rattle.std.proofs.Common.{Some, [], refl, ap, subst, false, ◌∙◌}
use Rattle.std.specs.Fmt.{decimal}
use Rattle.serde_json.specs.Written.{items_text}
use Rattle.trace_types.specs.text.Name.{Text}
use Rattle.trace_types.specs.text.StampText.{stamp_text}
use Rattle.trace_types.specs.text.Text.{kind_text, name_text}
use Rattle.trace_export.specs.DueLine.{Strips, StripsOn}
use Rattle.trace_export.specs.Listing.{numbers_json}
use Rattle.trace_export.proofs.PlainLines.{pieces, strips_both}
use Rattle.trace_export.proofs.line_text.strip_line.Goals as goal

pub returns : goal.returns
returns c =
    let row = c.args.row.now in
    let event = decimal c.args.number in
    let stamp = stamp_text c.args.id.now c.args.tree.now in
    let name = c.name_word-name.result.now in
    let preds = items_text false (numbers_json c.as_slice-preds.result.now) in
    let task = c.as_bytes-task.result.now in
    let found : StripsOn (Some c.args.line) (pieces event c.as_bytes.result.now name preds stamp task) c.strip.result =
    strips_both (strips_both (strips_both (strips_both (strips_both (strips_both (strips_both (strips_both (strips_both (strips_both (strips_both (strips_both c.strip-rest.ensures c.strip_number-rest.ensures) c.strip-rest-2.ensures)
    c.strip-rest-3.ensures) c.strip-rest-4.ensures) c.strip-rest-5.ensures) c.strip-rest-6.ensures) c.strip_preds-rest.ensures) c.strip-rest-7.ensures) c.strip_stamp-rest.ensures) c.strip-rest-8.ensures)
    c.strip-rest-9.ensures) c.strip.ensures in
    subst (λ (spelled : Text). Strips c.args.line.now spelled c.strip.result)
    (ap (λ word. pieces event word name preds stamp task) (c.as_bytes.ensures.value ∙ c.text.ensures.text)
    ∙ ap (λ word. pieces event (kind_text row.kind) word preds stamp task) c.name_word-name.ensures.text
    ∙ ap (λ numbers. pieces event (kind_text row.kind) (name_text row.name) (items_text false (numbers_json numbers)) stamp task) c.as_slice-preds.ensures.events
    ∙ ap (λ word. pieces event (kind_text row.kind) (name_text row.name) (items_text false (numbers_json row.preds)) stamp word) c.as_bytes-task.ensures.text)
    (found.behind c.args.line.now [] refl)
