use Rattle.std.proofs.Common.{◌∙◌, ap}
use Rattle.serde_json.specs.View.{view}
use Rattle.trace_export.specs.Export.{listed_row}
use Rattle.trace_export.specs.Listing.{listed_json}
use Rattle.trace_export.proofs.ReadAgain.{is_read_again}
use Rattle.trace_export.proofs.WrittenRows.{line_is}
use Rattle.trace_export.proofs.exporting.line_of.Goals as goal

pub returns-clause-exact : goal.returns-clause-exact
returns-clause-exact c =
    line_is (view c.in_ok-json.json) (listed_row c.args.event c.args.row.now c.args.stamp.items) c.in_ok-line.line.items
    (c.in_ok-json.ensures ∙ ap (λ stamp. listed_json (listed_row c.args.event c.args.row.now stamp.items)) c.in-Ok.ensures.ok)
    c.in_ok-line.ensures.line

pub returns-clause-read : goal.returns-clause-read
returns-clause-read c =
    is_read_again (view c.in_ok-json.json) (listed_row c.args.event c.args.row.now c.args.stamp.items)
    (c.in_ok-json.ensures ∙ ap (λ stamp. listed_json (listed_row c.args.event c.args.row.now stamp.items)) c.in-Ok.ensures.ok)
    c.in_ok-line.ensures.read
