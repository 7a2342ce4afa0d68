use Rattle.std.proofs.Common.{◌≡◌, ◌+◌, ◌∙◌, suc, List, ap, arith}
use Rattle.trace_types.specs.tenant.Rows.{history_of}
use Rattle.trace_types.specs.declared.row.Row.{Row}
use Rattle.trace_export.specs.Edges.{listed_preds}
use Rattle.trace_export.specs.Following.{placing_of}
use Rattle.trace_export.proofs.ListedRows.{placed_is}
use Rattle.trace_export.proofs.placed.placed_in.Goals as goal

pub returns : goal.returns
returns c =
    let at : c.args.place + 1 ≡ suc c.args.place = omega arith in
    placed_is c.args.ledger.now.rows c.args.place (c.args.place + 1) c.preds_in-preds.result c.in_ok-tree.tree c.requires at
    (c.preds_in-preds.ensures ∙ ap (λ (rows : List Row). listed_preds (placing_of (history_of rows)) (suc c.args.place)) c.rows.ensures.rows)
    (c.in_ok-tree.ensures.exact ∙ c.in-Some.ensures.tree)
