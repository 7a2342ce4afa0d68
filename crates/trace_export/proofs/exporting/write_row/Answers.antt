use Rattle.std.proofs.Common.{subst}
use Rattle.trace_types.specs.text.Name.{Text}
use Rattle.trace_export.specs.Export.{listed_row}
use Rattle.trace_export.specs.Listing.{IsReadAgain}
use Rattle.trace_export.proofs.exporting.write_row.Goals as goal

pub returns-clause-read : goal.returns-clause-read
returns-clause-read g c =
    subst (λ (stamp : Text). IsReadAgain (listed_row c.args.event c.args.row.now stamp)) c.in_ok-stamp.ensures.text c.in_ok-line.ensures.read
