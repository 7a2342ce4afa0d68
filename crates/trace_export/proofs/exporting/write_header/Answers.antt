use Rattle.serde_json.specs.View.{view}
use Rattle.trace_export.proofs.ReadAgain.{is_header_again}
use Rattle.trace_export.proofs.exporting.write_header.Goals as goal

pub returns-clause-headed : goal.returns-clause-headed
returns-clause-headed g c = is_header_again (view c.in_ok-json.json) c.args.header.now c.in_ok-json.ensures c.in_ok-line.ensures.read
