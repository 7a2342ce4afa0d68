use Rattle.serde_json.specs.View.{view}
use Rattle.trace_export.proofs.ReadAgain.{may_be_read}
use Rattle.trace_export.proofs.exporting.with_end.Goals as goal

pub returns-clause-read : goal.returns-clause-read
returns-clause-read c =
    may_be_read (view c.args.json.now) c.in_ok-line.line.items c.in_ok-line.ensures.text c.in_ok-line.ensures.utf8 c.in_ok-line.ensures.reads_back
