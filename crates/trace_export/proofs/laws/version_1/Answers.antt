use Rattle.trace_export.proofs.Headings.{version_1, version_1-right}
use Rattle.trace_export.proofs.laws.version_1.Goals as goal

pub returns-clause-same : goal.returns-clause-same
returns-clause-same c = version_1

pub returns-clause-right : goal.returns-clause-right
returns-clause-right c = version_1-right
