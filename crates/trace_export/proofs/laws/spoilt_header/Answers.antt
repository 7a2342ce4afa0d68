use Rattle.trace_export.proofs.Headings.{spoilt_header}
use Rattle.trace_export.proofs.laws.spoilt_header.Goals as goal

pub returns : goal.returns
returns c = spoilt_header
