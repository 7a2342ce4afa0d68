use Rattle.std.proofs.Common.{ap, ◌∙◌}
use Rattle.trace_types.specs.tenant.Tenant.{is_report}
use Rattle.trace_export.proofs.PlainLines.{request_is_report}
use Rattle.trace_export.proofs.line_text.hinted_report.Goals as goal

pub returns : goal.returns
returns c = ap is_report c.request_for.ensures ∙ request_is_report _ _ _
