use Rattle.std.proofs.Common.{sym}
use Rattle.tenant_ledger.proofs.keeping.Refused.{query_steps}
use Rattle.tenant_ledger.proofs.ledger.Ledger.report.Goals as goal

pub returns-then-not-is_report-clause-steps : goal.returns-then-not-is_report-clause-steps
returns-then-not-is_report-clause-steps g c = query_steps c.args.self.now c.args.request.now c.answer.result (sym c.if-not-is_report.ensures) c.answer.ensures.answer
