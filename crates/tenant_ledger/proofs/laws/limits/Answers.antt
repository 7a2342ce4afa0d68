use Rattle.tenant_ledger.proofs.size.Limits.{are_within_limits}
use Rattle.tenant_ledger.proofs.laws.limits.Goals as goal

pub returns : goal.returns
returns c = are_within_limits
