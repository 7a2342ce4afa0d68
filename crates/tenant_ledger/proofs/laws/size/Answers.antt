use Rattle.tenant_ledger.proofs.size.Counts.{are_sized}
use Rattle.tenant_ledger.proofs.laws.size.Goals as goal

pub returns : goal.returns
returns c = are_sized
