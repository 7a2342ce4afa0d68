use Rattle.tenant_ledger.proofs.size.Nesting.{nesting_within_spawns, nesting-le}
use Rattle.tenant_ledger.proofs.laws.nesting.Goals as goal

pub returns-clause-spawns : goal.returns-clause-spawns
returns-clause-spawns c = nesting_within_spawns

pub returns-clause-greatest : goal.returns-clause-greatest
returns-clause-greatest c = nesting-le
