use Rattle.tenant_ledger.proofs.Words.{history_of}
use Rattle.tenant_ledger.proofs.clock.Consequences.{maximum_of-le}
use Rattle.tenant_ledger.proofs.clock.Legality.{IsLegal_from_AreLegal}
use Rattle.tenant_ledger.proofs.laws.greatest_value.Goals as goal

pub returns : goal.returns
returns c = λ limits rows legal. maximum_of-le (history_of rows) (IsLegal_from_AreLegal limits rows legal)
