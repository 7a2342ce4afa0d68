use Rattle.tenant_ledger.proofs.Words.{history_of}
use Rattle.tenant_ledger.proofs.clock.Legality.{IsLegal_from_AreLegal}
use Rattle.tenant_ledger.proofs.clock.Consequences.{stands_as_ordered}
use Rattle.tenant_ledger.proofs.laws.clock.Goals as goal

pub returns : goal.returns
returns c = λ limits rows legal. stands_as_ordered (history_of rows) (IsLegal_from_AreLegal limits rows legal)
