use Rattle.tenant_ledger.proofs.Words.{history_of}
use Rattle.tenant_ledger.proofs.clock.Legality.{IsLegal_from_AreLegal}
use Rattle.tenant_ledger.proofs.clock.Consequences.{decides_reach}
use Rattle.tenant_ledger.proofs.laws.private_point.Goals as goal

pub returns : goal.returns
returns c = λ limits rows legal. decides_reach (history_of rows) (IsLegal_from_AreLegal limits rows legal)
