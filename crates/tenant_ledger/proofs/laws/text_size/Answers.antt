use Rattle.tenant_ledger.proofs.size.StampTexts.{parts_within_spawns, stamp_text_within_spawns, stamp_text-le}
use Rattle.tenant_ledger.proofs.laws.text_size.Goals as goal

pub returns-clause-spawns : goal.returns-clause-spawns
returns-clause-spawns c = stamp_text_within_spawns

pub returns-clause-parts : goal.returns-clause-parts
returns-clause-parts c = parts_within_spawns

pub returns-clause-greatest : goal.returns-clause-greatest
returns-clause-greatest c = stamp_text-le
