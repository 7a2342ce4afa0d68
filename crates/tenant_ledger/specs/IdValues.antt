-- What stands for an id while it is used.
use Rattle.trace_types.specs.clock.Id.{Id}
use Rattle.tenant_ledger.specs.declared.share.IdValue.{IdValue}
use Rattle.tenant_ledger.specs.declared.share.IdValue.TheVariants.{Lent, Made}

-- the id that is lent, or was made
abbrev pub id_of : IdValue → Id
id_of (Lent id) = id.now
id_of (Made id) = id
