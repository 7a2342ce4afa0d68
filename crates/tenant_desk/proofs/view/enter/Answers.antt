use Rattle.tenant_desk.proofs.Steps.{looks}
use Rattle.tenant_desk.proofs.view.enter.Goals as goal

pub enter_as-requires : goal.enter_as-requires
enter_as-requires c x = looks _ _ x
