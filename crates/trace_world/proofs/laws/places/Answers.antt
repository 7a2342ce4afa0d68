use Rattle.trace_types.proofs.Distinct.{stands_where_found}
use Rattle.trace_world.proofs.laws.places.Goals as goal

pub returns : goal.returns
returns c name place = stands_where_found c.args.world.now.names c.law.ensures.world.names name place
