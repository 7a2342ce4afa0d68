use denote.Param.Send.{sendable}
use Rattle.std.proofs.Crossing.{crosses}
use Rattle.trace_session.proofs.Crossing.{hub_sync}
use Rattle.trace_session.proofs.serving.serve.Goals as goal

pub serve_in_scope-sessions-requires-sync-H : goal.serve_in_scope-sessions-requires-sync-H
serve_in_scope-sessions-requires-sync-H g c κs within = search (sendable, crosses, hub_sync) depth 20
