-- What a ledger shares with others may go to other threads, type by type, lowest first: a search that goes down through all
-- of them runs out of steps.
use denote.Param.Send.{IsSend, IsSync, sendable}
use Rattle.std.proofs.Crossing.{crosses}
use Rattle.id_tree.proofs.id_tree.IdTree.TheLaws.TheKnot as ids
use Rattle.event_tree.proofs.ev_tree.EvTree.TheLaws.TheKnot as trees
use Rattle.tree_forest.proofs.forest.Forest.TheSendSync as forest
use Rattle.order_cache.proofs.cache.OrderCache.TheSendSync as cache
use Rattle.id_tree.specs.contracts.IdTree as IdTree
use Rattle.event_tree.specs.contracts.ev_tree.EvTree as EvTree
use Rattle.tenant_ledger.specs.contracts.shared.Shared as Shared

pub id_tree_send : IsSend IdTree.the_row
id_tree_send = search (ids.crosses, sendable, crosses) depth 20

pub id_tree_sync : IsSync IdTree.the_row
id_tree_sync = search (ids.crosses, sendable, crosses) depth 20

pub ev_tree_send : IsSend EvTree.the_row
ev_tree_send = search (trees.crosses, sendable, crosses) depth 20

pub ev_tree_sync : IsSync EvTree.the_row
ev_tree_sync = search (trees.crosses, sendable, crosses) depth 20

pub shared_send : IsSend Shared.the_row
shared_send = search (sendable, forest.the_send, cache.the_send, id_tree_send, id_tree_sync, ev_tree_send, ev_tree_sync) depth 20

pub shared_sync : IsSync Shared.the_row
shared_sync = search (sendable, forest.the_sync, cache.the_sync, id_tree_send, id_tree_sync, ev_tree_send, ev_tree_sync) depth 20
