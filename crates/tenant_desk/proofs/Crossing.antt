-- What of a desk and its views may go to another thread, type by type, lowest first: a search that goes down through all of
-- them runs out of steps.
use denote.Param.Send.{IsSend, IsSync, sendable}
use Rattle.std.proofs.Crossing.{crosses}
use Rattle.left_right.proofs.reader.Reader.TheSendSync as reader
use Rattle.left_right.proofs.writer.Writer.TheSendSync as writer
use Rattle.logbook.proofs.tokens.Seen.TheSendSync as seen
use Rattle.logbook.proofs.word.Word.TheSendSync as word
use Rattle.tenant_ledger.proofs.book.Book.TheSendSync as book
use Rattle.tenant_ledger.proofs.book.draft.Draft.TheSendSync as draft
use Rattle.trace_types.proofs.limits.Limits.TheSendSync as limits
use Rattle.tree_forest.proofs.tree.Tree.TheSendSync as kept
use Rattle.tenant_ledger.proofs.Crossing.{id_tree_send, id_tree_sync, ev_tree_send, ev_tree_sync, shared_send, shared_sync}
use Rattle.event_tree.specs.contracts.ev_tree.EvTree as EvTree
use Rattle.id_tree.specs.contracts.IdTree as IdTree
use Rattle.event_tree.specs.contracts.point.RaisedPoint as RaisedPoint
use Rattle.tree_forest.specs.contracts.tree.Tree as Tree
use Rattle.tenant_desk.specs.contracts.desk.Desk as Desk
use Rattle.tenant_desk.specs.contracts.row_log.Front as Front
use Rattle.tenant_desk.specs.contracts.learned_lists.Met as Met
use Rattle.tenant_desk.specs.contracts.published.Operation as Operation
use Rattle.tenant_desk.specs.contracts.published.Published as Published
use Rattle.tenant_desk.specs.contracts.publisher.Publisher as Publisher
use Rattle.tenant_desk.specs.contracts.view.View as View

kept_ev_sync : IsSync (Tree.the_row EvTree.the_row)
kept_ev_sync = search (kept.the_sync, sendable, ev_tree_sync) depth 20

kept_id_sync : IsSync (Tree.the_row IdTree.the_row)
kept_id_sync = search (kept.the_sync, sendable, id_tree_sync) depth 20

front_send : IsSend Front.the_row
front_send = search (seen.the_send, sendable, crosses) depth 20

front_sync : IsSync Front.the_row
front_sync = search (seen.the_sync, sendable, crosses) depth 20

deciding_sync : IsSync RaisedPoint.the_row
deciding_sync = search (sendable, crosses) depth 20

published_sync : IsSync Published.the_row
published_sync = search (sendable, crosses, book.the_sync, kept_ev_sync, kept_id_sync, deciding_sync, shared_send, shared_sync, front_sync) depth 20

met_send : IsSend Met.the_row
met_send = search (sendable, crosses) depth 20

pub view_send : IsSend View.the_row
view_send = search (
  sendable,
  crosses,
  reader.the_send,
  published_sync,
  front_send,
  met_send,
  limits.the_send,
  shared_send,
  shared_sync,
) depth 30

kept_ev_send : IsSend (Tree.the_row EvTree.the_row)
kept_ev_send = search (kept.the_send, sendable, ev_tree_send) depth 20

kept_id_send : IsSend (Tree.the_row IdTree.the_row)
kept_id_send = search (kept.the_send, sendable, id_tree_send) depth 20

deciding_send : IsSend RaisedPoint.the_row
deciding_send = search (sendable, crosses) depth 20

published_send : IsSend Published.the_row
published_send = search (sendable, crosses, book.the_send, kept_ev_send, kept_id_send, deciding_send, shared_send, shared_sync, front_send) depth 20

operation_send : IsSend Operation.the_row
operation_send = search (sendable, crosses, draft.the_send, kept_ev_send, kept_id_send, deciding_send, front_send) depth 20

publisher_send : IsSend Publisher.the_row
publisher_send = search (
  sendable,
  crosses,
  writer.the_field_send,
  published_send,
  published_sync,
  operation_send,
  word.the_send,
  front_send,
) depth 20

pub desk_send : IsSend Desk.the_row
desk_send = search (
  sendable,
  crosses,
  shared_send,
  shared_sync,
  publisher_send,
  ev_tree_send,
  kept_id_send,
) depth 20
