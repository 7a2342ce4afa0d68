use Rattle.event_tree.proofs.Joined.{is_published_join}
use Rattle.event_tree.proofs.Grown.{is_published_grow}
use Rattle.event_tree.proofs.Events.{is_published_event}
use Rattle.event_tree.proofs.laws.tables.Goals as goal

pub returns : goal.returns
returns c = record { join = is_published_join; grow = is_published_grow; event = is_published_event }
