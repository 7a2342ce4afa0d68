use Rattle.std.proofs.Common.{sym, ap, ◌∙◌, arith}
use Rattle.tenant_ledger.proofs.Words.{same_Some, tree_clock, tree_of, history_in}
use Rattle.tenant_ledger.proofs.clock.Events.{tree_of-nothing}
use Rattle.tenant_ledger.proofs.keeping.Kept.{one_tree, tree_at_event}
use Rattle.tenant_ledger.proofs.book.Book.known.Goals as goal

pub tree_at-requires : goal.tree_at-requires
tree_at-requires g c = (omega (arith, c.if-event-eq0.false), omega (arith, c.requires.event, one_tree c.args.self.now.rows c.args.self.now.trees c.requires.book.trees))

pub returns-then-event-eq0 : goal.returns-then-event-eq0
returns-then-event-eq0 g c =
    let history = history_in c.args.self.now in
    c.requires.start ∙ sym (ap (tree_of tree_clock history) c.if-event-eq0.true ∙ tree_of-nothing tree_clock history)

pub returns-else-event-eq0 : goal.returns-else-event-eq0
returns-else-event-eq0 g c =
    c.tree_value.ensures ∙ same_Some _ _ (sym c.tree_at.ensures ∙ tree_at_event c.args.self.now.rows c.args.self.now.trees c.requires.book.trees c.args.event (omega (arith, c.if-event-eq0.false)) c.requires.event)
