use Rattle.std.proofs.Common.{◌≡◌, ℕ, Vec, Global, inl, inr, length, arith}
use Rattle.std.proofs.lemmas.List.{length-map}
use Rattle.trace_export.specs.Graph.{rows_of}
use Rattle.trace_export.proofs.Chaining.{reaching_closed}
use Rattle.trace_export.proofs.Ordering.{not_ordered_next, ordered_next}
use Rattle.trace_export.proofs.graph.Graph.is_ordered.Goals as goal
use Rattle.trace_export.proofs.graph.Graph.is_ordered.Goals.{Start}

-- there is a row of bits for each event
all_rows : (c : Start) → length (rows_of c.args.self.now) ≡ length c.args.self.now.placed.items
all_rows c = omega (arith, length-map c.args.self.now.reaching.items (λ (row : Vec ℕ Global). row.items), c.requires.graph.whole)

pub is_apart_from_all-requires-clause-closed : goal.is_apart_from_all-requires-clause-closed
is_apart_from_all-requires-clause-closed c = reaching_closed c.args.self.now.placed.items c.args.placed.now c.requires.graph.lines.back c.args.reaching.now c.requires.reaching

pub returns-then-not-is_above_all-clause-refuted : goal.returns-then-not-is_above_all-clause-refuted
returns-then-not-is_above_all-clause-refuted c = λ _.
    let at = goal.at.returns-then-not-is_above_all-clause-refuted c in
    not_ordered_next c.args.self.now.placed.items (rows_of c.args.self.now) c.args.self.now.followed.items c.requires.graph.lines (all_rows at.Start) c.args.placed.now c.requires.preds c.args.reaching.now c.requires.reaching
    (inl (c.is_above_all.ensures.refuted c.if-not-is_above_all.true))

pub returns-clause-ordered : goal.returns-clause-ordered
returns-clause-ordered c = λ yes.
    let at = goal.at.returns-clause-ordered c in
    ordered_next c.args.self.now.placed.items (rows_of c.args.self.now) c.args.self.now.followed.items c.requires.graph.lines (all_rows at.Start) c.args.placed.now c.requires.preds c.args.reaching.now c.requires.reaching
    (record { above = c.is_above_all.ensures.above c.if-not-is_above_all.false; apart = c.is_apart_from_all.ensures.apart yes })

pub returns-clause-refuted : goal.returns-clause-refuted
returns-clause-refuted c = λ no_order.
    let at = goal.at.returns-clause-refuted c in
    not_ordered_next c.args.self.now.placed.items (rows_of c.args.self.now) c.args.self.now.followed.items c.requires.graph.lines (all_rows at.Start) c.args.placed.now c.requires.preds c.args.reaching.now c.requires.reaching
    (inr (c.is_apart_from_all.ensures.refuted no_order))
