use Rattle.std.proofs.Common.{◌≡◌, ◌<◌, Some, length, sym, ap, ◌∙◌, arith}
use Rattle.message_book.specs.Book.{Sent}
use Rattle.message_book.specs.Chains.{is_chained, receipts_in}
use Rattle.message_book.proofs.Chains.{has_many}
use Rattle.message_book.proofs.entry.Entry.receipts.Goals as goal

pub returns-in_err-resize-in-Some-2-clause-few : goal.returns-in_err-resize-in-Some-2-clause-few
returns-in_err-resize-in-Some-2-clause-few g c = λ short.
    let same = g.T.PartialEq.eq in
    let later = c.self.inside.later.now in
    let first = c.in-Some.first in
    let many : 1 < length (receipts_in later (Some first)) = has_many same later first (ap (is_chained same later) (sym c.in-Some.is) ∙ c.self.invariant) c.if-first-eq0.false in
    let are : receipts_in later (Some first) ≡ c.args.self.now.receipts = ap (receipts_in later) (sym c.in-Some.is) ∙ ap (λ (entry : Sent _). entry.receipts) c.self.view_is in
    absurd (omega (arith, short, many, ap length are))
