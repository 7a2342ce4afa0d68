use Rattle.std.proofs.Common.{◌≡◌, ℕ, ◌&&◌, not, List, get_or, slice_get, Some, ap, ◌∙◌}
use Rattle.std.proofs.lemmas.Option.{get_or_from_slice_get}
use Rattle.message_book.specs.Chains.{Kept, has_key, is_same_receipt}
use Rattle.message_book.specs.declared.message.Later.{Later}
use Rattle.message_book.proofs.Chains.{without_key}
use Rattle.message_book.proofs.others.Others.forget.Goals as goal

-- what was read is the receipt that stands there
read : {T : Type 0} (items later : List (Later T)) (place : ℕ) (got one : Later T) → items ≡ later → got ≡ get_or items place got → slice_get later place ≡ Some one → got ≡ one
read items later place got one same is there = is ∙ get_or_from_slice_get items place one got (ap (λ list. slice_get list place) same ∙ there)

pub returns-clause-before : goal.returns-clause-before
returns-clause-before g c = λ one there.
    let later = ap (λ (kept : Kept _). kept.later) c.self.view_is in
    ap (λ (got : Later _). got.before) (read c.self.inside.later.items c.args.self.now.later c.args.newest c.index-one.result.now one later c.index-one.ensures there)

pub returns-clause-keys : goal.returns-clause-keys
returns-clause-keys g c = λ one there task at.
    let same = g.T.PartialEq.eq in
    let later = ap (λ (kept : Kept _). kept.later) c.self.view_is in
    let is = read c.self.inside.later.items c.args.self.now.later c.args.newest c.index-one.result.now one later c.index-one.ensures there in
    c.swap_remove.ensures.updates.0 (task, at)
    ∙ without_key (is_same_receipt same (c.index-one.result.now.task, c.args.place) (task, at)) (has_key same c.self.inside.receivers.keys (task, at))
    ∙ (λ i. not (is_same_receipt same ((is i).task, c.args.place) (task, at)) && has_key same (c.self.view_is i).keys (task, at))
