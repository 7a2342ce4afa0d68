use Rattle.std.proofs.Common.{◌≡◌, suc, ◌-◌, length, set, Some, slice_get, refl, sym, subst, arith}
use Rattle.std.proofs.lemmas.Option.{slice_get_read}
use Rattle.message_book.specs.Chains.{follow}
use Rattle.message_book.proofs.Chains.{IsFilled, events_of, fills_on, in_list}
use Rattle.message_book.proofs.entry.fill.Goals as goal

pub loop-left-preserved : goal.loop-left-preserved
loop-left-preserved g c =
    let same = g.T.PartialEq.eq in
    let later = c.args.later.now in
    let count = length c.args.events.now in
    let all = events_of same later (follow later (count - 1) c.args.newest) in
    let events = c.loop-left.events in
    let left = c.loop-left.left in
    let one = c.index-later-place.result in
    let whole : left ≡ suc (left - 1) = omega arith in
    let filled : IsFilled same later all (suc (left - 1)) c.loop-left.place events count = subst (λ n. IsFilled same later all n c.loop-left.place events count) whole c.loop-left.invariant in
    let there : slice_get later c.loop-left.place ≡ Some one = slice_get_read later (length later) c.loop-left.place one refl (in_list same later filled) c.index-later-place.is in
    subst (λ event. IsFilled same later all (left - 1) one.before (set events left event) count) (sym c.from.ensures)
    (subst (λ n. IsFilled same later all (left - 1) one.before (set events n one.event) count) (sym whole) (fills_on same later filled one there))
