use Rattle.std.proofs.Common.{◌≡◌, suc, ◌+◌, ◌<◌, ◌∷◌, [], ◌++◌, length, map, option_to_list, refl, ap, ◌∙◌, arith}
use Rattle.indexmap.specs.IndexMap.{insert_entry}
use Rattle.tenant_ledger.specs.Making.{Made}
use Rattle.tenant_ledger.specs.Events.{Event}
use Rattle.tenant_ledger.specs.Adding.{messages_after}
use Rattle.tenant_ledger.proofs.Words.{map-append, append_assoc, length-append, length-map, is_same, Contents, with_seed}
use Rattle.tenant_ledger.proofs.keeping.Lists.{seeded-append}
use Rattle.tenant_ledger.proofs.keeping.Tables.{committed}
use Rattle.tenant_ledger.proofs.book.Book.add.Goals as goal

pub returns-clause-book : goal.returns-clause-book
returns-clause-book g c =
    let tree = g.S.Kept.Meant.tree in
    let home = g.S.Keep.home_of in
    let id = g.S.Id.KeptId.id in
    let book = c.self.inside in
    let draft = c.draft.inside in
    let of_made : Made → Event =
    λ made. record { home = made.home; row = draft.row; tree = made.tree; point = made.point; ids = made.ids; acting = draft.acting; named = draft.named } in
    let kept = c.made.inside in
    let made = option_to_list kept.first ++ option_to_list kept.second in
    let seeded = ap (λ (one : Contents). one.kept_ids) c.self.view_is in
    let ids : c.add_some-2.new.items.items ≡ book.ids.items ++ made =
    c.add_some-2.ensures.items ∙ ap (λ ids. ids ++ option_to_list kept.second) c.add_some.ensures.items ∙ append_assoc book.ids.items _ _ in
    let count : length c.add_some-2.new.items.items ≡ length book.ids.items + length (map id made) =
    omega (arith, ap length ids, length-append book.ids.items made, length-map made id) in
    let some : 0 < length book.ids.items = omega (arith, c.requires.seeded, seeded) in
    let number : c.len.result + 1 ≡ suc (length book.rows.items) = omega (arith, c.len.ensures) in
    let limit : book.messages.book.limit ≡ book.limits.messages = c.self.invariant.9 in
    let messages : c.note.new.messages.book.messages ≡ messages_after draft.row.kind draft.row.name draft.acting.start (suc (length book.rows.items)) (record { limit = book.limits.messages; messages = book.messages.book.messages }) =
    c.note.ensures.messages ∙ (λ i. messages_after draft.row.kind draft.row.name draft.acting.start (number i) (record { limit = limit i; messages = book.messages.book.messages })) in
    committed _ (ap of_made c.made.view_is ∙ c.draft.view_is) c.self.view_is refl refl c.push_reserved.ensures.items
    (ap (map tree) c.push_reserved-2.ensures.items ∙ map-append tree book.trees.items (kept.tree ∷ []))
    (ap (map home) c.push_reserved-2.ensures.items ∙ map-append home book.trees.items (kept.tree ∷ []))
    c.push_reserved-3.ensures.items
    c.push_reserved-4.ensures.items
    c.push_reserved-5.ensures.items
    (ap (λ ids. with_seed (map id ids)) ids ∙ seeded-append id book.ids.items made some)
    count
    (c.put.ensures.entries ∙ ap (λ entries. insert_entry is_same entries draft.row.task draft.acting) c.put_some.ensures.entries)
    messages
