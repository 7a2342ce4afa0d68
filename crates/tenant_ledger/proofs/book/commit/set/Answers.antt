use Rattle.std.proofs.Common.{sym}
use Rattle.std.specs.Cmp.Lexicographic.{nat_list_eq_equiv}
use Rattle.indexmap.proofs.MapLemmas.{insert_entry-first}
use Rattle.indexmap.proofs.RemoveLemmas.{own_first}
use Rattle.tenant_ledger.proofs.Words.{false≢true, is_same, slice_get_within}
use Rattle.tenant_ledger.proofs.book.commit.set.Goals as goal

pub returns-in-Some-clause-entries : goal.returns-in-Some-clause-entries
returns-in-Some-clause-entries g c name before has =
    let entries = c.args.map.now.entries in
    sym (insert_entry-first is_same name c.args.value entries c.args.place (own_first is_same nat_list_eq_equiv entries c.args.place name before c.in-Some.ensures.unique has))

pub returns-in_default-clause-entries : goal.returns-in_default-clause-entries
returns-in_default-clause-entries g c name before has =
    absurd (false≢true (c.in_default.ensures.found.1 (slice_get_within c.args.map.now.entries c.args.place _ has)))
