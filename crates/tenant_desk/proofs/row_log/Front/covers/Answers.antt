use Rattle.std.proofs.Common.{ap, subst, List, refl}
use mathlib.Core.List.{IsPrefix}
use Rattle.tenant_desk.specs.Histories.{rows_in}
use Rattle.tenant_desk.specs.declared.row_log.Entry.{Entry}
use Rattle.tenant_desk.proofs.Beginnings.{longer_begins}
use Rattle.tenant_desk.proofs.Entries.{rows_begin}
use Rattle.tenant_desk.proofs.row_log.Front.covers.Goals as goal

pub returns : goal.returns
returns c =
    let own = c.self.inside.seen.log in
    let others = c.other.inside.seen.log in
    let both = c.learn.new.self.log in
    let begins : IsPrefix own both = subst (λ (entries : List Entry). IsPrefix entries both) (ap (λ seen. seen.log) c.again-both.ensures) c.learn.ensures.2 in
    rw (← c.self.view_is, ← c.other.view_is, c.self.invariant.0, c.other.invariant.0)
    (longer_begins (rows_in own) (rows_in others) (rows_in both) (rows_begin own both begins) (rows_begin others both c.learn.ensures.3) _ refl)
