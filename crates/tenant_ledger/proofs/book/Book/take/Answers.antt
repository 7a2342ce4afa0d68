use Rattle.std.proofs.Common.{subst}
use Rattle.tenant_ledger.proofs.Words.{Deed, IsReport}
use Rattle.tenant_ledger.proofs.keeping.Drafted.{taken_as}
use Rattle.tenant_ledger.proofs.book.Book.take.Goals as goal

pub take_local-requires-clause-report : goal.take_local-requires-clause-report
take_local-requires-clause-report g c = subst (λ (deed : Deed). IsReport c.args.self.now (record c.in-Ok.report { deed = deed })) c.in-Local.is c.in-Ok.ensures.report

pub returns-in-Local : goal.returns-in-Local
returns-in-Local g c =
    taken_as c.args.self.now c.args.request.now c.in-Ok.report c.in-Ok.ensures.answer c.in-Ok.ensures.refused c.requires.report _ c.in-Local.is
    c.take_local.result c.take_local.new.self c.take_local.ensures

pub take_spawn-requires-clause-report : goal.take_spawn-requires-clause-report
take_spawn-requires-clause-report g c = subst (λ (deed : Deed). IsReport c.args.self.now (record c.in-Ok.report { deed = deed })) c.in-Spawn.is c.in-Ok.ensures.report

pub returns-in-Spawn : goal.returns-in-Spawn
returns-in-Spawn g c =
    taken_as c.args.self.now c.args.request.now c.in-Ok.report c.in-Ok.ensures.answer c.in-Ok.ensures.refused c.requires.report _ c.in-Spawn.is
    c.take_spawn.result c.take_spawn.new.self c.take_spawn.ensures

pub take_send-requires-clause-report : goal.take_send-requires-clause-report
take_send-requires-clause-report g c = subst (λ (deed : Deed). IsReport c.args.self.now (record c.in-Ok.report { deed = deed })) c.in-Send.is c.in-Ok.ensures.report

pub returns-in-Send : goal.returns-in-Send
returns-in-Send g c =
    taken_as c.args.self.now c.args.request.now c.in-Ok.report c.in-Ok.ensures.answer c.in-Ok.ensures.refused c.requires.report _ c.in-Send.is
    c.take_send.result c.take_send.new.self c.take_send.ensures

pub take_recv-requires-clause-report : goal.take_recv-requires-clause-report
take_recv-requires-clause-report g c = subst (λ (deed : Deed). IsReport c.args.self.now (record c.in-Ok.report { deed = deed })) c.in-Recv.is c.in-Ok.ensures.report

pub returns-in-Recv : goal.returns-in-Recv
returns-in-Recv g c =
    taken_as c.args.self.now c.args.request.now c.in-Ok.report c.in-Ok.ensures.answer c.in-Ok.ensures.refused c.requires.report _ c.in-Recv.is
    c.take_recv.result c.take_recv.new.self c.take_recv.ensures

pub take_end-requires-clause-report : goal.take_end-requires-clause-report
take_end-requires-clause-report g c = subst (λ (deed : Deed). IsReport c.args.self.now (record c.in-Ok.report { deed = deed })) c.in-End.is c.in-Ok.ensures.report

pub returns-in-End : goal.returns-in-End
returns-in-End g c =
    taken_as c.args.self.now c.args.request.now c.in-Ok.report c.in-Ok.ensures.answer c.in-Ok.ensures.refused c.requires.report _ c.in-End.is
    c.take_end.result c.take_end.new.self c.take_end.ensures

pub take_join-requires-clause-report : goal.take_join-requires-clause-report
take_join-requires-clause-report g c = subst (λ (deed : Deed). IsReport c.args.self.now (record c.in-Ok.report { deed = deed })) c.in-Join.is c.in-Ok.ensures.report

pub returns-in-Join : goal.returns-in-Join
returns-in-Join g c =
    taken_as c.args.self.now c.args.request.now c.in-Ok.report c.in-Ok.ensures.answer c.in-Ok.ensures.refused c.requires.report _ c.in-Join.is
    c.take_join.result c.take_join.new.self c.take_join.ensures
