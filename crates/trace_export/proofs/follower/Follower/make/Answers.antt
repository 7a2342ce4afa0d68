use Rattle.std.proofs.Common.{◌∙◌, refl, sym, subst, inl, inr, IfSome}
use Rattle.std.proofs.lemmas.Bool.{false≢true}
use Rattle.std.proofs.lemmas.Result.{IfOk-weaker}
use Rattle.trace_types.specs.declared.reply.Reply.TheVariants.{Accepted, Refused}
use Rattle.trace_export.specs.Listing.{listed_of}
use Rattle.trace_export.specs.Loading.{IsUnfitAfter}
use Rattle.trace_export.proofs.Making.{made_next, not_due, refused_next, steps_as}
use Rattle.trace_export.proofs.Remaking.{answers_report}
use Rattle.trace_export.proofs.follower.Follower.make.Goals as goal

pub unreachable-requires : goal.unreachable-requires
unreachable-requires g c =
    let listed = listed_of c.args.listed.now in
    let steps = steps_as c.args.self.now.ledger c.report.new.self c.request_for-request.result listed c.report.result c.report.result c.request_for-request.ensures refl c.report.ensures.steps in
    elim (answers_report c.args.self.now.ledger listed.kind listed.task listed.name c.report.result c.report.new.self steps) [
      | inl accepted ↦ c.in_default.not-Accepted accepted.0 accepted.1
      | inr refused ↦ c.in_default.not-Refused refused.0 refused.1
    ]

pub returns-then-branch-clause-right : goal.returns-then-branch-clause-right
returns-then-branch-clause-right g c =
    let listed = listed_of c.args.listed.now in
    let steps = steps_as c.args.self.now.ledger c.report.new.self c.request_for-request.result listed c.report.result (Accepted c.in-Accepted.number) c.request_for-request.ensures c.in-Accepted.is c.report.ensures.steps in
    made_next c.args.self.now (record { header = c.args.self.now.header; ledger = c.report.new.self }) listed c.in-Accepted.number c.report.new.self c.requires.may steps
    (λ row at. (c.in_ok-is_as_listed-in-Accepted.ensures row at).0 c.if-branch.true) refl refl

pub returns-else-branch-clause-unfit : goal.returns-else-branch-clause-unfit
returns-else-branch-clause-unfit g c =
    let listed = listed_of c.args.listed.now in
    let steps = steps_as c.args.self.now.ledger c.report.new.self c.request_for-request.result listed c.report.result (Accepted c.in-Accepted.number) c.request_for-request.ensures c.in-Accepted.is c.report.ensures.steps in
    not_due c.args.self.now.ledger listed c.in-Accepted.number c.report.new.self steps c.requires.may
    (λ row at as_listed. false≢true (sym c.if-branch.false ∙ (c.in_ok-is_as_listed-in-Accepted.ensures row at).1 as_listed))

pub returns-in-Refused-clause-unfit : goal.returns-in-Refused-clause-unfit
returns-in-Refused-clause-unfit g c =
    let listed = listed_of c.args.listed.now in
    let steps = steps_as c.args.self.now.ledger c.report.new.self c.request_for-request.result listed c.report.result (Refused c.in-Refused.code) c.request_for-request.ensures c.in-Refused.is c.report.ensures.steps in
    IfOk-weaker c.refused.result _ _ (λ fault known.
    subst (λ found. IfSome found (λ reason. IsUnfitAfter reason c.args.self.now.ledger.limits c.args.self.now.ledger.rows listed)) (sym known.0)
    (refused_next c.args.self.now.ledger listed c.in-Refused.code c.report.new.self c.requires.may steps known.1)) c.refused.ensures
