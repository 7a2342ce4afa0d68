use Rattle.std.proofs.Common.{◌≡◌, [], sym, subst}
use Rattle.std.specs.Option.{option_to_list}
use Rattle.std.specs.Prelude.{IfNone, IfSome}
use Rattle.trace_session.proofs.Lists.{none_listed}
use Rattle.trace_session.specs.Belonging.{IsDeskOf, RestOf}
use Rattle.trace_session.proofs.desk_or_view.DeskLent.take.Goals as goal

pub returns-clause-none : goal.returns-clause-none
returns-clause-none c =
    let desk = c.args.resting.now.desk in
    subst (λ lent. IfNone lent (option_to_list desk ≡ [])) (sym c.take_desk.ensures.lent) (none_listed desk)

pub returns-clause-owner : goal.returns-clause-owner
returns-clause-owner c = λ owner rest. (
  subst (RestOf owner) (sym c.take_desk.ensures.rests) (record { desk = tt; views = rest.views }),
  subst (λ lent. IfSome lent (IsDeskOf owner)) (sym c.take_desk.ensures.lent) rest.desk,
)
