use Rattle.std.proofs.Common.{sym, subst, ap, ◌∙◌}
use Rattle.std.specs.Option.{option_to_list}
use Rattle.trace_session.proofs.Lists.{none_there}
use Rattle.trace_session.specs.Belonging.{RestOf}
use Rattle.trace_session.specs.Resting.{Rests}
use Rattle.trace_session.proofs.desk_or_view.DeskLent.put.Goals as goal

pub returns-clause-put : goal.returns-clause-put
returns-clause-put c = λ few.
    let none = none_there c.args.resting.now.desk c.args.self few in
    (ap (λ (rests : Rests). option_to_list rests.desk) c.put_desk.ensures.rests ∙ none.0, c.put_desk.ensures.other ∙ none.1)

pub returns-clause-owner : goal.returns-clause-owner
returns-clause-owner c = λ owner rest belongs. subst (RestOf owner) (sym c.put_desk.ensures.rests) (record { desk = belongs; views = rest.views })
