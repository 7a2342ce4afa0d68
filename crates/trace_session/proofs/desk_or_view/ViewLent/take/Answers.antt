use Rattle.std.proofs.Common.{sym, subst}
use Rattle.std.specs.Option.{option_to_list}
use Rattle.std.specs.Prelude.{All, IfSome}
use Rattle.trace_session.proofs.Lists.{All-front, All-last}
use Rattle.trace_session.specs.Belonging.{IsDeskOf, IsViewOf}
use Rattle.trace_session.proofs.desk_or_view.ViewLent.take.Goals as goal

pub returns-clause-owner : goal.returns-clause-owner
returns-clause-owner c = λ owner rest.
    let all = subst (All (IsViewOf owner)) c.take_view.ensures.lent rest.views in (
      record {
        desk = subst (λ desk. IfSome desk (IsDeskOf owner)) (sym c.take_view.ensures.desk) rest.desk;
        views = All-front (IsViewOf owner) c.take_view.new.self.views (option_to_list c.take_view.result) all;
      },
      All-last (IsViewOf owner) c.take_view.new.self.views c.take_view.result all,
    )
