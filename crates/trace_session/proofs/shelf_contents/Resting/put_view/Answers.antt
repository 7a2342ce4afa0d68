use Rattle.std.proofs.Common.{sym, subst}
use Rattle.std.specs.Prelude.{is_ok}
use Rattle.trace_session.proofs.Lists.{All-pushed}
use Rattle.trace_session.specs.Belonging.{IsViewOf, RestOf}
use Rattle.trace_session.proofs.shelf_contents.Resting.put_view.Goals as goal

pub returns-clause-owner : goal.returns-clause-owner
returns-clause-owner c = λ owner rest belongs.
    let was = subst (RestOf owner) (sym c.self.view_is) rest in
    record {
      desk = was.desk;
      views = All-pushed (IsViewOf owner) c.self.inside.views.items c.push.new.self.items c.args.view (is_ok c.push.result) c.push.ensures.items was.views belongs;
    }
