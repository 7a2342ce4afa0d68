use Rattle.std.proofs.Common.{sym, ap, ◌∙◌}
use Rattle.tenant_desk.specs.Histories.{Line, Log}
use Rattle.tenant_desk.specs.Views.{Remaining, new_view}
use Rattle.trace_session.proofs.shelf_contents.Resting.new.Goals as goal

pub returns-in-Ok-clause-whole : goal.returns-in-Ok-clause-whole
returns-in-Ok-clause-whole g c =
    let told = ap (λ (line : Line). line.log) c.tell-told.ensures in
    record {
      desk = record { tenant = c.in_ok-desk.ensures.tenant; published = c.in_ok-desk.ensures.published; log = sym told };
      count = c.in-Ok.ensures.count ∙ ap (λ (views : Remaining). views.left) c.in_ok-desk.ensures.views;
      views = λ k d within.
          c.in-Ok.ensures.same k d within ∙ ap (λ (views : Remaining). new_view views.limits views.log) c.in_ok-desk.ensures.views
          ∙ ap (λ (log : Log). new_view c.args.limits log) (sym told);
    }
