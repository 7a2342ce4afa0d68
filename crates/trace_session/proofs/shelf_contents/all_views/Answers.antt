use Rattle.std.proofs.Common.{◌≡◌, ap, arith, ◌∷◌, [], ◌∙◌, length}
use Rattle.std.proofs.lemmas.List.{length-append}
use Rattle.std.proofs.lemmas.List.Elements.{All-push}
use Rattle.tenant_desk.specs.Views.{Known, new_view}
use Rattle.trace_session.proofs.shelf_contents.all_views.Goals as goal

pub loop-view-preserved : goal.loop-view-preserved
loop-view-preserved c =
    let items = c.in_ok-push.ensures.items in
    let is : c.in-Some.view ≡ new_view c.args.views.limits c.args.views.log = rw (← c.loop-view.invariant.limits, ← c.loop-view.invariant.log) c.in-Some.ensures.view.1 in
    record {
      counted = omega (arith, c.loop-view.invariant.counted, c.in-Some.ensures.view.0, ap length items, length-append c.loop-view.all.items (c.in-Some.view ∷ []));
      limits = c.view.ensures.limits ∙ c.loop-view.invariant.limits;
      log = c.view.ensures.log ∙ c.loop-view.invariant.log;
      same = rw items (All-push (λ (view : Known). view ≡ new_view c.args.views.limits c.args.views.log) c.loop-view.all.items c.in-Some.view c.loop-view.invariant.same is);
      room = omega (arith, c.loop-view.invariant.room, c.in_ok-push.ensures.capacity);
    }
