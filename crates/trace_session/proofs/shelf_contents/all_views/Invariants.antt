use Rattle.std.proofs.Common.{◌≡◌, ◌+◌, ◌≤◌, length}
use Rattle.std.specs.Prelude.{All, vec_capacity}
use Rattle.tenant_desk.specs.Views.{new_view}
use Rattle.trace_session.proofs.shelf_contents.all_views.Given as goal

abbrev pub invariant-loop-view : goal.invariant-loop-view
invariant-loop-view l = record {
  counted : length l.all.items + l.views.left ≡ l.fn.views.left;
  limits : l.views.limits ≡ l.fn.views.limits;
  log : l.views.log ≡ l.fn.views.log;
  same : All (λ view. view ≡ new_view l.fn.views.limits l.fn.views.log) l.all.items;
  room : 8 ≤ vec_capacity l.all;
}

abbrev pub decreases-loop-view : goal.decreases-loop-view
decreases-loop-view l = l.views.left
