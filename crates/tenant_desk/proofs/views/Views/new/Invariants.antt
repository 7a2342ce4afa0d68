use Rattle.std.proofs.Common.{◌≡◌, vec_len}
use Rattle.std.specs.Prelude.{All}
use Rattle.tenant_desk.specs.Views.{new_view}
use Rattle.tenant_desk.proofs.views.Views.new.Given as goal

abbrev pub invariant-loop-number : goal.invariant-loop-number
invariant-loop-number l = record {
  counted : vec_len l.views ≡ l._number;
  new : All (λ view. view ≡ new_view l.limits l.publisher.front.log) l.views.items;
  same : l.publisher ≡ l.fn.publisher;
}
