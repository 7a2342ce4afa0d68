use Rattle.std.proofs.Common.{sym, ap, ◌∙◌}
use Rattle.trace_types.specs.world.Interleaving.{alone}
use Rattle.trace_world.proofs.Isolation.{due_replies-alone}
use Rattle.trace_world.proofs.laws.isolation.Goals as goal

pub returns : goal.returns
returns c = record {
  alone = due_replies-alone;
  whatever_others_ask = λ limits tenant first second same.
      due_replies-alone limits tenant first ∙ ap (alone limits) same ∙ sym (due_replies-alone limits tenant second);
}
