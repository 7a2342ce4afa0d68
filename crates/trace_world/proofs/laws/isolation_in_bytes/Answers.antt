use Rattle.std.proofs.Common.{[], sym, ap, ◌∙◌}
use Rattle.trace_types.specs.world.Interleaving.{alone}
use Rattle.trace_types.specs.world.Replay.{output}
use Rattle.trace_world.proofs.Isolation.{replies_to_tenant-alone, output_to-alone}
use Rattle.trace_world.proofs.laws.isolation_in_bytes.Goals as goal

pub returns : goal.returns
returns c = record {
  lines_alone = output_to-alone;
  whatever_others_write = λ names limits tenant first second same.
      output_to-alone names limits tenant first ∙ ap (output names limits []) same ∙ sym (output_to-alone names limits tenant second);
  requests_alone = replies_to_tenant-alone;
  whatever_others_ask = λ limits tenant first second same.
      replies_to_tenant-alone limits tenant first ∙ ap (alone limits) same ∙ sym (replies_to_tenant-alone limits tenant second);
}
