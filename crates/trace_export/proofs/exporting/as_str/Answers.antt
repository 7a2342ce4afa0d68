use Rattle.std.proofs.Common.{subst, sym, IsUtf8}
use Rattle.trace_export.proofs.WrittenRows.{IsUtf8-name}
use Rattle.trace_export.proofs.exporting.as_str.Goals as goal

pub unreachable-requires : goal.unreachable-requires
unreachable-requires c = absurd (c.in_default.ensures.cases.0 (subst IsUtf8 (sym c.as_bytes.ensures.text) (IsUtf8-name c.args.name.now c.as_bytes.ensures.name)))
