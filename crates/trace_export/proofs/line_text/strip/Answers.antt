use Rattle.std.proofs.Common.{None, sym, subst}
use Rattle.std.proofs.lemmas.Bool.Decides.{Decides-eqb}
use Rattle.std.proofs.lemmas.Slice.Eq.{strip_prefix_is}
use Rattle.trace_export.specs.DueLine.{StripsOn}
use Rattle.trace_export.proofs.PlainLines.{strips_none, strips_some}
use Rattle.trace_export.proofs.line_text.strip.Goals as goal

pub returns-in-None : goal.returns-in-None
returns-in-None c = subst (λ text. StripsOn text c.args.piece.now None) (sym c.in-None.is) (strips_none c.args.piece.now)

pub returns-in-Some : goal.returns-in-Some
returns-in-Some c =
    subst (λ text. StripsOn text c.args.piece.now c.strip_prefix.result) (sym c.in-Some.is)
    (strips_some c.in-Some.text c.args.piece.now c.strip_prefix.result (strip_prefix_is Decides-eqb _ _ c.strip_prefix.result c.strip_prefix.ensures.cases))
