use Rattle.std.proofs.Common.{◌≡◌, false, sym, ap, ◌∙◌}
use Rattle.line_protocol.specs.Held.{Held}
use Rattle.line_protocol.proofs.EndsLemmas.{IsEnd-none}
use Rattle.line_protocol.proofs.line_buffer.Buffer.needs_read.Goals as goal

pub returns-then-not-self : goal.returns-then-not-self
returns-then-not-self c =
    let goes_on : c.args.self.now.is_ended ≡ false = ap (λ (held : Held). held.is_ended) (sym c.self.view_is) ∙ c.if-not-self.true in
    let found = IsEnd-none _ _ _ c.end_of_line.ensures c.is_none.ensures in
    (λ none. (found.0 none, goes_on), λ needs. found.1 needs.0)
