use Rattle.std.proofs.Common.{◌≡◌, ◌∙◌, ◌++◌, List, ℕ, length, ap, codes}
use Rattle.trace_types.specs.text.Text.{reply_text}
use Rattle.line_protocol.specs.Answer.{reply_head}
use Rattle.line_protocol.proofs.GatherLemmas.{short-parts}
use Rattle.line_protocol.proofs.PatientTexts.{WritesBoth-split}
use Rattle.line_protocol.proofs.reply.write_answer.Goals as goal

pub returns : goal.returns
returns g c =
    let to = c.args.addressee.now ++ codes " " in
    let reply = reply_text c.args.reply.now ++ codes "\n" in
    let begun : c.push-2.new.self ≡ to = c.push-2.ensures ∙ ap (λ (text : List ℕ). text ++ codes " ") (c.push.ensures ∙ ap (λ (text : List ℕ). text ++ c.args.addressee.now) c.new-text.ensures) in
    let is : c.as_bytes.result.now ≡ to ++ reply =
    c.as_bytes.ensures.text
    ∙ c.push-3.ensures
    ∙ ap (λ (text : List ℕ). text ++ codes "\n") (c.push_head.ensures.text ∙ ap (λ (text : List ℕ). text ++ reply_head c.args.reply.now) begun)
    ∙ short-parts to c.args.reply.now (codes "\n") (c.has_tail.ensures c.if-has_tail.false) in
    let at : c.len-to_len.result ≡ length to = c.len-to_len.ensures ∙ ap length begun in
    WritesBoth-split (g.W.Sink.seen c.args.writer.now) (g.W.Sink.seen c.write_both.new.writer) to reply c.as_bytes.result.now c.len-to_len.result c.write_both.result is at c.write_both.ensures
