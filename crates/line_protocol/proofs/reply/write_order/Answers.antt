use Rattle.std.proofs.Common.{◌≡◌, ◌∙◌, ◌++◌, List, ℕ, length, ap, append_assoc, codes}
use Rattle.trace_types.specs.declared.reply.Reply.TheVariants as reply
use Rattle.trace_types.specs.text.Text.{reply_text}
use Rattle.line_protocol.proofs.PatientTexts.{WritesBoth-split}
use Rattle.line_protocol.proofs.reply.write_order.Goals as goal

pub returns : goal.returns
returns g c =
    let to = c.args.addressee.now ++ codes " " in
    let told = reply_text (reply.Ordering c.args.order) in
    let begun : c.push-2.new.self ≡ to =
    c.push-2.ensures ∙ ap (λ (text : List ℕ). text ++ codes " ") (c.push.ensures ∙ ap (λ (text : List ℕ). text ++ c.as_bytes.result.now) c.new-text.ensures ∙ c.as_bytes.ensures.text) in
    let is : c.as_bytes-2.result.now ≡ to ++ (told ++ codes "\n") =
    c.as_bytes-2.ensures.text
    ∙ c.push-3.ensures
    ∙ ap (λ (text : List ℕ). text ++ codes "\n") (c.push_order.ensures.text ∙ ap (λ (text : List ℕ). text ++ told) begun)
    ∙ append_assoc to told (codes "\n") in
    let at : c.len-to_len.result ≡ length to = c.len-to_len.ensures ∙ ap length begun in
    WritesBoth-split (g.W.Sink.seen c.args.writer.now) (g.W.Sink.seen c.write_both.new.writer) to (told ++ codes "\n") c.as_bytes-2.result.now c.len-to_len.result c.write_both.result is at c.write_both.ensures
