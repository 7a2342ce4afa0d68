use Rattle.std.proofs.Common.{◌≡◌, ◌<◌, ◌∙◌, ◌∷◌, [], ◌++◌, List, ℕ, Err, length, sym, ap, subst, codes, arith, length-append}
use Rattle.std.proofs.lemmas.Result.{err_from_is_err_and}
use Rattle.trace_types.specs.text.Text.{reply_text}
use Rattle.trace_types.specs.declared.reply.Reply.{Reply}
use Rattle.line_protocol.specs.Answer.{reply_head, reply_tail}
use Rattle.line_protocol.specs.Writing.{WritesFront, WritesText}
use Rattle.line_protocol.proofs.GatherLemmas.{WritesFront-held, WritesText-gathered, behind-parts}
use Rattle.line_protocol.proofs.PatienceLemmas.{TriesToWrite-then}
use Rattle.line_protocol.proofs.PatientTexts.{Writes-patiently, OnOk-under}
use Rattle.line_protocol.proofs.reply.write_reply.Goals as goal

-- the line of a reply, behind the head that is held
parts : (reply : Reply) (empty head : List ℕ) → head ≡ empty ++ reply_head reply → empty ≡ [] → reply_text reply ++ codes "\n" ≡ head ++ (reply_tail reply ++ codes "\n")
parts reply empty head is none = behind-parts [] reply (codes "\n") ∙ ap (λ text. text ++ (reply_tail reply ++ codes "\n")) (sym (is ∙ ap (λ text. text ++ reply_head reply) none))

pub returns-in_err-gather_tail : goal.returns-in_err-gather_tail
returns-in_err-gather_tail g c =
    let before = g.W.Sink.seen c.args.writer.now in
    let after = g.W.Sink.seen c.gather_tail.new.writer in
    let reply = c.args.reply.now in
    let failed = err_from_is_err_and c.from_residual.result c.from_residual.ensures.1 in
    rw (failed.1)
    (Writes-patiently before after c.gather_tail.new.patience (reply_text reply ++ codes "\n") (Err c.in_err-gather_tail.field-0.0)
    (subst (WritesFront before.bytes after.bytes) (sym (parts reply _ c.push_head.new.text c.push_head.ensures.text c.new-text.ensures))
    (WritesFront-held c.push_head.new.text (reply_tail reply) (codes "\n") c.in_err-gather_tail.ensures.gathered))
    c.in_err-gather_tail.ensures.tries tt)

pub returns : goal.returns
returns g c =
    let before = g.W.Sink.seen c.args.writer.now in
    let after = g.W.Sink.seen c.write_piece.new.writer in
    let reply = c.args.reply.now in
    let some : 0 < length c.as_bytes.result.now = rw (c.as_bytes.ensures.text, c.push.ensures) (omega (arith, length-append c.gather_tail.new.text (10 ∷ []))) in
    Writes-patiently before after c.write_piece.new.patience (reply_text reply ++ codes "\n") c.write_piece.result
    (subst (WritesText before after c.write_piece.result) (sym (parts reply _ c.push_head.new.text c.push_head.ensures.text c.new-text.ensures))
    (WritesText-gathered before (g.W.Sink.seen c.gather_tail.new.writer) after (reply_tail reply) (codes "\n") c.write_piece.result c.in_ok-gather_tail.ensures.gathered
    (rw (c.as_bytes.ensures.text, c.push.ensures) at c.write_piece.ensures.written)))
    (TriesToWrite-then c.in_ok-gather_tail.ensures.tries c.write_piece.ensures.tries) (OnOk-under _ _ _ c.write_piece.result some c.write_piece.ensures.no_wait)
