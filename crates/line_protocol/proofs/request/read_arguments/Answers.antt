use Rattle.std.proofs.Common.{sym, ◌∙◌}
use Rattle.line_protocol.proofs.WordsLemmas.{no_argument-more}
use Rattle.line_protocol.proofs.request.read_arguments.Goals as goal

pub returns : goal.returns
returns c =
    rw (
      c.requires.local,
      c.requires.spawn,
      c.requires.send,
      c.requires.recv,
      c.requires.end,
      c.requires.join,
      c.requires.order,
      sym c.is_word.ensures ∙ c.if-is_word.false,
      sym c.is_word-2.ensures ∙ c.if-is_word-2.false,
      sym c.is_word-3.ensures ∙ c.if-is_word-3.false,
      c.requires.event,
      c.requires.stamp,
      c.requires.task,
      c.requires.message,
    )
    (no_argument-more _ _ c.args.arguments.now)
