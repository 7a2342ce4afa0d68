use Rattle.std.proofs.Common.{drop, ap, ◌∙◌}
use Rattle.itc_trace.proofs.start.Goals as goal
use Rattle.itc_trace.proofs.start.Goals.{in-Ok, in-Err}

pub returns-clause-run : goal.returns-clause-run
returns-clause-run g c = elim c.match-words.branch [
  | in-Ok w ↦
      let words = w.after_the_first.ensures ∙ ap (drop 1) w.deref.ensures.value in
      rw (w.in-Ok.is, c.from.ensures, w.status-is, w.reader-is, w.writer-is, w.errors-is, ← words) w.run-status.ensures
  | in-Err w ↦ rw w.in-Err.is tt
]
