use Rattle.trace_session.proofs.Soundness.{steps_keep_limits}
use Rattle.trace_session.proofs.desk_or_view.DeskLent.answer.Goals as goal

pub returns-clause-limits : goal.returns-clause-limits
returns-clause-limits g c = steps_keep_limits c.args.self.now.tenant c.call_into.new.self.tenant c.args.request.now c.call_into.new.reply c.call_into.ensures.steps
