use Rattle.trace_session.proofs.Soundness.{view_keeps_limits, view_responds}
use Rattle.trace_types.specs.tenant.Tenant.{is_report}
use Rattle.trace_session.proofs.desk_or_view.ViewLent.answer.Goals as goal

pub returns-clause-sound : goal.returns-clause-sound
returns-clause-sound g c = view_responds c.args.self.now c.ask_cached_into.new.self c.args.request.now c.ask_cached_into.new.reply (is_report c.args.request.now) c.ask_cached_into.ensures.answer

pub returns-clause-limits : goal.returns-clause-limits
returns-clause-limits g c = view_keeps_limits c.args.self.now c.ask_cached_into.new.self c.args.request.now c.ask_cached_into.new.reply (is_report c.args.request.now) c.ask_cached_into.ensures.answer
