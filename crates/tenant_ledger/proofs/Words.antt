-- The names of the definitions and of the general lemmas that the proofs cite, passed on from one place. Declares nothing.
pub use Rattle.std.proofs.lemmas.Bool.{and_left, and_right, cases_Bool, cases_eq, cond-false, cond-true, cond_both, eq-eqb, eqb-true, false_from_ne_true, false≢true, or_left, or_right}
pub use Rattle.std.proofs.lemmas.Bool.Decides.{nat_tests}
pub use Rattle.std.proofs.lemmas.List.{append_assoc, length-append, length-map, length-reverse, map-append, reverse-append, reverse-reverse}
pub use Rattle.std.proofs.lemmas.List.Sums.{sum_by-append}
pub use Rattle.std.proofs.lemmas.Option.{get_or_from_slice_get, same_Some, slice_get-map, slice_get_read, slice_get_within}
pub use Rattle.std.proofs.Math.Path.{transport}
pub use Rattle.trace_types.proofs.Names.{differ_by_test, is_same-itself, is_same_iff}
pub use Rattle.event_tree.specs.Comparison.{IsBelow, StandsAs}
pub use Rattle.tenant_ledger.specs.Answers.{code_of}
pub use Rattle.tenant_ledger.specs.ClockLaws.{ClockLaws, OwnsSome, Raises}
pub use Rattle.tenant_ledger.specs.Invariant.{EventsHavePrivatePoints, HasPrivatePoint, HolderIsAhead, holds, Invariant, IsPrivate, OneHolder, TreesRise, value_of}
pub use Rattle.tenant_ledger.specs.Contents.{Contents, history_in, task_in, tenant_of, with_seed}
pub use Rattle.tenant_ledger.specs.Tasks.{IsTask}
pub use Rattle.tenant_ledger.specs.Told.{id_after, of_each, start_of}
pub use Rattle.tenant_ledger.specs.Points.{ArePoints, MayHavePoint}
pub use Rattle.tenant_ledger.specs.Kept.{IsKept, IsKeptWith}
pub use Rattle.tenant_ledger.specs.Room.{HasRoom}
pub use Rattle.tenant_ledger.specs.Refusals.{Decides, refusals_of_named, refusals_of_received, refusals_of_report, refusals_of_room}
pub use Rattle.tenant_ledger.specs.Reports.{IsFound, IsNamed, IsReport, kind_of, name_of, second_of, row_of_report}
pub use Rattle.tenant_ledger.specs.Making.{id_for, ids_made, made_ids, MayRaise}
pub use Rattle.tenant_ledger.specs.Events.{acting_after, Event, event_of, named_after}
pub use Rattle.tenant_ledger.specs.Adding.{count_with, count_with_some, id_left, IsReady, task_count_with, tasks_with, value_with, value_with_some, with_event}
pub use Rattle.tenant_ledger.specs.Taking.{Prepares}
pub use Rattle.tenant_ledger.specs.Legal.{Allows, AllowsNamed, IsLegal, IsLive}
pub use Rattle.tenant_ledger.specs.declared.book.report.Deed.{Deed}
pub use Rattle.tenant_ledger.specs.declared.book.report.Report.{Report}
pub use Rattle.tenant_ledger.specs.declared.book.task.Task.{Task}
pub use Rattle.trace_query.specs.Queries.{concurrent_of, cut_by_trees, fault_due, has_tree, order_between, order_due, others_standing, StandInOrder, tree_at, trees_before}
pub use Rattle.trace_types.specs.clock.Clock.{Clock, tree_clock}
pub use Rattle.trace_types.specs.clock.EventTree.{EventTree, Leaf, maximum, value}
pub use Rattle.trace_types.specs.clock.Id.{AreDisjoint, Id, owns, Zero}
pub use Rattle.trace_types.specs.clock.IdOperations.{split, sum}
pub use Rattle.trace_types.specs.clock.Stamps.{acting_id, id_at, id_given, id_kept, id_of, known_before, of_named, stamp_of, takes_in, tree_of}
pub use Rattle.trace_types.specs.declared.code.Code.{Code}
pub use Rattle.trace_types.specs.declared.code.Code.TheVariants.{AlreadyReceived, NoEvent, NoMemory, NoMessage}
pub use Rattle.trace_types.specs.declared.order.Order.{Order}
pub use Rattle.trace_types.specs.declared.order.Order.TheVariants.{After, Before, Concurrent, Same}
pub use Rattle.trace_types.specs.declared.reply.Reply.{Reply}
pub use Rattle.trace_types.specs.declared.request.Reported.{Reported}
pub use Rattle.trace_types.specs.declared.request.Request.{Request}
pub use Rattle.trace_types.specs.declared.row.Kind.{Kind}
pub use Rattle.trace_types.specs.declared.row.Kind.TheVariants.{End, Join, Local, Recv, Send, Spawn}
pub use Rattle.trace_types.specs.declared.row.Row.{Row}
pub use Rattle.trace_types.specs.tenant.Limits.{Limits}
pub use Rattle.trace_types.specs.tenant.Reachability.{are_of_one_task, concurrent_with, cut_of, event_or_none, increasing, order_of, past_of, predecessors, reaches, second_event}
pub use Rattle.trace_types.specs.tenant.Refusal.{first_code, refusal_of, refusals}
pub use Rattle.trace_types.specs.tenant.Reported.{reported}
pub use Rattle.trace_types.specs.tenant.Rows.{ends, ends_task, events, History, history_of, is_ended, is_event, is_joined, is_known, is_of, has_received, is_sent, joins, joins_task, last_event, message_count, names, newest, receipts, receives, receives_message, row_of, send_event, sends, sends_message, start_event, starts, starts_task, state_of, task_count}
pub use Rattle.trace_types.specs.tenant.Tenant.{accepted, after, answer_to, Answers, AreLegal, fresh, is_report, may_lack_memory, MayLackMemory, reply_to_view, row_after, step, step_unless, Steps, Tenant, with_row}
pub use Rattle.trace_types.specs.text.Name.{is_same, root, Text}
pub use Rattle.trace_types.specs.declared.reply.Reply.TheVariants.{Accepted, Ordering, Refused}
pub use Rattle.std.specs.List.{AllByRecursion, filter, range_with_len}
