use Rattle.std.proofs.Common.{rules, ◌≡◌, ◌↔◌, ℕ, true, false, IsTrue, ◌∙◌, ap, List, Option, Some, None, option_map, option_and_then, IfSome, IsSome, refl}
use Rattle.clap.specs.Words.{Row, Text, subcommand_rows_of, found_of, rows_of}
use Rattle.trace_types.specs.tenant.Limits.{Limits, are_limits}
use Rattle.command_line.specs.Reading.{limits_in}
use Rattle.command_line.proofs.Asking.{amounts}
use Rattle.command_line.proofs.parse.limits_of.Goals as goal

-- the limits in the rows of the subcommand that was found
in_rows : (found : Option (Text × List Row)) (rows : List Row) (limits : Limits) → Some rows ≡ option_map (λ named. named.1) found
    → option_and_then (λ named. limits_in named.1) found ≡ Some limits → limits_in rows ≡ Some limits
in_rows (Some named) rows limits same has = ap (λ found. option_and_then limits_in found) same ∙ has
in_rows None rows limits same has = cc

made : (option : Option Limits) (events tasks messages : ℕ) (limits : Limits) → (IsSome option ↔ IsTrue (are_limits events tasks messages))
    → IfSome option (λ held. held ≡ record { events = events; tasks = tasks; messages = messages })
    → events ≡ limits.events → tasks ≡ limits.tasks → messages ≡ limits.messages → are_limits limits.events limits.tasks limits.messages ≡ true → option ≡ Some limits
made (Some held) events tasks messages limits ranges is events_are tasks_are messages_are within =
    let same : record { events = events; tasks = tasks; messages = messages } ≡ limits = rw (events_are, tasks_are, messages_are) refl in
    ap Some (is ∙ same)
made None events tasks messages limits ranges is events_are tasks_are messages_are within =
    let some : false ≡ true = ranges.1 (rw (events_are, tasks_are, messages_are) within) in
    cc

pub returns : goal.returns
returns c limits has =
    let rows : Some (rows_of (found_of c.in_ok-replay.replay.now)) ≡ option_map (λ named. named.1) (subcommand_rows_of c.args.matches.now) = search rules in
    let each = amounts (rows_of (found_of c.in_ok-replay.replay.now)) limits (in_rows (subcommand_rows_of c.args.matches.now) _ limits rows has) in
    made c.read.result _ _ _ limits c.read.ensures.ranges c.read.ensures.limits (c.amount_of.ensures limits.events each.0) (c.amount_of-2.ensures limits.tasks each.1)
    (c.amount_of-3.ensures limits.messages each.2) each.3
