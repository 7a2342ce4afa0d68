-- What a request reports.
use Rattle.std.specs.Prelude.{Option, Some, None}
use Rattle.trace_types.specs.declared.request.Reported.{Reported}
use Rattle.trace_types.specs.declared.request.Request.{Request}
use Rattle.trace_types.specs.declared.request.Request.TheVariants as request
use Rattle.trace_types.specs.declared.row.Kind.TheVariants.{Local, Spawn, Send, Recv, End, Join}

-- the kind, the task, and what is named, of a report
abbrev pub reported : Request → Option Reported
reported (request.Local task) = Some (record { kind = Local; task = task; name = None })
reported (request.Spawn task child) = Some (record { kind = Spawn; task = task; name = Some child })
reported (request.Send task message) = Some (record { kind = Send; task = task; name = Some message })
reported (request.Recv task message) = Some (record { kind = Recv; task = task; name = Some message })
reported (request.End task) = Some (record { kind = End; task = task; name = None })
reported (request.Join task child) = Some (record { kind = Join; task = task; name = Some child })
reported query = None
