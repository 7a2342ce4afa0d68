-- The refusals, as they are written.
use Rattle.std.specs.Prelude.{ℕ, codes}
use Rattle.trace_types.specs.text.Name.{Text}
use Rattle.trace_types.specs.declared.code.Code.{Code}
use Rattle.trace_types.specs.declared.code.Code.TheVariants.{Line, NoTask, TaskExists, TaskEnded, NoEvent, NoMessage, MessageExists, AlreadyReceived, NotEnded, AlreadyJoined, ViewOnly, EventsFull, TasksFull, MessagesFull, NoTenant, DeskTaken, NoPlace, SessionOver, NoMemory}

-- the number that stands in a reply
abbrev pub code_number : Code → ℕ
code_number Line = 400
code_number NoTask = 401
code_number TaskExists = 402
code_number TaskEnded = 403
code_number NoEvent = 404
code_number NoMessage = 405
code_number MessageExists = 406
code_number AlreadyReceived = 407
code_number NotEnded = 408
code_number AlreadyJoined = 409
code_number ViewOnly = 410
code_number EventsFull = 413
code_number TasksFull = 414
code_number MessagesFull = 415
code_number NoTenant = 420
code_number DeskTaken = 421
code_number NoPlace = 422
code_number SessionOver = 423
code_number NoMemory = 507

-- the words that stand after the number
abbrev pub code_text : Code → Text
code_text Line = codes "line"
code_text NoTask = codes "no task"
code_text TaskExists = codes "task exists"
code_text TaskEnded = codes "task ended"
code_text NoEvent = codes "no event"
code_text NoMessage = codes "no message"
code_text MessageExists = codes "message exists"
code_text AlreadyReceived = codes "already received"
code_text NotEnded = codes "not ended"
code_text AlreadyJoined = codes "already joined"
code_text ViewOnly = codes "view only"
code_text EventsFull = codes "events full"
code_text TasksFull = codes "tasks full"
code_text MessagesFull = codes "messages full"
code_text NoTenant = codes "no tenant"
code_text DeskTaken = codes "desk taken"
code_text NoPlace = codes "no place"
code_text SessionOver = codes "session over"
code_text NoMemory = codes "no memory"
