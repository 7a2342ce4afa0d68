-- How a line was answered.
use Rattle.std.specs.Prelude.{◌≡◌, ℕ, slice_get, ◌++◌, if◌then◌else◌, Option, Some, None, Result, OnOk, OnErr, ◌≤◌, codes, true, false}
use Rattle.trace_types.specs.text.Name.{Text, is_name}
use Rattle.trace_types.specs.text.Lines.{is_too_long}
use Rattle.trace_types.specs.text.Text.{reply_text}
use Rattle.trace_types.specs.world.World.{World, StepsOne}
use Rattle.trace_types.specs.declared.code.Code.{Code}
use Rattle.trace_types.specs.declared.code.Code.TheVariants as code
use Rattle.trace_types.specs.declared.request.Request.{Request}
use Rattle.trace_types.specs.declared.reply.Reply.{Reply}
use Rattle.trace_types.specs.declared.reply.Reply.TheVariants as reply
use Rattle.line_protocol.specs.Sink.{Taken}
use Rattle.line_protocol.specs.Writing.{EndsInFault, WritesBoth}
use Rattle.trace_world.specs.Counted.{counted_with}
use Rattle.trace_world.specs.Replayed.{DoesLine}
use Rattle.trace_world.specs.declared.counts.Counts.{Counts}

-- What was found is the line, or it is one that is too long.
abbrev pub IsFound : Option Text → Text → Type 0
IsFound (Some found) line = (found ≡ line) × (is_too_long line ≡ false)
IsFound None line = is_too_long line ≡ true

-- The line was done, whatever was to be answered to whom.
abbrev pub CarriesOut : World → Text → World → Type 0
CarriesOut old line new = (to : Text) × (reply : Reply) × DoesLine old line to reply new

-- The reply was written with whom it names, or at a fault a front of that, and it was counted.
pub record TellsReply {E : Type 0} (before after : Taken) (to : Text) (reply : Reply) (counts counts' : Counts) (result : Result (Unit {0}) E) : Type 0 where
  pub counted : counts' ≡ counted_with counts reply
  pub writes : WritesBoth before after result (to ++ codes " ") (reply_text reply ++ codes "\n")
  pub no_failure : OnOk result (after.failures ≡ before.failures)
  pub fault : OnErr result (EndsInFault before after)
  pub interruptions : before.interruptions ≤ after.interruptions

-- The line that was found was done, and the reply that is due was told.
pub record AnswersFound {E : Type 0} (found : Option Text) (old new : World) (before after : Taken) (counts counts' : Counts) (result : Result (Unit {0}) E) : Type 0 where
  pub to : Text
  pub reply : Reply
  pub does : (line : Text) → IsFound found line → DoesLine old line to reply new
  pub tells : TellsReply before after to reply counts counts' result

-- The tenant at the place did the request, or was refused one that no line spells.
abbrev pub DoesRequest : World → ℕ → Option Request → Reply → World → Type 0
DoesRequest old tenant None answer new = (answer ≡ reply.Refused code.Line) × (new ≡ old)
DoesRequest old tenant (Some request) answer new = StepsOne old tenant request answer new

-- The tenant at the place did what it asks for, if anything, and the reply that is due was told to it.
pub record AnswersRequest {E : Type 0} (old : World) (tenant : ℕ) (request : Option Request) (new : World) (before after : Taken) (counts counts' : Counts) (result : Result (Unit {0}) E) : Type 0 where
  pub to : Text
  pub reply : Reply
  pub named : slice_get old.names tenant ≡ Some to
  pub does : DoesRequest old tenant request reply new
  pub tells : TellsReply before after to reply counts counts' result

-- why a line is refused whose first word names no tenant
abbrev pub code_to_nobody : Text → Code
code_to_nobody word = if is_name word then code.NoTenant else code.Line
