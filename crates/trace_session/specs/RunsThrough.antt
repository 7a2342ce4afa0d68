-- The replies that a tenant's requests give from some rows on.
use Rattle.std.specs.Prelude.{◌≡◌, Bool, true, false, List, [], ◌∷◌, length, Option, Some, None}
use Rattle.trace_types.specs.declared.code.Code.TheVariants.{Line, NoMemory}
use Rattle.trace_types.specs.declared.request.Request.{Request}
use Rattle.trace_types.specs.declared.reply.Reply.{Reply}
use Rattle.trace_types.specs.declared.reply.Reply.TheVariants.{Refused}
use Rattle.trace_types.specs.tenant.Tenant.{Tenant, after, step, MayLackMemory}

-- the requests of lines that spell one, but for those that are marked: they found no memory
abbrev pub kept_requests : List (Option Request) → List Bool → List Request
kept_requests [] marks = []
kept_requests (request ∷ requests) [] = []
kept_requests (None ∷ requests) (mark ∷ marks) = kept_requests requests marks
kept_requests (Some request ∷ requests) (true ∷ marks) = kept_requests requests marks
kept_requests (Some request ∷ requests) (false ∷ marks) = request ∷ kept_requests requests marks

-- the replies to the lines, one after another: a marked request is answered want of memory, and changes nothing
abbrev pub run_replies : Tenant → List (Option Request) → List Bool → List Reply
run_replies tenant [] marks = []
run_replies tenant (request ∷ requests) [] = []
run_replies tenant (None ∷ requests) (mark ∷ marks) = Refused Line ∷ run_replies tenant requests marks
run_replies tenant (Some request ∷ requests) (true ∷ marks) = Refused NoMemory ∷ run_replies tenant requests marks
run_replies tenant (Some request ∷ requests) (false ∷ marks) = (step tenant request).0 ∷ run_replies (step tenant request).1 requests marks

-- Each request is marked only where want of memory may be its answer.
abbrev pub MarksStand : Tenant → List (Option Request) → List Bool → Type 0
MarksStand tenant [] marks = Unit {0}
MarksStand tenant (request ∷ requests) [] = Unit {0}
MarksStand tenant (None ∷ requests) (mark ∷ marks) = MarksStand tenant requests marks
MarksStand tenant (Some request ∷ requests) (true ∷ marks) = MayLackMemory tenant request × MarksStand tenant requests marks
MarksStand tenant (Some request ∷ requests) (false ∷ marks) = MarksStand (step tenant request).1 requests marks

-- These are the replies of a run from the old rows, for some marks that may stand, and the new rows are those that its
-- unmarked requests leave.
pub record RunsThrough (old : Tenant) (requests : List (Option Request)) (replies : List Reply) (new : Tenant) : Type 0 where
  pub marks : List Bool
  pub one_each : length marks ≡ length requests
  pub stand : MarksStand old requests marks
  pub replies_are : replies ≡ run_replies old requests marks
  pub leaves : new ≡ after old (kept_requests requests marks)
