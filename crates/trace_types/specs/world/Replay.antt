-- What replaying lines of many tenants writes.
use Rattle.std.specs.Prelude.{ℕ, suc, Bool, true, false, not, ◌&&◌, List, [], ◌∷◌, ◌++◌, drop, Option, Some, None, if◌then◌else◌, slice_index_or, option_map, codes}
use Rattle.trace_types.specs.text.Name.{Text, is_same}
use Rattle.trace_types.specs.tenant.Limits.{Limits}
use Rattle.trace_types.specs.text.Text.{reply_text}
use Rattle.trace_types.specs.text.Reading.{addressed_by}
use Rattle.trace_types.specs.text.Lines.{is_too_long}
use Rattle.trace_types.specs.world.Interleaving.{Call, due_reply, MayBeMarked}
use Rattle.trace_types.specs.declared.code.Code.{Code}
use Rattle.trace_types.specs.declared.code.Code.TheVariants as code
use Rattle.trace_types.specs.declared.request.Request.{Request}
use Rattle.trace_types.specs.declared.reply.Reply.{Reply}
use Rattle.trace_types.specs.declared.reply.Reply.TheVariants.{Accepted, Refused}

-- the first place of the name among the tenants' names
abbrev pub place_of : List Text → Text → Option ℕ
place_of [] name = None
place_of (other ∷ names) name = if is_same other name then Some 0 else option_map suc (place_of names name)

-- What a line asks: it belongs to no tenant and is refused; it names a tenant and spells no request; or it is a
-- tenant's request.
pub data Asked : Type 0 where
  NoTenants : (code : Code) → Asked
  NoRequest : (tenant : ℕ) → Asked
  Asks : (tenant : ℕ) (request : Request) → Asked

-- what is asked by a tenant at this place, if it is one, with this request, if it is one
abbrev pub asked_at : Option ℕ → Option Request → Asked
asked_at None request = NoTenants code.NoTenant
asked_at (Some tenant) None = NoRequest tenant
asked_at (Some tenant) (Some request) = Asks tenant request

-- what is asked where a line names a tenant or does not
abbrev pub asked_by : List Text → Option (Text × Option Request) → Asked
asked_by names None = NoTenants code.Line
asked_by names (Some addressed) = asked_at (place_of names addressed.0) addressed.1

-- what the line asks of tenants of these names; one that is too long belongs to no tenant, whatever it names
abbrev pub asked : List Text → Text → Asked
asked names line = if is_too_long line then NoTenants code.Line else asked_by names (addressed_by line)

-- the call that is made, if any
abbrev pub call_of : Asked → Bool → List Call
call_of (NoTenants code) mark = []
call_of (NoRequest tenant) mark = []
call_of (Asks tenant request) mark = record { tenant = tenant; request = request; is_marked = mark } ∷ []

-- the reply to a line after the calls before it
abbrev pub reply_to : Limits → List Call → Asked → Bool → Reply
reply_to limits before (NoTenants code) mark = Refused code
reply_to limits before (NoRequest tenant) mark = Refused code.Line
reply_to limits before (Asks tenant request) mark = due_reply limits before (record { tenant = tenant; request = request; is_marked = mark })

-- whom the reply names: the tenant, or `?`
abbrev pub addressee : List Text → Asked → Text
addressee names (NoTenants code) = codes "?"
addressee names (NoRequest tenant) = slice_index_or names tenant []
addressee names (Asks tenant request) = slice_index_or names tenant []

-- the line that is written
abbrev pub written : List Text → Asked → Reply → Text
written names asked reply = addressee names asked ++ codes " " ++ reply_text reply ++ 10 ∷ []

-- what a line asks, and whether its call is marked
abbrev pub Entry : Type 0
Entry = Asked × Bool

-- the first mark; a line beyond the marks is not marked
abbrev pub first_mark : List Bool → Bool
first_mark [] = false
first_mark (mark ∷ marks) = mark

-- the lines with their marks
abbrev pub entries : List Text → List Text → List Bool → List Entry
entries names [] marks = []
entries names (line ∷ lines) marks = (asked names line, first_mark marks) ∷ entries names lines (drop 1 marks)

-- the calls that the lines make, in order
abbrev pub calls_by : List Entry → List Call
calls_by [] = []
calls_by (entry ∷ entries) = call_of entry.0 entry.1 ++ calls_by entries

-- the reply to each line
abbrev pub replies_to : Limits → List Call → List Entry → List Reply
replies_to limits before [] = []
replies_to limits before (entry ∷ entries) =
    reply_to limits before entry.0 entry.1 ∷ replies_to limits (before ++ call_of entry.0 entry.1) entries

-- all that is written for the lines
abbrev pub output : List Text → Limits → List Call → List Entry → Text
output names limits before [] = []
output names limits before (entry ∷ entries) =
    written names entry.0 (reply_to limits before entry.0 entry.1) ++ output names limits (before ++ call_of entry.0 entry.1) entries

-- The line's call, if it makes one, is marked only where it may be.
abbrev pub MarkMayStand : Limits → List Call → Entry → Type 0
MarkMayStand limits before entry = stands entry.0
  where
    stands : Asked → Type 0
    stands (NoTenants code) = Unit {0}
    stands (NoRequest tenant) = Unit {0}
    stands (Asks tenant request) = MayBeMarked limits before (record { tenant = tenant; request = request; is_marked = entry.1 })

abbrev pub MarksMayStand : Limits → List Call → List Entry → Type 0
MarksMayStand limits before [] = Unit {0}
MarksMayStand limits before (entry ∷ entries) =
    MarkMayStand limits before entry × MarksMayStand limits (before ++ call_of entry.0 entry.1) entries

-- A reply counts as accepted with 201, as refused with a refusal, and else as answered.
abbrev pub is_accepted : Reply → Bool
is_accepted (Accepted event) = true
is_accepted reply = false

abbrev pub is_refused : Reply → Bool
is_refused (Refused code) = true
is_refused reply = false

abbrev pub is_answered : Reply → Bool
is_answered reply = not (is_accepted reply) && not (is_refused reply)
