-- What each accepted row says of the rows before it: what its report was not refused for.
use Rattle.std.specs.Prelude.{◌≡◌, false, IsTrue, [], ◌∷◌, Option, Some, None}
use Rattle.trace_types.specs.text.Name.{Text}
use Rattle.trace_types.specs.tenant.Rows.{History, is_known, is_ended, is_joined, is_sent, has_received}
use Rattle.trace_types.specs.declared.row.Kind.{Kind}
use Rattle.trace_types.specs.declared.row.Kind.TheVariants.{Local, Spawn, Send, Recv, End, Join}

-- the task is known and has not ended
abbrev pub IsLive : History → Text → Type 0
IsLive history task = IsTrue (is_known history task) × (is_ended history task ≡ false)

-- after these rows a report of this kind is not refused for what it names
abbrev pub AllowsNamed : History → Kind → Option Text → Type 0
AllowsNamed history Local name = Unit {0}
AllowsNamed history End name = Unit {0}
AllowsNamed history Spawn (Some child) = is_known history child ≡ false
AllowsNamed history Send (Some message) = is_sent history message ≡ false
AllowsNamed history Recv (Some message) = IsTrue (is_sent history message)
AllowsNamed history Join (Some child) =
    IsTrue (is_known history child) × IsTrue (is_ended history child) × (is_joined history child ≡ false)
AllowsNamed history kind None = ⊥

-- nor because its task has received the message that it names
abbrev pub AllowsReceipt : History → Text → Kind → Option Text → Type 0
AllowsReceipt history task Recv (Some message) = has_received history task message ≡ false
AllowsReceipt history task kind name = Unit {0}

-- nor for its task
abbrev pub Allows : History → Text → Kind → Option Text → Type 0
Allows history task kind name = IsLive history task × AllowsNamed history kind name × AllowsReceipt history task kind name

-- each row was allowed after those before it
abbrev pub IsLegal : History → Type 0
IsLegal [] = Unit {0}
IsLegal (row ∷ earlier) = Allows earlier row.task row.kind row.name × IsLegal earlier
