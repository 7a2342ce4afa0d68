-- The messages that a tenant's rows tell of.
use Rattle.std.specs.Prelude.{ℕ, suc, [], ◌∷◌, length, Option, Some}
use Rattle.message_book.specs.Book.{Messages, with_message, with_receipt}
use Rattle.trace_types.specs.text.Name.{Text}
use Rattle.trace_types.specs.tenant.Rows.{History, start_event}
use Rattle.trace_types.specs.declared.row.Kind.{Kind}
use Rattle.trace_types.specs.declared.row.Kind.TheVariants.{Send, Recv}

-- the messages with that which an event of this kind and number sends, or receives, whose task this event started
abbrev pub noted : Kind → Option Text → ℕ → ℕ → Messages ℕ → Messages ℕ
noted Send (Some name) start event messages = with_message name event messages
noted Recv (Some name) start event messages = with_receipt name start event messages
noted kind name start event messages = messages

-- the messages of these rows, each with its receipts by the events that started their tasks, or 0
abbrev pub messages_of : History → Messages ℕ
messages_of [] = []
messages_of (row ∷ earlier) = noted row.kind row.name (start_event earlier row.task) (suc (length earlier)) (messages_of earlier)
