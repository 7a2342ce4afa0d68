-- The book of one tenant's messages: what it has, what a send and a receipt do to it, and when they are refused.
use Rattle.std.specs.Prelude.{◌≡◌, ℕ, ◌-◌, Bool, false, not, List, [], ◌∷◌, ◌++◌, length, take, map, Option, Some, None, is_some, if◌then◌else◌, nat_le, nat_lt}
use Rattle.std.specs.List.{IsDistinct, list_any}
use Rattle.std.specs.Option.{option_map_or}
use Rattle.trace_types.specs.text.Name.{Text, is_same}
use Rattle.trace_types.specs.tenant.Refusal.{first_code}
use Rattle.trace_types.specs.declared.code.Code.{Code}
use Rattle.trace_types.specs.declared.code.Code.TheVariants.{NoMessage, MessageExists, AlreadyReceived, MessagesFull}

-- a task that received a message, by what names it, and the event by which it did
pub record Receipt (T : Type 0) : Type 0 where
  pub task : T
  pub event : ℕ

-- What the book has of a message: the event that sent it, and its receipts in the order in which they were taken.
pub record Sent (T : Type 0) : Type 0 where
  pub sent : ℕ
  pub receipts : List (Receipt T)

-- the name of each message and what the book has of it, in the order in which they were sent
abbrev pub Messages : Type 0 → Type 0
Messages T = List (Text × Sent T)

-- A book's whole state: how many messages it may have, and those that it has.
pub record Book (T : Type 0) : Type 0 where
  pub limit : ℕ
  pub messages : Messages T

-- For how many more messages, and receipts, there is room.
pub record Room : Type 0 where
  pub messages : ℕ
  pub receipts : ℕ

-- A book, and for how much more it has room.
pub record Roomy (T : Type 0) : Type 0 where
  pub book : Book T
  pub room : Room

-- no two messages have one name
abbrev pub AreNamedOnce : {T : Type 0} → Messages T → Type 0
AreNamedOnce messages = IsDistinct is_same (map (λ message. message.0) messages)

-- what the book has of the message of this name
abbrev pub entry_of : {T : Type 0} → Messages T → Text → Option (Sent T)
entry_of [] name = None
entry_of (message ∷ later) name = if is_same name message.0 then Some message.1 else entry_of later name

-- whether some task received the message
abbrev pub has_receipt : {T : Type 0} → Option (Sent T) → Bool
has_receipt None = false
has_receipt (Some entry) = nat_lt 0 (length entry.receipts)

-- whether this task received the message, by the test that tells tasks apart
abbrev pub has_receipt_by : {T : Type 0} → (T → T → Bool) → T → Option (Sent T) → Bool
has_receipt_by same task None = false
has_receipt_by same task (Some entry) = list_any (λ receipt. same receipt.task task) entry.receipts

-- the messages with one more, which this event sent and no task has received
abbrev pub with_message : {T : Type 0} → Text → ℕ → Messages T → Messages T
with_message name event messages = messages ++ (name, record { sent = event; receipts = [] }) ∷ []

-- what the book has of a message with one receipt more, at the end
abbrev pub entry_with_receipt : {T : Type 0} → T → ℕ → Sent T → Sent T
entry_with_receipt task event entry = record entry { receipts = entry.receipts ++ record { task = task; event = event } ∷ [] }

-- what the book has of a message without its last receipt
abbrev pub entry_without_last_receipt : {T : Type 0} → Sent T → Sent T
entry_without_last_receipt entry = record entry { receipts = take (length entry.receipts - 1) entry.receipts }

-- the messages, of which the one of this name is changed
abbrev pub with_changed : {T : Type 0} → (Sent T → Sent T) → Text → Messages T → Messages T
with_changed change name [] = []
with_changed change name (message ∷ later) =
    if is_same name message.0 then (message.0, change message.1) ∷ later else message ∷ with_changed change name later

-- the messages, of which the one of this name has one receipt more, by this task and event
abbrev pub with_receipt : {T : Type 0} → Text → T → ℕ → Messages T → Messages T
with_receipt name task event messages = with_changed (entry_with_receipt task event) name messages

-- the messages, of which the one of this name has its last receipt no more
abbrev pub without_last_receipt : {T : Type 0} → Text → Messages T → Messages T
without_last_receipt name messages = with_changed entry_without_last_receipt name messages

-- the messages without the last one
abbrev pub without_last : {T : Type 0} → Messages T → Messages T
without_last messages = take (length messages - 1) messages

-- The last message has no receipts: its send can be taken back.
abbrev pub LastIsUnreceived : {T : Type 0} → Messages T → Type 0
LastIsUnreceived messages = (name : Text) × (event : ℕ) × (messages ≡ with_message name event (without_last messages))

-- what a send is refused for, each with the test for it, in the order in which they are looked at
abbrev pub refusals_of_send : {T : Type 0} → Book T → Text → List (Bool × Code)
refusals_of_send book name =
    (is_some (entry_of book.messages name), MessageExists) ∷ (nat_le book.limit (length book.messages), MessagesFull) ∷ []

-- what a receipt of the message by the task is refused for
abbrev pub refusals_of_receive : {T : Type 0} → (T → T → Bool) → Book T → Text → T → List (Bool × Code)
refusals_of_receive same book name task =
    (not (is_some (entry_of book.messages name)), NoMessage) ∷ (has_receipt_by same task (entry_of book.messages name), AlreadyReceived) ∷ []

-- the code with which a send is refused, want of memory aside
abbrev pub refusal_of_send : {T : Type 0} → Book T → Text → Option Code
refusal_of_send book name = first_code (refusals_of_send book name)

-- the code with which a receipt is refused, want of memory aside
abbrev pub refusal_of_receive : {T : Type 0} → (T → T → Bool) → Book T → Text → T → Option Code
refusal_of_receive same book name task = first_code (refusals_of_receive same book name task)

-- the book after a send that may be refused
abbrev pub after_send : {T : Type 0} → Text → ℕ → Book T → Messages T
after_send name event book = option_map_or (λ code. book.messages) (refusal_of_send book name) (with_message name event book.messages)

-- and after a receipt that may be
abbrev pub after_receive : {T : Type 0} → (T → T → Bool) → Text → T → ℕ → Book T → Messages T
after_receive same name task event book =
    option_map_or (λ code. book.messages) (refusal_of_receive same book name task) (with_receipt name task event book.messages)
