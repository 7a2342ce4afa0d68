-- How a book keeps receipts: the first one of a message with the message, and all others in one list. Each of these tells where the
-- one before it stands, and a set tells which tasks they are by.
use Rattle.std.specs.Prelude.{◌≡◌, ℕ, zero, suc, ◌≤◌, ◌==◌, ◌&&◌, ◌||◌, Bool, true, false, not, List, [], ◌∷◌, ◌++◌, length, map, Option, Some, None, nat_le, slice_get}
use Rattle.std.specs.List.{list_all, list_any}
use Rattle.std.specs.Option.{option_map_or}
use Rattle.trace_types.specs.text.Name.{Text}
use Rattle.message_book.specs.Book.{Book, Messages, Receipt, Sent}
use Rattle.message_book.specs.declared.message.Later.{Later}
use Rattle.message_book.specs.declared.message.Message.{Message}
use Rattle.message_book.specs.declared.message.Received.{Received}

module _ {T : Type 0} where
  abbrev pub receipt_of : Later T → Receipt T
  receipt_of one = record { task = one.task; event = one.event }

  -- so many receipts, the newest of which stands at this place, in their order
  abbrev pub follow : List (Later T) → ℕ → ℕ → List (Receipt T)
  follow later zero place = []
  follow later (suc n) place = option_map_or (λ one. follow later n one.before ++ receipt_of one ∷ []) (slice_get later place) []

  -- the receipts of a message but for the first
  abbrev pub others_in : List (Later T) → Option (Received T) → List (Receipt T)
  others_in later None = []
  others_in later (Some first) = follow later first.others first.newest

  abbrev pub receipts_in : List (Later T) → Option (Received T) → List (Receipt T)
  receipts_in later None = []
  receipts_in later (Some first) = record { task = first.task; event = first.event } ∷ follow later first.others first.newest

  -- what is seen of a message
  abbrev pub sent_in : List (Later T) → Message T → Sent T
  sent_in later message = record { sent = message.sent; receipts = receipts_in later message.received }

  -- and of all of them
  abbrev pub seen_in : List (Later T) → List (Text × Message T) → Messages T
  seen_in later messages = map (λ message. (message.0, sent_in later message.1)) messages

  -- the receipts but for the first of the message at this place
  abbrev pub others_at : List (Later T) → List (Text × Message T) → ℕ → List (Receipt T)
  others_at later messages place = option_map_or (λ message. others_in later message.1.received) (slice_get messages place) []

  -- whether the task has one of these receipts
  abbrev pub has_task : (T → T → Bool) → T → List (Receipt T) → Bool
  has_task same task receipts = list_any (λ receipt. same receipt.task task) receipts

  module _ (same : T → T → Bool) where
    -- whether so many receipts are there, each by another task, the newest of them at this place
    abbrev pub is_chain : List (Later T) → ℕ → ℕ → Bool
    is_chain later zero place = true
    is_chain later (suc n) place =
        option_map_or (λ one. not (has_task same one.task (follow later n one.before)) && is_chain later n one.before) (slice_get later place) false

    -- whether those of a message are
    abbrev pub is_chained : List (Later T) → Option (Received T) → Bool
    is_chained later None = true
    is_chained later (Some first) = is_chain later first.others first.newest && nat_le first.others (length later)

    -- and those of each
    abbrev pub are_chained : List (Later T) → List (Text × Message T) → Bool
    are_chained later messages = list_all (λ message. is_chained later message.1.received) messages

    -- whether two receipts are by one task and of one message, which is told by its place
    abbrev pub is_same_receipt : T × ℕ → T × ℕ → Bool
    is_same_receipt one other = same one.0 other.0 && one.1 == other.1

    -- whether one of these is
    abbrev pub has_key : List (T × ℕ) → T × ℕ → Bool
    has_key keys key = list_any (is_same_receipt key) keys

    -- whether the task received the message at this place, whose receipts are these
    abbrev pub is_receiver : List (T × ℕ) → ℕ → Option (Received T) → T → Bool
    is_receiver keys place None task = false
    is_receiver keys place (Some first) task = same first.task task || has_key keys (task, place)

    -- the set has exactly those receipts
    abbrev pub AreKnown : List (T × ℕ) → List (Later T) → List (Text × Message T) → Type 0
    AreKnown keys later messages = (task : T) (place : ℕ) → has_key keys (task, place) ≡ has_task same task (others_at later messages place)

-- The receipts that are not the first of their messages, with their tasks and the places of their messages, and for how many more
-- there is room.
pub record Kept (T : Type 0) : Type 0 where
  pub later : List (Later T)
  pub keys : List (T × ℕ)
  pub room : ℕ

-- the book of a table of messages, at this limit
abbrev pub book_of : {T : Type 0} → ℕ → List (Later T) → List (Text × Message T) → Book T
book_of limit later messages = record { limit = limit; messages = seen_in later messages }

-- There are no more messages than the limit, the receipts of each are chained, and the set has exactly those.
abbrev pub IsSound : {T : Type 0} → (T → T → Bool) → ℕ → Kept T → List (Text × Message T) → Type 0
IsSound same limit others messages =
    (length messages ≤ limit) × (are_chained same others.later messages ≡ true) × AreKnown same others.keys others.later messages
