-- What a receipt makes of a book, and answers.
use Rattle.std.specs.Prelude.{◌≡◌, ℕ, Bool, false, Some, None, Result, IfErr, OnErr, OnOk, slice_get, unwrap_or}
use Rattle.std.specs.Option.{option_map}
use Rattle.std.specs.Result.{result_err}
use Rattle.trace_types.specs.text.Name.{Text}
use Rattle.trace_types.specs.declared.code.Code.{Code}
use Rattle.trace_types.specs.declared.code.Code.TheVariants.{NoMemory}
use Rattle.message_book.specs.Book.{Book, Messages, entry_of, has_receipt, refusal_of_receive, with_receipt}

-- the message at this place has this name
abbrev pub IsAt : {T : Type 0} → Messages T → Text → ℕ → Type 0
IsAt messages name place = option_map (λ message. message.0) (slice_get messages place) ≡ Some name

-- The receipt of the message by the task and the event was added. Else it is refused with the code that is due, or there was no
-- memory, and the book is as it was. The first receipt of a message takes none.
pub record Receives {T A : Type 0} (same : T → T → Bool) (name : Text) (task : T) (event : ℕ) (before after : Book T) (result : Result A Code) : Type 0 where
  pub allowed : OnOk result (refusal_of_receive same before name task ≡ None)
  pub ok : OnOk result (after ≡ record before { messages = with_receipt name task event before.messages })
  pub code : IfErr result (λ code. code ≡ unwrap_or (refusal_of_receive same before name task) NoMemory)
  pub err : OnErr result (after ≡ before)
  pub first : has_receipt (entry_of before.messages name) ≡ false → result_err result ≡ refusal_of_receive same before name task
