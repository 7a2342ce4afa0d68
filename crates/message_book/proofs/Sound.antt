-- What each call makes of a sound book.
use Rattle.std.proofs.Common.{◌≡◌, ℕ, suc, ◌+◌, ◌-◌, ◌^◌, ◌≤◌, ◌<◌, nat_le, nat_lt, Bool, true, false, ◌&&◌, ◌||◌, not, List, [], ◌∷◌, ◌++◌, length, map, slice_get, Option, Some, None, option_map, option_to_list, Err, if◌then◌else◌, refl, sym, ap, subst, ◌∙◌, add-one, arith}
use Rattle.std.proofs.lemmas.Bool.{and_parts}
use Rattle.std.proofs.lemmas.Bool.Decides.{nat_tests}
use Rattle.std.proofs.lemmas.List.{append-nil, length-append, length-map, map-append}
use Rattle.std.proofs.lemmas.Option.{same_Some, slice_get_within}
use Rattle.std.specs.Cmp.{IsEquivalence}
use Rattle.std.specs.List.{IsDistinct}
use Rattle.std.specs.Map.{lookup}
use Rattle.indexmap.specs.IndexMap.{IndexMap, insert_entry, set_value_at}
use Rattle.indexmap.specs.Layout.{length-set_value_at}
use Rattle.indexmap.proofs.CallerLemmas.{insert_entry-new}
use Rattle.trace_types.specs.text.Name.{Text, is_same}
use Rattle.trace_types.specs.declared.code.Code.{Code}
use Rattle.trace_types.specs.declared.code.Code.TheVariants.{AlreadyReceived, NoMemory}
use Rattle.message_book.specs.Book.{Book, Sent, LastIsUnreceived, entry_of, entry_with_receipt, entry_without_last_receipt, has_receipt, has_receipt_by, with_changed, with_message, refusal_of_receive, refusal_of_send}
use Rattle.message_book.specs.Chains.{AreKnown, IsSound, Kept, are_chained, book_of, follow, has_key, has_task, is_chain, is_chained, is_receiver, is_same_receipt, others_at, others_in, receipts_in, seen_in, sent_in}
use Rattle.message_book.specs.Receiving.{IsAt, Receives}
use Rattle.message_book.specs.declared.message.Later.{Later}
use Rattle.message_book.specs.declared.message.Message.{Message}
use Rattle.message_book.specs.declared.message.Received.{Received}
use Rattle.message_book.proofs.Chains.{Link, chained-front, chained-longer, chained-more, chained-set, chained_at, grown_chained, grown_receipts, known-less, known-more, known-popped, known-pushed, known-same, link, others_there, receipts-longer, receiver_is, seen-longer, shrunk_chained, shrunk_receipts}
use Rattle.message_book.proofs.Messages.{changed_at, found_in, is_at, last_is_unreceived, names_seen, not_full_yet, not_in_table, not_there_yet, receives-no_memory, receives-refused, refusal-again, refusal-new}

module _ {T : Type 0} where
  -- ---- sends

  -- a message that nobody received
  abbrev pub unreceived : ℕ → Message T
  unreceived event = record { sent = event; received = None }

  -- what is written for a message that can be sent
  pub entries-sent : {S : Type 0} (limit : ℕ) (later : List (Later T)) (table : IndexMap Text (Message T) S) (name : Text) (event : ℕ) → refusal_of_send (book_of limit later table.entries) name ≡ None
      → insert_entry is_same table.entries name (unreceived event) ≡ table.entries ++ (name, unreceived event) ∷ []
  entries-sent limit later table name event can =
      insert_entry-new is_same table name (unreceived event) (not_in_table later table.entries name (not_there_yet (book_of limit later table.entries) name can))

  pub seen-sent : (later : List (Later T)) (messages : List (Text × Message T)) (name : Text) (event : ℕ)
      → seen_in later (messages ++ (name, unreceived event) ∷ []) ≡ with_message name event (seen_in later messages)
  seen-sent later messages name event = map-append (λ (m : Text × Message T). (m.0, sent_in later m.1)) messages ((name, unreceived event) ∷ [])

  module _ (same : T → T → Bool) (limit : ℕ) (others : Kept T) where
    pub sound-sent : (messages : List (Text × Message T)) (name : Text) (event : ℕ) → refusal_of_send (book_of limit others.later messages) name ≡ None
        → IsSound same limit others messages → IsSound same limit others (messages ++ (name, unreceived event) ∷ [])
    sound-sent messages name event can sound = (few, chained-more same others.later messages name event sound.1, known-pushed same others.keys others.later messages name event sound.2)
      where
        few : length (messages ++ (name, unreceived event) ∷ []) ≤ limit
        few = omega (
          arith,
          length-append messages ((name, unreceived event) ∷ []),
          length-map {B = Text × Sent T} messages (λ m. (m.0, sent_in others.later m.1)),
          not_full_yet (book_of limit others.later messages) name can,
        )

    -- a book stays sound without its last message, if nobody received that
    pub sound-popped : (front : List (Text × Message T)) (last : Option (Text × Message T)) → LastIsUnreceived (seen_in others.later (front ++ option_to_list last))
        → IsSound same limit others (front ++ option_to_list last) → IsSound same limit others front
    sound-popped front None unreceived sound = subst (IsSound same limit others) (append-nil front) sound
    sound-popped front (Some (name, message)) unreceived sound = (
      few,
      chained-front same others.later front ((name, message) ∷ []) sound.1,
      known-popped same others.keys others.later front name message (last_is_unreceived others.later front name message unreceived) sound.2,
    )
      where
        few : length front ≤ limit
        few = omega (arith, length-append front ((name, message) ∷ []), sound.0)

  -- ---- receipts of the message at a place

  module _ (same : T → T → Bool) (limit : ℕ) (others : Kept T) (messages : List (Text × Message T)) (place : ℕ) where
    -- a book with another message at a place is sound
    sound-set : (after : Kept T) (written : Message T) → IsSound same limit others messages → are_chained same after.later messages ≡ true → is_chained same after.later written.received ≡ true
        → AreKnown same after.keys after.later (set_value_at messages place written) → IsSound same limit after (set_value_at messages place written)
    sound-set after written sound chained good known =
        (subst (λ n. n ≤ limit) (sym (length-set_value_at messages place written)) sound.0, chained-set same after.later messages place written chained good, known)

    -- What is known of the message at a place, which is named in the book.
    pub record Found (book : Book T) (key name : Text) (message : Message T) : Type 0 where
      pub sound : IsSound same limit others messages
      pub view : book_of limit others.later messages ≡ book
      pub there : slice_get messages place ≡ Some (key, message)
      pub value : lookup (is_same key) messages ≡ Some message
      pub at : IsAt book.messages name place

    module _ {book : Book T} {key name : Text} {message : Message T} (found : Found book key name message) where
      key_is : key ≡ name
      key_is = same_Some key name (sym (is_at others.later messages place found.there) ∙ subst (λ (b : Book T). IsAt b.messages name place) (sym found.view) found.at)

      pub entry_is : entry_of book.messages name ≡ Some (sent_in others.later message)
      entry_is =
          sym (λ i. entry_of (found.view i).messages (key_is i)) ∙ sym (found_in others.later messages key) ∙ ap (option_map (sent_in others.later)) found.value

      has : (task : T) → has_receipt_by same task (Some (sent_in others.later message)) ≡ is_receiver same others.keys place message.received task
      has task = receiver_is same others.keys others.later messages place task found.sound.2 found.there

      -- why its receipt is refused
      pub is_again : (task : T) → is_receiver same others.keys place message.received task ≡ true → refusal_of_receive same book name task ≡ Some AlreadyReceived
      is_again task is = refusal-again same book name task (sent_in others.later message) entry_is (has task ∙ is)

      pub is_new : (task : T) → is_receiver same others.keys place message.received task ≡ false → refusal_of_receive same book name task ≡ None
      is_new task is = refusal-new same book name task (sent_in others.later message) entry_is (has task ∙ is)

      pub is_received : (first : Received T) → message.received ≡ Some first → has_receipt (entry_of book.messages name) ≡ true
      is_received first some = ap has_receipt entry_is ∙ ap (λ received. has_receipt (Some (sent_in others.later (record message { received = received })))) some ∙ positive (length (follow others.later first.others first.newest))
        where
          positive : (n : ℕ) → nat_lt 0 (suc n) ≡ true
          positive n = grind (arith, nat_tests)

      pub is_unreceived : message.received ≡ None → has_receipt (entry_of book.messages name) ≡ false
      is_unreceived none = ap has_receipt entry_is ∙ ap (λ received. has_receipt (Some (sent_in others.later (record message { received = received })))) none

      -- why a receipt is refused, or finds no memory, where the message has a first receipt by another task
      module _ (first : Received T) (some : message.received ≡ Some first) (task : T) (other : same first.task task ≡ false) where
        receiver_is_known : is_receiver same others.keys place message.received task ≡ has_key same others.keys (task, place)
        receiver_is_known =
            ap (λ received. is_receiver same others.keys place received task) some ∙ ap (λ is. is || has_key same others.keys (task, place)) other

        pub is_new_later : has_key same others.keys (task, place) ≡ false → refusal_of_receive same book name task ≡ None
        is_new_later new = is_new task (receiver_is_known ∙ new)

        pub is_again_later : has_key same others.keys (task, place) ≡ true → refusal_of_receive same book name task ≡ Some AlreadyReceived
        is_again_later had = is_again task (receiver_is_known ∙ had)

        pub refused-later : {A : Type 0} (event : ℕ) (after : Book T) (code : Code) → code ≡ (if has_key same others.keys (task, place) then AlreadyReceived else NoMemory) → after ≡ book
            → Receives {A = A} same name task event book after (Err code)
        refused-later {A} event after code code_is is = by (has_key same others.keys (task, place)) refl
          where
            by : (had : Bool) → has_key same others.keys (task, place) ≡ had → Receives {A = A} same name task event book after (Err code)
            by true had =
                let told : code ≡ AlreadyReceived = code_is ∙ ap (λ had. if had then AlreadyReceived else NoMemory) had in
                subst (λ c. Receives {A = A} same name task event book after (Err c)) (sym told) (receives-refused same name task event book after AlreadyReceived (is_again_later had) is)
            by false had =
                let told : code ≡ NoMemory = code_is ∙ ap (λ had. if had then AlreadyReceived else NoMemory) had in
                subst (λ c. Receives {A = A} same name task event book after (Err c)) (sym told) (receives-no_memory same name task event book after (is_new_later had) (is_received first some) is)

        -- with room it is refused with the code that is due
        pub refused-room : (code : Code) → code ≡ (if has_key same others.keys (task, place) then AlreadyReceived else NoMemory) → (has_key same others.keys (task, place) ≡ false → ⊥)
            → Some code ≡ refusal_of_receive same book name task
        refused-room code code_is not_new = by (has_key same others.keys (task, place)) refl
          where
            by : (had : Bool) → has_key same others.keys (task, place) ≡ had → Some code ≡ refusal_of_receive same book name task
            by true had = ap Some (code_is ∙ ap (λ had. if had then AlreadyReceived else NoMemory) had) ∙ sym (is_again_later had)
            by false had = absurd (not_new had)

      -- what the book is where another message is written in its place
      pub book_with : (change : Sent T → Sent T) (after : List (Later T)) (written : Message T) → IsDistinct is_same (map (λ message. message.0) messages) → seen_in after messages ≡ seen_in others.later messages
          → sent_in after written ≡ change (sent_in after message) → book_of limit after (set_value_at messages place written) ≡ record book { messages = with_changed change name book.messages }
      book_with change after written once stays made =
          let distinct = subst (IsDistinct is_same) (sym (names_seen after messages)) once in
          let changed = changed_at change after messages place written distinct found.there made ∙ (λ i. with_changed change (key_is i) (stays i)) ∙ ap (λ (b : Book T). with_changed change name b.messages) found.view in
          λ i. record { limit = (found.view i).limit; messages = changed i }

    -- ---- what a receipt makes of the message

    module _ {key : Text} {message : Message T} (sound : IsSound same limit others messages) (there : slice_get messages place ≡ Some (key, message)) where
      chained : is_chained same others.later message.received ≡ true
      chained = chained_at same others.later messages place sound.1 there

      -- its first one
      module _ (none : message.received ≡ None) (task : T) (event : ℕ) where
        abbrev pub with_first : Message T
        with_first = record message { received = Some (record { task = task; event = event; others = 0; newest = 0 }) }

        pub sound-first : IsSound same limit others (set_value_at messages place with_first)
        sound-first =
            sound-set others with_first sound sound.1 good (known-same same others.keys others.later messages place with_first sound.2 there (sym (ap (others_in others.later) none)))
          where
            good : nat_le 0 (length others.later) ≡ true
            good = grind (arith, nat_tests)

        pub sent-first : sent_in others.later with_first ≡ entry_with_receipt task event (sent_in others.later message)
        sent-first = ap (λ received. record { sent = message.sent; receipts = receipts_in others.later received ++ record { task = task; event = event } ∷ [] }) (sym none)

      -- and one more
      module _ (first : Received T) (some : message.received ≡ Some first) where
        first_chained : is_chained same others.later (Some first) ≡ true
        first_chained = ap (is_chained same others.later) (sym some) ∙ chained

        module _ (task : T) (event newest : ℕ) where
          abbrev pub one_more : Later T
          one_more = record { task = task; event = event; before = first.newest }

          abbrev pub with_later : Message T
          with_later = record message { received = Some (record first { others = first.others + 1; newest = newest }) }

          -- what is known of the receipts after it was added
          pub record Added (after : Kept T) : Type 0 where
            pub new : has_key same others.keys (task, place) ≡ false
            pub last : newest ≡ length others.later
            pub later : after.later ≡ others.later ++ one_more ∷ []
            pub keys : (t : T) (at : ℕ) → has_key same after.keys (t, at) ≡ (is_same_receipt same (task, place) (t, at) || has_key same others.keys (t, at))

          module _ {after : Kept T} (added : Added after) where
            new_here : has_task same task (follow others.later first.others first.newest) ≡ false
            new_here = ap (has_task same task) (sym (others_there same others.later messages place there ∙ ap (others_in others.later) some)) ∙ sym (sound.2 task place) ∙ added.new

            abbrev written : Message T
            written = record message { received = Some (record first { others = suc first.others; newest = length others.later }) }

            is_written : with_later ≡ written
            is_written = λ i. record message { received = Some (record first { others = add-one first.others i; newest = added.last i }) }

            pub sound-later : IsSound same limit after (set_value_at messages place with_later)
            sound-later = sound-set
                after
                with_later
                sound
                (ap (λ later. are_chained same later messages) added.later ∙ chained-longer same others.later (one_more ∷ []) messages sound.1)
                ((λ i. is_chained same (added.later i) (is_written i).received) ∙ grown_chained same others.later first task event first_chained new_here)
                known
              where
                known : AreKnown same after.keys after.later (set_value_at messages place with_later)
                known t at =
                    known-more same others.later first task event first_chained new_here others.keys after.keys messages place sound.2 sound.1 there some added.keys t at
                    ∙ sym (λ i. has_task same t (others_at (added.later i) (set_value_at messages place (is_written i)) at))

            pub seen-later : seen_in after.later messages ≡ seen_in others.later messages
            seen-later = ap (λ later. seen_in later messages) added.later ∙ seen-longer same others.later (one_more ∷ []) messages sound.1

            pub sent-later : sent_in after.later with_later ≡ entry_with_receipt task event (sent_in after.later message)
            sent-later =
                (λ i. sent_in (added.later i) (is_written i))
                ∙ ap (λ receipts. record { sent = message.sent; receipts = receipts }) (grown_receipts same others.later first task event first_chained new_here)
                ∙ sym (λ i. record { sent = message.sent; receipts = before i ++ record { task = task; event = event } ∷ [] })
              where
                before : receipts_in after.later message.received ≡ receipts_in others.later (Some first)
                before =
                    ap (λ later. receipts_in later message.received) added.later
                    ∙ receipts-longer same others.later (one_more ∷ []) message.received chained
                    ∙ ap (receipts_in others.later) some

            pub few_enough : length after.later < 2 ^ 32 → first.others + 1 < 2 ^ 32
            few_enough fits = few (and_parts (is_chain same others.later first.others first.newest) (nat_le first.others (length others.later)) first_chained).1
              where
                few : nat_le first.others (length others.later) ≡ true → first.others + 1 < 2 ^ 32
                few is = grind (arith, nat_tests, is, fits, ap length added.later, length-append others.later (one_more ∷ []))

        -- ---- and what is left of it without its last one

        -- where that was its first
        module _ (single : first.others ≡ 0) where
          abbrev pub without_first : Message T
          without_first = record message { received = None }

          pub sound-none : IsSound same limit others (set_value_at messages place without_first)
          sound-none = sound-set others without_first sound sound.1 refl (known-same same others.keys others.later messages place without_first sound.2 there others_are)
            where
              others_are : [] ≡ others_in others.later message.received
              others_are = sym (ap (others_in others.later) some ∙ ap (λ n. follow others.later n first.newest) single)

          pub sent-none : sent_in others.later without_first ≡ entry_without_last_receipt (sent_in others.later message)
          sent-none = sym (
              ap (λ received. entry_without_last_receipt (record { sent = message.sent; receipts = receipts_in others.later received })) some
              ∙ ap (λ n. entry_without_last_receipt (record { sent = message.sent; receipts = record { task = first.task; event = first.event } ∷ follow others.later n first.newest })) single
              )

        -- and where it was not
        module _ (laws : IsEquivalence same) (many : first.others ≡ suc (first.others - 1)) where
          abbrev last_link : Link same others.later (first.others - 1) first.newest
          last_link = link same laws others.later first (first.others - 1) many first_chained

          pub newest_within : first.newest < length others.later
          newest_within = slice_get_within others.later first.newest last_link.one last_link.there

          module _ (newest : ℕ) where
            abbrev pub without_later : Message T
            without_later = record message { received = Some (record first { others = first.others - 1; newest = newest }) }

            -- what is known of the receipts after it was forgotten
            pub record Forgotten (after : Kept T) : Type 0 where
              pub later : after.later ≡ others.later
              pub before : (one : Later T) → slice_get others.later first.newest ≡ Some one → newest ≡ one.before
              pub keys : (one : Later T) → slice_get others.later first.newest ≡ Some one → (t : T) (at : ℕ)
                  → has_key same after.keys (t, at) ≡ (not (is_same_receipt same (one.task, place) (t, at)) && has_key same others.keys (t, at))

            module _ {after : Kept T} (forgotten : Forgotten after) where
              abbrev left : Message T
              left = record message { received = Some (record first { others = first.others - 1; newest = last_link.one.before }) }

              is_left : without_later ≡ left
              is_left = λ i. record message { received = Some (record first { others = first.others - 1; newest = forgotten.before last_link.one last_link.there i }) }

              pub sound-less : IsSound same limit after (set_value_at messages place without_later)
              sound-less = sound-set
                  after
                  without_later
                  sound
                  (ap (λ later. are_chained same later messages) forgotten.later ∙ sound.1)
                  ((λ i. is_chained same (forgotten.later i) (is_left i).received) ∙ shrunk_chained same laws others.later first (first.others - 1) many first_chained)
                  known
                where
                  known : AreKnown same after.keys after.later (set_value_at messages place without_later)
                  known t at =
                      known-less
                      same
                      laws
                      others.later
                      first
                      (first.others - 1)
                      many
                      first_chained
                      others.keys
                      after.keys
                      messages
                      place
                      sound.2
                      there
                      some
                      (forgotten.keys last_link.one last_link.there)
                      t
                      at
                      ∙ sym (λ i. has_task same t (others_at (forgotten.later i) (set_value_at messages place (is_left i)) at))

              pub seen-less : seen_in after.later messages ≡ seen_in others.later messages
              seen-less = ap (λ later. seen_in later messages) forgotten.later

              pub sent-less : sent_in after.later without_later ≡ entry_without_last_receipt (sent_in after.later message)
              sent-less =
                  (λ i. sent_in (forgotten.later i) (is_left i))
                  ∙ ap (λ receipts. record { sent = message.sent; receipts = receipts }) (shrunk_receipts same laws others.later first (first.others - 1) many first_chained)
                  ∙ sym (λ i. entry_without_last_receipt (record { sent = message.sent; receipts = before i }))
                where
                  before : receipts_in after.later message.received ≡ receipts_in others.later (Some first)
                  before = ap (λ later. receipts_in later message.received) forgotten.later ∙ ap (receipts_in others.later) some
