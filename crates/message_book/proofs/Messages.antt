-- What the table of messages and the refusals say of the book.
use Rattle.std.proofs.Common.{◌≡◌, ℕ, zero, suc, ◌<◌, nat_le, if◌then◌else◌, Bool, true, false, cond, List, [], ◌∷◌, ◌++◌, length, map, slice_get, Option, Some, None, option_map, is_some, refl, sym, ap, ◌∙◌, unwrap_or, Ok, Err, arith}
use Rattle.std.proofs.lemmas.Bool.Decides.{nat_tests}
use Rattle.std.proofs.lemmas.Bool.{false≢true}
use Rattle.std.proofs.lemmas.List.{length-append, map-append}
use Rattle.std.proofs.lemmas.Option.{same_Some}
use Rattle.std.specs.List.{AllByRecursion, IsDistinct}
use Rattle.std.specs.Map.{lookup}
use Rattle.indexmap.specs.IndexMap.{set_value_at}
use Rattle.trace_types.specs.text.Name.{Text, is_same}
use Rattle.trace_types.proofs.Names.{is_same_iff, is_same-itself}
use Rattle.trace_types.specs.declared.code.Code.{Code}
use Rattle.trace_types.specs.declared.code.Code.TheVariants.{NoMessage, MessageExists, AlreadyReceived, MessagesFull, NoMemory}
use Rattle.message_book.specs.Book.{Book, Messages, Sent, entry_of, has_receipt, has_receipt_by, with_changed, with_receipt, without_last, LastIsUnreceived, refusal_of_send, refusal_of_receive}
use Rattle.message_book.specs.Chains.{receipts_in, seen_in, sent_in}
use Rattle.message_book.specs.Receiving.{IsAt, Receives}
use Rattle.message_book.specs.declared.message.Later.{Later}
use Rattle.message_book.specs.declared.message.Message.{Message}
use Rattle.message_book.specs.declared.message.Received.{Received}
use Rattle.message_book.proofs.Chains.{slice_get-seam}

-- which of two texts is named first makes no difference
pub is_same-other_way : (a b : Text) → is_same a b ≡ is_same b a
is_same-other_way a b = by (is_same a b) refl (is_same b a) refl
  where
    by : (one : Bool) → is_same a b ≡ one → (other : Bool) → is_same b a ≡ other → one ≡ other
    by true is true back = refl
    by false is false back = refl
    by true is false back = absurd (false≢true (sym back ∙ (is_same_iff b a).1 (sym ((is_same_iff a b).0 is))))
    by false is true back = absurd (false≢true (sym is ∙ (is_same_iff a b).1 (sym ((is_same_iff b a).0 back))))

-- if there is no first code, the first test fails, and the others have none
pub no_first_code : (test : Bool) (code : Code) (others : Option Code) → (if test then Some code else others) ≡ None → (test ≡ false) × (others ≡ None)
no_first_code true code others none = cc
no_first_code false code others none = (refl, none)

module _ {T : Type 0} where
  -- the look-up in the table is the search in the list
  pub found_in : (later : List (Later T)) (messages : List (Text × Message T)) (name : Text)
      → option_map (sent_in later) (lookup (is_same name) messages) ≡ entry_of (seen_in later messages) name
  found_in later [] name = refl
  found_in later (message ∷ rest) name = by (is_same name message.0) (found_in later rest name)
    where
      by : (same : Bool) → option_map (sent_in later) (lookup (is_same name) rest) ≡ entry_of (seen_in later rest) name
          → option_map (sent_in later) (cond same (Some message.1) (lookup (is_same name) rest)) ≡ cond same (Some (sent_in later message.1)) (entry_of (seen_in later rest) name)
      by true behind = refl
      by false behind = behind

  -- a test that all keys behind pass is passed by each of them
  passes_at : (test : Text → Bool) (messages : Messages T) (place : ℕ) {name : Text} {entry : Sent T} → AllByRecursion (λ key. test key ≡ false) (map (λ message. message.0) messages)
      → slice_get messages place ≡ Some (name, entry) → test name ≡ false
  passes_at test [] place all there = cc
  passes_at test (first ∷ rest) zero {name} {entry} all there =
      let here : first ≡ (name, entry) = same_Some first (name, entry) there in
      ap (λ (m : Text × Sent T). test m.0) (sym here) ∙ all.0
  passes_at test (first ∷ rest) (suc place) all there = passes_at test rest place all.1 there

  -- the message at a place is the one that is found by its name
  pub entry_at : (messages : Messages T) (place : ℕ) {name : Text} {entry : Sent T} → IsDistinct is_same (map (λ message. message.0) messages)
      → slice_get messages place ≡ Some (name, entry) → entry_of messages name ≡ Some entry
  unfolding IsDistinct
  entry_at [] place once there = cc
  entry_at (first ∷ rest) zero {name} {entry} once there =
      let here : first ≡ (name, entry) = same_Some first (name, entry) there in
      (λ i. cond (is_same name (here i).0) (Some (here i).1) (entry_of rest name)) ∙ ap (λ is. cond is (Some entry) (entry_of rest name)) (is_same-itself name)
  entry_at (first ∷ rest) (suc place) {name} {entry} once there =
      let apart = is_same-other_way name first.0 ∙ passes_at (is_same first.0) rest place once.0 there in
      ap (λ is. cond is (Some first.1) (entry_of rest name)) apart ∙ entry_at rest place once.1 there

  -- what is seen of the message at a place
  pub seen_at : (later : List (Later T)) (messages : List (Text × Message T)) (place : ℕ) {name : Text} {message : Message T} → slice_get messages place ≡ Some (name, message)
      → slice_get (seen_in later messages) place ≡ Some (name, sent_in later message)
  seen_at later [] place there = cc
  seen_at later (first ∷ rest) zero there = ap (option_map (λ (m : Text × Message T). (m.0, sent_in later m.1))) there
  seen_at later (first ∷ rest) (suc place) there = seen_at later rest place there

  pub is_at : (later : List (Later T)) (messages : List (Text × Message T)) (place : ℕ) {name : Text} {message : Message T} → slice_get messages place ≡ Some (name, message)
      → IsAt (seen_in later messages) name place
  is_at later messages place there = ap (option_map (λ (m : Text × Sent T). m.0)) (seen_at later messages place there)

  -- and what is written at its place is the change of the messages
  pub changed_at : (change : Sent T → Sent T) (later : List (Later T)) (messages : List (Text × Message T)) (place : ℕ) (written : Message T) {name : Text} {before : Message T}
      → IsDistinct is_same (map (λ message. message.0) (seen_in later messages)) → slice_get messages place ≡ Some (name, before)
      → sent_in later written ≡ change (sent_in later before) → seen_in later (set_value_at messages place written) ≡ with_changed change name (seen_in later messages)
  unfolding IsDistinct
  changed_at change later [] place written once there made = cc
  changed_at change later (first ∷ rest) zero written {name} {before} once there made =
      let here : first ≡ (name, before) = same_Some first (name, before) there in
      let itself : is_same name first.0 ≡ true = ap (λ (m : Text × Message T). is_same name m.0) here ∙ is_same-itself name in
      let was : change (sent_in later first.1) ≡ change (sent_in later before) = ap (λ (m : Text × Message T). change (sent_in later m.1)) here in
      (λ i. (first.0, (made ∙ sym was) i) ∷ seen_in later rest)
      ∙ sym (ap (λ is. cond is ((first.0, change (sent_in later first.1)) ∷ seen_in later rest) ((first.0, sent_in later first.1) ∷ with_changed change name (seen_in later rest))) itself)
  changed_at change later (first ∷ rest) (suc place) written {name} {before} once there made =
      let seen : slice_get (seen_in later rest) place ≡ Some (name, sent_in later before) = seen_at later rest place there in
      let apart = is_same-other_way name first.0 ∙ passes_at (is_same first.0) (seen_in later rest) place once.0 seen in
      ap (λ behind. (first.0, sent_in later first.1) ∷ behind) (changed_at change later rest place written once.1 there made)
      ∙ sym (ap (λ is. cond is ((first.0, change (sent_in later first.1)) ∷ seen_in later rest) ((first.0, sent_in later first.1) ∷ with_changed change name (seen_in later rest))) apart)

  -- the names of the messages are those in the table
  pub names_seen : (later : List (Later T)) (messages : List (Text × Message T)) → map (λ message. message.0) (seen_in later messages) ≡ map (λ message. message.0) messages
  names_seen later [] = refl
  names_seen later (first ∷ rest) = ap (λ names. first.0 ∷ names) (names_seen later rest)

  -- a message that can be sent is not there yet
  pub not_there_yet : (book : Book T) (name : Text) → refusal_of_send book name ≡ None → entry_of book.messages name ≡ None
  not_there_yet book name none = by (entry_of book.messages name) (no_first_code _ _ _ none).0
    where
      by : (found : Option (Sent T)) → is_some found ≡ false → found ≡ None
      by None absent = refl
      by (Some entry) absent = cc

  -- and there is room for it below the limit
  pub not_full_yet : (book : Book T) (name : Text) → refusal_of_send book name ≡ None → length book.messages < book.limit
  not_full_yet book name none =
      let full : Bool = nat_le book.limit (length book.messages) in
      let others = (no_first_code (is_some (entry_of book.messages name)) MessageExists (if full then Some MessagesFull else None) none).1 in
      below book.limit (length book.messages) (no_first_code full MessagesFull None others).0
    where
      below : (limit count : ℕ) → nat_le limit count ≡ false → count < limit
      below limit count not_full = grind (arith, nat_tests)

  -- so it is not in the table
  pub not_in_table : (later : List (Later T)) (messages : List (Text × Message T)) (name : Text) → entry_of (seen_in later messages) name ≡ None → lookup (is_same name) messages ≡ None
  not_in_table later messages name absent = by (lookup (is_same name) messages) (found_in later messages name ∙ absent)
    where
      by : (found : Option (Message T)) → option_map (sent_in later) found ≡ None → found ≡ None
      by None none = refl
      by (Some message) none = cc

  -- a message with a receipt is not absent
  pub received_is_not_absent : (messages : Messages T) (name : Text) → has_receipt (entry_of messages name) ≡ true → entry_of messages name ≡ None → ⊥
  received_is_not_absent messages name received absent = false≢true (ap has_receipt (sym absent) ∙ received)

  -- a message that is the last one, and whose send can be taken back, has no receipts
  pub last_is_unreceived : (later : List (Later T)) (front : List (Text × Message T)) (name : Text) (message : Message T) → LastIsUnreceived (seen_in later (front ++ (name, message) ∷ []))
      → message.received ≡ None
  last_is_unreceived later front name message unreceived = none message.received (ap (λ (m : Text × Sent T). m.1.receipts) same)
    where
      all : Messages T
      all = seen_in later (front ++ (name, message) ∷ [])

      taken : Text × Sent T
      taken = (unreceived.0, record { sent = unreceived.1; receipts = [] })

      own : Text × Sent T
      own = (name, sent_in later message)

      split : all ≡ seen_in later front ++ own ∷ []
      split = map-append (λ (m : Text × Message T). (m.0, sent_in later m.1)) front ((name, message) ∷ [])

      here : slice_get all (length (without_last all)) ≡ Some taken
      here = ap (λ (list : Messages T). slice_get list (length (without_last all))) unreceived.2 ∙ slice_get-seam (without_last all) taken []

      there : slice_get all (length (seen_in later front)) ≡ Some own
      there = ap (λ (list : Messages T). slice_get list (length (seen_in later front))) split ∙ slice_get-seam (seen_in later front) own []

      as_many : length (without_last all) ≡ length (seen_in later front)
      as_many = omega (
        arith,
        ap (λ (list : Messages T). length list) unreceived.2,
        length-append (without_last all) (taken ∷ []),
        ap (λ (list : Messages T). length list) split,
        length-append (seen_in later front) (own ∷ []),
      )

      same : own ≡ taken
      same = same_Some own taken (sym there ∙ ap (slice_get all) (sym as_many) ∙ here)

      none : (received : Option (Received T)) → receipts_in later received ≡ [] → received ≡ None
      none None is = refl
      none (Some first) is = cc

  -- ---- receipts

  module _ (same : T → T → Bool) (book : Book T) (name : Text) (task : T) where
    -- why a receipt is refused, of a message that is absent
    pub refusal-absent : entry_of book.messages name ≡ None → refusal_of_receive same book name task ≡ Some NoMessage
    refusal-absent absent = rw absent refl

    -- and of one that is there
    module _ (entry : Sent T) (found : entry_of book.messages name ≡ Some entry) where
      refusal-found : refusal_of_receive same book name task ≡ (if has_receipt_by same task (Some entry) then Some AlreadyReceived else None)
      refusal-found = rw found refl

      pub refusal-again : has_receipt_by same task (Some entry) ≡ true → refusal_of_receive same book name task ≡ Some AlreadyReceived
      refusal-again had = refusal-found ∙ ap (λ has. if has then Some AlreadyReceived else None) had

      pub refusal-new : has_receipt_by same task (Some entry) ≡ false → refusal_of_receive same book name task ≡ None
      refusal-new new = refusal-found ∙ ap (λ has. if has then Some AlreadyReceived else None) new

  module _ (same : T → T → Bool) (name : Text) (task : T) (event : ℕ) (before after : Book T) where
    -- what a receipt answers that is refused with the code that is due
    pub receives-refused : {A : Type 0} (code : Code) → refusal_of_receive same before name task ≡ Some code → after ≡ before → Receives {A = A} same name task event before after (Err code)
    receives-refused code refusal is = record {
      allowed = tt;
      ok = tt;
      code = sym (ap (λ refusal. unwrap_or refusal NoMemory) refusal);
      err = is;
      first = λ none. sym refusal;
    }

    pub receives-ok : {A : Type 0} (done : A) → refusal_of_receive same before name task ≡ None → after ≡ record before { messages = with_receipt name task event before.messages }
        → Receives same name task event before after (Ok done)
    receives-ok done allowed is = record { allowed = allowed; ok = is; code = tt; err = tt; first = λ none. sym allowed }

    -- and one that finds no memory, of a message that was received before
    pub receives-no_memory : {A : Type 0} → refusal_of_receive same before name task ≡ None → has_receipt (entry_of before.messages name) ≡ true → after ≡ before
        → Receives {A = A} same name task event before after (Err NoMemory)
    receives-no_memory allowed received is = record {
      allowed = tt;
      ok = tt;
      code = sym (ap (λ refusal. unwrap_or refusal NoMemory) allowed);
      err = is;
      first = λ none. absurd (false≢true (sym none ∙ received));
    }
