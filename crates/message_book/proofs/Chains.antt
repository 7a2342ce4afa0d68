-- Receipts that are not the first of their messages.
use Rattle.std.proofs.Common.{◌≡◌, ◌≢◌, ◌⊎◌, ℕ, zero, suc, ◌+◌, ◌-◌, ◌<◌, eqb, nat_le, Bool, true, false, cond, not, ◌||◌, ◌&&◌, List, [], ◌∷◌, ◌++◌, length, map, drop, set, take, slice_get, Option, Some, None, refl, sym, ap, ◌∙◌, inl, inr, arith}
use Rattle.std.proofs.Math.Bool.{or_comm}
use Rattle.std.proofs.Math.Seq.{take-append_seam}
use Rattle.std.proofs.lemmas.Bool.{false≢true, and_parts, cases_Bool, eq-eqb, eqb-true}
use Rattle.std.proofs.lemmas.Bool.Decides.{nat_tests}
use Rattle.std.proofs.lemmas.List.{append_assoc, drop-set, length-append, length-set, map-append}
use Rattle.std.proofs.lemmas.List.Folds.{list_any-append, list_all-append}
use Rattle.std.proofs.lemmas.Option.{same_Some, slice_get_within}
use Rattle.std.specs.Cmp.{IsEquivalence}
use Rattle.std.specs.Map.{lookup}
use Rattle.std.specs.Option.{option_map_or}
use Rattle.indexmap.specs.IndexMap.{set_value_at}
use Rattle.trace_types.specs.text.Name.{Text, is_same}
use Rattle.message_book.specs.Book.{Receipt, has_receipt_by}
use Rattle.message_book.specs.Chains.{AreKnown, are_chained, follow, has_key, has_task, is_chain, is_chained, is_receiver, is_same_receipt, others_at, others_in, receipt_of, receipts_in, seen_in, sent_in}
use Rattle.message_book.specs.declared.message.Later.{Later}
use Rattle.message_book.specs.declared.message.Message.{Message}
use Rattle.message_book.specs.declared.message.Received.{Received}

-- what stands in a list stands there in a longer one, and what is added stands behind it
slice_get-longer : {X : Type 0} (xs ys : List X) (place : ℕ) (x : X) → slice_get xs place ≡ Some x → slice_get (xs ++ ys) place ≡ Some x
slice_get-longer [] ys place x there = cc
slice_get-longer (first ∷ xs) ys zero x there = there
slice_get-longer (first ∷ xs) ys (suc place) x there = slice_get-longer xs ys place x there

pub slice_get-seam : {X : Type 0} (xs : List X) (x : X) (rest : List X) → slice_get (xs ++ x ∷ rest) (length xs) ≡ Some x
slice_get-seam [] x rest = refl
slice_get-seam (first ∷ xs) x rest = slice_get-seam xs x rest

-- a list with one element more, without its last
pub take-more : {A : Type 0} (items : List A) (item : A) → take (length (items ++ item ∷ []) - 1) (items ++ item ∷ []) ≡ items
take-more items item =
    let seam : length (items ++ item ∷ []) - 1 ≡ length items = omega (arith, length-append items (item ∷ [])) in
    ap (λ n. take n (items ++ item ∷ [])) seam ∙ take-append_seam items (item ∷ [])

module _ {T : Type 0} (same : T → T → Bool) where
  -- whether a chain with one receipt more is one, whose newest receipt was found
  abbrev is_link : List (Later T) → ℕ → Option (Later T) → Bool
  is_link later n found = option_map_or (λ one. not (has_task same one.task (follow later n one.before)) && is_chain same later n one.before) found false

  -- the newest receipt of a chain is there, by a task that has none before it
  pub record Link (later : List (Later T)) (n place : ℕ) : Type 0 where
    pub one : Later T
    pub there : slice_get later place ≡ Some one
    pub new : has_task same one.task (follow later n one.before) ≡ false
    pub before : is_chain same later n one.before ≡ true

  pub newest_link : (later : List (Later T)) (n place : ℕ) → is_chain same later (suc n) place ≡ true → Link later n place
  newest_link later n place is = by (slice_get later place) refl is
    where
      was_new : (has : Bool) → not has ≡ true → has ≡ false
      was_new true is = cc
      was_new false is = refl

      by : (found : Option (Later T)) → slice_get later place ≡ found → is_link later n found ≡ true → Link later n place
      by None there is = absurd (false≢true is)
      by (Some one) there is =
          let parts = and_parts (not (has_task same one.task (follow later n one.before))) (is_chain same later n one.before) is in
          record { one = one; there = there; new = was_new _ parts.0; before = parts.1 }

  -- its receipts are those before it, and this one
  pub follow_link : (later : List (Later T)) (n place : ℕ) (one : Later T) → slice_get later place ≡ Some one → follow later (suc n) place ≡ follow later n one.before ++ receipt_of one ∷ []
  follow_link later n place one there = ap (λ found. option_map_or (λ (one : Later T). follow later n one.before ++ receipt_of one ∷ []) found []) there

  chain_link : (later : List (Later T)) (n place : ℕ) (one : Later T) → slice_get later place ≡ Some one → has_task same one.task (follow later n one.before) ≡ false
      → is_chain same later n one.before ≡ true → is_chain same later (suc n) place ≡ true
  chain_link later n place one there new before = ap (is_link later n) there ∙ (λ i. not (new i) && before i)

  -- a chain has so many receipts
  pub length-follow : (later : List (Later T)) (n place : ℕ) → is_chain same later n place ≡ true → length (follow later n place) ≡ n
  length-follow later zero place is = refl
  length-follow later (suc n) place is =
      let link = newest_link later n place is in
      omega (
        arith,
        ap length (follow_link later n place link.one link.there),
        length-append (follow later n link.one.before) (receipt_of link.one ∷ []),
        length-follow later n link.one.before link.before,
      )

  -- a message with other receipts than its first one has more than one
  pub has_many : (later : List (Later T)) (first : Received T) → is_chained same later (Some first) ≡ true → first.others ≢ 0 → 1 < length (receipts_in later (Some first))
  has_many later first is many =
      let chain = and_parts (is_chain same later first.others first.newest) (nat_le first.others (length later)) is in
      omega (arith, length-follow later first.others first.newest chain.0)

  -- a chain stays one, of the same receipts, where more are added to the list
  pub chain_longer : (later more : List (Later T)) (n place : ℕ) → is_chain same later n place ≡ true
      → (follow (later ++ more) n place ≡ follow later n place) × (is_chain same (later ++ more) n place ≡ true)
  chain_longer later more zero place is = (refl, refl)
  chain_longer later more (suc n) place is =
      let link = newest_link later n place is in
      let there = slice_get-longer later more place link.one link.there in
      let before = chain_longer later more n link.one.before link.before in (
        follow_link (later ++ more) n place link.one there ∙ ap (λ older. older ++ receipt_of link.one ∷ []) before.0 ∙ sym (follow_link later n place link.one link.there),
        chain_link (later ++ more) n place link.one there (ap (has_task same link.one.task) before.0 ∙ link.new) before.1,
      )

  -- a receipt by a task that has none in a chain makes it one longer
  pub chain_grows : (later : List (Later T)) (n : ℕ) (one : Later T) → is_chain same later n one.before ≡ true → has_task same one.task (follow later n one.before) ≡ false
      → (follow (later ++ one ∷ []) (suc n) (length later) ≡ follow later n one.before ++ receipt_of one ∷ []) × (is_chain same (later ++ one ∷ []) (suc n) (length later) ≡ true)
  chain_grows later n one is new =
      let there = slice_get-seam later one [] in
      let before = chain_longer later (one ∷ []) n one.before is in (
        follow_link (later ++ one ∷ []) n (length later) one there ∙ ap (λ older. older ++ receipt_of one ∷ []) before.0,
        chain_link (later ++ one ∷ []) n (length later) one there (ap (has_task same one.task) before.0 ∙ new) before.1,
      )

  -- ---- the receipts of messages

  -- what stays the same of a message where more are added to the list
  record StaysIn (later more : List (Later T)) (received : Option (Received T)) : Type 0 where
    others : others_in (later ++ more) received ≡ others_in later received
    chained : is_chained same (later ++ more) received ≡ true
    receipts : receipts_in (later ++ more) received ≡ receipts_in later received

  stays_in : (later more : List (Later T)) (received : Option (Received T)) → is_chained same later received ≡ true → StaysIn later more received
  stays_in later more None is = record { others = refl; chained = refl; receipts = refl }
  stays_in later more (Some first) is =
      let parts = and_parts (is_chain same later first.others first.newest) (nat_le first.others (length later)) is in
      let longer = chain_longer later more first.others first.newest parts.0 in
      let few : nat_le first.others (length (later ++ more)) ≡ true = grind (arith, nat_tests, length-append later more, parts.1) in
      record {
        others = longer.0;
        chained = λ i. longer.1 i && few i;
        receipts = ap (λ others. record { task = first.task; event = first.event } ∷ others) longer.0;
      }

  pub chained-longer : (later more : List (Later T)) (messages : List (Text × Message T)) → are_chained same later messages ≡ true → are_chained same (later ++ more) messages ≡ true
  chained-longer later more [] is = refl
  chained-longer later more (message ∷ rest) is =
      let parts = and_parts (is_chained same later message.1.received) (are_chained same later rest) is in
      λ i. (stays_in later more message.1.received parts.0).chained i && chained-longer later more rest parts.1 i

  pub seen-longer : (later more : List (Later T)) (messages : List (Text × Message T)) → are_chained same later messages ≡ true → seen_in (later ++ more) messages ≡ seen_in later messages
  seen-longer later more [] is = refl
  seen-longer later more (message ∷ rest) is =
      let parts = and_parts (is_chained same later message.1.received) (are_chained same later rest) is in
      λ i. (message.0, record { sent = message.1.sent; receipts = (stays_in later more message.1.received parts.0).receipts i }) ∷ seen-longer later more rest parts.1 i

  pub receipts-longer : (later more : List (Later T)) (received : Option (Received T)) → is_chained same later received ≡ true → receipts_in (later ++ more) received ≡ receipts_in later received
  receipts-longer later more received is = (stays_in later more received is).receipts

  others_at-longer : (later more : List (Later T)) (messages : List (Text × Message T)) → are_chained same later messages ≡ true → (place : ℕ)
      → others_at (later ++ more) messages place ≡ others_at later messages place
  others_at-longer later more [] is place = refl
  others_at-longer later more (message ∷ rest) is zero =
      (stays_in later more message.1.received (and_parts (is_chained same later message.1.received) (are_chained same later rest) is).0).others
  others_at-longer later more (message ∷ rest) is (suc place) =
      others_at-longer later more rest (and_parts (is_chained same later message.1.received) (are_chained same later rest) is).1 place

  -- the receipts of the message at a place are chained
  pub chained_at : (later : List (Later T)) (messages : List (Text × Message T)) (place : ℕ) {name : Text} {message : Message T} → are_chained same later messages ≡ true
      → slice_get messages place ≡ Some (name, message) → is_chained same later message.received ≡ true
  chained_at later [] place is there = cc
  chained_at later (first ∷ rest) zero {name} {message} is there =
      let here : first ≡ (name, message) = cc in
      ap (λ (m : Text × Message T). is_chained same later m.1.received) (sym here) ∙ (and_parts (is_chained same later first.1.received) (are_chained same later rest) is).0
  chained_at later (first ∷ rest) (suc place) is there =
      chained_at later rest place (and_parts (is_chained same later first.1.received) (are_chained same later rest) is).1 there

  -- so they are where other receipts of one message are written, if these are
  pub chained-set : (later : List (Later T)) (messages : List (Text × Message T)) (place : ℕ) (written : Message T) → are_chained same later messages ≡ true
      → is_chained same later written.received ≡ true → are_chained same later (set_value_at messages place written) ≡ true
  chained-set later [] place written is good = refl
  chained-set later (first ∷ rest) zero written is good = λ i. good i && (and_parts (is_chained same later first.1.received) (are_chained same later rest) is).1 i
  chained-set later (first ∷ rest) (suc place) written is good =
      let parts = and_parts (is_chained same later first.1.received) (are_chained same later rest) is in
      λ i. parts.0 i && chained-set later rest place written parts.1 good i

  pub chained-front : (later : List (Later T)) (front back : List (Text × Message T)) → are_chained same later (front ++ back) ≡ true → are_chained same later front ≡ true
  chained-front later front back is =
      (and_parts (are_chained same later front) (are_chained same later back) (sym (list_all-append (λ (m : Text × Message T). is_chained same later m.1.received) front back) ∙ is)).0

  pub chained-more : (later : List (Later T)) (front : List (Text × Message T)) (name : Text) (sent : ℕ) → are_chained same later front ≡ true
      → are_chained same later (front ++ (name, record { sent = sent; received = None }) ∷ []) ≡ true
  chained-more later [] name sent is = refl
  chained-more later (first ∷ rest) name sent is =
      let parts = and_parts (is_chained same later first.1.received) (are_chained same later rest) is in
      λ i. parts.0 i && chained-more later rest name sent parts.1 i

  -- ---- the receipts but for the first at each place

  others_at-set : (later : List (Later T)) (messages : List (Text × Message T)) (place : ℕ) (written : Message T) {name : Text} {before : Message T} (at : ℕ)
      → slice_get messages place ≡ Some (name, before)
      → (place ≡ at → others_at later (set_value_at messages place written) at ≡ others_in later written.received)
      × (place ≢ at → others_at later (set_value_at messages place written) at ≡ others_at later messages at)
  others_at-set later [] place written at there = cc
  others_at-set later (first ∷ rest) zero written zero there = (λ _. refl, λ differ. absurd (differ refl))
  others_at-set later (first ∷ rest) zero written (suc at) there = (λ is. absurd (omega (arith, is)), λ _. refl)
  others_at-set later (first ∷ rest) (suc place) written zero there = (λ is. absurd (omega (arith, is)), λ _. refl)
  others_at-set later (first ∷ rest) (suc place) written (suc at) there =
      let behind = others_at-set later rest place written at there in (λ is. behind.0 (omega (arith, is)), λ differ. behind.1 (λ is. differ (ap suc is)))

  others_at-pushed : (later : List (Later T)) (messages : List (Text × Message T)) (name : Text) (message : Message T) → message.received ≡ None → (at : ℕ)
      → others_at later (messages ++ (name, message) ∷ []) at ≡ others_at later messages at
  others_at-pushed later [] name message none zero = ap (others_in later) none
  others_at-pushed later [] name message none (suc at) = refl
  others_at-pushed later (first ∷ rest) name message none zero = refl
  others_at-pushed later (first ∷ rest) name message none (suc at) = others_at-pushed later rest name message none at

  pub others_there : (later : List (Later T)) (messages : List (Text × Message T)) (place : ℕ) {name : Text} {message : Message T} → slice_get messages place ≡ Some (name, message)
      → others_at later messages place ≡ others_in later message.received
  others_there later messages place there = ap (λ found. option_map_or (λ (m : Text × Message T). others_in later m.1.received) found []) there

  -- the set knows the same receipts where a message is sent that nobody received, and where one is taken away
  pub known-pushed : (keys : List (T × ℕ)) (later : List (Later T)) (messages : List (Text × Message T)) (name : Text) (sent : ℕ) → AreKnown same keys later messages
      → AreKnown same keys later (messages ++ (name, record { sent = sent; received = None }) ∷ [])
  known-pushed keys later messages name sent known =
      λ task at. known task at ∙ ap (has_task same task) (sym (others_at-pushed later messages name (record { sent = sent; received = None }) refl at))

  pub known-popped : (keys : List (T × ℕ)) (later : List (Later T)) (messages : List (Text × Message T)) (name : Text) (message : Message T) → message.received ≡ None
      → AreKnown same keys later (messages ++ (name, message) ∷ []) → AreKnown same keys later messages
  known-popped keys later messages name message none known = λ task at. known task at ∙ ap (has_task same task) (others_at-pushed later messages name message none at)

  -- a receipt more of the message at a place, which is not its first
  module _ (later : List (Later T)) (first : Received T) (task : T) (event : ℕ) (is : is_chained same later (Some first) ≡ true)
      (new : has_task same task (follow later first.others first.newest) ≡ false) where
    abbrev pub one : Later T
    one = record { task = task; event = event; before = first.newest }

    abbrev pub grown : Received T
    grown = record first { others = suc first.others; newest = length later }

    grows : (follow (later ++ one ∷ []) (suc first.others) (length later) ≡ follow later first.others first.newest ++ receipt_of one ∷ [])
        × (is_chain same (later ++ one ∷ []) (suc first.others) (length later) ≡ true)
    grows = chain_grows later first.others one (and_parts (is_chain same later first.others first.newest) (nat_le first.others (length later)) is).0 new

    pub grown_receipts : receipts_in (later ++ one ∷ []) (Some grown) ≡ receipts_in later (Some first) ++ receipt_of one ∷ []
    grown_receipts = ap (λ others. record { task = first.task; event = first.event } ∷ others) grows.0

    pub grown_chained : is_chained same (later ++ one ∷ []) (Some grown) ≡ true
    grown_chained =
        let few = (and_parts (is_chain same later first.others first.newest) (nat_le first.others (length later)) is).1 in
        let still_few : nat_le (suc first.others) (length (later ++ one ∷ [])) ≡ true = grind (arith, nat_tests, length-append later (one ∷ []), few) in
        λ i. grows.1 i && still_few i

    pub known-more : (keys keys_after : List (T × ℕ)) (messages : List (Text × Message T)) (place : ℕ) {name : Text} {message : Message T} → AreKnown same keys later messages
        → are_chained same later messages ≡ true → slice_get messages place ≡ Some (name, message) → message.received ≡ Some first
        → ((t : T) (at : ℕ) → has_key same keys_after (t, at) ≡ (is_same_receipt same (task, place) (t, at) || has_key same keys (t, at)))
        → AreKnown same keys_after (later ++ one ∷ []) (set_value_at messages place (record message { received = Some grown }))
    known-more keys keys_after messages place {name} {message} known chained there received clause = λ t at. clause t at ∙ by t at (cases_Bool (eqb place at))
      where
        written : Message T
        written = record message { received = Some grown }

        last_of : (a had : Bool) → ((a && true) || had) ≡ (had || (a || false))
        last_of true true = refl
        last_of true false = refl
        last_of false true = refl
        last_of false false = refl

        none_of : (a had : Bool) → ((a && false) || had) ≡ had
        none_of true had = refl
        none_of false had = refl

        by : (t : T) (at : ℕ) → (eqb place at ≡ true) ⊎ (eqb place at ≡ false)
            → (is_same_receipt same (task, place) (t, at) || has_key same keys (t, at)) ≡ has_task same t (others_at (later ++ one ∷ []) (set_value_at messages place written) at)
        by t at (inl here) =
            let at_is = eqb-true place at here in
            let before : others_at later messages at ≡ follow later first.others first.newest =
            ap (others_at later messages) (sym at_is) ∙ others_there later messages place there ∙ ap (others_in later) received in
            let after = (others_at-set (later ++ one ∷ []) messages place written at there).0 at_is ∙ grows.0 in
            (λ i. (same task t && here i) || (known t at ∙ ap (has_task same t) before) i)
            ∙ last_of (same task t) (has_task same t (follow later first.others first.newest))
            ∙ sym (list_any-append (λ (receipt : Receipt T). same receipt.task t) (follow later first.others first.newest) (receipt_of one ∷ []))
            ∙ ap (has_task same t) (sym after)
        by t at (inr away) =
            let differ : place ≢ at = λ same_place. false≢true (sym away ∙ eq-eqb place at same_place) in
            let after = (others_at-set (later ++ one ∷ []) messages place written at there).1 differ ∙ others_at-longer later (one ∷ []) messages chained at in
            (λ i. (same task t && away i) || known t at i) ∙ none_of (same task t) (has_task same t (others_at later messages at)) ∙ ap (has_task same t) (sym after)

  -- the receipts of the message at a place but for the first are as they were
  pub known-same : (keys : List (T × ℕ)) (later : List (Later T)) (messages : List (Text × Message T)) (place : ℕ) (written : Message T) {name : Text} {before : Message T}
      → AreKnown same keys later messages → slice_get messages place ≡ Some (name, before) → others_in later written.received ≡ others_in later before.received
      → AreKnown same keys later (set_value_at messages place written)
  known-same keys later messages place written {name} {before} known there others = λ task at. known task at ∙ ap (has_task same task) (sym (by at (cases_Bool (eqb place at))))
    where
      by : (at : ℕ) → (eqb place at ≡ true) ⊎ (eqb place at ≡ false) → others_at later (set_value_at messages place written) at ≡ others_at later messages at
      by at (inl here) =
          let at_is = eqb-true place at here in
          (others_at-set later messages place written at there).0 at_is ∙ others ∙ sym (others_there later messages place there) ∙ ap (others_at later messages) at_is
      by at (inr away) = (others_at-set later messages place written at there).1 λ same_place. false≢true (sym away ∙ eq-eqb place at same_place)

  -- one receipt less of the message at a place, which was not its first
  module _ (laws : IsEquivalence same) (later : List (Later T)) (first : Received T) (n : ℕ) (many : first.others ≡ suc n) (is : is_chained same later (Some first) ≡ true) where
    chain_is : is_chain same later (suc n) first.newest ≡ true
    chain_is = ap (λ n. is_chain same later n first.newest) (sym many) ∙ (and_parts (is_chain same later first.others first.newest) (nat_le first.others (length later)) is).0

    pub link : Link later n first.newest
    link = newest_link later n first.newest chain_is

    abbrev pub shrunk : Received T
    shrunk = record first { others = n; newest = link.one.before }

    follow_is : follow later first.others first.newest ≡ follow later n link.one.before ++ receipt_of link.one ∷ []
    follow_is = ap (λ n. follow later n first.newest) many ∙ follow_link later n first.newest link.one link.there

    pub shrunk_receipts : receipts_in later (Some shrunk) ≡ take (length (receipts_in later (Some first)) - 1) (receipts_in later (Some first))
    shrunk_receipts =
        let whole : receipts_in later (Some first) ≡ receipts_in later (Some shrunk) ++ receipt_of link.one ∷ [] = ap (λ others. record { task = first.task; event = first.event } ∷ others) follow_is in
        sym (take-more (receipts_in later (Some shrunk)) (receipt_of link.one)) ∙ ap (λ receipts. take (length receipts - 1) receipts) (sym whole)

    pub shrunk_chained : is_chained same later (Some shrunk) ≡ true
    shrunk_chained =
        let few = (and_parts (is_chain same later first.others first.newest) (nat_le first.others (length later)) is).1 in
        let still_few : nat_le n (length later) ≡ true = grind (arith, nat_tests, few, many) in
        λ i. link.before i && still_few i

    -- two tasks that are the same have the same receipts
    has_same : (t : T) (receipts : List (Receipt T)) → same link.one.task t ≡ true → has_task same t receipts ≡ has_task same link.one.task receipts
    has_same t [] is_it = refl
    has_same t (receipt ∷ receipts) is_it =
        let here : same receipt.task t ≡ same receipt.task link.one.task =
        laws.symm receipt.task t ∙ sym (laws.congr link.one.task t receipt.task is_it) ∙ laws.symm link.one.task receipt.task in
        λ i. here i || has_same t receipts is_it i

    pub known-less : (keys keys_after : List (T × ℕ)) (messages : List (Text × Message T)) (place : ℕ) {name : Text} {message : Message T} → AreKnown same keys later messages
        → slice_get messages place ≡ Some (name, message) → message.received ≡ Some first
        → ((t : T) (at : ℕ) → has_key same keys_after (t, at) ≡ (not (is_same_receipt same (link.one.task, place) (t, at)) && has_key same keys (t, at)))
        → AreKnown same keys_after later (set_value_at messages place (record message { received = Some shrunk }))
    known-less keys keys_after messages place {name} {message} known there received clause = λ t at. clause t at ∙ by t at (cases_Bool (eqb place at))
      where
        written : Message T
        written = record message { received = Some shrunk }

        older : List (Receipt T)
        older = follow later n link.one.before

        none_of : (a had : Bool) → (not (a && false) && had) ≡ had
        none_of true had = refl
        none_of false had = refl

        but_last : (t : T) → (same link.one.task t ≡ true) ⊎ (same link.one.task t ≡ false)
            → (not (same link.one.task t && true) && has_task same t (follow later n link.one.before ++ receipt_of link.one ∷ [])) ≡ has_task same t (follow later n link.one.before)
        but_last t (inl is_it) =
            (λ i. not (is_it i && true) && has_task same t (follow later n link.one.before ++ receipt_of link.one ∷ []))
            ∙ sym (has_same t (follow later n link.one.before) is_it ∙ link.new)
        but_last t (inr is_not) =
            (λ i. not (is_not i && true) && (list_any-append (λ (receipt : Receipt T). same receipt.task t) (follow later n link.one.before) (receipt_of link.one ∷ [])
            ∙ ap (λ last. has_task same t (follow later n link.one.before) || (last || false)) is_not) i)
            ∙ or_comm (has_task same t (follow later n link.one.before)) false

        by : (t : T) (at : ℕ) → (eqb place at ≡ true) ⊎ (eqb place at ≡ false)
            → (not (is_same_receipt same (link.one.task, place) (t, at)) && has_key same keys (t, at)) ≡ has_task same t (others_at later (set_value_at messages place written) at)
        by t at (inl here) =
            let at_is = eqb-true place at here in
            let before = ap (others_at later messages) (sym at_is) ∙ others_there later messages place there ∙ ap (others_in later) received ∙ follow_is in
            (λ i. not (same link.one.task t && here i) && (known t at ∙ ap (has_task same t) before) i)
            ∙ but_last t (cases_Bool (same link.one.task t))
            ∙ ap (has_task same t) (sym ((others_at-set later messages place written at there).0 at_is))
        by t at (inr away) =
            let differ : place ≢ at = λ same_place. false≢true (sym away ∙ eq-eqb place at same_place) in
            (λ i. not (same link.one.task t && away i) && known t at i) ∙ none_of (same link.one.task t) (has_task same t (others_at later messages at))
            ∙ ap (has_task same t) (sym ((others_at-set later messages place written at there).1 differ))

  -- whether a task received the message at a place is told by its first receipt and the set
  pub receiver_is : (keys : List (T × ℕ)) (later : List (Later T)) (messages : List (Text × Message T)) (place : ℕ) (task : T) {name : Text} {message : Message T}
      → AreKnown same keys later messages → slice_get messages place ≡ Some (name, message)
      → has_receipt_by same task (Some (sent_in later message)) ≡ is_receiver same keys place message.received task
  receiver_is keys later messages place task {name} {message} known there = by message.received refl
    where
      by : (received : Option (Received T)) → message.received ≡ received → has_task same task (receipts_in later received) ≡ is_receiver same keys place received task
      by None none = refl
      by (Some first) some =
          ap (λ has. same first.task task || has) (sym (known task place ∙ ap (has_task same task) (others_there later messages place there ∙ ap (others_in later) some)))

  -- the receipts of a message that is found are chained
  pub chained_found : (later : List (Later T)) (messages : List (Text × Message T)) (name : Text) {message : Message T} → are_chained same later messages ≡ true
      → lookup (is_same name) messages ≡ Some message → is_chained same later message.received ≡ true
  chained_found later [] name is found = cc
  chained_found later (first ∷ rest) name {message} is found = by (cases_Bool (is_same name first.0)) found (chained_found later rest name parts.1)
    where
      parts : (is_chained same later first.1.received ≡ true) × (are_chained same later rest ≡ true)
      parts = and_parts (is_chained same later first.1.received) (are_chained same later rest) is

      by : (is_same name first.0 ≡ true) ⊎ (is_same name first.0 ≡ false) → cond (is_same name first.0) (Some first.1) (lookup (is_same name) rest) ≡ Some message
          → (lookup (is_same name) rest ≡ Some message → is_chained same later message.received ≡ true) → is_chained same later message.received ≡ true
      by (inl here) is_it behind =
          let same_one : first.1 ≡ message = same_Some first.1 message (sym (ap (λ is. cond is (Some first.1) (lookup (is_same name) rest)) here) ∙ is_it) in
          ap (λ (m : Message T). is_chained same later m.received) (sym same_one) ∙ parts.0
      by (inr away) is_it behind = behind (sym (ap (λ is. cond is (Some first.1) (lookup (is_same name) rest)) away) ∙ is_it)

-- the set after a key is taken away, in the words of the receipts
pub without_key : (is had : Bool) → cond is false had ≡ (not is && had)
without_key true had = refl
without_key false had = refl

-- ---- the events of receipts, written from the last place back

module _ {T : Type 0} (same : T → T → Bool) (later : List (Later T)) where
  abbrev pub events_of : List (Receipt T) → List ℕ
  events_of receipts = map (λ receipt. receipt.event) receipts

  -- So many receipts are left to be written, the newest of which stands at this place. Behind them stand the others.
  pub record IsFilled (all : List ℕ) (left place : ℕ) (events : List ℕ) (count : ℕ) : Type 0 where
    pub counted : length events ≡ count
    pub within : left < count
    pub chain : is_chain same later left place ≡ true
    pub written : events_of (follow later left place) ++ drop (suc left) events ≡ all

  module _ {all : List ℕ} {n place : ℕ} {events : List ℕ} {count : ℕ} (filled : IsFilled all (suc n) place events count) where
    -- the newest of them is there
    pub in_list : place < length later
    in_list = let link = newest_link same later n place filled.chain in slice_get_within later place _ link.there

    -- and is written before the others
    pub fills_on : (one : Later T) → slice_get later place ≡ Some one → IsFilled all n one.before (set events (suc n) one.event) count
    fills_on one there =
        let link = newest_link same later n place filled.chain in
        let is_it : link.one ≡ one = same_Some link.one one (sym link.there ∙ there) in
        let before : is_chain same later n one.before ≡ true = ap (λ (o : Later T). is_chain same later n o.before) (sym is_it) ∙ link.before in
        let next : suc n + 1 ≡ suc (suc n) = omega arith in
        let behind : drop (suc n) (set events (suc n) one.event) ≡ one.event ∷ drop (suc (suc n)) events =
        drop-set events (suc n) one.event (omega (arith, filled.within, filled.counted)) ∙ ap (λ m. one.event ∷ drop m events) next in
        record {
          counted = length-set events (suc n) one.event ∙ filled.counted;
          within = omega (arith, filled.within);
          chain = before;
          written = ap (λ rest. events_of (follow later n one.before) ++ rest) behind
              ∙ sym (append_assoc (events_of (follow later n one.before)) (one.event ∷ []) (drop (suc (suc n)) events))
              ∙ ap (λ newest. newest ++ drop (suc (suc n)) events)
              (sym (map-append (λ (receipt : Receipt T). receipt.event) (follow later n one.before) (receipt_of one ∷ [])) ∙ ap events_of (sym (follow_link same later n place one there)))
              ∙ filled.written;
        }
