-- The text of an event or of a header is one line, and how long that line is, where its words stand for themselves in JSON.
use Rattle.std.proofs.Common.{◌≡◌, ◌≢◌, ℕ, ◌+◌, ◌*◌, ◌^◌, ◌<◌, ◌≤◌, Bool, true, false, IsTrue, List, [], ◌∷◌, ◌++◌, length, refl, sym, ap, subst, ◌∙◌, arith, length-append, append_assoc, codes}
use Rattle.std.specs.Prelude.{◌==◌, ◌&&◌, ◌||◌, ◌%◌, not, nat_le, nat_lt}
use Rattle.std.specs.Fmt.{decimal}
use Rattle.std.specs.List.{All, list_all}
use Rattle.std.proofs.lemmas.Bool.{and_from, and_parts, cond-false, eqb-false, le-leb, le-ltb, leb-true, ne_eqb, not-true, not_from_false, or_from}
use Rattle.std.proofs.lemmas.Bool.Decides.{nat_tests}
use Rattle.std.proofs.lemmas.Fmt.{decimal_by_steps, length-decimal-le}
use Rattle.std.proofs.lemmas.List.Elements.{All-head, All-tail}
use Rattle.std.proofs.lemmas.List.Folds.{list_all-append}
use Rattle.json.specs.Print.{escape_letter, escape_byte, escape, quoted}
use Rattle.serde_json.specs.Data.{Data, number, unsigned, string, array, object, Members, member, no_members}
use Rattle.serde_json.specs.Written.{comma_if, compact_text, items_text, members_text}
use Rattle.trace_types.specs.tenant.Limits.{are_limits}
use Rattle.trace_types.specs.text.Name.{Text, is_name, is_name_byte}
use Rattle.trace_types.specs.text.Lines.{lines, without_return}
use Rattle.trace_types.specs.text.Text.{kind_text, name_text}
use Rattle.trace_types.specs.declared.row.Kind.{Kind}
use Rattle.trace_types.specs.declared.row.Kind.TheVariants.{Local, Spawn, Send, Recv, End, Join}
use Rattle.line_protocol.specs.Ends.{HasNoEnd}
use Rattle.line_protocol.proofs.EndsLemmas.{HasNoEnd-append, lines-ended}
use Rattle.trace_export.specs.Heading.{header_text}
use Rattle.trace_export.specs.Listing.{Listed, listed_json, numbers_json}
use Rattle.trace_export.specs.declared.header.Header.{Header}

-- ---- bytes that stand for themselves

-- whether the byte stands for itself in a string of JSON
abbrev pub is_plain : ℕ → Bool
is_plain byte = nat_le 32 byte && (not (byte == 34) && not (byte == 92))

-- each byte does
abbrev pub ArePlain : Text → Type 0
ArePlain text = list_all is_plain text ≡ true

plain_from : (byte : ℕ) → 32 ≤ byte → byte ≢ 34 → byte ≢ 92 → is_plain byte ≡ true
plain_from byte low no_quote no_slash =
    and_from (nat_le 32 byte) (not (byte == 34) && not (byte == 92)) (le-leb 32 byte low)
    (and_from (not (byte == 34)) (not (byte == 92)) (not_from_false (byte == 34) (ne_eqb byte 34 no_quote)) (not_from_false (byte == 92) (ne_eqb byte 92 no_slash)))

plain_parts : (byte : ℕ) → is_plain byte ≡ true → (32 ≤ byte) × (byte ≢ 34) × (byte ≢ 92)
plain_parts byte plain =
    let both = and_parts (nat_le 32 byte) (not (byte == 34) && not (byte == 92)) plain in
    let others = and_parts (not (byte == 34)) (not (byte == 92)) both.1 in
    (leb-true 32 byte both.0, eqb-false byte 34 (not-true (byte == 34) others.0), eqb-false byte 92 (not-true (byte == 92) others.1))

no_letter : (byte : ℕ) → is_plain byte ≡ true → escape_letter byte ≡ 0
no_letter byte plain =
    let parts = plain_parts byte plain in
    let other = λ (control : ℕ) (low : control < 32). ne_eqb byte control (λ is. omega (arith, is, low, parts.0)) in
    cond-false ((byte == 34) || (byte == 92)) _ _ (or_from (byte == 34) (byte == 92) (ne_eqb byte 34 parts.1) (ne_eqb byte 92 parts.2))
    ∙ (cond-false (byte == 8) _ _ (other 8 (omega arith))
    ∙ (cond-false (byte == 12) _ _ (other 12 (omega arith))
    ∙ (cond-false (byte == 10) _ _ (other 10 (omega arith))
    ∙ (cond-false (byte == 13) _ _ (other 13 (omega arith))
    ∙ cond-false (byte == 9) _ _ (other 9 (omega arith))))))

escape_byte-plain : (byte : ℕ) → is_plain byte ≡ true → escape_byte byte ≡ byte ∷ []
unfolding escape_byte
escape_byte-plain byte plain =
    cond-false (nat_lt 0 (escape_letter byte)) _ _ (ap (nat_lt 0) (no_letter byte plain))
    ∙ cond-false (nat_lt byte 32) _ _ (le-ltb byte 32 (plain_parts byte plain).0)

pub escape-plain : (text : Text) → ArePlain text → escape text ≡ text
escape-plain [] plain = refl
escape-plain (byte ∷ text) plain =
    let parts = and_parts (is_plain byte) (list_all is_plain text) plain in
    ap (λ front. front ++ escape text) (escape_byte-plain byte parts.0) ∙ ap (λ rest. byte ∷ rest) (escape-plain text parts.1)

HasNoEnd-plain : (text : Text) → ArePlain text → HasNoEnd text
HasNoEnd-plain [] plain = tt
HasNoEnd-plain (byte ∷ text) plain =
    let parts = and_parts (is_plain byte) (list_all is_plain text) plain in
    (ne_eqb byte 10 (λ is. omega (arith, is, (plain_parts byte parts.0).0)), HasNoEnd-plain text parts.1)

pub plain_append : (a b : Text) → ArePlain a → ArePlain b → ArePlain (a ++ b)
plain_append a b in_a in_b = list_all-append is_plain a b ∙ and_from (list_all is_plain a) (list_all is_plain b) in_a in_b

digit_is_plain : (n : ℕ) → n < 10 → ArePlain ((48 + n) ∷ [])
digit_is_plain n small =
    and_from (is_plain (48 + n)) true (plain_from (48 + n) (omega arith) (λ is. omega (arith, is)) (λ is. omega (arith, is, small))) refl

pub decimal_is_plain : (n : ℕ) → n < 2 ^ 64 → ArePlain (decimal n)
decimal_is_plain n fits = decimal_by_steps (λ n text. ArePlain text) digit_is_plain
    (λ n text more plain. plain_append text ((48 + n % 10) ∷ []) plain (digit_is_plain (n % 10) (omega arith))) n fits

-- a name is made of such bytes
name_byte_is_plain : (byte : ℕ) → is_name_byte byte ≡ true → is_plain byte ≡ true
name_byte_is_plain byte is = plain_from byte (grind (arith, nat_tests)) (λ quote. grind (arith, nat_tests)) (λ slash. grind (arith, nat_tests))

name_bytes_are_plain : (text : Text) → list_all is_name_byte text ≡ true → ArePlain text
name_bytes_are_plain [] all = refl
name_bytes_are_plain (byte ∷ text) all =
    let parts = and_parts (is_name_byte byte) (list_all is_name_byte text) all in
    and_from (is_plain byte) (list_all is_plain text) (name_byte_is_plain byte parts.0) (name_bytes_are_plain text parts.1)

pub name_is_plain : (text : Text) → IsTrue (is_name text) → ArePlain text × (length text ≤ 24)
name_is_plain text is =
    let parts = and_parts (nat_le 1 (length text) && nat_le (length text) 24) (list_all is_name_byte text) is in
    let sizes = and_parts (nat_le 1 (length text)) (nat_le (length text) 24) parts.0 in
    (name_bytes_are_plain text parts.1, leb-true (length text) 24 sizes.1)

-- ---- pieces of a line

-- The text has no end of line, and at most so many bytes.
pub record IsPiece (text : Text) (most : ℕ) : Type 0 where
  pub no_end : HasNoEnd text
  pub short : length text ≤ most

piece_within : {text : Text} {most more : ℕ} → IsPiece text most → most ≤ more → IsPiece text more
piece_within piece within = record { no_end = piece.no_end; short = omega (arith, piece.short, within) }

piece_append : {a b : Text} {m n : ℕ} → IsPiece a m → IsPiece b n → IsPiece (a ++ b) (m + n)
piece_append {a} {b} one other =
    record { no_end = HasNoEnd-append a b one.no_end other.no_end; short = omega (arith, length-append a b, one.short, other.short) }

piece_byte : (byte : ℕ) → (byte == 10) ≡ false → IsPiece (byte ∷ []) 1
piece_byte byte other = record { no_end = (other, tt); short = omega arith }

piece_plain : (text : Text) (most : ℕ) → ArePlain text → length text ≤ most → IsPiece text most
piece_plain text most plain short = record { no_end = HasNoEnd-plain text plain; short = short }

-- a plain text as a string of JSON
piece_quoted : (text : Text) (most : ℕ) → ArePlain text → length text ≤ most → IsPiece (quoted text) (1 + (most + 1))
piece_quoted text most plain short =
    let whole = piece_append (piece_byte 34 refl) (piece_append (piece_plain text most plain short) (piece_byte 34 refl)) in
    subst (λ (inner : Text). IsPiece (34 ∷ (inner ++ 34 ∷ [])) (1 + (most + 1))) (sym (escape-plain text plain)) whole

piece_decimal : (n : ℕ) → n < 10 ^ 5 → IsPiece (decimal n) 5
piece_decimal n small = piece_plain (decimal n) 5 (decimal_is_plain n (omega (arith, small))) (length-decimal-le 5 n (omega arith) small (omega (arith, small)))

piece_comma : (later : Bool) → IsPiece (comma_if later) 1
piece_comma true = piece_byte 44 refl
piece_comma false = record { no_end = tt; short = omega arith }

-- numbers as JSON
pieces_numbers : (later : Bool) (numbers : List ℕ) → All (λ n. n < 10 ^ 5) numbers → IsPiece (items_text later (numbers_json numbers)) (6 * length numbers + 1)
pieces_numbers later [] small = piece_within (piece_byte 93 refl) (omega arith)
pieces_numbers later (n ∷ numbers) small =
    piece_within
    (piece_append (piece_comma later) (piece_append (piece_decimal n (All-head (λ k. k < 10 ^ 5) n numbers small)) (pieces_numbers true numbers (All-tail (λ k. k < 10 ^ 5) n numbers small))))
    (omega arith)

piece_numbers : (numbers : List ℕ) → length numbers ≤ 2 → All (λ n. n < 10 ^ 5) numbers → IsPiece (compact_text (array (numbers_json numbers))) 14
piece_numbers numbers few small =
    let all = piece_append (piece_byte 91 refl) (pieces_numbers false numbers small) in piece_within all (omega (arith, few))

piece_kind : (kind : Kind) → IsPiece (quoted (kind_text kind)) 7
piece_kind Local = piece_quoted (codes "local") 5 refl (omega arith)
piece_kind Spawn = piece_quoted (codes "spawn") 5 refl (omega arith)
piece_kind Send = piece_quoted (codes "send") 5 refl (omega arith)
piece_kind Recv = piece_quoted (codes "recv") 5 refl (omega arith)
piece_kind End = piece_quoted (codes "end") 5 refl (omega arith)
piece_kind Join = piece_quoted (codes "join") 5 refl (omega arith)

-- ---- lines

-- The text has no end of line, ends in no carriage return, and has at most so many bytes.
pub record IsLine (text : Text) (most : ℕ) : Type 0 where
  pub no_end : HasNoEnd text
  pub short : length text ≤ most
  pub some : 0 < length text
  pub kept : without_return text ≡ text

line_within : {text : Text} {most more : ℕ} → IsLine text most → most ≤ more → IsLine text more
line_within line within = record { no_end = line.no_end; short = omega (arith, line.short, within); some = line.some; kept = line.kept }

kept_cons : (byte : ℕ) (text : Text) → 0 < length text → without_return text ≡ text → without_return (byte ∷ text) ≡ byte ∷ text
kept_cons byte [] some kept = absurd (omega (arith, some))
kept_cons byte (next ∷ text) some kept = ap (λ rest. byte ∷ rest) kept

kept_append : (a b : Text) → 0 < length b → without_return b ≡ b → without_return (a ++ b) ≡ a ++ b
kept_append [] b some kept = kept
kept_append (byte ∷ a) b some kept = kept_cons byte (a ++ b) (omega (arith, length-append a b, some)) (kept_append a b some kept)

line_append : {a b : Text} {m n : ℕ} → IsPiece a m → IsLine b n → IsLine (a ++ b) (m + n)
line_append {a} {b} one rest = record {
  no_end = HasNoEnd-append a b one.no_end rest.no_end;
  short = omega (arith, length-append a b, one.short, rest.short);
  some = omega (arith, length-append a b, rest.some);
  kept = kept_append a b rest.some rest.kept;
}

line_end : IsLine (members_text true no_members) 1
line_end = record { no_end = (refl, tt); short = omega arith; some = omega arith; kept = refl }

-- a member of an object before others
line_member : (later : Bool) (key : Text) (d : Data) (others : Members) {m n : ℕ} → ArePlain key → length key ≤ 8 → IsPiece (compact_text d) m → IsLine (members_text true others) n
    → IsLine (members_text later (member key d others)) (1 + (1 + (8 + 1) + (1 + (m + n))))
line_member later key d others plain short value rest =
    let all = line_append (piece_comma later) (line_append (piece_quoted key 8 plain short) (line_append (piece_byte 58 refl) (line_append value rest))) in
    all

-- an object with some
line_object : (others : Members) {n : ℕ} → IsLine (members_text false others) n → IsLine (compact_text (object others)) (1 + n)
line_object others rest = let all = line_append (piece_byte 123 refl) rest in all

-- ---- the line of an event

-- the members of an event's line, from each of them on
module _ (listed : Listed) where
  abbrev pub from_task : Members
  from_task = member (codes "task") (string listed.task) no_members

  abbrev pub from_stamp : Members
  from_stamp = member (codes "stamp") (string listed.stamp) from_task

  abbrev pub from_preds : Members
  from_preds = member (codes "preds") (array (numbers_json listed.preds)) from_stamp

  abbrev pub from_name : Members
  from_name = member (codes "name") (string (name_text listed.name)) from_preds

  abbrev pub from_kind : Members
  from_kind = member (codes "kind") (string (kind_text listed.kind)) from_name

-- what is listed has plain words and small numbers
pub record IsPlainListed (listed : Listed) : Type 0 where
  pub event : listed.event < 10 ^ 5
  pub name : ArePlain (name_text listed.name) × (length (name_text listed.name) ≤ 24)
  pub preds : (length listed.preds ≤ 2) × All (λ n. n < 10 ^ 5) listed.preds
  pub stamp : ArePlain listed.stamp × (length listed.stamp ≤ 36855)
  pub task : ArePlain listed.task × (length listed.task ≤ 24)

module _ (listed : Listed) (plain : IsPlainListed listed) where
  line_from_stamp : IsLine (members_text true (from_stamp listed)) 36950
  line_from_stamp = line_within
      (line_member true (codes "stamp") (string listed.stamp) (from_task listed) refl (omega arith) (piece_quoted listed.stamp 36855 plain.stamp.0 plain.stamp.1)
      (line_member true (codes "task") (string listed.task) no_members refl (omega arith) (piece_quoted listed.task 24 plain.task.0 plain.task.1) line_end))
      (omega arith)

  line_from_name : IsLine (members_text true (from_name listed)) 37100
  line_from_name = line_within
      (line_member true (codes "name") (string (name_text listed.name)) (from_preds listed) refl (omega arith) (piece_quoted (name_text listed.name) 24 plain.name.0 plain.name.1)
      (line_member true (codes "preds") (array (numbers_json listed.preds)) (from_stamp listed) refl (omega arith) (piece_numbers listed.preds plain.preds.0 plain.preds.1) line_from_stamp))
      (omega arith)

  -- the text of such an event is a line that is short enough
  pub listed_is_line : IsLine (compact_text (listed_json listed)) 65536
  listed_is_line = line_within
      (line_object (member (codes "event") (number (unsigned listed.event)) (from_kind listed))
      (line_member false (codes "event") (number (unsigned listed.event)) (from_kind listed) refl (omega arith) (piece_decimal listed.event plain.event)
      (line_member true (codes "kind") (string (kind_text listed.kind)) (from_name listed) refl (omega arith) (piece_kind listed.kind) line_from_name)))
      (omega arith)

-- ---- the line of a header

limits_are_small : (events tasks messages : ℕ) → IsTrue (are_limits events tasks messages) → (events < 10 ^ 5) × (tasks < 10 ^ 5) × (messages < 10 ^ 5)
limits_are_small events tasks messages are = grind (arith, nat_tests)

module _ (header : Header) (named : IsTrue (is_name header.tenant)) (are : IsTrue (are_limits header.limits.events header.limits.tasks header.limits.messages)) where
  abbrev from_version : Members
  from_version = member (codes "version") (number (unsigned 2)) no_members

  abbrev from_tenant : Members
  from_tenant = member (codes "tenant") (string header.tenant) from_version

  abbrev from_tasks : Members
  from_tasks = member (codes "tasks") (number (unsigned header.limits.tasks)) from_tenant

  abbrev from_messages : Members
  from_messages = member (codes "messages") (number (unsigned header.limits.messages)) from_tasks

  line_from_tenant : IsLine (members_text true from_tenant) 100
  line_from_tenant =
      let plain = name_is_plain header.tenant named in
      line_within
      (line_member true (codes "tenant") (string header.tenant) from_version refl (omega arith) (piece_quoted header.tenant 24 plain.0 plain.1)
      (line_member true (codes "version") (number (unsigned 2)) no_members refl (omega arith) (piece_decimal 2 (omega arith)) line_end))
      (omega arith)

  -- the text of such a header is a line that is short enough
  pub header_is_line : IsLine (header_text header) 65536
  header_is_line =
      let small = limits_are_small header.limits.events header.limits.tasks header.limits.messages are in
      line_within
      (line_object (member (codes "events") (number (unsigned header.limits.events)) from_messages)
      (line_member false (codes "events") (number (unsigned header.limits.events)) from_messages refl (omega arith) (piece_decimal header.limits.events small.0)
      (line_member true (codes "messages") (number (unsigned header.limits.messages)) from_tasks refl (omega arith) (piece_decimal header.limits.messages small.2)
      (line_member true (codes "tasks") (number (unsigned header.limits.tasks)) from_tenant refl (omega arith) (piece_decimal header.limits.tasks small.1) line_from_tenant))))
      (omega arith)

-- ---- lines one behind the other

-- a line with its end is the first of the lines
pub lines-line : (text rest : Text) (most : ℕ) → IsLine text most → lines ((text ++ 10 ∷ []) ++ rest) ≡ text ∷ lines rest
lines-line text rest most line =
    ap lines (append_assoc text (10 ∷ []) rest) ∙ lines-ended text rest line.no_end ∙ ap (λ first. first ∷ lines rest) line.kept
