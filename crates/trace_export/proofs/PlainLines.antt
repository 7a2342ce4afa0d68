-- The line of a listed event is read again as it, by the grammar of JSON alone: no call has to read it.
use Rattle.std.proofs.Common.{◌≡◌, ◌≢◌, ℕ, ◌^◌, ◌<◌, ◌≤◌, ◌==◌, ◌↔◌, Bor, Bool, true, false, IsTrue, List, [], ◌∷◌, ◌++◌, length, Option, None, Some, IfSome, option_and_then, refl, subst, sym, ap, ◌∙◌, arith, append_assoc, append-nil, codes, IsUtf8}
use Rattle.std.specs.Fmt.{decimal}
use Rattle.std.specs.List.{All}
use Rattle.std.proofs.lemmas.Bool.{eqb-true}
use Rattle.std.proofs.lemmas.Fmt.{IsAscii-decimal}
use Rattle.std.proofs.lemmas.List.{append_cancel_left}
use Rattle.std.proofs.lemmas.List.Elements.{All-head, All-tail}
use Rattle.std.proofs.lemmas.Str.{IsUtf8-append, IsUtf8-from_ascii, IsUtf8-nil}
use Rattle.json.specs.Json as json
use Rattle.json.specs.Lex.{tokens}
use Rattle.json.specs.Print.{escape, escape_byte, quoted}
use Rattle.json.specs.Token.{Token}
use Rattle.json.specs.Tree as tree
use Rattle.json.proofs.Printed.Decimals.{IsNumber-decimal}
use Rattle.json.proofs.Printed.Tokens.{tokens-print}
use Rattle.json.proofs.Printed.Trees.{value-json_tokens, ArePrintable-json_tokens}
use Rattle.json.proofs.Printed.Utf8.{IsUtf8-are_ascii, IsUtf8-quoted}
use Rattle.serde_json.specs.Data.{Data, array, Members, member, no_members, number, string, unsigned}
use Rattle.serde_json.specs.Read.{max_depth, of_items, of_json, read}
use Rattle.serde_json.specs.Written.{comma_if, compact_text, items_outline, items_text, members_text, outline}
use Rattle.serde_json.proofs.Numbers.{number_of-decimal}
use Rattle.serde_json.proofs.Texts.{print-outline}
use Rattle.trace_types.specs.clock.Id.{Id, Zero, One, Pair}
use Rattle.trace_types.specs.clock.EventTree.{EventTree, Leaf, Node, maximum}
use Rattle.trace_types.specs.tenant.Tenant.{is_report}
use Rattle.trace_types.specs.text.Name.{Text, is_name}
use Rattle.trace_types.specs.text.StampText.{id_text, stamp_text, tree_text}
use Rattle.trace_types.specs.text.Text.{kind_text, name_text}
use Rattle.trace_types.specs.declared.row.Kind.{Kind}
use Rattle.trace_types.specs.declared.row.Kind.TheVariants.{Local, Spawn, Send, Recv, End, Join}
use Rattle.trace_types.specs.declared.row.Row.{Row}
use Rattle.trace_export.specs.DueLine.{IsSpelled, Strips, StripsOn, due_line, due_listed, due_text}
use Rattle.trace_export.specs.Listing.{Listed, IsReadAgain, listed_json, numbers_json}
use Rattle.trace_export.specs.Loading.{request_for}
use Rattle.trace_export.proofs.GoodStamps.{stamp_is_plain}
use Rattle.trace_export.proofs.OneLine.{ArePlain, escape-plain, from_kind, from_name, from_preds, from_stamp, from_task, name_is_plain}
use Rattle.trace_export.proofs.WrittenRows.{IsUtf8-name}

-- ---- reading

-- The event's number and its predecessors fit 64 bits.
pub record HasSmallNumbers (listed : Listed) : Type 0 where
  pub event : listed.event < 2 ^ 64
  pub preds : All (λ n. n < 2 ^ 64) listed.preds

of_items-numbers : (numbers : List ℕ) → All (λ n. n < 2 ^ 64) numbers → of_items (items_outline (numbers_json numbers)) ≡ Some (numbers_json numbers)
of_items-numbers [] small = refl
of_items-numbers (n ∷ numbers) small =
    rw (number_of-decimal n (All-head (λ k. k < 2 ^ 64) n numbers small)) (rw (of_items-numbers numbers (All-tail (λ k. k < 2 ^ 64) n numbers small)))

of_json-listed : (listed : Listed) → HasSmallNumbers listed → of_json (outline (listed_json listed)) ≡ Some (listed_json listed)
of_json-listed listed small = rw (number_of-decimal listed.event small.event) (rw (of_items-numbers listed.preds small.preds))

numbers_are_numbers : (numbers : List ℕ) → All (λ n. n < 2 ^ 64) numbers → tree.ItemsHaveNumbers (items_outline (numbers_json numbers))
numbers_are_numbers [] small = tt
numbers_are_numbers (n ∷ numbers) small =
    (IsNumber-decimal n (All-head (λ k. k < 2 ^ 64) n numbers small), numbers_are_numbers numbers (All-tail (λ k. k < 2 ^ 64) n numbers small))

has_numbers : (listed : Listed) → HasSmallNumbers listed → tree.HasNumbers (outline (listed_json listed))
has_numbers listed small = (IsNumber-decimal listed.event small.event, (tt, (tt, (numbers_are_numbers listed.preds small.preds, (tt, (tt, tt))))))

items_depth-outline : (numbers : List ℕ) → tree.items_depth (items_outline (numbers_json numbers)) ≡ 0
items_depth-outline [] = refl
items_depth-outline (n ∷ numbers) = omega (arith, items_depth-outline numbers)

outline_depth : (listed : Listed) → tree.depth (outline (listed_json listed)) ≤ max_depth
outline_depth listed = omega (arith, items_depth-outline listed.preds)

-- what the tokens of a whole text are read as
abbrev whole : Option (json.Json × List Token) → Option Data
whole found = option_and_then of_json (option_and_then (λ p. json.if_last p.0 p.1) found)

-- the tokens of the event's text
listed_tokens : (listed : Listed) → HasSmallNumbers listed → tokens (compact_text (listed_json listed)) ≡ tree.json_tokens (outline (listed_json listed))
listed_tokens listed small =
    ap tokens (sym (print-outline (listed_json listed)))
    ∙ tokens-print (tree.json_tokens (outline (listed_json listed))) (ArePrintable-json_tokens (outline (listed_json listed)) (has_numbers listed small))

-- the text of an event is read as it
pub reads_back : (listed : Listed) → HasSmallNumbers listed → read (compact_text (listed_json listed)) ≡ Some (listed_json listed)
reads_back listed small =
    let shape = outline (listed_json listed) in
    ap whole
    (ap (json.value max_depth) (listed_tokens listed small ∙ sym (append-nil (tree.json_tokens shape)))
    ∙ value-json_tokens shape max_depth [] (outline_depth listed))
    ∙ of_json-listed listed small

-- ---- UTF-8

-- The event's numbers fit 64 bits, and its texts are UTF-8.
pub record HasTexts (listed : Listed) : Type 0 where
  pub small : HasSmallNumbers listed
  pub name : IsUtf8 (name_text listed.name)
  pub stamp : IsUtf8 listed.stamp
  pub task : IsUtf8 listed.task

decimal_utf8 : (n : ℕ) → n < 2 ^ 64 → IsUtf8 (decimal n)
decimal_utf8 n small = IsUtf8-from_ascii (decimal n) (IsAscii-decimal n small)

comma_utf8 : (later : Bool) → IsUtf8 (comma_if later)
comma_utf8 true = IsUtf8-are_ascii (44 ∷ []) refl
comma_utf8 false = IsUtf8-nil

numbers_utf8 : (later : Bool) (numbers : List ℕ) → All (λ n. n < 2 ^ 64) numbers → IsUtf8 (items_text later (numbers_json numbers))
numbers_utf8 later [] small = IsUtf8-are_ascii (93 ∷ []) refl
numbers_utf8 later (n ∷ numbers) small =
    IsUtf8-append (comma_if later) (decimal n ++ items_text true (numbers_json numbers)) (comma_utf8 later)
    (IsUtf8-append (decimal n) (items_text true (numbers_json numbers)) (decimal_utf8 n (All-head (λ k. k < 2 ^ 64) n numbers small))
    (numbers_utf8 true numbers (All-tail (λ k. k < 2 ^ 64) n numbers small)))

byte_utf8 : (byte : ℕ) (rest : Text) → IsUtf8 (byte ∷ []) → IsUtf8 rest → IsUtf8 (byte ∷ rest)
byte_utf8 byte rest one others = IsUtf8-append (byte ∷ []) rest one others

kind_utf8 : (kind : Kind) → IsUtf8 (kind_text kind)
kind_utf8 Local = IsUtf8-are_ascii (codes "local") refl
kind_utf8 Spawn = IsUtf8-are_ascii (codes "spawn") refl
kind_utf8 Send = IsUtf8-are_ascii (codes "send") refl
kind_utf8 Recv = IsUtf8-are_ascii (codes "recv") refl
kind_utf8 End = IsUtf8-are_ascii (codes "end") refl
kind_utf8 Join = IsUtf8-are_ascii (codes "join") refl

member_utf8 : (later : Bool) (key : Text) (d : Data) (others : Members) → IsUtf8 key → IsUtf8 (compact_text d) → IsUtf8 (members_text true others)
    → IsUtf8 (members_text later (member key d others))
member_utf8 later key d others named value rest =
    IsUtf8-append (comma_if later) (quoted key ++ 58 ∷ (compact_text d ++ members_text true others)) (comma_utf8 later)
    (IsUtf8-append (quoted key) (58 ∷ (compact_text d ++ members_text true others)) (IsUtf8-quoted key named)
    (byte_utf8 58 (compact_text d ++ members_text true others) (IsUtf8-are_ascii (58 ∷ []) refl)
    (IsUtf8-append (compact_text d) (members_text true others) value rest)))

module _ (listed : Listed) (texts : HasTexts listed) where
  stamp_and_task : IsUtf8 (members_text true (from_stamp listed))
  stamp_and_task =
      member_utf8 true (codes "stamp") (string listed.stamp) (from_task listed) (IsUtf8-are_ascii (codes "stamp") refl) (IsUtf8-quoted listed.stamp texts.stamp)
      (member_utf8 true (codes "task") (string listed.task) no_members (IsUtf8-are_ascii (codes "task") refl) (IsUtf8-quoted listed.task texts.task)
      (IsUtf8-are_ascii (125 ∷ []) refl))

  name_and_others : IsUtf8 (members_text true (from_name listed))
  name_and_others =
      member_utf8 true (codes "name") (string (name_text listed.name)) (from_preds listed) (IsUtf8-are_ascii (codes "name") refl) (IsUtf8-quoted (name_text listed.name) texts.name)
      (member_utf8 true (codes "preds") (array (numbers_json listed.preds)) (from_stamp listed) (IsUtf8-are_ascii (codes "preds") refl)
      (byte_utf8 91 (items_text false (numbers_json listed.preds)) (IsUtf8-are_ascii (91 ∷ []) refl) (numbers_utf8 false listed.preds texts.small.preds)) stamp_and_task)

  listed_utf8 : IsUtf8 (compact_text (listed_json listed))
  listed_utf8 =
      byte_utf8 123 (members_text false (member (codes "event") (number (unsigned listed.event)) (from_kind listed))) (IsUtf8-are_ascii (123 ∷ []) refl)
      (member_utf8 false (codes "event") (number (unsigned listed.event)) (from_kind listed) (IsUtf8-are_ascii (codes "event") refl) (decimal_utf8 listed.event texts.small.event)
      (member_utf8 true (codes "kind") (string (kind_text listed.kind)) (from_name listed) (IsUtf8-are_ascii (codes "kind") refl) (IsUtf8-quoted (kind_text listed.kind) (kind_utf8 listed.kind)) name_and_others))

  -- the text of such an event is read again as it
  pub is_read : IsReadAgain listed
  is_read = (listed_utf8, reads_back listed texts.small)

-- ---- the texts of stamps

joined : (a b c : Text) → IsUtf8 a → IsUtf8 b → IsUtf8 c → IsUtf8 (a ++ (b ++ c))
joined a b c one two three = IsUtf8-append a (b ++ c) one (IsUtf8-append b c two three)

id_utf8 : (id : Id) → IsUtf8 (id_text id)
id_utf8 Zero = IsUtf8-are_ascii (codes "0") refl
id_utf8 One = IsUtf8-are_ascii (codes "1") refl
id_utf8 (Pair left right) =
    joined (codes "(") (id_text left) (codes "," ++ (id_text right ++ codes ")")) (IsUtf8-are_ascii (codes "(") refl) (id_utf8 left)
    (joined (codes ",") (id_text right) (codes ")") (IsUtf8-are_ascii (codes ",") refl) (id_utf8 right) (IsUtf8-are_ascii (codes ")") refl))

tree_utf8 : (tree : EventTree) → maximum tree < 2 ^ 64 → IsUtf8 (tree_text tree)
tree_utf8 (Leaf n) small = decimal_utf8 n small
tree_utf8 (Node n left right) small =
    joined (codes "(") (decimal n) (codes "," ++ (tree_text left ++ (codes "," ++ (tree_text right ++ codes ")")))) (IsUtf8-are_ascii (codes "(") refl) (decimal_utf8 n (omega (arith, small)))
    (joined (codes ",") (tree_text left) (codes "," ++ (tree_text right ++ codes ")")) (IsUtf8-are_ascii (codes ",") refl) (tree_utf8 left (omega (arith, small)))
    (joined (codes ",") (tree_text right) (codes ")") (IsUtf8-are_ascii (codes ",") refl) (tree_utf8 right (omega (arith, small))) (IsUtf8-are_ascii (codes ")") refl)))

pub stamp_utf8 : (id : Id) (tree : EventTree) → maximum tree < 2 ^ 64 → IsUtf8 (stamp_text id tree)
stamp_utf8 id tree small =
    joined (codes "[") (id_text id) (codes ";" ++ (tree_text tree ++ codes "]")) (IsUtf8-are_ascii (codes "[") refl) (id_utf8 id)
    (joined (codes ";") (tree_text tree) (codes "]") (IsUtf8-are_ascii (codes ";") refl) (tree_utf8 tree small) (IsUtf8-are_ascii (codes "]") refl))

-- ---- words that need no escapes

-- The words of the event stand for themselves in a string of JSON.
pub record HasPlainWords (listed : Listed) : Type 0 where
  pub name : ArePlain (name_text listed.name)
  pub stamp : ArePlain listed.stamp
  pub task : ArePlain listed.task

kind_is_plain : (kind : Kind) → ArePlain (kind_text kind)
kind_is_plain Local = refl
kind_is_plain Spawn = refl
kind_is_plain Send = refl
kind_is_plain Recv = refl
kind_is_plain End = refl
kind_is_plain Join = refl

-- the text of an event, if what stands for its words in strings of JSON is this
abbrev quoted_parts : Text → Text → Text → Text → Text → Text → Text
quoted_parts event kind name preds stamp task =
    codes "{\"event\":" ++ (event ++ (codes ",\"kind\":" ++ ((34 ∷ (kind ++ 34 ∷ [])) ++ (codes ",\"name\":" ++ ((34 ∷ (name ++ 34 ∷ [])) ++ (codes ",\"preds\":[" ++ (preds
    ++ (codes ",\"stamp\":" ++ ((34 ∷ (stamp ++ 34 ∷ [])) ++ (codes ",\"task\":" ++ ((34 ∷ (task ++ 34 ∷ [])) ++ codes "}")))))))))))

-- one piece behind the other
abbrev pub pieces : Text → Text → Text → Text → Text → Text → Text
pieces event kind name preds stamp task =
    codes "{\"event\":" ++ event ++ codes ",\"kind\":\"" ++ kind ++ codes "\",\"name\":\"" ++ name ++ codes "\",\"preds\":[" ++ preds
    ++ codes ",\"stamp\":\"" ++ stamp ++ codes "\",\"task\":\"" ++ task ++ codes "\"}"

parts_regrouped : (event kind name preds stamp task : Text) → quoted_parts event kind name preds stamp task ≡ pieces event kind name preds stamp task
parts_regrouped event kind name preds stamp task = simp append_assoc

-- what the parts of an event's text are
parts_quoted : (listed : Listed)
    → compact_text (listed_json listed)
    ≡ quoted_parts (decimal listed.event) (escape (kind_text listed.kind)) (escape (name_text listed.name)) (items_text false (numbers_json listed.preds)) (escape listed.stamp) (escape listed.task)
unfolding escape_byte
parts_quoted listed = refl

-- the text of such an event is its pieces, one behind the other
text_of_pieces : (listed : Listed) → HasPlainWords listed
    → compact_text (listed_json listed) ≡ pieces (decimal listed.event) (kind_text listed.kind) (name_text listed.name) (items_text false (numbers_json listed.preds)) listed.stamp listed.task
text_of_pieces listed plain =
    let event = decimal listed.event in
    let preds = items_text false (numbers_json listed.preds) in
    parts_quoted listed
    ∙ ap (λ kind. quoted_parts event kind (escape (name_text listed.name)) preds (escape listed.stamp) (escape listed.task)) (escape-plain (kind_text listed.kind) (kind_is_plain listed.kind))
    ∙ ap (λ name. quoted_parts event (kind_text listed.kind) name preds (escape listed.stamp) (escape listed.task)) (escape-plain (name_text listed.name) plain.name)
    ∙ ap (λ stamp. quoted_parts event (kind_text listed.kind) (name_text listed.name) preds stamp (escape listed.task)) (escape-plain listed.stamp plain.stamp)
    ∙ ap (λ task. quoted_parts event (kind_text listed.kind) (name_text listed.name) preds listed.stamp task) (escape-plain listed.task plain.task)
    ∙ parts_regrouped event (kind_text listed.kind) (name_text listed.name) preds listed.stamp listed.task

-- ---- the line of an event that is due

name_text_is_plain : (name : Option Text) → IfSome name (λ name. IsTrue (is_name name)) → ArePlain (name_text name)
name_text_is_plain None named = refl
name_text_is_plain (Some name) named = (name_is_plain name named).0

name_text_utf8 : (name : Option Text) → IfSome name (λ name. IsTrue (is_name name)) → IsUtf8 (name_text name)
name_text_utf8 None named = IsUtf8-are_ascii (codes "-") refl
name_text_utf8 (Some name) named = IsUtf8-name name named

-- its line is its pieces
pub due_line_is : (event : ℕ) (row : Row) (id : Id) (tree : EventTree) → IsSpelled event row tree → due_line event row id tree ≡ due_text event row (stamp_text id tree)
due_line_is event row id tree spelled =
    text_of_pieces (due_listed event row id tree)
    (record { name = name_text_is_plain row.name spelled.name; stamp = stamp_is_plain id tree spelled.values; task = (name_is_plain row.task spelled.task).0 })

-- and is read again as the event
pub due_is_read : (event : ℕ) (row : Row) (id : Id) (tree : EventTree) → IsSpelled event row tree → IsReadAgain (due_listed event row id tree)
due_is_read event row id tree spelled =
    is_read (due_listed event row id tree)
    (record {
      small = record { event = spelled.number; preds = spelled.preds };
      name = name_text_utf8 row.name spelled.name;
      stamp = stamp_utf8 id tree spelled.values;
      task = IsUtf8-name row.task spelled.task;
    })

-- ---- looking for pieces at the front of a text, one behind the other

-- the text is what was found exactly if nothing is left behind it
pub is_whole : (text spelled rest : Text) (empty : Bool) → text ≡ spelled ++ rest → empty ≡ (length rest == 0) → IsTrue empty ↔ (text ≡ spelled)
is_whole text spelled [] empty begins is = (λ _. begins ∙ append-nil spelled, λ _. rw is refl)
is_whole text spelled (byte ∷ rest) empty begins is = (
  λ none. absurd (omega (arith, eqb-true (length (byte ∷ rest)) 0 (sym is ∙ none))),
  λ same. absurd (omega (arith, ap length (append_cancel_left spelled (byte ∷ rest) [] (sym begins ∙ same ∙ sym (append-nil spelled))))),
)

-- and is not if that is not there
pub is_other : (text spelled : Text) → ((rest : List ℕ) → text ≢ spelled ++ rest) → IsTrue false ↔ (text ≡ spelled)
is_other text spelled lacks = (λ wrong. cc, λ same. absurd (lacks [] (same ∙ sym (append-nil spelled))))

-- of no text nothing follows
pub strips_none : (piece : Text) → StripsOn None piece None
strips_none piece = record { behind = λ whole front lacks rest same. lacks (piece ++ rest) (same ∙ append_assoc front piece rest) }

-- the piece is looked for behind what was found
pub strips_some : (text : Bor (List ℕ)) (piece : Text) (found : Option (Bor (List ℕ))) → Strips text.now piece found → StripsOn (Some text) piece found
strips_some text piece None lacks = record {
  behind = λ whole front begins rest same. lacks rest (append_cancel_left front text.now (piece ++ rest) (sym begins ∙ same ∙ append_assoc front piece rest));
}
strips_some text piece (Some rest) follows = record {
  behind = λ whole front begins. begins ∙ ap (λ bytes. front ++ bytes) follows ∙ sym (append_assoc front piece rest.now);
}

-- two pieces are one
pub strips_both : {text found found' : Option (Bor (List ℕ))} {first second : Text} → StripsOn text first found → StripsOn found second found' → StripsOn text (first ++ second) found'
strips_both {found' = found'} {first} {second} one two = record {
  behind = λ whole front begins.
      subst (λ (spelled : Text). Strips whole spelled found') (append_assoc front first second) (two.behind whole (front ++ first) (one.behind whole front begins));
}

-- ---- reports

-- what is requested for a row is a report
pub request_is_report : (kind : Kind) (task : Text) (name : Option Text) → is_report (request_for kind task name) ≡ true
request_is_report Local task name = refl
request_is_report End task name = refl
request_is_report Spawn task (Some child) = refl
request_is_report Send task (Some message) = refl
request_is_report Recv task (Some message) = refl
request_is_report Join task (Some child) = refl
request_is_report Spawn task None = refl
request_is_report Send task None = refl
request_is_report Recv task None = refl
request_is_report Join task None = refl
