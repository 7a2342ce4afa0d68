-- What a line of an export lists of an event.
use Rattle.std.specs.Prelude.{◌≡◌, ◌≤◌, ℕ, IsTrue, List, [], ◌∷◌, ◌++◌, length, Option, Some, None, codes}
use Rattle.std.specs.Str.{IsUtf8}
use Rattle.serde_json.specs.Data.{Data, number, unsigned, string, array, object, Items, item, no_items, member, no_members}
use Rattle.serde_json.specs.Read.{read}
use Rattle.serde_json.specs.Written.{compact_text}
use Rattle.trace_types.specs.text.Name.{Text, is_name}
use Rattle.trace_types.specs.text.Text.{kind_text, name_text}
use Rattle.trace_types.specs.declared.row.Kind.{Kind}
use Rattle.trace_types.specs.declared.row.Kind.TheVariants.{Local, Spawn, Send, Recv, End, Join}
use Rattle.trace_export.specs.declared.event_line.EventLine.{EventLine}

-- An event as it is listed: its number, what its report said, the events that it follows, and its stamp's text.
pub record Listed : Type 0 where
  pub event : ℕ
  pub kind : Kind
  pub name : Option Text
  pub preds : List ℕ
  pub stamp : Text
  pub task : Text

-- numbers as JSON
abbrev pub numbers_json : List ℕ → Items
numbers_json [] = no_items
numbers_json (n ∷ numbers) = item (number (unsigned n)) (numbers_json numbers)

-- the event as JSON: an object of these six keys
abbrev pub listed_json : Listed → Data
listed_json listed =
    object (member (codes "event") (number (unsigned listed.event))
    (member (codes "kind") (string (kind_text listed.kind))
    (member (codes "name") (string (name_text listed.name))
    (member (codes "preds") (array (numbers_json listed.preds))
    (member (codes "stamp") (string listed.stamp)
    (member (codes "task") (string listed.task) no_members))))))

-- a report of this kind names something, or nothing
abbrev pub FitsKind : Kind → Option Text → Type 0
FitsKind Local name = name ≡ None
FitsKind Spawn name = (text : Text) × (name ≡ Some text) × IsTrue (is_name text)
FitsKind Send name = (text : Text) × (name ≡ Some text) × IsTrue (is_name text)
FitsKind Recv name = (text : Text) × (name ≡ Some text) × IsTrue (is_name text)
FitsKind End name = name ≡ None
FitsKind Join name = (text : Text) × (name ≡ Some text) × IsTrue (is_name text)

-- An event of such words may be listed.
pub record MayBeListed (listed : Listed) : Type 0 where
  pub task : IsTrue (is_name listed.task)
  pub name : FitsKind listed.kind listed.name
  pub preds : length listed.preds ≤ 2

-- The JSON is that of the event.
pub record IsJsonOf (json : Data) (listed : Listed) : Type 0 where
  pub written : json ≡ listed_json listed
  pub may : MayBeListed listed

-- the line is this JSON, by the grammar of JSON
abbrev pub IsReadAs : Text → Data → Type 0
IsReadAs line json = IsUtf8 line × (read line ≡ Some json)

-- the line lists the event; keys may come in any order, and of one that comes again the last counts
abbrev pub ListsAs : Text → Listed → Type 0
ListsAs line listed = (json : Data) × IsReadAs line json × IsJsonOf json listed

-- the event's JSON is read again from its text
abbrev pub IsReadAgain : Listed → Type 0
IsReadAgain listed = IsReadAs (compact_text (listed_json listed)) (listed_json listed)

-- the line in which an event is written, with its end
abbrev pub listed_line : Listed → Text
listed_line listed = compact_text (listed_json listed) ++ codes "\n"

-- what was read of a line
abbrev pub listed_of : EventLine → Listed
listed_of line = record {
  event = line.event;
  kind = line.kind;
  name = line.name;
  preds = line.preds;
  stamp = line.stamp.now;
  task = line.task;
}
