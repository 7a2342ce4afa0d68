-- Line after line of a replay.
use Rattle.std.proofs.Common.{◌≡◌, ℕ, ◌+◌, Bool, IsTrue, List, [], ◌∷◌, ◌++◌, refl, sym, ap, ◌∙◌, subst, append_assoc, cond, codes, true, false, ◌<◌, length, arith, Ok}
use Rattle.std.proofs.lemmas.List.{append-nil, length-append}
use Rattle.std.specs.Prelude.{count_by}
use Rattle.std.proofs.lemmas.List.Sums.{sum_by-append}
use Rattle.line_protocol.proofs.LineReadingLemmas.{HasRead-line}
use Rattle.trace_types.specs.text.Name.{Text}
use Rattle.trace_types.specs.text.Text.{reply_text}
use Rattle.trace_types.specs.tenant.Limits.{Limits}
use Rattle.trace_types.specs.world.Interleaving.{Call}
use Rattle.trace_types.specs.world.Replay.{asked, call_of, reply_to, addressee, written, Entry, entries, calls_by, replies_to, output, is_accepted, is_answered, is_refused}
use Rattle.trace_types.specs.world.World.{World, IsAfter}
use Rattle.trace_types.specs.declared.reply.Reply.{Reply}
use Rattle.trace_types.proofs.Replay.{entries-push, calls_by-push, replies_to-push, output-push, MarksMayStand-push}
use Rattle.line_protocol.specs.Held.{Held}
use Rattle.line_protocol.specs.Source.{one_if}
use Rattle.line_protocol.specs.LineReading.{HasRead, GivesLine}
use Rattle.trace_world.specs.declared.counts.Counts.{Counts}
use Rattle.trace_world.specs.Counted.{counted_with}
use Rattle.std.specs.List.{concat}
use Rattle.std.proofs.lemmas.List.Folds.{concat-append}
use Rattle.line_protocol.specs.Patience.{SinkCall, WritesPatiently}
use Rattle.line_protocol.specs.Sink.{Taken}
use Rattle.line_protocol.specs.Writing.{WritesBoth}
use Rattle.trace_world.specs.Texts.{AreTexts, output_texts}
use Rattle.line_protocol.proofs.TextsInTurn.{WroteTexts, WroteTexts-text}
use Rattle.trace_world.specs.Replayed.{counts_of, LeadsTo, DoesLine}

-- The lines that were found were replayed.
pub record HasReplayed (start given taken taken' : List ℕ) (calls calls' : List SinkCall) (old : World) (held : Held) (counts : Counts) (new : World) : Type 0 where
  pub found : List Text
  pub marks : List Bool
  pub text : Text
  pub read : HasRead start given held found
  pub writes : taken' ≡ taken ++ text
  pub leads : LeadsTo old found marks text counts new
  pub texts : List Text
  pub texts_are : AreTexts old found marks texts
  pub joined : text ≡ concat texts
  pub wrote : WroteTexts calls calls' texts

-- nothing is counted yet
abbrev pub no_counts : Counts
no_counts = record { lines = 0; accepted = 0; answered = 0; refused = 0 }

-- no line leads nowhere
pub LeadsTo-none : (world : World) → LeadsTo world [] [] [] no_counts world
LeadsTo-none world = record {
  one_each = refl;
  names = refl;
  limits = refl;
  places = refl;
  marked = λ calls after. tt;
  text_is = λ calls after. refl;
  counted = λ calls after. refl;
  leads = λ calls after. rw (append-nil calls) after;
}

-- one more where it is so
one_more : (b : Bool) → 0 + cond b 1 0 ≡ one_if b
one_more true = refl
one_more false = refl

count_by-push : (test : Reply → Bool) (replies : List Reply) (reply : Reply) → count_by test (replies ++ reply ∷ []) ≡ count_by test replies + one_if (test reply)
count_by-push test replies reply = sum_by-append (λ r. cond (test r) 1 0) replies (reply ∷ []) ∙ ap (λ n. count_by test replies + n) (one_more (test reply))

-- one reply more is counted
counts_of-push : (replies : List Reply) (reply : Reply) → counts_of (replies ++ reply ∷ []) ≡ counted_with (counts_of replies) reply
counts_of-push replies reply = λ i. record {
  lines = length-append replies (reply ∷ []) i;
  accepted = count_by-push is_accepted replies reply i;
  answered = count_by-push is_answered replies reply i;
  refused = count_by-push is_refused replies reply i;
}

-- one line more
pub LeadsTo-line : (old mid new : World) (found : List Text) (marks : List Bool) (text : Text) (counts : Counts) (line to : Text) (reply : Reply)
    → LeadsTo old found marks text counts mid → (answers : DoesLine mid line to reply new)
    → LeadsTo old (found ++ line ∷ []) (marks ++ answers.mark ∷ []) (text ++ (to ++ codes " " ++ reply_text reply ++ 10 ∷ [])) (counted_with counts reply) new
LeadsTo-line old mid new found marks text counts line to reply before answers =
    let es : List Entry = entries old.names found marks in
    let entry : Entry = (asked old.names line, answers.mark) in
    let pushed : entries old.names (found ++ line ∷ []) (marks ++ answers.mark ∷ []) ≡ es ++ entry ∷ [] = entries-push old.names found marks line answers.mark before.one_each in
    let due : (calls : List Call) → IsAfter old calls → reply ≡ reply_to old.limits (calls ++ calls_by es) entry.0 entry.1 =
    λ calls after. rw (before.names, before.limits) at (answers.due (calls ++ calls_by es) (before.leads calls after)) in
    let to_is : to ≡ addressee old.names entry.0 = rw before.names at answers.addressed in
    record {
      one_each = rw (length-append marks (answers.mark ∷ []), length-append found (line ∷ []), before.one_each) refl;
      names = answers.names ∙ before.names;
      limits = answers.limits ∙ before.limits;
      places = answers.places ∙ before.places;
      marked = λ calls after. rw pushed (MarksMayStand-push old.limits calls es entry (before.marked calls after)
          (rw (before.names, before.limits) at (answers.marked (calls ++ calls_by es) (before.leads calls after))));
      text_is = λ calls after.
          ap (λ name. text ++ (name ++ codes " " ++ reply_text reply ++ 10 ∷ [])) to_is
          ∙ ap (λ r. text ++ written old.names entry.0 r) (due calls after)
          ∙ ap (λ bytes. bytes ++ written old.names entry.0 (reply_to old.limits (calls ++ calls_by es) entry.0 entry.1)) (before.text_is calls after)
          ∙ sym (output-push old.names old.limits calls es entry)
          ∙ ap (output old.names old.limits calls) (sym pushed);
      counted = λ calls after.
          ap (λ c. counted_with c reply) (before.counted calls after)
          ∙ sym (counts_of-push (replies_to old.limits calls es) reply)
          ∙ ap (λ r. counts_of (replies_to old.limits calls es ++ r ∷ [])) (due calls after)
          ∙ ap counts_of (sym (replies_to-push old.limits calls es entry))
          ∙ ap (λ all. counts_of (replies_to old.limits calls all)) (sym pushed);
      leads = λ calls after.
          let next : IsAfter new ((calls ++ calls_by es) ++ call_of entry.0 entry.1) = rw before.names at (answers.leads (calls ++ calls_by es) (before.leads calls after)) in
          let same : (calls ++ calls_by es) ++ call_of entry.0 entry.1 ≡ calls ++ calls_by (entries old.names (found ++ line ∷ []) (marks ++ answers.mark ∷ [])) =
          append_assoc calls (calls_by es) (call_of entry.0 entry.1)
          ∙ ap (λ more. calls ++ more) (sym (calls_by-push es entry) ∙ ap calls_by (sym pushed)) in
          subst (IsAfter new) same next;
    }

-- the texts of one entry more
output_texts-push : (names : List Text) (limits : Limits) (before : List Call) (entries : List Entry) (entry : Entry)
    → output_texts names limits before (entries ++ entry ∷ [])
    ≡ (output_texts names limits before entries ++ (addressee names entry.0 ++ codes " ") ∷ [])
    ++ (reply_text (reply_to limits (before ++ calls_by entries) entry.0 entry.1) ++ 10 ∷ []) ∷ []
output_texts-push names limits before [] entry =
    ap (λ calls. (addressee names entry.0 ++ codes " ") ∷ (reply_text (reply_to limits calls entry.0 entry.1) ++ 10 ∷ []) ∷ []) (sym (append-nil before))
output_texts-push names limits before (first ∷ entries) entry =
    let later = before ++ call_of first.0 first.1 in
    ap (λ texts. (addressee names first.0 ++ codes " ") ∷ (reply_text (reply_to limits before first.0 first.1) ++ 10 ∷ []) ∷ texts)
    (output_texts-push names limits later entries entry
    ∙ ap (λ calls. (output_texts names limits later entries ++ (addressee names entry.0 ++ codes " ") ∷ []) ++ (reply_text (reply_to limits calls entry.0 entry.1) ++ 10 ∷ []) ∷ [])
    (append_assoc before (call_of first.0 first.1) (calls_by entries)))

-- the texts of one line more
pub AreTexts-line : (old mid new : World) (found : List Text) (marks : List Bool) (text : Text) (counts : Counts) (texts : List Text) (line to : Text) (reply : Reply)
    → LeadsTo old found marks text counts mid → AreTexts old found marks texts → (answers : DoesLine mid line to reply new)
    → AreTexts old (found ++ line ∷ []) (marks ++ answers.mark ∷ []) ((texts ++ (to ++ codes " ") ∷ []) ++ (reply_text reply ++ 10 ∷ []) ∷ [])
AreTexts-line old mid new found marks text counts texts line to reply before are answers =
    let es : List Entry = entries old.names found marks in
    let entry : Entry = (asked old.names line, answers.mark) in
    let pushed : entries old.names (found ++ line ∷ []) (marks ++ answers.mark ∷ []) ≡ es ++ entry ∷ [] = entries-push old.names found marks line answers.mark before.one_each in
    let due : (calls : List Call) → IsAfter old calls → reply ≡ reply_to old.limits (calls ++ calls_by es) entry.0 entry.1 =
    λ calls after. rw (before.names, before.limits) at (answers.due (calls ++ calls_by es) (before.leads calls after)) in
    let to_is : to ≡ addressee old.names entry.0 = rw before.names at answers.addressed in
    λ calls after.
    ap (λ name. (texts ++ (name ++ codes " ") ∷ []) ++ (reply_text reply ++ 10 ∷ []) ∷ []) to_is
    ∙ ap (λ r. (texts ++ (addressee old.names entry.0 ++ codes " ") ∷ []) ++ (reply_text r ++ 10 ∷ []) ∷ []) (due calls after)
    ∙ ap (λ all. (all ++ (addressee old.names entry.0 ++ codes " ") ∷ []) ++ (reply_text (reply_to old.limits (calls ++ calls_by es) entry.0 entry.1) ++ 10 ∷ []) ∷ []) (are calls after)
    ∙ sym (output_texts-push old.names old.limits calls es entry)
    ∙ ap (output_texts old.names old.limits calls) (sym pushed)

-- one text more, joined to those before it
pub joined_push : (texts : List Text) (text all : Text) → all ≡ concat texts → all ++ text ≡ concat (texts ++ text ∷ [])
joined_push texts text all joined =
    ap (λ bytes. bytes ++ text) joined ∙ ap (λ bytes. concat texts ++ bytes) (sym (append-nil text)) ∙ sym (concat-append texts (text ∷ []))

pub joined_line : (texts : List Text) (to reply all : Text) → all ≡ concat texts → all ++ (to ++ codes " " ++ reply ++ 10 ∷ []) ≡ concat ((texts ++ (to ++ codes " ") ∷ []) ++ (reply ++ 10 ∷ []) ∷ [])
joined_line texts to reply all joined =
    ap (λ bytes. all ++ bytes) (append_assoc (to ++ codes " ") reply (10 ∷ []))
    ∙ sym (append_assoc all (to ++ codes " ") (reply ++ 10 ∷ []))
    ∙ joined_push (texts ++ (to ++ codes " ") ∷ []) (reply ++ 10 ∷ []) (all ++ (to ++ codes " ")) (joined_push texts (to ++ codes " ") all joined)

-- neither of the two texts of a line is empty
some_to : (to : Text) → 0 < length (to ++ codes " ")
some_to to = omega (arith, length-append to (codes " "))

some_reply : (reply : Text) → 0 < length (reply ++ 10 ∷ [])
some_reply reply = omega (arith, length-append reply (10 ∷ []))

-- both texts of a line are written
pub WroteTexts-to : {before middle after : List SinkCall} (texts : List Text) (to : Text) → WroteTexts before middle texts → WritesPatiently middle after (length (to ++ codes " ")) → WroteTexts before after (texts ++ (to ++ codes " ") ∷ [])
WroteTexts-to texts to wrote writes = WroteTexts-text texts (to ++ codes " ") (some_to to) wrote writes

pub WroteTexts-line : {before : List SinkCall} (middle after : Taken) (texts : List Text) (to reply : Text) → WroteTexts before middle.calls texts
    → WritesBoth {A = Unit {0}} {E = Unit {0}} middle after (Ok tt) (to ++ codes " ") (reply ++ codes "\n") → WroteTexts before after.calls ((texts ++ (to ++ codes " ") ∷ []) ++ (reply ++ 10 ∷ []) ∷ [])
WroteTexts-line middle after texts to reply wrote (between, one, other) =
    WroteTexts-text (texts ++ (to ++ codes " ") ∷ []) (reply ++ 10 ∷ []) (some_reply reply) (WroteTexts-to texts to wrote one.2) other.2

-- one line more is replayed
pub HasReplayed-line : {start given given' taken taken' taken'' : List ℕ} {calls calls' calls'' : List SinkCall} {old mid new : World} {held held' : Held} {counts : Counts} (line to : Text) (reply : Reply)
    → (before : HasReplayed start given taken taken' calls calls' old held counts mid)
    → GivesLine given given' held.left held'.left held'.is_ended line → (IsTrue held.is_ended → (given' ≡ given) × IsTrue held'.is_ended)
    → DoesLine mid line to reply new → taken'' ≡ taken' ++ (to ++ codes " " ++ reply_text reply ++ 10 ∷ [])
    → WroteTexts calls calls'' ((before.texts ++ (to ++ codes " ") ∷ []) ++ (reply_text reply ++ 10 ∷ []) ∷ [])
    → HasReplayed start given' taken taken'' calls calls'' old held' (counted_with counts reply) new
HasReplayed-line {taken = taken} {old = old} {mid = mid} {new = new} {counts = counts} line to reply before gives at_end answers writes wrote = record {
  found = before.found ++ line ∷ [];
  marks = before.marks ++ answers.mark ∷ [];
  text = before.text ++ (to ++ codes " " ++ reply_text reply ++ 10 ∷ []);
  read = HasRead-line before.read gives at_end;
  writes = writes ∙ ap (λ bytes. bytes ++ (to ++ codes " " ++ reply_text reply ++ 10 ∷ [])) before.writes ∙ append_assoc taken before.text (to ++ codes " " ++ reply_text reply ++ 10 ∷ []);
  leads = LeadsTo-line old mid new before.found before.marks before.text counts line to reply before.leads answers;
  texts = (before.texts ++ (to ++ codes " ") ∷ []) ++ (reply_text reply ++ 10 ∷ []) ∷ [];
  texts_are = AreTexts-line old mid new before.found before.marks before.text counts before.texts line to reply before.leads before.texts_are answers;
  joined = joined_line before.texts to (reply_text reply) before.text before.joined;
  wrote = wrote;
}
