-- Texts that are gathered and written in chunks.
use Rattle.std.proofs.Common.{◌≡◌, ℕ, suc, ◌+◌, ◌<◌, List, [], ◌++◌, length, take, drop, get_or, refl, sym, ap, ◌∙◌, append_assoc, decimal, codes, arith, length-append, Result, Ok, Err}
use Rattle.std.proofs.lemmas.List.{append-nil}
use Rattle.trace_types.specs.text.Text.{numbers_text, reply_text}
use Rattle.trace_types.specs.declared.reply.Reply.{Reply}
use Rattle.trace_types.specs.declared.reply.Reply.TheVariants as reply
use Rattle.line_protocol.specs.Writing.{WritesFront, Gathers, WritesText}
use Rattle.line_protocol.specs.Sink.{Taken}
use Rattle.line_protocol.specs.Answer.{reply_head, reply_tail}
use Rattle.line_protocol.proofs.WritingLemmas.{numbers_text-take, numbers_text-at}

-- nothing is gathered yet
pub Gathers-none : (old held : List ℕ) → Gathers old old held held []
Gathers-none old held = record { written = []; grows = sym (append-nil old); splits = append-nil held }

-- one text, and another behind it
pub Gathers-more : {old middle new held held' held'' : List ℕ} (first second : List ℕ)
    → Gathers old middle held held' first → Gathers middle new held' held'' second → Gathers old new held held'' (first ++ second)
Gathers-more {old = old} {held = held} {held'' = held''} first second before after = record {
  written = before.written ++ after.written;
  grows = after.grows ∙ ap (λ bytes. bytes ++ after.written) before.grows ∙ append_assoc old before.written after.written;
  splits =
      sym (append_assoc held first second)
      ∙ ap (λ bytes. bytes ++ second) before.splits
      ∙ append_assoc before.written _ second
      ∙ ap (λ bytes. before.written ++ bytes) after.splits
      ∙ sym (append_assoc before.written after.written held'');
}

-- behind a text that was gathered, a front of what is held and the next text is a front of both
pub Gathers-front : {old middle new held held' : List ℕ} (first second : List ℕ)
    → Gathers old middle held held' first → WritesFront middle new (held' ++ second) → WritesFront old new (held ++ (first ++ second))
Gathers-front {old = old} {held = held} first second before front = record {
  written = before.written ++ front.written;
  rest = front.rest;
  grows = front.grows ∙ ap (λ bytes. bytes ++ front.written) before.grows ∙ append_assoc old before.written front.written;
  front =
      sym (append_assoc held first second)
      ∙ ap (λ bytes. bytes ++ second) before.splits
      ∙ append_assoc before.written _ second
      ∙ ap (λ bytes. before.written ++ bytes) front.front
      ∙ sym (append_assoc before.written front.written front.rest);
  some_left = front.some_left;
}

-- a front of what is held and the first text is a front of both
pub WritesFront-held : {old new : List ℕ} (held first second : List ℕ) → WritesFront old new (held ++ first) → WritesFront old new (held ++ (first ++ second))
WritesFront-held held first second front = record {
  written = front.written;
  rest = front.rest ++ second;
  grows = front.grows;
  front = sym (append_assoc held first second) ∙ ap (λ bytes. bytes ++ second) front.front ∙ append_assoc front.written front.rest second;
  some_left = omega (arith, front.some_left, length-append front.rest second);
}

-- of numbers that were gathered as far as one, with that one they are gathered one further
pub Gathers-number : {old middle new held held' held'' : List ℕ} (numbers : List ℕ) (i : ℕ) → i < length numbers
    → Gathers old middle held held' (numbers_text (take i numbers)) → Gathers middle new held' held'' (codes " " ++ decimal (get_or numbers i 0))
    → Gathers old new held held'' (numbers_text (take (i + 1) numbers))
Gathers-number numbers i within before after =
    rw (numbers_text-take numbers i within) (Gathers-more (numbers_text (take i numbers)) (codes " " ++ decimal (get_or numbers i 0)) before after)

-- of numbers that were gathered as far as one, a front of that one is a front of all
pub WritesFront-gathered_number : {old middle new held held' : List ℕ} (numbers : List ℕ) (i : ℕ) → i < length numbers
    → Gathers old middle held held' (numbers_text (take i numbers)) → WritesFront middle new (held' ++ (codes " " ++ decimal (get_or numbers i 0)))
    → WritesFront old new (held ++ numbers_text numbers)
WritesFront-gathered_number numbers i within before front =
    let number = codes " " ++ decimal (get_or numbers i 0) in
    rw (numbers_text-at numbers i within)
    (Gathers-front (numbers_text (take i numbers)) (number ++ numbers_text (drop (suc i) numbers)) before (WritesFront-held _ number (numbers_text (drop (suc i) numbers)) front))

-- behind a text that was gathered, what is held and the next text are written
pub WritesText-gathered : {A E : Type 0} (before middle after : Taken) {held held' : List ℕ} (first second : List ℕ) (result : Result A E)
    → Gathers before.bytes middle.bytes held held' first → WritesText middle after result (held' ++ second) → WritesText before after result (held ++ (first ++ second))
WritesText-gathered before middle after {held = held} {held' = held'} first second (Ok done) gathered wrote =
    wrote
    ∙ ap (λ bytes. bytes ++ (held' ++ second)) gathered.grows
    ∙ append_assoc before.bytes gathered.written (held' ++ second)
    ∙ ap (λ bytes. before.bytes ++ bytes)
    (sym (append_assoc gathered.written held' second) ∙ ap (λ bytes. bytes ++ second) (sym gathered.splits) ∙ append_assoc held first second)
WritesText-gathered before middle after first second (Err fault) gathered wrote = Gathers-front first second gathered wrote

-- a reply is its head and its tail
reply_text-parts : (reply : Reply) → reply_text reply ≡ reply_head reply ++ reply_tail reply
reply_text-parts (reply.Accepted event) = sym (append-nil _)
reply_text-parts (reply.Ordering order) = sym (append-nil _)
reply_text-parts (reply.List events) = simp append_assoc
reply_text-parts (reply.Event row) = simp append_assoc
reply_text-parts (reply.Stamp text) = refl
reply_text-parts (reply.Task state last) = sym (append-nil _)
reply_text-parts (reply.Message sent receipts) = simp append_assoc
reply_text-parts (reply.Count events tasks messages) = sym (append-nil _)
reply_text-parts (reply.Refused code) = sym (append-nil _)

-- what a reply and its end of line behind a text are made of
pub behind-parts : (held : List ℕ) (reply : Reply) (end : List ℕ) → held ++ (reply_text reply ++ end) ≡ (held ++ reply_head reply) ++ (reply_tail reply ++ end)
behind-parts held reply end =
    ap (λ text. held ++ (text ++ end)) (reply_text-parts reply)
    ∙ ap (λ text. held ++ text) (append_assoc (reply_head reply) (reply_tail reply) end)
    ∙ sym (append_assoc held (reply_head reply) (reply_tail reply ++ end))

-- of a reply without tail the head is all
pub short-parts : (held : List ℕ) (reply : Reply) (end : List ℕ) → reply_tail reply ≡ [] → (held ++ reply_head reply) ++ end ≡ held ++ (reply_text reply ++ end)
short-parts held reply end none = sym (behind-parts held reply end ∙ ap (λ tail. (held ++ reply_head reply) ++ (tail ++ end)) none)
