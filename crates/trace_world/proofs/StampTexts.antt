-- The texts of stamps are made of ASCII.
use Rattle.std.proofs.Common.{◌≡◌, ℕ, zero, suc, ◌-◌, ◌^◌, ◌<◌, ◌≤◌, List, [], ◌∷◌, length, arith, IsAscii, codes, decimal, IsUtf8}
use Rattle.std.proofs.lemmas.Str.{IsAscii-append, IsUtf8-from_ascii}
use Rattle.std.proofs.lemmas.Fmt.{IsAscii-decimal}
use Rattle.trace_types.specs.clock.Id.{Id, Zero, One, Pair}
use Rattle.trace_types.specs.clock.EventTree.{EventTree, Leaf, Node, maximum}
use Rattle.trace_types.specs.text.Name.{Text}
use Rattle.trace_types.specs.text.StampText.{id_text, tree_text, stamp_text}
use Rattle.std.proofs.Common.{true, false, not, ◌⊎◌, inl, inr, sym, ap, ◌∙◌, subst}
use Rattle.std.proofs.lemmas.List.{length-reverse}
use Rattle.std.proofs.lemmas.Bool.Decides.{nat_tests}
use Rattle.std.proofs.lemmas.List.FromFn.{get_or-map-range_with_len, length-map-range_with_len}
use Rattle.trace_types.specs.clock.Clock.{tree_clock}
use Rattle.trace_types.specs.clock.Stamps.{stamp_of, stamp_text_of, tree_of}
use Rattle.trace_types.specs.tenant.Refusal.{first_code}
use Rattle.trace_types.specs.tenant.Rows.{History, history_of, is_event}
use Rattle.trace_types.specs.tenant.Tenant.{Tenant, Answers, Steps, step_unless, reply_to_view}
use Rattle.trace_types.specs.declared.row.Row.{Row}
use Rattle.trace_types.specs.declared.code.Code.TheVariants.{NoEvent, NoMemory}
use Rattle.trace_types.specs.declared.request.Request.TheVariants.{Stamp}
use Rattle.trace_types.specs.declared.reply.Reply.{Reply}
use Rattle.trace_types.specs.declared.reply.Reply.TheVariants as reply
use Rattle.tenant_ledger.proofs.keeping.Told.{stamp_knows}
use Rattle.trace_export.specs.Export.{stamp_at}
use Rattle.trace_world.specs.Exported.{stamp_texts}

byte : (b : ℕ) → b < 128 → IsAscii (b ∷ [])
byte b less zero = less
byte b less (suc i) = omega arith

IsAscii-id : (id : Id) → IsAscii (id_text id)
IsAscii-id Zero = byte 48 (omega arith)
IsAscii-id One = byte 49 (omega arith)
IsAscii-id (Pair left right) =
    IsAscii-append (codes "(") _ (byte 40 (omega arith))
    (IsAscii-append (id_text left) _ (IsAscii-id left)
    (IsAscii-append (codes ",") _ (byte 44 (omega arith))
    (IsAscii-append (id_text right) _ (IsAscii-id right) (byte 41 (omega arith)))))

IsAscii-tree : (tree : EventTree) → maximum tree < 2 ^ 64 → IsAscii (tree_text tree)
IsAscii-tree (Leaf n) fits = IsAscii-decimal n fits
IsAscii-tree (Node n left right) fits =
    IsAscii-append (codes "(") _ (byte 40 (omega arith))
    (IsAscii-append (decimal n) _ (IsAscii-decimal n (omega (arith, fits)))
    (IsAscii-append (codes ",") _ (byte 44 (omega arith))
    (IsAscii-append (tree_text left) _ (IsAscii-tree left (omega (arith, fits)))
    (IsAscii-append (codes ",") _ (byte 44 (omega arith))
    (IsAscii-append (tree_text right) _ (IsAscii-tree right (omega (arith, fits))) (byte 41 (omega arith)))))))

-- the text of a stamp whose numbers fit
IsUtf8-stamp : (id : Id) (tree : EventTree) → maximum tree < 2 ^ 64 → IsUtf8 (stamp_text id tree)
IsUtf8-stamp id tree fits =
    IsUtf8-from_ascii (stamp_text id tree)
    (IsAscii-append (codes "[") _ (byte 91 (omega arith))
    (IsAscii-append (id_text id) _ (IsAscii-id id)
    (IsAscii-append (codes ";") _ (byte 59 (omega arith))
    (IsAscii-append (tree_text tree) _ (IsAscii-tree tree fits) (byte 93 (omega arith))))))

-- an event of the ledger's
pub is_event-stamp : (rows : List Row) (event : ℕ) → (0 < event) × (event ≤ length (stamp_texts rows)) → is_event (history_of rows) event ≡ true
is_event-stamp rows event within =
    let len = length-map-range_with_len (stamp_text_of (history_of rows)) 1 (length (history_of rows)) in
    grind (arith, nat_tests, len, within)

-- the text at its place
pub stamp_texts-at : (rows : List Row) (event : ℕ) → (0 < event) × (event ≤ length (stamp_texts rows)) → stamp_at (stamp_texts rows) event ≡ stamp_text_of (history_of rows) event
stamp_texts-at rows event within =
    let len = length-map-range_with_len (stamp_text_of (history_of rows)) 1 (length (history_of rows)) in
    get_or-map-range_with_len (stamp_text_of (history_of rows)) 1 (length (history_of rows)) (event - 1) event [] (omega (arith, len, within)) (omega (arith, within))

pub length-stamp_texts : (rows : List Row) → length (stamp_texts rows) ≡ length rows
length-stamp_texts rows = length-map-range_with_len (stamp_text_of (history_of rows)) 1 (length (history_of rows)) ∙ length-reverse rows

stamp_reply : (tenant : Tenant) (event : ℕ) → is_event (history_of tenant.rows) event ≡ true → reply_to_view tenant (Stamp event) ≡ reply.Stamp (stamp_text_of (history_of tenant.rows) event)
stamp_reply tenant event is = ap (λ b. (step_unless (first_code ((not b, NoEvent) ∷ [])) tenant (Stamp event)).0) is

-- what is answered to it
pub answers_stamp : (tenant : Tenant) (event : ℕ) (answer : Reply) → is_event (history_of tenant.rows) event ≡ true → Answers tenant (Stamp event) answer
    → (answer ≡ reply.Stamp (stamp_text_of (history_of tenant.rows) event)) ⊎ (answer ≡ reply.Refused NoMemory)
answers_stamp tenant event answer is (inl same) = inl (same ∙ stamp_reply tenant event is)
answers_stamp tenant event answer is (inr lacks) = inr lacks.2

pub IsUtf8-stamp_text : (history : History) (event : ℕ) → maximum (tree_of tree_clock history event) < 2 ^ 64 → IsUtf8 (stamp_text_of history event)
IsUtf8-stamp_text history event fits =
    IsUtf8-stamp (stamp_of tree_clock history event).0 (stamp_of tree_clock history event).1 (subst (λ (tree : EventTree). maximum tree < 2 ^ 64) (sym (stamp_knows history event)) fits)

-- a stamp's text is that of the reply that gives it
abbrev text_of : Reply → Text
text_of (reply.Stamp text) = text
text_of other = []

pub stamp_is : (answer : Reply) (text other : Text) → answer ≡ reply.Stamp text → answer ≡ reply.Stamp other → text ≡ other
stamp_is answer text other is same = ap text_of (sym is ∙ same)

pub stamp_is_no_refusal : (answer : Reply) (text : Text) → answer ≡ reply.Stamp text → answer ≡ reply.Refused NoMemory → ⊥
stamp_is_no_refusal answer text is refused = absurd (cc (sym is ∙ refused))
