-- What one more line does to the entries, the calls, the replies and what is written.
use Rattle.std.proofs.Common.{◌≡◌, Bool, List, [], ◌∷◌, ◌++◌, length, refl, sym, ap, subst, ◌∙◌, arith, append_assoc, append-nil}
use Rattle.trace_types.specs.text.Name.{Text}
use Rattle.trace_types.specs.tenant.Limits.{Limits}
use Rattle.trace_types.specs.world.Interleaving.{Call}
use Rattle.trace_types.specs.world.Replay.{Entry, asked, call_of, reply_to, written, entries, calls_by, replies_to, output, MarkMayStand, MarksMayStand}

pub entries-push : (names lines : List Text) (marks : List Bool) (line : Text) (mark : Bool) → length marks ≡ length lines → entries names (lines ++ line ∷ []) (marks ++ mark ∷ []) ≡ entries names lines marks ++ (asked names line, mark) ∷ []
entries-push names [] [] line mark same = refl
entries-push names [] (first ∷ marks) line mark same = absurd (omega arith)
entries-push names (first ∷ lines) [] line mark same = absurd (omega arith)
entries-push names (first ∷ lines) (first_mark ∷ marks) line mark same =
    ap (λ rest. (asked names first, first_mark) ∷ rest) (entries-push names lines marks line mark (omega arith))

pub calls_by-push : (entries : List Entry) (entry : Entry) → calls_by (entries ++ entry ∷ []) ≡ calls_by entries ++ call_of entry.0 entry.1
calls_by-push [] entry = append-nil (call_of entry.0 entry.1)
calls_by-push (first ∷ entries) entry =
    ap (λ rest. call_of first.0 first.1 ++ rest) (calls_by-push entries entry)
    ∙ sym (append_assoc (call_of first.0 first.1) (calls_by entries) (call_of entry.0 entry.1))

pub replies_to-push : (limits : Limits) (before : List Call) (entries : List Entry) (entry : Entry) → replies_to limits before (entries ++ entry ∷ []) ≡ replies_to limits before entries ++ reply_to limits (before ++ calls_by entries) entry.0 entry.1 ∷ []
replies_to-push limits before [] entry = ap (λ calls. reply_to limits calls entry.0 entry.1 ∷ []) (sym (append-nil before))
replies_to-push limits before (first ∷ entries) entry =
    ap (λ rest. reply_to limits before first.0 first.1 ∷ rest)
    (replies_to-push limits (before ++ call_of first.0 first.1) entries entry
    ∙ ap (λ calls. replies_to limits (before ++ call_of first.0 first.1) entries ++ reply_to limits calls entry.0 entry.1 ∷ [])
    (append_assoc before (call_of first.0 first.1) (calls_by entries)))

pub output-push : (names : List Text) (limits : Limits) (before : List Call) (entries : List Entry) (entry : Entry) → output names limits before (entries ++ entry ∷ []) ≡ output names limits before entries ++ written names entry.0 (reply_to limits (before ++ calls_by entries) entry.0 entry.1)
output-push names limits before [] entry =
    append-nil (written names entry.0 (reply_to limits before entry.0 entry.1))
    ∙ ap (λ calls. written names entry.0 (reply_to limits calls entry.0 entry.1)) (sym (append-nil before))
output-push names limits before (first ∷ entries) entry =
    ap (λ rest. written names first.0 (reply_to limits before first.0 first.1) ++ rest)
    (output-push names limits (before ++ call_of first.0 first.1) entries entry
    ∙ ap (λ calls. output names limits (before ++ call_of first.0 first.1) entries ++ written names entry.0 (reply_to limits calls entry.0 entry.1))
    (append_assoc before (call_of first.0 first.1) (calls_by entries)))
    ∙ sym (append_assoc (written names first.0 (reply_to limits before first.0 first.1)) (output names limits (before ++ call_of first.0 first.1) entries) (written names entry.0 (reply_to limits (before ++ calls_by (first ∷ entries)) entry.0 entry.1)))

pub MarksMayStand-push : (limits : Limits) (before : List Call) (entries : List Entry) (entry : Entry) → MarksMayStand limits before entries → MarkMayStand limits (before ++ calls_by entries) entry → MarksMayStand limits before (entries ++ entry ∷ [])
MarksMayStand-push limits before [] entry all one = (subst (λ calls. MarkMayStand limits calls entry) (append-nil before) one, tt)
MarksMayStand-push limits before (first ∷ entries) entry all one = (
  all.0,
  MarksMayStand-push limits (before ++ call_of first.0 first.1) entries entry all.1
      (subst (λ calls. MarkMayStand limits calls entry) (sym (append_assoc before (call_of first.0 first.1) (calls_by entries))) one),
)
