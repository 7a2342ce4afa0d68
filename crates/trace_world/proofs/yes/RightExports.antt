-- Each line of the export of legal rows is right, so the verdict on it is yes.
use Rattle.std.proofs.Common.{◌≡◌, ℕ, suc, eqb, ◌+◌, ◌<◌, ◌≤◌, List, [], ◌∷◌, ◌++◌, length, reverse, Some, refl, sym, ap, subst, ◌∙◌, arith}
use Rattle.std.specs.Prelude.{slice_get}
use Rattle.std.specs.List.{concat}
use Rattle.std.proofs.lemmas.Bool.{cond-false, ne_eqb}
use Rattle.std.proofs.lemmas.List.{length-reverse, reverse-append, reverse-reverse}
use Rattle.std.proofs.lemmas.Option.{get_or_from_slice_get, slice_get_within}
use Rattle.trace_types.specs.clock.Id.{Id}
use Rattle.trace_types.specs.clock.EventTree.{EventTree}
use Rattle.trace_types.specs.clock.Clock.{tree_clock}
use Rattle.trace_types.specs.clock.Stamps.{stamp_of, stamp_text_of}
use Rattle.trace_types.specs.text.StampText.{stamp_text}
use Rattle.trace_types.specs.tenant.Limits.{Limits}
use Rattle.trace_types.specs.tenant.Rows.{History, history_of, spawn_count}
use Rattle.trace_types.specs.tenant.Tenant.{Tenant, AreLegal}
use Rattle.trace_types.specs.text.Name.{Text}
use Rattle.trace_types.specs.world.World.{World}
use Rattle.trace_types.specs.declared.row.Row.{Row}
use Rattle.tenant_ledger.specs.Legal.{IsLegal}
use Rattle.tenant_ledger.proofs.clock.Legality.{IsLegal_from_AreLegal}
use Rattle.tenant_ledger.proofs.size.Limits.{are_limits-le, are_within_limits}
use Rattle.tenant_ledger.proofs.size.Stamps.{spawn_count-cons}
use Rattle.trace_export.specs.Edges.{Placing}
use Rattle.trace_export.specs.Export.{stamp_at, AreReadAgain}
use Rattle.trace_export.specs.Following.{placed_of, placing_of}
use Rattle.trace_export.specs.Heading.{IsHeader, header_text}
use Rattle.trace_export.specs.Listing.{IsReadAgain}
use Rattle.trace_export.specs.Verdict.{AreRightAfter, IsRightNext, IsVerdict}
use Rattle.trace_export.specs.declared.header.Header.{Header}
use Rattle.trace_export.specs.declared.placed.Placed.{Placed}
use Rattle.trace_export.specs.declared.verdict.Verdict.TheVariants.{Yes}
use Rattle.trace_export.proofs.Connecting.{with_next}
use Rattle.trace_export.proofs.OneLine.{header_is_line}
use Rattle.trace_export.proofs.ReadAgain.{read_parts}
use Rattle.trace_export.proofs.WrittenLines.{AreLines, length-texts, lines_of_export, lines_push, next_listed, next_text, texts_after, texts_push}
use Rattle.trace_world.specs.Exported.{export_of, stamp_texts}
use Rattle.trace_world.specs.Tenants.{IsTenantWith, IsWorld}
use Rattle.trace_world.proofs.StampTexts.{length-stamp_texts, stamp_texts-at}
use Rattle.trace_export.proofs.LegalRows.{AreSound, legal_rows_are_sound}
use Rattle.trace_export.proofs.RightRows.{is_line, is_right}

-- one line more is right
right_push : (earlier : Placing) (texts : List Text) (placing : Placing) (text : Text) (placed : Placed) → AreRightAfter earlier texts placing → IsRightNext placing text placed
    → AreRightAfter earlier (texts ++ text ∷ []) (with_next placing placed)
right_push earlier [] placing text placed right next =
    (placed, subst (λ (before : Placing). IsRightNext before text placed) right next, ap (λ (before : Placing). with_next before placed) right)
right_push earlier (first ∷ texts) placing text placed right next =
    (right.0, right.1, right_push (with_next earlier right.0) texts placing text placed right.2 next)

-- ---- all rows

-- an older event has the stamp that it had before a row
stamp_text-older : (row : Row) (earlier : History) (event : ℕ) → event ≤ length earlier → stamp_text_of (row ∷ earlier) event ≡ stamp_text_of earlier event
stamp_text-older row earlier event old =
    ap (λ (stamp : Id × EventTree). stamp_text stamp.0 stamp.1) (cond-false (eqb event (suc (length earlier))) _ (stamp_of tree_clock earlier event) (ne_eqb event (suc (length earlier)) (λ is. omega (arith, is, old))))

-- The texts are lines, and each is right.
record AreRight (texts : List Text) (placing : Placing) : Type 0 where
  are_lines : AreLines texts
  right : AreRightAfter [] texts placing

all_right : (stamps : List Text) (history : History) → IsLegal history → AreSound history → length history ≤ 16384 → spawn_count history ≤ 2047
    → ((event : ℕ) → 0 < event → event ≤ length history → stamp_at stamps event ≡ stamp_text_of history event)
    → AreReadAgain 0 (reverse history) stamps → AreRight (texts_after 0 (reverse history) stamps) (placing_of history)
all_right stamps [] legal sound few spawns stamps_are read = record { are_lines = tt; right = refl }
all_right stamps (row ∷ earlier) legal sound few spawns stamps_are read =
    let rows = reverse earlier in
    let new = reverse-append (row ∷ []) earlier in
    let len : 0 + length rows ≡ length earlier = omega (arith, length-reverse earlier) in
    let parts = read_parts 0 rows row stamps (subst (λ these. AreReadAgain 0 these stamps) new read) in
    let before = all_right stamps earlier legal.1 sound.1 (omega (arith, few)) (omega (arith, spawns, spawn_count-cons row earlier))
    (λ event some old. stamps_are event some (omega (arith, old)) ∙ stamp_text-older row earlier event old) parts.0 in
    let stamp_is = stamps_are (suc (length earlier)) (omega arith) (omega arith) in
    let read_this = subst (λ n. IsReadAgain (next_listed n row stamps)) len parts.1 in
    let texts : texts_after 0 rows stamps ++ next_text (length earlier) row stamps ∷ [] ≡ texts_after 0 (reverse (row ∷ earlier)) stamps =
    sym (ap (λ these. texts_after 0 these stamps) new ∙ texts_push 0 rows row stamps ∙ ap (λ n. texts_after 0 rows stamps ++ next_text n row stamps ∷ []) len) in
    subst (λ these. AreRight these (placing_of (row ∷ earlier))) texts
    (record {
      are_lines = lines_push (texts_after 0 rows stamps) (next_text (length earlier) row stamps) before.are_lines (is_line row earlier legal sound few spawns (stamp_at stamps (suc (length earlier))) stamp_is);
      right = right_push [] (texts_after 0 rows stamps) (placing_of earlier) (next_text (length earlier) row stamps) (placed_of row earlier) before.right
          (is_right row earlier legal sound few spawns (stamp_at stamps (suc (length earlier))) stamp_is read_this);
    })

module _ (header : Header) (rows : List Row) (headed : IsHeader (header_text header) header) (legal : AreLegal header.limits rows)
    (read : AreReadAgain 0 rows (stamp_texts rows)) where
  rows_are_right : AreRight (texts_after 0 rows (stamp_texts rows)) (placing_of (history_of rows))
  rows_are_right =
      let ranges = are_limits-le header.limits.events header.limits.tasks header.limits.messages headed.1.2.limits in
      let within = are_within_limits header.limits rows headed.1.2.limits legal in
      let same = reverse-reverse rows in
      subst (λ (these : List Row). AreRight (texts_after 0 these (stamp_texts rows)) (placing_of (history_of rows))) same
      (all_right (stamp_texts rows) (history_of rows) (IsLegal_from_AreLegal header.limits rows legal) (legal_rows_are_sound header.limits rows legal)
      (omega (arith, within.events, ranges.0)) (omega (arith, within.tasks, ranges.2))
      (λ event some old. stamp_texts-at rows event (some, omega (arith, old, length-reverse rows, length-stamp_texts rows)))
      (subst (λ (these : List Row). AreReadAgain 0 these (stamp_texts rows)) (sym same) read))

  -- the verdict on the export of legal rows whose lines are read again is yes
  pub export_is_right : IsVerdict (concat (export_of header rows)) (Yes (length rows))
  export_is_right = record {
    header = Some header;
    events = texts_after 0 rows (stamp_texts rows);
    parts = (
      header_text header,
      lines_of_export header rows (stamp_texts rows) (header_is_line header headed.1.2.tenant headed.1.2.limits) rows_are_right.are_lines,
      headed,
    );
    judged = (sym (length-texts 0 rows (stamp_texts rows)), (placing_of (history_of rows), rows_are_right.right));
  }

-- the rows of a tenant of the world are legal
pub legal_rows_of : (world : World) (tenant : ℕ) (ledger : Tenant) → slice_get world.tenants tenant ≡ Some ledger → IsWorld world
    → (limits : Limits) → world.limits ≡ limits → AreLegal limits ledger.rows
legal_rows_of world tenant ledger is world_is limits same =
    let known : IsTenantWith world.limits ledger =
    subst (IsTenantWith world.limits) (get_or_from_slice_get world.tenants tenant ledger ledger is) (world_is.tenants tenant ledger (slice_get_within world.tenants tenant ledger is)) in
    subst (λ limits. AreLegal limits ledger.rows) same known.legal
