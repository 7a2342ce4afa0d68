use Rattle.std.proofs.Common.{◌≡◌, ◌∙◌, sym, subst, arith, rules, inl, inr, IsUtf8}
use Rattle.trace_types.specs.tenant.Rows.{history_of}
use Rattle.trace_types.specs.clock.Stamps.{stamp_text_of}
use Rattle.trace_world.proofs.StampTexts.{IsUtf8-stamp_text, answers_stamp, is_event-stamp, stamp_is, stamp_is_no_refusal, stamp_texts-at}
use Rattle.trace_world.proofs.ledger_stamps.LedgerStampsStampTexts.text.Goals as goal
use Rattle.trace_world.proofs.ledger_stamps.LedgerStampsStampTexts.text.Goals.{in_default-via-in-Refused+in_default, in_default-via-in_default}

pub unreachable-requires : goal.unreachable-requires
unreachable-requires c =
    let is = is_event-stamp c.args.self.now.ledger.now.rows c.args.event c.requires.event in
    elim (answers_stamp c.args.self.now.ledger.now c.args.event c.answer.result is c.answer.ensures.answer) [
      | inl stamp ↦ elim c.in_default.branch [ in_default-via-in-Refused+in_default w ↦ search rules | in_default-via-in_default w ↦ search rules ]
      | inr lacks ↦ elim c.in_default.branch [ in_default-via-in-Refused+in_default w ↦ search rules | in_default-via-in_default w ↦ search rules ]
    ]

-- the text that was answered
answered : (c : goal.After-drop-text-inside-in-Stamp) → c.in_ok-to_vec-in-Stamp.field-0.items ≡ stamp_text_of (history_of c.args.self.now.ledger.now.rows) c.args.event
answered c =
    let is = is_event-stamp c.args.self.now.ledger.now.rows c.args.event c.requires.event in
    let copied : c.in_ok-to_vec-in-Stamp.field-0.items ≡ c.as_bytes.result.now = search rules in
    elim (answers_stamp c.args.self.now.ledger.now c.args.event c.answer.result is c.answer.ensures.answer) [
      | inl stamp ↦ copied ∙ c.as_bytes.ensures ∙ stamp_is c.answer.result c.in-Stamp.text _ c.in-Stamp.is stamp
      | inr lacks ↦ absurd (stamp_is_no_refusal c.answer.result c.in-Stamp.text c.in-Stamp.is lacks)
    ]

pub returns-in_ok-to_vec-in-Stamp-clause-text : goal.returns-in_ok-to_vec-in-Stamp-clause-text
returns-in_ok-to_vec-in-Stamp-clause-text c = answered c ∙ sym (stamp_texts-at c.args.self.now.ledger.now.rows c.args.event c.requires.event)

pub returns-in_ok-to_vec-in-Stamp-clause-utf8 : goal.returns-in_ok-to_vec-in-Stamp-clause-utf8
returns-in_ok-to_vec-in-Stamp-clause-utf8 c =
    let rows = c.args.self.now.ledger.now.rows in
    let least = c.greatest_value.ensures c.args.self.now.ledger.now.limits rows c.rows.ensures.legal c.args.event in
    subst IsUtf8 (sym (answered c)) (IsUtf8-stamp_text (history_of rows) c.args.event (omega (arith, least, c.ranges.event.fits)))
