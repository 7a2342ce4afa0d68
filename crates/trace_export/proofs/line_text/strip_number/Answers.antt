use Rattle.trace_export.proofs.line_text.strip_number.Goals as goal

pub returns : goal.returns
returns c = rw (← c.format.ensures.text, ← c.as_bytes.ensures.value) c.strip.ensures
