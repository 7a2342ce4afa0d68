-- How texts are shown.
use Rattle.std.specs.Prelude.{◌≡◌, ℕ, IsTrue, List, ◌++◌, ◌⊎◌}
use Rattle.trace_types.specs.text.Name.{Text}
use Rattle.line_protocol.specs.Sink.{Taken}
use Rattle.line_protocol.specs.Writing.{EndsInFault}

-- The text was written and handed on, and no call failed.
abbrev pub ShowsAll : Taken → Taken → Text → Type 0
ShowsAll before after text = (after.bytes ≡ before.bytes ++ text) × IsTrue after.is_flushed × (after.failures ≡ before.failures)

-- Of the text a prefix was written, perhaps all of it.
pub record ShowsFront (old new text : List ℕ) : Type 0 where
  pub written : List ℕ
  pub rest : List ℕ
  pub grows : new ≡ old ++ written
  pub front : text ≡ written ++ rest

-- The text was written and handed on; or a call failed, and a prefix of it was written, perhaps all of it.
abbrev pub Shows : Taken → Taken → Text → Type 0
Shows before after text =
    ShowsAll before after text
    ⊎ (ShowsFront before.bytes after.bytes text × EndsInFault before after)
