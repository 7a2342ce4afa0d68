-- Where the reading of lines stops.
use Rattle.std.proofs.Common.{◌≡◌, ℕ, suc, inl, inr, List, ◌++◌, length, sym, ap, subst, ◌∙◌, arith, append_assoc}
use Rattle.trace_types.specs.text.Name.{Text}
use Rattle.line_protocol.specs.Held.{Held}
use Rattle.line_protocol.specs.LineReading.{HasRead, ReadsForLine}
use Rattle.line_protocol.specs.Source.{Given}
use Rattle.line_protocol.proofs.LineReadingLemmas.{HasRead-none, LastRead-map}
use Rattle.trace_export.specs.ReadTo.{StopsAtLine}

-- what stops at a line stops at the next one too
stops_later : {R : Type 0} (seen : R → Given) (reader reader' : R) (number : ℕ) → StopsAtLine seen number reader reader' → StopsAtLine seen (suc number) reader reader'
stops_later seen reader reader' number (inl same) = inl same
stops_later seen reader reader' number (inr last) =
    inr (LastRead-map last (λ given fewer. record { came = fewer.came; grows = fewer.grows; few = omega (arith, fewer.few) }))

-- the next line was looked for
pub stops_next : {R : Type 0} {held : Held} {found : List Text} (seen : R → Given) (reader middle reader' : R) (number : ℕ) → HasRead (seen reader).bytes (seen middle).bytes held found → length found ≡ number
    → StopsAtLine seen number reader middle → ReadsForLine seen middle reader' held → StopsAtLine seen (suc number) reader reader'
stops_next seen reader middle reader' number read counted stops (inl same) =
    subst (λ after. StopsAtLine seen (suc number) reader after) (sym same) (stops_later seen reader middle number stops)
stops_next seen reader middle reader' number read counted stops (inr last) =
    inr (LastRead-map last (λ given none. record {
      came = read.came ++ none.gave;
      grows = none.grows ∙ ap (λ bytes. bytes ++ none.gave) read.grows ∙ append_assoc (seen reader).bytes read.came none.gave;
      few = omega (arith, HasRead-none read none, counted);
    }))
