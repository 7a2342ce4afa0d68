use Rattle.std.proofs.Common.{◌≡◌, ◌-◌, ◌<◌, ℕ, List, [], ◌∷◌, length, arith, refl, slice_range, ◌∙◌}
use Rattle.line_protocol.specs.declared.line.Line.TheVariants.{End}
use Rattle.line_protocol.specs.Ends.{last_line, kind_of_length}
use Rattle.line_protocol.proofs.Ranges.{length-slice_range}
use Rattle.line_protocol.proofs.line_buffer.Buffer.take_rest.Goals as goal
use Rattle.line_protocol.proofs.line_buffer.Buffer.take_rest.Goals.{then-len-eq0, else-len-eq0}

nothing : (most : ℕ) (line : List ℕ) → length line ≡ 0 → End ≡ last_line most line
nothing most [] len = refl
nothing most (x ∷ xs) len = absurd (omega arith)

something : (most : ℕ) (line : List ℕ) (n : ℕ) → length line ≡ n → 0 < n → kind_of_length most n ≡ last_line most line
something most [] n len more = absurd (omega arith)
something most (x ∷ xs) n len more = rw (← len) refl

pub returns-clause-kind : goal.returns-clause-kind
returns-clause-kind c =
    let len : length (slice_range c.self.inside.bytes.items c.self.inside.start c.self.inside.end) ≡ c.self.inside.end - c.self.inside.start =
    length-slice_range c.self.inside.bytes.items c.self.inside.start c.self.inside.end c.self.invariant.left_from (omega arith) in
    elim c.if-len-eq0.branch [
      | then-len-eq0 w ↦ rw (w.result-is, ← c.self.view_is) (nothing _ _ (len ∙ w.if-len-eq0.true))
      | else-len-eq0 w ↦ rw (w.result-is, w.kind_of.ensures, ← c.self.view_is) (something _ _ _ len (omega arith))
    ]
