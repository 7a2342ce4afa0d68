-- A text without parentheses is scanned outside of all parentheses.
use Rattle.std.proofs.Common.{◌≡◌, ◌≢◌, ℕ, suc, ◌-◌, Bool, true, false, ◌==◌, if◌then◌else◌, List, [], ◌∷◌, ◌++◌, drop, take, take_all, length, Option, Some, None, refl, sym, subst, arith}
use Rattle.std.proofs.lemmas.Bool.{ne_eqb}
use Rattle.stamp_codec.specs.Flat.{OpensNowhere, IsOutside, IsFlat}
use Rattle.stamp_codec.specs.Scan.{awaiting, is_digit_byte, stepped}
use Rattle.stamp_codec.specs.declared.scan.Part.TheVariants.{Id, Tree}
use Rattle.stamp_codec.specs.declared.scan.Scan.{Scan}
use Rattle.stamp_codec.specs.declared.scan.Awaited.{Awaited}
use Rattle.stamp_codec.specs.declared.scan.Awaited.TheVariants.{Start, Node, NodeEnd, LeafDigits, Number, NumberDigits, Comma, Nothing}

-- the scan, if there is one, is flat
abbrev IfFlat : Option Scan → Type 0
IfFlat None = Unit {0}
IfFlat (Some scan) = IsFlat scan

either : (test : Bool) (one other : Option Scan) → IfFlat one → IfFlat other → IfFlat (if test then one else other)
either true one other one_flat other_flat = one_flat
either false one other one_flat other_flat = other_flat

outside_all : (awaited : Awaited) → IsOutside awaited → IsFlat (awaiting awaited [])
outside_all awaited outside = record { outside = outside; inside_none = refl }

stays_flat : (awaited : Awaited) (byte : ℕ) → IsOutside awaited → byte ≢ 40 → IfFlat (stepped awaited [] byte)
stays_flat Start byte outside other = either (byte == 91) _ _ (outside_all (Node Id) tt) tt
stays_flat (Node Id) byte outside other =
    rw (ne_eqb byte 40 other) (either (byte == 48) _ _ (outside_all (NodeEnd Id) tt) (either (byte == 49) _ _ (outside_all (NodeEnd Id) tt) tt))
stays_flat (Node Tree) byte outside other =
    rw (ne_eqb byte 40 other) (either (byte == 48) _ _ (outside_all (NodeEnd Tree) tt) (either (is_digit_byte byte) _ _ (outside_all LeafDigits tt) tt))
stays_flat (NodeEnd Id) byte outside other = either (byte == 59) _ _ (outside_all (Node Tree) tt) tt
stays_flat (NodeEnd Tree) byte outside other = either (byte == 93) _ _ (outside_all Nothing tt) tt
stays_flat LeafDigits byte outside other =
    either (is_digit_byte byte) _ _ (outside_all LeafDigits tt) (either (byte == 93) _ _ (outside_all Nothing tt) tt)
stays_flat Number byte outside other = absurd outside
stays_flat NumberDigits byte outside other = absurd outside
stays_flat Comma byte outside other = absurd outside
stays_flat Nothing byte outside other = tt

-- after a byte that opens no parenthesis a flat scan is flat
pub flat_after : (scan next : Scan) (byte : ℕ) → IsFlat scan → byte ≢ 40 → stepped scan.awaited scan.inside byte ≡ Some next → IsFlat next
flat_after scan next byte flat other step =
    let stays = stays_flat scan.awaited byte flat.outside other in
    subst (λ (found : Option Scan). IfFlat found) step (rw flat.inside_none stays)

-- a text without parentheses begins with none
pub nowhere_first : (text rest : List ℕ) → OpensNowhere text → text ≢ 40 ∷ rest
nowhere_first text rest opens begins = opens 0 (rw begins refl)

-- a text without parentheses has none behind a front
pub nowhere_behind : (front rest : List ℕ) → OpensNowhere (front ++ rest) → OpensNowhere rest
nowhere_behind [] rest opens = opens
nowhere_behind (byte ∷ front) rest opens = nowhere_behind front rest (λ place. opens (suc place))

-- nor behind its first byte
pub nowhere_inner : (text : List ℕ) → OpensNowhere text → OpensNowhere (take (length text - 1) (drop 1 text))
nowhere_inner [] opens = opens
nowhere_inner (byte ∷ text) opens = subst OpensNowhere (sym (take_all (length (byte ∷ text) - 1) text (omega arith))) (λ place. opens (suc place))
