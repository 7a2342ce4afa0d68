-- Where the scan stops is the place of the fault.
use Rattle.std.proofs.Common.{◌≡◌, ◌≢◌, ◌↔◌, ℕ, zero, suc, ◌+◌, ◌<◌, ◌≤◌, List, [], ◌∷◌, ◌++◌, Option, Some, None, length, take, get_or, refl, sym, ap, ◌∙◌, append_assoc, arith, inl, subst}
use Rattle.std.proofs.lemmas.List.{take_more, take_all, append-nil}
use Rattle.std.proofs.Math.Seq.{take-length}
use Rattle.trace_types.specs.clock.Id as ids
use Rattle.trace_types.specs.clock.Id.{Zero, One, Pair}
use Rattle.stamp_codec.specs.StampText.{Written, Number, Fork, HasNumbers, id_text, written_text, IsShaped}
use Rattle.stamp_codec.specs.Faults.{Begins, IsShapeFault}
use Rattle.stamp_codec.specs.Scan.{stepped}
use Rattle.stamp_codec.specs.declared.scan.Part.{Part}
use Rattle.stamp_codec.specs.declared.scan.Part.TheVariants.{Id, Tree}
use Rattle.stamp_codec.specs.declared.scan.nesting.Side.{Side}
use Rattle.stamp_codec.specs.declared.scan.nesting.Side.TheVariants.{Left, Right}
use Rattle.stamp_codec.specs.declared.scan.Scan.{Scan}
use Rattle.stamp_codec.specs.declared.scan.Awaited.{Awaited}
use Rattle.stamp_codec.specs.declared.scan.Awaited.TheVariants as awaits
use Rattle.stamp_codec.proofs.Steps.{Piece, Byte, AnId, ATree, ANumber, SomeDigits, Make, closing, expected, MakeNext, steps}

-- whatever is to come, some text makes it
pub makeable : (pieces : List Piece) → (rest : List ℕ) × Make pieces rest
makeable [] = ([], refl)
makeable (Byte byte ∷ pieces) = let m = makeable pieces in (byte ∷ m.0, (m.0, refl, m.1))
makeable (AnId ∷ pieces) = let m = makeable pieces in (48 ∷ m.0, (48 ∷ [], m.0, (Zero, refl), refl, m.1))
makeable (ATree ∷ pieces) = let m = makeable pieces in (48 ∷ m.0, (48 ∷ [], m.0, (Number (48 ∷ []), inl (refl, refl), refl), refl, m.1))
makeable (ANumber ∷ pieces) = let m = makeable pieces in (48 ∷ m.0, (48 ∷ [], m.0, inl (refl, refl), refl, m.1))
makeable (SomeDigits ∷ pieces) = let m = makeable pieces in (m.0, ([], m.0, tt, refl, m.1))

-- of two lists that together are empty both are
parts_empty : (a b : List ℕ) → [] ≡ a ++ b → (a ≡ []) × (b ≡ [])
parts_empty [] b e = (refl, sym e)
parts_empty (x ∷ a) b e = cc

-- no text of an id or a tree is empty
id_some : (id : ids.Id) → [] ≡ id_text id → ⊥
id_some Zero empty = cc
id_some One empty = cc
id_some (Pair left right) empty = cc

tree_some : (tree : Written) → HasNumbers tree → [] ≡ written_text tree → ⊥
tree_some (Number []) numbers empty = absurd numbers
tree_some (Number (d ∷ digits)) numbers empty = cc
tree_some (Fork digits left right) numbers empty = cc

-- nothing but the end of the stamp ends without a byte
closing_some : (part : Part) (inside : List Side) → Make (closing part inside) [] → ⊥
closing_some Id [] (after, whole, more) = cc
closing_some Tree [] (after, whole, more) = cc
closing_some part (Left ∷ inside) (after, whole, more) = cc
closing_some part (Right ∷ inside) (after, whole, more) = cc

pub ends_only : (awaited : Awaited) (inside : List Side) → Make (expected awaited inside) [] → awaited ≡ awaits.Nothing
ends_only awaits.Start inside (after, whole, more) = cc
ends_only (awaits.Node Id) inside (text, after, (id, is), whole, more) = absurd (id_some id (sym (parts_empty text after whole).0 ∙ is))
ends_only (awaits.Node Tree) inside (text, after, (tree, numbers, is), whole, more) = absurd (tree_some tree numbers (sym (parts_empty text after whole).0 ∙ is))
ends_only (awaits.NodeEnd part) inside more = absurd (closing_some part inside more)
ends_only awaits.LeafDigits inside (text, after, are, whole, more) = absurd (closing_some Tree inside (rw (← (parts_empty text after whole).1) more))
ends_only awaits.Number inside ([], after, number, whole, more) = absurd number
ends_only awaits.Number inside (d ∷ digits, after, number, whole, more) = cc
ends_only awaits.NumberDigits inside (text, after, are, whole, (behind, comma, more)) = let none = (parts_empty text after whole).1 in cc
ends_only awaits.Comma inside (after, whole, more) = cc
ends_only awaits.Nothing inside more = refl

-- more bytes than come before a place begin with those, and go on with the byte there
pub goes_past : (text : List ℕ) (place count : ℕ) → place < count → count ≤ length text → (more : List ℕ) × (take count text ≡ take place text ++ (get_or text place 0 ∷ more))
goes_past [] place count past within = absurd (omega arith)
goes_past (x ∷ text) place zero past within = absurd (omega arith)
goes_past (x ∷ text) zero (suc count) past within = (take count text, refl)
goes_past (x ∷ text) (suc place) (suc count) past within =
    let rest = goes_past text place count (omega arith) (omega arith) in
    (rest.0, ap (λ t. x ∷ t) rest.1)

-- the first bytes of the text lead to this state
abbrev pub LeadsTo : List ℕ → Awaited → List Side → Type 0
LeadsTo seen awaited inside = (rest : List ℕ) → IsShaped (seen ++ rest) ↔ Make (expected awaited inside) rest

-- at the start the scan awaits a whole stamp
pub starts : LeadsTo [] awaits.Start []
starts rest = (
  (λ (id, tree, spells).
      let behind : List ℕ = written_text tree ++ (93 ∷ []) in
      (id_text id ++ (59 ∷ behind), spells.whole, (id_text id, 59 ∷ behind, (id, refl), refl, (behind, refl, (written_text tree, 93 ∷ [], (tree, spells.numbers, refl), refl, ([], refl, refl)))))),
  (λ (a, whole, (x, b, (id, id_is), split, (c, b_is, (y, d, (tree, numbers, tree_is), parts, (e, d_is, e_is))))).
      (id, tree, record { numbers = numbers; whole = rw (whole, split, id_is, b_is, parts, tree_is, d_is, e_is) refl })),
)

-- one byte further
pub leads_on : (text : List ℕ) (place : ℕ) (awaited : Awaited) (inside : List Side) (byte : ℕ) (next : Scan) → place < length text → byte ≡ get_or text place 0 →
    stepped awaited inside byte ≡ Some next → LeadsTo (take place text) awaited inside → LeadsTo (take (place + 1) text) next.awaited next.inside
leads_on text place awaited inside byte next within byte_is next_is leads rest =
    let joined : take (place + 1) text ++ rest ≡ take place text ++ (byte ∷ rest) = rw (take_more text place 0, ← byte_is) (append_assoc (take place text) (byte ∷ []) rest) in
    let step : Make (expected awaited inside) (byte ∷ rest) ↔ MakeNext (Some next) rest = subst (λ (o : Option Scan). Make (expected awaited inside) (byte ∷ rest) ↔ MakeNext o rest) next_is (steps awaited inside byte rest) in
    let before = leads (byte ∷ rest) in
    rw joined ((λ shaped. step.0 (before.0 shaped)), (λ next. before.1 (step.1 next)))

-- no stamp goes on with a byte with which the scan does not
most_here : (text : List ℕ) (place : ℕ) (awaited : Awaited) (inside : List Side) (byte : ℕ) → place < length text → byte ≡ get_or text place 0 →
    stepped awaited inside byte ≡ None → LeadsTo (take place text) awaited inside → (count : ℕ) → place < count → count ≤ length text → ¬ Begins text count
most_here text place awaited inside byte within byte_is none leads count past inside_text (more, shaped) =
    let split = goes_past text place count past inside_text in
    let joined : take count text ++ more ≡ take place text ++ (byte ∷ (split.0 ++ more)) = rw (split.1, ← byte_is) (append_assoc (take place text) (byte ∷ split.0) more) in
    let ended : MakeNext None (split.0 ++ more) = rw none at (steps awaited inside byte (split.0 ++ more)).0 ((leads (byte ∷ (split.0 ++ more))).0 (rw joined at shaped)) in
    ended

-- the place where no step is left is that of the fault
pub fault_here : (text : List ℕ) (place : ℕ) (awaited : Awaited) (inside : List Side) (byte : ℕ) → place < length text → byte ≡ get_or text place 0 →
    stepped awaited inside byte ≡ None → LeadsTo (take place text) awaited inside → IsShapeFault text place
fault_here text place awaited inside byte within byte_is none leads =
    let most = most_here text place awaited inside byte within byte_is none leads in
    let some = makeable (expected awaited inside) in
    record {
      fault = λ shaped. most (length text) within (omega arith) ([], rw (take-length text, append-nil text) shaped);
      within = omega arith;
      begins = (some.0, (leads some.0).1 some.1);
      most = most;
    }

-- a text that ends where nothing more is awaited has the shape
pub shaped_at_end : (text : List ℕ) (place : ℕ) (awaited : Awaited) (inside : List Side) → length text ≤ place → awaited ≡ awaits.Nothing → LeadsTo (take place text) awaited inside → IsShaped text
shaped_at_end text place awaited inside end is leads_here =
    let leads : LeadsTo text awaited inside = subst (λ (seen : List ℕ). LeadsTo seen awaited inside) (take_all place text end) leads_here in
    let done : Make (expected awaited inside) [] = rw is refl in
    rw append-nil at (leads []).1 done

-- a text that ends before that has its fault there
pub fault_at_end : (text : List ℕ) (place : ℕ) (awaited : Awaited) (inside : List Side) → length text ≤ place → awaited ≢ awaits.Nothing → LeadsTo (take place text) awaited inside → IsShapeFault text (length text)
fault_at_end text place awaited inside end more leads_here =
    let leads : LeadsTo text awaited inside = subst (λ (seen : List ℕ). LeadsTo seen awaited inside) (take_all place text end) leads_here in
    let some = makeable (expected awaited inside) in
    record {
      fault = λ shaped. more (ends_only awaited inside ((leads []).0 (rw append-nil shaped)));
      within = omega arith;
      begins = (some.0, rw take-length ((leads some.0).1 some.1));
      most = λ count past within begun. absurd (omega arith);
    }
