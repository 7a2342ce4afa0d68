-- What makes a stamp after a byte is what makes it from the next state on.
use Rattle.std.proofs.Common.{◌≡◌, ◌↔◌, ◌⊎◌, inl, inr, ℕ, ◌≤◌, Bool, true, false, cond, eqb, List, [], ◌∷◌, ◌++◌, Option, Some, None, refl, sym, ap, ◌∙◌, arith}
use Rattle.std.proofs.lemmas.Bool.{eqb-true, eq-eqb}
use Rattle.trace_types.specs.clock.Id as ids
use Rattle.trace_types.specs.clock.Id.{Zero, One, Pair}
use Rattle.stamp_codec.specs.StampText.{Written, Number, Fork, HasNumbers, AreDigits, IsWrittenNumber, id_text, written_text}
use Rattle.stamp_codec.specs.Scan.{awaiting, closed, number_begun, is_digit_byte, stepped}
use Rattle.stamp_codec.specs.declared.scan.Part.{Part}
use Rattle.stamp_codec.specs.declared.scan.Part.TheVariants.{Id, Tree}
use Rattle.stamp_codec.specs.declared.scan.nesting.Side.{Side}
use Rattle.stamp_codec.specs.declared.scan.nesting.Side.TheVariants.{Left, Right}
use Rattle.stamp_codec.specs.declared.scan.Scan.{Scan}
use Rattle.stamp_codec.specs.declared.scan.Awaited.{Awaited}
use Rattle.stamp_codec.specs.declared.scan.Awaited.TheVariants as awaits
use Rattle.stamp_codec.proofs.Parts.{heads, pair_text, pair_text-append, number_first, fork_behind, digit_test, digit_true}

-- A byte, or some text of a kind.
pub data Piece : Type 0 where
  Byte : (byte : ℕ) → Piece
  AnId : Piece
  ATree : Piece
  ANumber : Piece
  SomeDigits : Piece

-- some text, and then what the pieces make
abbrev pub TextThen : (List ℕ → Type 0) → (List ℕ → Type 0) → List ℕ → Type 0
TextThen IsText Then rest = (text after : List ℕ) × IsText text × (rest ≡ text ++ after) × Then after

abbrev pub IsIdText : List ℕ → Type 0
IsIdText text = (id : ids.Id) × (text ≡ id_text id)

abbrev pub IsTreeText : List ℕ → Type 0
IsTreeText text = (tree : Written) × HasNumbers tree × (text ≡ written_text tree)

-- the pieces make this text
abbrev pub Make : List Piece → List ℕ → Type 0
Make [] rest = rest ≡ []
Make (Byte byte ∷ pieces) rest = (after : List ℕ) × (rest ≡ byte ∷ after) × Make pieces after
Make (AnId ∷ pieces) rest = TextThen IsIdText (Make pieces) rest
Make (ATree ∷ pieces) rest = TextThen IsTreeText (Make pieces) rest
Make (ANumber ∷ pieces) rest = TextThen IsWrittenNumber (Make pieces) rest
Make (SomeDigits ∷ pieces) rest = TextThen AreDigits (Make pieces) rest

-- what is to come behind a whole node
abbrev pub node_of : Part → Piece
node_of Id = AnId
node_of Tree = ATree

abbrev pub closing : Part → List Side → List Piece
closing Id [] = Byte 59 ∷ ATree ∷ Byte 93 ∷ []
closing Tree [] = Byte 93 ∷ []
closing part (Left ∷ inside) = Byte 44 ∷ node_of part ∷ Byte 41 ∷ closing part inside
closing part (Right ∷ inside) = Byte 41 ∷ closing part inside

-- what is to come where this is awaited inside these parentheses
abbrev pub expected : Awaited → List Side → List Piece
expected awaits.Start inside = Byte 91 ∷ AnId ∷ closing Id inside
expected (awaits.Node part) inside = node_of part ∷ closing part inside
expected (awaits.NodeEnd part) inside = closing part inside
expected awaits.LeafDigits inside = SomeDigits ∷ closing Tree inside
expected awaits.Number inside = ANumber ∷ Byte 44 ∷ ATree ∷ closing Tree (Left ∷ inside)
expected awaits.NumberDigits inside = SomeDigits ∷ Byte 44 ∷ ATree ∷ closing Tree (Left ∷ inside)
expected awaits.Comma inside = Byte 44 ∷ ATree ∷ closing Tree (Left ∷ inside)
expected awaits.Nothing inside = []

-- the same after a step, where there is one
abbrev pub MakeNext : Option Scan → List ℕ → Type 0
MakeNext None rest = ⊥
MakeNext (Some scan) rest = Make (expected scan.awaited scan.inside) rest

-- what holds, or else what does
abbrev pub Either : Type 0 → Type 0 → Type 0 → Type 0
Either A P Q = (A × P) ⊎ ((A → ⊥) × Q)

-- a test decides between two states
decide : (P A X Q : Type 0) (test : Bool) (one other : Option Scan) (rest : List ℕ) → (test ≡ true → A) → (A → test ≡ true) → (P ↔ Either A X Q) →
    (X ↔ MakeNext one rest) → (Q ↔ MakeNext other rest) → P ↔ MakeNext (cond test one other) rest
decide P A X Q true one other rest holds tells same first second = (
  (λ p. elim (same.0 p) [ inl x ↦ first.0 x.1 | inr q ↦ absurd (q.0 (holds refl)) ]),
  (λ next. same.1 (inl (holds refl, first.1 next))),
)
decide P A X Q false one other rest holds tells same first second = (
  (λ p. elim (same.0 p) [ inl x ↦ let clash : false ≡ true = tells x.0 in cc | inr q ↦ second.0 q.1 ]),
  (λ next. same.1 (inr ((λ a. let clash : false ≡ true = tells a in cc), second.1 next))),
)

-- what is the same is the same
itself : (P : Type 0) → P ↔ P
itself P = ((λ p. p), (λ p. p))

-- a fact that has to hold
alone : (P A X : Type 0) → (P ↔ (A × X)) → P ↔ Either A X ⊥
alone P A X same = ((λ p. inl (same.0 p)), (λ e. elim e [ inl x ↦ same.1 x | inr none ↦ absurd none.1 ]))

-- one byte, or nothing
byte_first : (first byte : ℕ) (pieces : List Piece) (rest : List ℕ) → Make (Byte first ∷ pieces) (byte ∷ rest) ↔ ((byte ≡ first) × Make pieces rest)
byte_first first byte pieces rest = (
  (λ (after, whole, more). let h = heads byte first rest after whole in (h.0, rw h.1 more)),
  (λ (is, more). (rest, ap (λ n. n ∷ rest) is, more)),
)

byte_step : (first byte : ℕ) (next : Scan) (rest : List ℕ) → Make (Byte first ∷ expected next.awaited next.inside) (byte ∷ rest) ↔ MakeNext (cond (eqb byte first) (Some next) None) rest
byte_step first byte next rest =
    decide _ (byte ≡ first) _ ⊥ (eqb byte first) (Some next) None rest (eqb-true byte first) (eq-eqb byte first)
    (alone _ _ _ (byte_first first byte (expected next.awaited next.inside) rest)) (itself _) (itself _)

-- behind a whole node
closes : (part : Part) (inside : List Side) (byte : ℕ) (rest : List ℕ) → Make (closing part inside) (byte ∷ rest) ↔ MakeNext (closed part inside byte) rest
closes Id [] byte rest = byte_step 59 byte (awaiting (awaits.Node Tree) []) rest
closes Tree [] byte rest = byte_step 93 byte (awaiting awaits.Nothing []) rest
closes part (Left ∷ inside) byte rest = byte_step 44 byte (awaiting (awaits.Node part) (Right ∷ inside)) rest
closes part (Right ∷ inside) byte rest = byte_step 41 byte (awaiting (awaits.NodeEnd part) inside) rest

-- an id is in parentheses, or a byte of its own
abbrev IdBegins : List Piece → ℕ → List ℕ → Type 0
IdBegins pieces byte rest = Either (byte ≡ 40) (Make (AnId ∷ Byte 44 ∷ AnId ∷ Byte 41 ∷ pieces) rest) (Either (byte ≡ 48) (Make pieces rest) ((byte ≡ 49) × Make pieces rest))

id_forth : (pieces : List Piece) (byte : ℕ) (rest : List ℕ) → Make (AnId ∷ pieces) (byte ∷ rest) → IdBegins pieces byte rest
id_forth pieces byte rest (text, after, (Zero, is), whole, more) =
    let h = heads byte 48 rest after (whole ∙ ap (λ t. t ++ after) is) in inr ((λ opens. omega (arith, opens, h.0)), inl (h.0, rw h.1 more))
id_forth pieces byte rest (text, after, (One, is), whole, more) =
    let h = heads byte 49 rest after (whole ∙ ap (λ t. t ++ after) is) in inr ((λ opens. omega (arith, opens, h.0)), inr ((λ zero. omega (arith, zero, h.0)), (h.0, rw h.1 more)))
id_forth pieces byte rest (text, after, (Pair l r, is), whole, more) =
    let h = heads byte 40 rest (pair_text (id_text l) (id_text r) ++ after) (whole ∙ ap (λ t. t ++ after) is) in
    let behind : List ℕ = id_text r ++ (41 ∷ after) in
    inl (h.0, (id_text l, 44 ∷ behind, (l, refl), h.1 ∙ pair_text-append (id_text l) (id_text r) after, (behind, refl, (id_text r, 41 ∷ after, (r, refl), refl, (after, refl, more)))))

id_back : (pieces : List Piece) (byte : ℕ) (rest : List ℕ) → IdBegins pieces byte rest → Make (AnId ∷ pieces) (byte ∷ rest)
id_back pieces byte rest (inl (is, (left, x, (l, l_is), split, (y, x_is, (right, z, (r, r_is), parts, (after, z_is, more)))))) =
    (id_text (Pair l r), after, (Pair l r, refl), rw (is, split, l_is, x_is, parts, r_is, z_is) (ap (λ t. 40 ∷ t) (sym (pair_text-append (id_text l) (id_text r) after))), more)
id_back pieces byte rest (inr (apart, inl (is, more))) = (48 ∷ [], rest, (Zero, refl), ap (λ n. n ∷ rest) is, more)
id_back pieces byte rest (inr (apart, inr (other, (is, more)))) = (49 ∷ [], rest, (One, refl), ap (λ n. n ∷ rest) is, more)

-- a tree is in parentheses, or a number
abbrev TreeBegins : List Piece → ℕ → List ℕ → Type 0
TreeBegins pieces byte rest = Either (byte ≡ 40) (Make (ANumber ∷ Byte 44 ∷ ATree ∷ Byte 44 ∷ ATree ∷ Byte 41 ∷ pieces) rest) (Make (ANumber ∷ pieces) (byte ∷ rest))

tree_forth : (pieces : List Piece) (byte : ℕ) (rest : List ℕ) → Make (ATree ∷ pieces) (byte ∷ rest) → TreeBegins pieces byte rest
tree_forth pieces byte rest (text, after, (Number [], numbers, is), whole, more) = absurd numbers
tree_forth pieces byte rest (text, after, (Number (d ∷ digits), numbers, is), whole, more) =
    let same = whole ∙ ap (λ t. t ++ after) is in
    inr ((λ opens. number_first d digits numbers (sym (heads byte d rest (digits ++ after) same).0 ∙ opens)), (d ∷ digits, after, numbers, same, more))
tree_forth pieces byte rest (text, after, (Fork digits l r, numbers, is), whole, more) =
    let h = heads byte 40 rest ((digits ++ (44 ∷ pair_text (written_text l) (written_text r))) ++ after) (whole ∙ ap (λ t. t ++ after) is) in
    let second : List ℕ = written_text r ++ (41 ∷ after) in
    let first : List ℕ = written_text l ++ (44 ∷ second) in
    inl (
      h.0,
      (
        digits,
        44 ∷ first,
        numbers.0,
        h.1 ∙ fork_behind digits l r after,
        (first, refl, (written_text l, 44 ∷ second, (l, numbers.1, refl), refl, (second, refl, (written_text r, 41 ∷ after, (r, numbers.2, refl), refl, (after, refl, more))))),
      ),
    )

tree_back : (pieces : List Piece) (byte : ℕ) (rest : List ℕ) → TreeBegins pieces byte rest → Make (ATree ∷ pieces) (byte ∷ rest)
tree_back pieces byte rest (inl (is, (digits, c, number, split, (x, c_is, (left, y, (l, l_numbers, l_is), parts, (z, y_is, (right, w, (r, r_numbers, r_is), last, (after, w_is, more)))))))) =
    (written_text (Fork digits l r), after, (Fork digits l r, (number, l_numbers, r_numbers), refl), rw (is, split, c_is, parts, l_is, y_is, last, r_is, w_is) (ap (λ t. 40 ∷ t) (sym (fork_behind digits l r after))), more)
tree_back pieces byte rest (inr (apart, (digits, after, number, whole, more))) = (digits, after, (Number digits, number, refl), whole, more)

-- a number begins with its first digit; behind a 0 it ends
abbrev IsDigit : ℕ → Type 0
IsDigit byte = (48 ≤ byte) × (byte ≤ 57)

abbrev NumberBegins : List Piece → ℕ → List ℕ → Type 0
NumberBegins pieces byte rest = Either (byte ≡ 48) (Make pieces rest) (IsDigit byte × Make (SomeDigits ∷ pieces) rest)

number_forth : (pieces : List Piece) (byte : ℕ) (rest : List ℕ) → Make (ANumber ∷ pieces) (byte ∷ rest) → NumberBegins pieces byte rest
number_forth pieces byte rest ([], after, number, whole, more) = absurd number
number_forth pieces byte rest (d ∷ digits, after, inl zero, whole, more) =
    let h = heads byte d rest (digits ++ after) whole in inl (h.0 ∙ zero.0, rw (h.1 ∙ ap (λ t. t ++ after) zero.1) more)
number_forth pieces byte rest (d ∷ digits, after, inr digit, whole, more) =
    let h = heads byte d rest (digits ++ after) whole in
    inr ((λ zero. omega (arith, zero, h.0, digit.0)), ((omega (arith, h.0, digit.0), omega (arith, h.0, digit.1)), (digits, after, digit.2, h.1, more)))

number_back : (pieces : List Piece) (byte : ℕ) (rest : List ℕ) → NumberBegins pieces byte rest → Make (ANumber ∷ pieces) (byte ∷ rest)
number_back pieces byte rest (inl (is, more)) = (byte ∷ [], rest, inl (is, refl), refl, more)
number_back pieces byte rest (inr (apart, (digit, (digits, after, are, whole, more)))) = (byte ∷ digits, after, inr (omega (arith, digit.0, apart), digit.1, are), ap (λ t. byte ∷ t) whole, more)

number_step : (alone_state with_digits : Awaited) (inside : List Side) (pieces : List Piece) (byte : ℕ) (rest : List ℕ) →
    (Make pieces rest ↔ Make (expected alone_state inside) rest) → (Make (SomeDigits ∷ pieces) rest ↔ Make (expected with_digits inside) rest) →
    Make (ANumber ∷ pieces) (byte ∷ rest) ↔ MakeNext (number_begun alone_state with_digits inside byte) rest
number_step alone_state with_digits inside pieces byte rest zero more =
    decide _ (byte ≡ 48) _ _ (eqb byte 48) _ _ rest (eqb-true byte 48) (eq-eqb byte 48) (number_forth pieces byte rest, number_back pieces byte rest) zero
    (decide _ (IsDigit byte) _ ⊥ (is_digit_byte byte) _ None rest (digit_true byte) (digit_test byte) (alone _ _ _ (itself _)) more (itself _))

-- digits go on, or end where no digit follows
digits_forth : (pieces : List Piece) (byte : ℕ) (rest : List ℕ) → (IsDigit byte → Make pieces (byte ∷ rest) → ⊥) → Make (SomeDigits ∷ pieces) (byte ∷ rest) → Either (IsDigit byte) (Make (SomeDigits ∷ pieces) rest) (Make pieces (byte ∷ rest))
digits_forth pieces byte rest stops ([], after, are, whole, more) = inr ((λ digit. stops digit (rw whole more)), rw whole more)
digits_forth pieces byte rest stops (d ∷ digits, after, are, whole, more) =
    let h = heads byte d rest (digits ++ after) whole in inl ((omega (arith, h.0, are.0), omega (arith, h.0, are.1)), (digits, after, are.2, h.1, more))

digits_back : (pieces : List Piece) (byte : ℕ) (rest : List ℕ) → Either (IsDigit byte) (Make (SomeDigits ∷ pieces) rest) (Make pieces (byte ∷ rest)) → Make (SomeDigits ∷ pieces) (byte ∷ rest)
digits_back pieces byte rest (inl (digit, (digits, after, are, whole, more))) = (byte ∷ digits, after, (digit.0, digit.1, are), ap (λ t. byte ∷ t) whole, more)
digits_back pieces byte rest (inr (apart, more)) = ([], byte ∷ rest, tt, refl, more)

digits_step : (pieces : List Piece) (next : Scan) (other : Option Scan) (byte : ℕ) (rest : List ℕ) → (IsDigit byte → Make pieces (byte ∷ rest) → ⊥) → (Make (SomeDigits ∷ pieces) rest ↔ MakeNext (Some next) rest) →
    (Make pieces (byte ∷ rest) ↔ MakeNext other rest) → Make (SomeDigits ∷ pieces) (byte ∷ rest) ↔ MakeNext (cond (is_digit_byte byte) (Some next) other) rest
digits_step pieces next other byte rest stops more ends =
    decide _ (IsDigit byte) _ _ (is_digit_byte byte) (Some next) other rest (digit_true byte) (digit_test byte) (digits_forth pieces byte rest stops, digits_back pieces byte rest) more ends

-- no digit ends a tree
closing_stops : (inside : List Side) (byte : ℕ) (rest : List ℕ) → IsDigit byte → Make (closing Tree inside) (byte ∷ rest) → ⊥
closing_stops [] byte rest digit (after, whole, more) = omega (arith, digit.1, (heads byte 93 rest after whole).0)
closing_stops (Left ∷ inside) byte rest digit (after, whole, more) = omega (arith, digit.0, (heads byte 44 rest after whole).0)
closing_stops (Right ∷ inside) byte rest digit (after, whole, more) = omega (arith, digit.0, (heads byte 41 rest after whole).0)

-- one step of the scan
pub steps : (awaited : Awaited) (inside : List Side) (byte : ℕ) (rest : List ℕ) → Make (expected awaited inside) (byte ∷ rest) ↔ MakeNext (stepped awaited inside byte) rest
steps awaits.Start inside byte rest = byte_step 91 byte (awaiting (awaits.Node Id) inside) rest
steps (awaits.Node Id) inside byte rest =
    decide _ (byte ≡ 40) _ _ (eqb byte 40) _ _ rest (eqb-true byte 40) (eq-eqb byte 40) (id_forth (closing Id inside) byte rest, id_back (closing Id inside) byte rest) (itself _)
    (decide _ (byte ≡ 48) _ _ (eqb byte 48) _ _ rest (eqb-true byte 48) (eq-eqb byte 48) (itself _) (itself _)
    (decide _ (byte ≡ 49) _ ⊥ (eqb byte 49) _ None rest (eqb-true byte 49) (eq-eqb byte 49) (alone _ _ _ (itself _)) (itself _) (itself _)))
steps (awaits.Node Tree) inside byte rest =
    decide _ (byte ≡ 40) _ _ (eqb byte 40) _ _ rest (eqb-true byte 40) (eq-eqb byte 40) (tree_forth (closing Tree inside) byte rest, tree_back (closing Tree inside) byte rest) (itself _)
    (number_step (awaits.NodeEnd Tree) awaits.LeafDigits inside (closing Tree inside) byte rest (itself _) (itself _))
steps (awaits.NodeEnd part) inside byte rest = closes part inside byte rest
steps awaits.LeafDigits inside byte rest =
    digits_step (closing Tree inside) (awaiting awaits.LeafDigits inside) (closed Tree inside byte) byte rest (closing_stops inside byte rest) (itself _) (closes Tree inside byte rest)
steps awaits.Number inside byte rest = number_step awaits.Comma awaits.NumberDigits inside (expected awaits.Comma inside) byte rest (itself _) (itself _)
steps awaits.NumberDigits inside byte rest =
    digits_step (expected awaits.Comma inside) (awaiting awaits.NumberDigits inside) _ byte rest
    (λ digit (after, whole, more). omega (arith, digit.0, (heads byte 44 rest after whole).0)) (itself _) (byte_step 44 byte (awaiting (awaits.Node Tree) (Left ∷ inside)) rest)
steps awaits.Comma inside byte rest = byte_step 44 byte (awaiting (awaits.Node Tree) (Left ∷ inside)) rest
steps awaits.Nothing inside byte rest = ((λ whole. cc), (λ none. absurd none))
