-- Where the one pass stops, no stamp within the bounds stands.
use Rattle.std.proofs.Common.{◌≡◌, ◌≢◌, inl, inr, ℕ, ◌+◌, ◌-◌, ◌*◌, ◌/◌, ◌^◌, ◌<◌, ◌≤◌, max, false, true, List, [], ◌∷◌, ◌++◌, get_or, ap, sym, subst, ◌∙◌, append_assoc, arith}
use Rattle.std.specs.Fmt.{decimal}
use Rattle.std.specs.Prelude.{Result, Ok, Err, IfErr}
use Rattle.std.proofs.lemmas.Fmt.{digits_value-decimal, decimal_digit, first_decimal}
use Rattle.std.proofs.lemmas.Bool.{cases_lt}
use Rattle.trace_types.specs.clock.Id.{Id, Zero, One, Pair, AreApart}
use Rattle.trace_types.specs.clock.EventTree.{EventTree, Leaf, Node, maximum}
use Rattle.event_tree.specs.Height.{height}
use Rattle.stamp_codec.specs.declared.one_pass.Unread.{Unread}
use Rattle.stamp_codec.specs.declared.one_pass.Unread.TheVariants.{Refused}
use Rattle.stamp_codec.specs.declared.stamp.Stamp.{Stamp}
use Rattle.stamp_codec.specs.StampText.{Written, SpellsStamp, stamp_as_text, IsWrittenNumber, AreDigits, id_text, tree_text, written_tree, read_on, number_written}
use Rattle.stamp_codec.specs.Bounds.{SpellsNothing, as_written, nesting_of}
use Rattle.stamp_codec.specs.Children.{IsUnevenOver}
use Rattle.stamp_codec.specs.Faults.{most_nested, greatest_sum}
use Rattle.stamp_codec.specs.Looks.{EndsDigits}
use Rattle.stamp_codec.specs.Scan.{is_digit_byte}
use Rattle.stamp_codec.specs.Refused.{IsIdWithin, IsTreeWithin, NoId, NoPair, NoNumber, NoTree, NoNode}
use Rattle.stamp_codec.proofs.Parts.{heads, pair_text, pair_text-append, for_pairs, comma_ends, end_ends, digit_test, AreDigits-number}
use Rattle.stamp_codec.proofs.RoundTrip.{own, number_decimal, decimal-number, numbers-written, text-written, tree_of-written, spells_again}
use Rattle.stamp_codec.proofs.Unique.{bracket_ends, id_once, numbers_once, number_not_fork, tree_once}

-- an id that begins with a parenthesis is a pair
no_pair : (levels : ℕ) (text : List ℕ) → ((left right : Id) (behind : List ℕ) → IsIdWithin levels (Pair left right) → text ≢ id_text left ++ (44 ∷ (id_text right ++ (41 ∷ behind)))) → NoPair levels text
no_pair levels text none id behind within whole =
    for_pairs (40 ∷ text) (λ id rest. ¬ IsIdWithin levels id) (omega arith) (omega arith) (λ left right rest is within. none left right rest within (heads 40 40 _ _ is).1) id behind whole within

-- no level is left
pub pair_too_deep : (text : List ℕ) → NoPair 0 text
pair_too_deep text = no_pair 0 text (λ left right behind within is. omega (arith, within.low))

-- the left half is not there
pub pair_without_left : (levels : ℕ) (text : List ℕ) → levels ≢ 0 → NoId (levels - 1) 44 text → NoPair levels text
pair_without_left levels text some none =
    no_pair levels text (λ left right behind within is. none left (id_text right ++ (41 ∷ behind)) (record { normal = within.normal.0; low = omega (arith, within.low, some) }) is)

-- the right half is not there
pub pair_without_right : (levels : ℕ) (text after : List ℕ) (left : Id) → levels ≢ 0 → text ≡ (id_text left ++ 44 ∷ []) ++ after → NoId (levels - 1) 41 after → NoPair levels text
pair_without_right levels text after left some begins none =
    no_pair levels text (λ one right behind within is.
    let once = id_once left one (44 ∷ after) (44 ∷ (id_text right ++ (41 ∷ behind))) (sym (begins ∙ append_assoc (id_text left) (44 ∷ []) after) ∙ is) in
    none right behind (record { normal = within.normal.1; low = omega (arith, within.low, some) }) (heads 44 44 _ _ once.1).1)

-- the halves are the same leaf
pub pair_of_one : (levels : ℕ) (text after behind : List ℕ) (left right : Id) → text ≡ (id_text left ++ 44 ∷ []) ++ after → after ≡ (id_text right ++ 41 ∷ []) ++ behind → ¬ AreApart left right → NoPair levels text
pair_of_one levels text after behind left right begins follows same =
    no_pair levels text (λ one other rest within is.
    let once = id_once left one (44 ∷ after) (44 ∷ (id_text other ++ (41 ∷ rest))) (sym (begins ∙ append_assoc (id_text left) (44 ∷ []) after) ∙ is) in
    let twice = id_once right other (41 ∷ behind) (41 ∷ rest) (sym (follows ∙ append_assoc (id_text right) (41 ∷ []) behind) ∙ (heads 44 44 _ _ once.1).1) in
    same (rw (once.0, twice.0) within.normal.2))

-- the pair is not there
pub id_without_pair : (levels end : ℕ) (text inner : List ℕ) → text ≡ 40 ∷ inner → NoPair levels inner → NoId levels end text
id_without_pair levels end text inner opens none id behind within whole = none id (end ∷ behind) within (sym opens ∙ whole)

-- the byte behind the pair is another one
pub id_without_end : (levels end : ℕ) (text inner after : List ℕ) (pair : Id) → 40 ∷ inner ≡ id_text pair ++ after → text ≡ 40 ∷ inner → ((behind : List ℕ) → after ≢ end ∷ behind) → NoId levels end text
id_without_end levels end text inner after pair read opens lacks id behind within whole = lacks behind (id_once pair id after (end ∷ behind) (sym (opens ∙ read) ∙ whole)).1

-- neither a leaf nor a pair is there
pub no_id : (levels end : ℕ) (text : List ℕ) → ((behind : List ℕ) → text ≢ 48 ∷ (end ∷ behind)) → ((behind : List ℕ) → text ≢ 49 ∷ (end ∷ behind)) → ((behind : List ℕ) → text ≢ 40 ∷ behind) → NoId levels end text
no_id levels end text no_zero no_one no_pair Zero behind within whole = no_zero behind whole
no_id levels end text no_zero no_one no_pair One behind within whole = no_one behind whole
no_id levels end text no_zero no_one no_pair (Pair left right) behind within whole = no_pair _ whole

-- the text begins with another byte
pub no_id_begins : (levels end first : ℕ) (text after : List ℕ) → text ≡ first ∷ after → first ≢ 40 → first ≢ 48 → first ≢ 49 → NoId levels end text
no_id_begins levels end first text after begins no_pair no_zero no_one Zero behind within whole = no_zero (heads first 48 _ _ (sym begins ∙ whole)).0
no_id_begins levels end first text after begins no_pair no_zero no_one One behind within whole = no_one (heads first 49 _ _ (sym begins ∙ whole)).0
no_id_begins levels end first text after begins no_pair no_zero no_one (Pair left right) behind within whole = no_pair (heads first 40 _ _ (sym begins ∙ whole)).0

-- a byte that is no digit ends a number
pub stops : (end : ℕ) (behind : List ℕ) → is_digit_byte end ≡ false → EndsDigits (end ∷ behind)
stops end behind is digit = let clash : true ≡ false = sym (digit_test end digit) ∙ is in cc

-- no number begins another
pub number_once : (m n : ℕ) (x y : List ℕ) → m < 2 ^ 64 → n < 2 ^ 64 → EndsDigits x → EndsDigits y → decimal m ++ x ≡ decimal n ++ y → (m ≡ n) × (x ≡ y)
number_once m n x y small low ends others same =
    let once = numbers_once (decimal m) (decimal n) x y (number_decimal m small) (number_decimal n low) ends others same in
    (sym (digits_value-decimal own m small) ∙ ap (λ digits. number_written digits) once.0 ∙ digits_value-decimal own n low, once.1)

-- no tree begins another
trees_once : (a b : EventTree) (x y : List ℕ) → maximum a < 2 ^ 64 → maximum b < 2 ^ 64 → EndsDigits x → EndsDigits y → tree_text a ++ x ≡ tree_text b ++ y → (a ≡ b) × (x ≡ y)
trees_once a b x y small low ends others same =
    let once = tree_once (as_written a) (as_written b) x y (numbers-written a small) (numbers-written b low) ends others
    (ap (λ t. t ++ x) (text-written a) ∙ same ∙ ap (λ t. t ++ y) (sym (text-written b))) in
    (sym (tree_of-written a small) ∙ ap (λ t. written_tree t) once.0 ∙ tree_of-written b low, once.1)

-- the parts of a node behind its parenthesis
node_parts : (number left right behind : List ℕ) → (number ++ (44 ∷ pair_text left right)) ++ behind ≡ number ++ (44 ∷ (left ++ (44 ∷ (right ++ (41 ∷ behind)))))
node_parts number left right behind = append_assoc number (44 ∷ pair_text left right) behind ∙ ap (λ t. number ++ (44 ∷ t)) (pair_text-append left right behind)

-- no node begins another, whatever follows
nodes_once : (a b : EventTree) (text x y : List ℕ) → maximum a < 2 ^ 64 → maximum b < 2 ^ 64 → 40 ∷ text ≡ tree_text a ++ x → 40 ∷ text ≡ tree_text b ++ y → (a ≡ b) × (x ≡ y)
nodes_once (Leaf m) b text x y small low one other = absurd (number_not_fork (decimal m) x text (number_decimal m small) (sym one))
nodes_once (Node m left right) (Leaf n) text x y small low one other = absurd (number_not_fork (decimal n) y text (number_decimal n low) (sym other))
nodes_once (Node m left right) (Node n left' right') text x y small low one other =
    let behind = sym (node_parts (decimal m) (tree_text left) (tree_text right) x) ∙ (heads 40 40 _ _ (sym one ∙ other)).1 ∙ node_parts (decimal n) (tree_text left') (tree_text right') y in
    let number = number_once m n _ _ (omega (arith, small)) (omega (arith, low)) comma_ends comma_ends behind in
    let first = trees_once left left' _ _ (omega (arith, small)) (omega (arith, low)) comma_ends comma_ends (heads 44 44 _ _ number.1).1 in
    let second = trees_once right right' _ _ (omega (arith, small)) (omega (arith, low)) end_ends end_ends (heads 44 44 _ _ first.1).1 in
    let whole : Node m left right ≡ Node n left' right' = cc (number.0, first.0, second.0) in
    (whole, (heads 41 41 x y second.1).1)

-- the node that is there is not within the bounds
pub node_not_within : (levels most : ℕ) (text after : List ℕ) (node : EventTree) → most ≤ greatest_sum → maximum node < 2 ^ 64 → 40 ∷ text ≡ tree_text node ++ after → ¬ IsTreeWithin levels most node → NoNode levels most text
node_not_within levels most text after node fits small read not tree behind within whole =
    let once = nodes_once node tree text after behind small (omega (arith, within.small, fits)) read whole in
    not (subst (λ t. IsTreeWithin levels most t) (sym once.0) within)

-- a tree that begins with a parenthesis is a node
no_node : (levels most : ℕ) (text : List ℕ) → most ≤ greatest_sum →
    ((n : ℕ) (left right : EventTree) (behind : List ℕ) → IsTreeWithin levels most (Node n left right) → text ≢ decimal n ++ (44 ∷ (tree_text left ++ (44 ∷ (tree_text right ++ (41 ∷ behind)))))) → NoNode levels most text
no_node levels most text fits none (Leaf n) behind within whole = number_not_fork (decimal n) behind text (number_decimal n (omega (arith, within.small, fits))) (sym whole)
no_node levels most text fits none (Node n left right) behind within whole =
    none n left right behind within ((heads 40 40 _ _ whole).1 ∙ node_parts (decimal n) (tree_text left) (tree_text right) behind)

-- no level is left
pub node_too_deep : (most : ℕ) (text : List ℕ) → most ≤ greatest_sum → NoNode 0 most text
node_too_deep most text fits = no_node 0 most text fits (λ n left right behind within is. omega (arith, within.low))

-- the number is not there
pub node_without_number : (levels most : ℕ) (text : List ℕ) → most ≤ greatest_sum → NoNumber most 44 text → NoNode levels most text
node_without_number levels most text fits none =
    no_node levels most text fits (λ n left right behind within is. none n (tree_text left ++ (44 ∷ (tree_text right ++ (41 ∷ behind)))) (omega (arith, within.small)) is)

-- the left child is not there
pub node_without_left : (levels most n : ℕ) (text after : List ℕ) → most ≤ greatest_sum → levels ≢ 0 → n ≤ most → text ≡ (decimal n ++ 44 ∷ []) ++ after → NoTree (levels - 1) (most - n) 44 after → NoNode levels most text
node_without_left levels most n text after fits some low begins none =
    no_node levels most text fits (λ m left right behind within is.
    let once = number_once n m (44 ∷ after) (44 ∷ (tree_text left ++ (44 ∷ (tree_text right ++ (41 ∷ behind))))) (omega (arith, low, fits)) (omega (arith, within.small, fits)) comma_ends comma_ends (sym (begins ∙ append_assoc (decimal n) (44 ∷ []) after) ∙ is) in
    none left (tree_text right ++ (41 ∷ behind)) (record { normal = within.normal.0; low = omega (arith, within.low, some); small = omega (arith, within.small, once.0) }) (heads 44 44 _ _ once.1).1)

-- the right child is not there
pub node_without_right : (levels most n : ℕ) (text after rest : List ℕ) (left : EventTree) → most ≤ greatest_sum → levels ≢ 0 → n ≤ most → text ≡ (decimal n ++ 44 ∷ []) ++ after → maximum left ≤ most → after ≡ (tree_text left ++ 44 ∷ []) ++ rest →
    NoTree (levels - 1) (most - n) 41 rest → NoNode levels most text
node_without_right levels most n text after rest left fits some low begins left_low follows none =
    no_node levels most text fits (λ m one right behind within is.
    let once = number_once n m (44 ∷ after) (44 ∷ (tree_text one ++ (44 ∷ (tree_text right ++ (41 ∷ behind))))) (omega (arith, low, fits)) (omega (arith, within.small, fits)) comma_ends comma_ends (sym (begins ∙ append_assoc (decimal n) (44 ∷ []) after) ∙ is) in
    let twice = trees_once left one (44 ∷ rest) (44 ∷ (tree_text right ++ (41 ∷ behind))) (omega (arith, left_low, fits)) (omega (arith, within.small, fits)) comma_ends comma_ends (sym (follows ∙ append_assoc (tree_text left) (44 ∷ []) rest) ∙ (heads 44 44 _ _ once.1).1) in
    none right behind (record { normal = within.normal.1; low = omega (arith, within.low, some); small = omega (arith, within.small, once.0) }) (heads 44 44 _ _ twice.1).1)

-- a node within the bounds is normal
even : (levels most n : ℕ) (left right : EventTree) → IsUnevenOver left right → ¬ IsTreeWithin levels most (Node n left right)
even levels most n left right (inl some) within = some within.normal.2
even levels most n left right (inr same) within = same within.normal.3

-- the node that is there is not normal
pub node_uneven : (levels most n : ℕ) (text after rest behind : List ℕ) (left right : EventTree) → most ≤ greatest_sum → n + max (maximum left) (maximum right) ≤ most → text ≡ (decimal n ++ 44 ∷ []) ++ after →
    after ≡ (tree_text left ++ 44 ∷ []) ++ rest → rest ≡ (tree_text right ++ 41 ∷ []) ++ behind → IsUnevenOver left right → NoNode levels most text
node_uneven levels most n text after rest behind left right fits low begins follows ends uneven =
    let first = begins ∙ append_assoc (decimal n) (44 ∷ []) after in
    let second = follows ∙ append_assoc (tree_text left) (44 ∷ []) rest in
    let third = ends ∙ append_assoc (tree_text right) (41 ∷ []) behind in
    let read : 40 ∷ text ≡ tree_text (Node n left right) ++ behind =
    ap (λ t. 40 ∷ t) (first ∙ ap (λ t. decimal n ++ (44 ∷ t)) (second ∙ ap (λ t. tree_text left ++ (44 ∷ t)) third) ∙ sym (node_parts (decimal n) (tree_text left) (tree_text right) behind)) in
    node_not_within levels most text behind (Node n left right) fits (omega (arith, low, fits)) read (even levels most n left right uneven)

-- the node is not there
pub tree_without_node : (levels most end : ℕ) (text inner : List ℕ) → text ≡ 40 ∷ inner → NoNode levels most inner → NoTree levels most end text
tree_without_node levels most end text inner opens none tree behind within whole = none tree (end ∷ behind) within (sym opens ∙ whole)

-- the byte behind the node is another one
pub tree_without_end : (levels most end : ℕ) (text inner after : List ℕ) (node : EventTree) → most ≤ greatest_sum → maximum node ≤ most → 40 ∷ inner ≡ tree_text node ++ after → text ≡ 40 ∷ inner → ((behind : List ℕ) → after ≢ end ∷ behind) →
    NoTree levels most end text
tree_without_end levels most end text inner after node fits small read opens lacks tree behind within whole =
    lacks behind (nodes_once node tree inner after (end ∷ behind) (omega (arith, small, fits)) (omega (arith, within.small, fits)) read (sym opens ∙ whole)).1

-- neither a number nor a node is there
pub tree_without_number : (levels most end : ℕ) (text unopened : List ℕ) → (unopened ≡ text) × ((behind : List ℕ) → text ≢ 40 ∷ behind) → NoNumber most end unopened → NoTree levels most end text
tree_without_number levels most end text unopened other none (Leaf n) behind within whole = none n behind within.small (other.0 ∙ whole)
tree_without_number levels most end text unopened other none (Node n left right) behind within whole = other.1 _ whole

-- what is not there is refused, whatever was told
pub refused_anyway : {T No : Type 0} (result : Result T Unread) → No → IfErr result (λ unread. unread ≡ Refused → No)
refused_anyway (Ok found) none = tt
refused_anyway (Err unread) none = λ is. none

-- no number begins with what is no digit
pub number_without_digit : (n : ℕ) (text behind : List ℕ) → n < 2 ^ 64 → EndsDigits text → text ≢ decimal n ++ behind
number_without_digit n text behind small ends = begins_digits (decimal n) (number_decimal n small)
  where
    begins_digits : (digits : List ℕ) → IsWrittenNumber digits → text ≢ digits ++ behind
    begins_digits [] number whole = number
    begins_digits (d ∷ digits) number whole = let are = AreDigits-number (d ∷ digits) number in (subst EndsDigits whole ends) (are.0, are.1)

-- only 0 begins with a 0
pub number_not_zero : (n first : ℕ) (text after behind : List ℕ) → 0 < n → n < 2 ^ 64 → text ≡ first ∷ after → first ≡ 48 → text ≢ decimal n ++ behind
number_not_zero n first text after behind some small begins zero whole = begins_more (decimal n) (first_decimal n some small) (sym begins ∙ whole)
  where
    begins_more : (digits : List ℕ) → 48 < get_or digits 0 0 → first ∷ after ≢ digits ++ behind
    begins_more [] more same = omega (arith, more)
    begins_more (d ∷ digits) more same = omega (arith, more, zero, (heads first d _ _ same).0)

-- digits that are read on say no less
read_more : (m : ℕ) (digits : List ℕ) → m ≤ read_on m digits
read_more m [] = omega arith
read_more m (d ∷ digits) = let more = read_more (m * 10 + (d - 48)) digits in omega (arith, more)

-- and ten times as much where one digit more comes
read_ten : (m digit : ℕ) (digits others after rest : List ℕ) → AreDigits digits → (48 ≤ digit) × (digit ≤ 57) → EndsDigits rest → digits ++ (digit ∷ after) ≡ others ++ rest → read_on m digits * 10 ≤ read_on m others
read_ten m digit [] [] after rest are is ends same = absurd ((subst EndsDigits (sym same) ends) is)
read_ten m digit [] (e ∷ others) after rest are is ends same = let more = read_more (m * 10 + (e - 48)) others in omega (arith, more)
read_ten m digit (d ∷ digits) [] after rest are is ends same = absurd ((subst EndsDigits (sym same) ends) (are.0, are.1))
read_ten m digit (d ∷ digits) (e ∷ others) after rest are is ends same =
    let h = heads d e _ _ same in
    rw h.0 (read_ten (m * 10 + (e - 48)) digit digits others after rest are.2 is ends h.1)

-- a number that goes on behind more than a tenth of the bound is above the bound
pub number_too_long : (most number n digit end : ℕ) (text behind after rest : List ℕ) → most ≤ greatest_sum → text ≡ decimal number ++ behind → behind ≡ digit ∷ after → number ≤ most + 9 → (48 ≤ digit) × (digit ≤ 57) → most / 10 < number →
    is_digit_byte end ≡ false → n ≤ most → text ≢ decimal n ++ (end ∷ rest)
number_too_long most number n digit end text behind after rest fits begins goes_on small is_digit above ends low whole =
    let number_small : number < 2 ^ 64 = omega (arith, small, fits) in
    let n_small : n < 2 ^ 64 = omega (arith, low, fits) in
    let more = read_ten 0 digit (decimal number) (decimal n) after (end ∷ rest) (AreDigits-number (decimal number) (number_decimal number number_small)) is_digit (stops end rest ends)
    (sym (begins ∙ ap (λ t. decimal number ++ t) goes_on) ∙ whole) in
    omega (arith, more, digits_value-decimal own number number_small, digits_value-decimal own n n_small, above, low)

-- the byte behind the number is another one
pub number_without_end : (most number n end : ℕ) (text behind rest : List ℕ) → most ≤ greatest_sum → text ≡ decimal number ++ behind → number ≤ most + 9 → EndsDigits behind → ((rest : List ℕ) → behind ≢ end ∷ rest) → is_digit_byte end ≡ false → n ≤ most →
    text ≢ decimal n ++ (end ∷ rest)
number_without_end most number n end text behind rest fits begins small no_digit lacks ends low whole =
    lacks rest (number_once number n behind (end ∷ rest) (omega (arith, small, fits)) (omega (arith, low, fits)) no_digit (stops end rest ends) (sym begins ∙ whole)).1

-- the number that is there is above the bound
pub number_above : (most number n end : ℕ) (text after rest : List ℕ) → most ≤ greatest_sum → text ≡ decimal number ++ (end ∷ after) → number < 2 ^ 64 → most < number → is_digit_byte end ≡ false → n ≤ most → text ≢ decimal n ++ (end ∷ rest)
number_above most number n end text after rest fits begins small above ends low whole =
    omega (arith, (number_once number n (end ∷ after) (end ∷ rest) small (omega (arith, low, fits)) (stops end after ends) (stops end rest ends) (sym begins ∙ whole)).0, above, low)

-- neither one digit is there nor a number of more
pub no_number : (most end : ℕ) (text : List ℕ) → ((digit : ℕ) (behind : List ℕ) → 48 ≤ digit → digit ≤ 57 → text ≢ digit ∷ (end ∷ behind)) → ((n : ℕ) (behind : List ℕ) → 10 ≤ n → n ≤ most → text ≢ decimal n ++ (end ∷ behind)) → NoNumber most end text
no_number most end text no_digit no_more n behind low whole =
    elim (cases_lt n 10) [
      | inl one ↦ no_digit (48 + n) behind (omega arith) (omega (arith, one)) (whole ∙ ap (λ t. t ++ (end ∷ behind)) (decimal_digit n one))
      | inr more ↦ no_more n behind more low whole
    ]

-- a stamp behind its bracket
stamp_inside : (text inner : List ℕ) (stamp : Stamp) → text ≡ 91 ∷ inner → text ≡ stamp_as_text stamp → inner ≡ id_text stamp.id ++ (59 ∷ (tree_text stamp.tree ++ (93 ∷ [])))
stamp_inside text inner stamp opens whole = (heads 91 91 _ _ (sym opens ∙ whole)).1

-- the bracket is not there
pub nothing_opens : (text : List ℕ) → ((behind : List ℕ) → text ≢ 91 ∷ behind) → SpellsNothing text
nothing_opens text lacks stamp bounded whole = lacks _ whole

-- the parentheses are nested too deep
pub nothing_so_deep : (text : List ℕ) → ((id : Id) (tree : Written) → SpellsStamp text id tree → most_nested < nesting_of id tree) → SpellsNothing text
nothing_so_deep text deep stamp bounded whole =
    let spells = (spells_again text stamp bounded whole).within.spells in
    let same = ap (λ tree. height tree) (tree_of-written stamp.tree (omega (arith, bounded.sums))) in
    omega (arith, deep stamp.id (as_written stamp.tree) spells, bounded.id_nesting, bounded.tree_nesting, same)

-- the id is not there
pub nothing_without_id : (text inner : List ℕ) → text ≡ 91 ∷ inner → NoId most_nested 59 inner → SpellsNothing text
nothing_without_id text inner opens none stamp bounded whole =
    none stamp.id (tree_text stamp.tree ++ (93 ∷ [])) (record { normal = bounded.id_normal; low = bounded.id_nesting }) (stamp_inside text inner stamp opens whole)

-- the tree is not there
pub nothing_without_tree : (text inner after : List ℕ) (id : Id) → text ≡ 91 ∷ inner → inner ≡ (id_text id ++ 59 ∷ []) ++ after → NoTree most_nested greatest_sum 93 after → SpellsNothing text
nothing_without_tree text inner after id opens begins none stamp bounded whole =
    let once = id_once id stamp.id (59 ∷ after) (59 ∷ (tree_text stamp.tree ++ (93 ∷ []))) (sym (begins ∙ append_assoc (id_text id) (59 ∷ []) after) ∙ stamp_inside text inner stamp opens whole) in
    none stamp.tree [] (record { normal = bounded.tree_normal; low = bounded.tree_nesting; small = bounded.sums }) (heads 59 59 _ _ once.1).1

-- more stands behind the stamp
pub nothing_with_more : (text inner after rest : List ℕ) (id : Id) (tree : EventTree) → text ≡ 91 ∷ inner → inner ≡ (id_text id ++ 59 ∷ []) ++ after → after ≡ (tree_text tree ++ 93 ∷ []) ++ rest → maximum tree ≤ greatest_sum → rest ≢ [] → SpellsNothing text
nothing_with_more text inner after rest id tree opens begins follows small more stamp bounded whole =
    let once = id_once id stamp.id (59 ∷ after) (59 ∷ (tree_text stamp.tree ++ (93 ∷ []))) (sym (begins ∙ append_assoc (id_text id) (59 ∷ []) after) ∙ stamp_inside text inner stamp opens whole) in
    let twice = trees_once tree stamp.tree (93 ∷ rest) (93 ∷ []) (omega (arith, small)) (omega (arith, bounded.sums)) bracket_ends bracket_ends (sym (follows ∙ append_assoc (tree_text tree) (93 ∷ []) rest) ∙ (heads 59 59 _ _ once.1).1) in
    more (heads 93 93 rest [] twice.1).1

-- a number that is taken is the one that is written
pub number_read : (most number end : ℕ) (text digits found behind : List ℕ) → most ≤ greatest_sum → number ≤ most → is_digit_byte end ≡ false → text ≡ (decimal number ++ end ∷ []) ++ found → IsWrittenNumber digits → text ≡ digits ++ (end ∷ behind) →
    (number ≡ number_written digits) × (found ≡ behind)
number_read most number end text digits found behind fits low ends read written whole =
    let small : number < 2 ^ 64 = omega (arith, low, fits) in
    let once = numbers_once (decimal number) digits (end ∷ found) (end ∷ behind) (number_decimal number small) written (stops end found ends) (stops end behind ends) (sym (read ∙ append_assoc (decimal number) (end ∷ []) found) ∙ whole) in
    (sym (digits_value-decimal own number small) ∙ ap (λ digits. number_written digits) once.0, (heads end end found behind once.1).1)

-- a number that is refused is above the bound
pub number_refused : (most end : ℕ) (text digits behind : List ℕ) → most ≤ greatest_sum → NoNumber most end text → IsWrittenNumber digits → text ≡ digits ++ (end ∷ behind) → most < number_written digits
number_refused most end text digits behind fits none written whole =
    elim (cases_lt most (number_written digits)) [
      | inl above ↦ above
      | inr low ↦ absurd (none (number_written digits) behind low (whole ∙ ap (λ t. t ++ (end ∷ behind)) (sym (decimal-number digits written (omega (arith, low, fits))))))
    ]
