-- Looking over a tree.
use Rattle.std.proofs.Common.{◌≡◌, ◌≢◌, ◌↔◌, inl, inr, ℕ, ◌+◌, ◌-◌, ◌≤◌, min, Bool, true, false, Option, Result, Ok, Err, List, [], ◌∷◌, ◌++◌, length, drop, get_or, refl, sym, ap, subst, ◌∙◌, arith, length-append}
use Rattle.std.specs.Prelude.{IsTrue}
use Rattle.trace_types.specs.clock.EventTree.{EventTree, Leaf}
use Rattle.stamp_codec.specs.StampText.{Written, Number, Fork, IsWrittenNumber, written_text, number_written, written_tree}
use Rattle.stamp_codec.specs.Faults.{most_nested, greatest_sum, IsLeast, IsTreeTooLargeAt, IsTreeNotNormalAt}
use Rattle.stamp_codec.specs.Children.{IsChild, IsUnevenOver}
use Rattle.stamp_codec.specs.Looks.{BeginsTree, ReadsNumber, IsFirstWith, Looks, IsTreeSeen}
use Rattle.stamp_codec.specs.declared.child.Child.{Child}
use Rattle.stamp_codec.proofs.Firsts.{first_node, first_told, first_none, least_early, least_late}
use Rattle.stamp_codec.proofs.Parts.{first_child, second_child, ForTree, IsFork, for_forks, for_numbers}

-- places where a tree is too large are in its text
pub large_in : (start nested sum : ℕ) (tree : Written) (place : ℕ) → IsTreeTooLargeAt start nested sum tree place → (start ≤ place) × (place ≤ start + length (written_text tree))
large_in start nested sum (Number digits) place is = (omega (arith, is.1), omega (arith, is.1))
large_in start nested sum (Fork digits left right) place (inl own) = (omega (arith, own.1), omega (arith, own.1))
large_in start nested sum (Fork digits left right) place (inr (inl head)) = (omega (arith, head.1), omega (arith, head.1, length-append digits (44 ∷ (written_text left ++ (44 ∷ (written_text right ++ (41 ∷ [])))))))
large_in start nested sum (Fork digits left right) place (inr (inr (inl l))) =
    let i = large_in (first_child start digits) (nested + 1) (sum + number_written digits) left place l in
    let rest : List ℕ = 44 ∷ (written_text right ++ (41 ∷ [])) in
    (omega (arith, i.0), omega (arith, i.1, length-append digits (44 ∷ (written_text left ++ rest)), length-append (written_text left) rest))
large_in start nested sum (Fork digits left right) place (inr (inr (inr r))) =
    let i = large_in (second_child start digits left) (nested + 1) (sum + number_written digits) right place r in
    let rest : List ℕ = 44 ∷ (written_text right ++ (41 ∷ [])) in
    (omega (arith, i.0), omega (arith, i.1, length-append digits (44 ∷ (written_text left ++ rest)), length-append (written_text left) rest, length-append (written_text right) (41 ∷ [])))

-- what looking over a tree and the byte behind it gives
abbrev pub LooksTree : List ℕ → ℕ → List ℕ → ℕ → ℕ → ℕ → Child → Option ℕ → Option ℕ → Type 0
LooksTree text end found start nested sum seen known first = ForTree text end (λ tree rest. Looks (Ok seen) (IsTreeSeen tree) (IsTreeTooLargeAt start nested sum tree) (IsTreeNotNormalAt start tree) known first found rest)

abbrev pub EndsTree : List ℕ → ℕ → ℕ → ℕ → ℕ → ℕ → Type 0
EndsTree text end start nested sum place = ForTree text end (λ tree rest. IsLeast (IsTreeTooLargeAt start nested sum tree) place)

-- what is read of the number at the front
abbrev pub NumberRead : List ℕ → ℕ → Result ℕ ℕ → ℕ → ℕ → List ℕ → Type 0
NumberRead text end result most start found = (digits behind : List ℕ) → IsWrittenNumber digits → text ≡ digits ++ (end ∷ behind) → ReadsNumber result most digits start found behind

-- a number alone that is too great
pub large_number : (text found : List ℕ) (end start nested sum place : ℕ) → get_or text 0 0 ≢ 40 → sum ≤ greatest_sum → NumberRead text end (Err place) (greatest_sum - sum) start found → EndsTree text end start nested sum place
large_number text found end start nested sum place other within reads =
    for_numbers text end _ other (λ digits rest begins.
    let n = reads digits rest begins.numbers begins.whole in
    record { here = (omega (arith, n.0, within), n.1); least = λ other is. omega (arith, is.1, n.1) })

-- a number alone
pub looks_number : (text found : List ℕ) (end start nested sum number : ℕ) (seen : Child) (known first : Option ℕ) → get_or text 0 0 ≢ 40 → sum ≤ greatest_sum → NumberRead text end (Ok number) (greatest_sum - sum) start found → number ≤ greatest_sum - sum → first ≡ known →
    IsChild seen (Leaf number) → LooksTree text end found start nested sum seen known first
looks_number text found end start nested sum number seen known first other within reads below same child =
    for_numbers text end _ other (λ digits rest begins.
    let n = reads digits rest begins.numbers begins.whole in
    (n.1, (λ place large. omega (arith, large.0, n.0, below, within)), rw same (first_none _ known (λ place uneven. uneven)), subst (λ n. IsChild seen (Leaf n)) n.0 child))

-- the parenthesis at the front is too deep
pub large_here : (text : List ℕ) (end start nested sum : ℕ) → get_or text 0 0 ≡ 40 → nested ≡ most_nested → EndsTree text end start nested sum start
large_here text end start nested sum opens most =
    for_forks text end _ opens (λ digits left right rest fork. record { here = inl (most, refl); least = λ place is. (large_in start nested sum (Fork digits left right) place is).0 })

-- the number of the node is too great
pub large_head : (text inner found : List ℕ) (end start inner_start nested sum place : ℕ) → get_or text 0 0 ≡ 40 → nested ≢ most_nested → sum ≤ greatest_sum → inner ≡ drop 1 text → inner_start + length inner ≡ start + length text →
    NumberRead inner 44 (Err place) (greatest_sum - sum) inner_start found → EndsTree text end start nested sum place
large_head text inner found end start inner_start nested sum place opens room within inner_is inner_end reads =
    for_forks text end _ opens (λ digits left right rest fork.
    let is = inner_is ∙ ap (λ t. drop 1 t) fork.whole in
    let h = reads digits _ fork.numbers.0 is in
    let at : place ≡ start + 1 = omega (arith, h.1, inner_end, ap (λ t. length t) is, ap (λ t. length t) fork.whole) in
    record {
      here = inr (inl (omega (arith, h.0, within), at));
      least = λ p large. elim large [
        | inl own ↦ absurd (room own.0)
        | inr (inl head) ↦ omega (arith, head.1, at)
        | inr (inr (inl l)) ↦ omega (arith, at, (large_in (first_child start digits) (nested + 1) (sum + number_written digits) left p l).0)
        | inr (inr (inr r)) ↦ omega (arith, at, (large_in (second_child start digits left) (nested + 1) (sum + number_written digits) right p r).0)
      ];
    })

-- what is known where the children are looked over
pub record InFork (text inner first : List ℕ) (start inner_start first_start nested sum number : ℕ) : Type 0 where
  pub opens : get_or text 0 0 ≡ 40
  pub room : nested ≢ most_nested
  pub within : sum + number ≤ greatest_sum
  pub inner_is : inner ≡ drop 1 text
  pub reads : NumberRead inner 44 (Ok number) (greatest_sum - sum) inner_start first
  pub end : first_start + length first ≡ start + length text

-- the left child stands behind the number
pub record AtLeft (first : List ℕ) (start first_start number : ℕ) (digits : List ℕ) (left right : Written) (rest : List ℕ) : Type 0 where
  pub value : number ≡ number_written digits
  pub begins : BeginsTree first left 44 (written_text right ++ (41 ∷ rest))
  pub at : first_start ≡ first_child start digits

at_left : (text inner first : List ℕ) (start inner_start first_start nested sum number : ℕ) (digits : List ℕ) (left right : Written) (rest : List ℕ) → InFork text inner first start inner_start first_start nested sum number → IsFork text digits left right rest →
    AtLeft first start first_start number digits left right rest
at_left text inner first start inner_start first_start nested sum number digits left right rest known fork =
    let after : List ℕ = written_text left ++ (44 ∷ (written_text right ++ (41 ∷ rest))) in
    let h = known.reads digits after fork.numbers.0 (known.inner_is ∙ ap (λ t. drop 1 t) fork.whole) in
    record {
      value = h.0;
      begins = record { numbers = fork.numbers.1; whole = h.1 };
      at = omega (arith, known.end, ap (λ t. length t) h.1, ap (λ t. length t) fork.whole, length-append digits (44 ∷ after));
    }

-- the right child stands behind the left one
at_right : (first found : List ℕ) (start first_start second_start : ℕ) (digits : List ℕ) (left right : Written) (rest : List ℕ) → first ≡ written_text left ++ (44 ∷ (written_text right ++ (41 ∷ rest))) → found ≡ written_text right ++ (41 ∷ rest) →
    first_start ≡ first_child start digits → second_start + length found ≡ first_start + length first → second_start ≡ second_child start digits left
at_right first found start first_start second_start digits left right rest begins found_is at end =
    omega (arith, end, at, ap (λ t. length t) begins, ap (λ t. length t) found_is, length-append (written_text left) (44 ∷ (written_text right ++ (41 ∷ rest))))

-- the first place is in the left child
pub ends_left : (text inner first : List ℕ) (end start inner_start first_start nested sum number fault : ℕ) → InFork text inner first start inner_start first_start nested sum number →
    EndsTree first 44 first_start (nested + 1) (sum + number) fault → EndsTree text end start nested sum fault
ends_left text inner first end start inner_start first_start nested sum number fault known in_left =
    for_forks text end _ known.opens (λ digits left right rest fork.
    let l = at_left text inner first start inner_start first_start nested sum number digits left right (end ∷ rest) known fork in
    least_late fault _ _ (λ place own. known.room own.0)
    (least_late fault _ _ (λ place head. omega (arith, head.0, l.value, known.within))
    (least_early fault _ _ (λ place other is later. omega (
      arith,
      (large_in (first_child start digits) (nested + 1) (sum + number_written digits) left place is).1,
      (large_in (second_child start digits left) (nested + 1) (sum + number_written digits) right other later).0,
    )) (rw (l.at, l.value) at (in_left left _ l.begins)))))

-- the first place is in the right child
pub ends_right : (text inner first found : List ℕ) (end start inner_start first_start second_start nested sum number fault : ℕ) (seen : Child) (u0 u1 : Option ℕ) →
    InFork text inner first start inner_start first_start nested sum number → LooksTree first 44 found first_start (nested + 1) (sum + number) seen u0 u1 → second_start + length found ≡ first_start + length first →
    EndsTree found 41 second_start (nested + 1) (sum + number) fault → EndsTree text end start nested sum fault
ends_right text inner first found end start inner_start first_start second_start nested sum number fault seen u0 u1 known in_left second_end in_right =
    for_forks text end _ known.opens (λ digits left right rest fork.
    let l = at_left text inner first start inner_start first_start nested sum number digits left right (end ∷ rest) known fork in
    let one = rw (l.at, l.value) at (in_left left _ l.begins) in
    let r = at_right first found start first_start second_start digits left right (end ∷ rest) l.begins.whole one.0 l.at second_end in
    least_late fault _ _ (λ place own. known.room own.0)
    (least_late fault _ _ (λ place head. omega (arith, head.0, l.value, known.within))
    (least_late fault _ _ one.1 (rw (r, l.value) at (in_right right _ (record { numbers = fork.numbers.2; whole = one.0 }))))))

-- looking over a whole node
pub looks_fork : (text inner first found last behind : List ℕ) (end start inner_start first_start second_start nested sum number : ℕ) (left_seen right_seen seen : Child) (u0 v0 u1 u2 v2 u3 : Option ℕ) (test : Bool) →
    InFork text inner first start inner_start first_start nested sum number → v0 ≡ u0 → v2 ≡ u2 → LooksTree first 44 found first_start (nested + 1) (sum + number) left_seen v0 u1 → second_start + length found ≡ first_start + length first →
    LooksTree found 41 last second_start (nested + 1) (sum + number) right_seen u1 u2 → behind ≡ drop 1 last →
    ((one other : EventTree) → IsChild left_seen one → IsChild right_seen other → IsTrue test ↔ IsUnevenOver one other) →
    IsFirstWith v2 (λ place. IsTrue test × (place ≡ start)) u3 → seen.least ≡ number + min left_seen.least right_seen.least → seen.is_number ≡ false → LooksTree text end behind start nested sum seen u0 u3
looks_fork text inner first found last behind end start inner_start first_start second_start nested sum number left_seen right_seen seen u0 v0 u1 u2 v2 u3 test known v0_is v2_is in_left second_end in_right behind_is tells noted least_is node =
    for_forks text end _ known.opens (λ digits left right rest fork.
    let l = at_left text inner first start inner_start first_start nested sum number digits left right (end ∷ rest) known fork in
    let one = rw (l.at, l.value, v0_is) at (in_left left _ l.begins) in
    let r = at_right first found start first_start second_start digits left right (end ∷ rest) l.begins.whole one.0 l.at second_end in
    let other = rw (r, l.value) at (in_right right _ (record { numbers = fork.numbers.2; whole = one.0 })) in
    let told = tells (written_tree left) (written_tree right) one.3 other.3 in
    let own : IsFirstWith u2 (λ place. IsUnevenOver (written_tree left) (written_tree right) × (place ≡ start)) u3 =
    first_told _ _ u2 u3 (λ place (is, at). (told.0 is, at)) (λ place (is, at). (told.1 is, at)) (rw v2_is at noted) in (
      behind_is ∙ ap (λ t. drop 1 t) other.0,
      (λ place is. elim is [ inl own ↦ known.room own.0 | inr (inl head) ↦ omega (arith, head.0, l.value, known.within) | inr (inr (inl l)) ↦ one.1 place l | inr (inr (inr r)) ↦ other.1 place r ]),
      first_node _ _ _ u0 u1 u2 u3 one.2 other.2 own,
      record { least = omega (arith, least_is, one.3.least, other.3.least, l.value); number = ((λ is. let clash : false ≡ true = sym node ∙ is in cc), (λ leaf. absurd leaf)) },
    ))
