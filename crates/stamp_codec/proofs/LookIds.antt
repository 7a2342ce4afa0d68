-- Looking over an id.
use Rattle.std.proofs.Common.{◌≡◌, ◌≢◌, ◌↔◌, inl, inr, ℕ, ◌+◌, ◌≤◌, Bool, Option, Ok, List, [], ◌∷◌, ◌++◌, length, drop, get_or, refl, ap, ◌∙◌, arith, length-append}
use Rattle.std.specs.Prelude.{IsTrue}
use Rattle.trace_types.specs.clock.Id.{Id, Zero, One, Pair, AreApart}
use Rattle.stamp_codec.specs.StampText.{id_text}
use Rattle.stamp_codec.specs.Faults.{most_nested, IsLeast, IsIdTooDeepAt, IsIdNotNormalAt}
use Rattle.stamp_codec.specs.Looks.{IsFirstWith, Looks, IsAny}
use Rattle.stamp_codec.proofs.Firsts.{first_node, first_told, first_none, least_early, least_late}
use Rattle.stamp_codec.proofs.Parts.{second_id, ForId, for_pairs, at_second}

-- places where an id is nested too deep are in its text
pub deep_in : (start nested : ℕ) (id : Id) (place : ℕ) → IsIdTooDeepAt start nested id place → (start ≤ place) × (place ≤ start + length (id_text id))
deep_in start nested Zero place is = absurd is
deep_in start nested One place is = absurd is
deep_in start nested (Pair left right) place (inl own) = (omega (arith, own.1), omega (arith, own.1))
deep_in start nested (Pair left right) place (inr (inl l)) =
    let i = deep_in (start + 1) (nested + 1) left place l in
    (omega (arith, i.0), omega (arith, i.1, length-append (id_text left) (44 ∷ (id_text right ++ (41 ∷ [])))))
deep_in start nested (Pair left right) place (inr (inr r)) =
    let i = deep_in (second_id start left) (nested + 1) right place r in
    (omega (arith, i.0), omega (arith, i.1, length-append (id_text left) (44 ∷ (id_text right ++ (41 ∷ []))), length-append (id_text right) (41 ∷ [])))

-- what looking over an id gives
abbrev pub LooksId : List ℕ → List ℕ → ℕ → ℕ → Option ℕ → Option ℕ → Type 0
LooksId text found start nested known first = ForId text (λ id rest. Looks {X = Unit {0}} (Ok tt) IsAny (IsIdTooDeepAt start nested id) (IsIdNotNormalAt start id) known first found rest)

abbrev pub EndsId : List ℕ → ℕ → ℕ → ℕ → Type 0
EndsId text start nested place = ForId text (λ id rest. IsLeast (IsIdTooDeepAt start nested id) place)

-- an id of one byte
pub looks_leaf : (text found : List ℕ) (start nested : ℕ) (known first : Option ℕ) → get_or text 0 0 ≢ 40 → found ≡ drop 1 text → first ≡ known → LooksId text found start nested known first
looks_leaf text found start nested known first leaf found_is same Zero rest whole =
    (found_is ∙ ap (λ t. drop 1 t) whole, (λ place large. large), rw same (first_none (IsIdNotNormalAt start Zero) known (λ place uneven. uneven)), tt)
looks_leaf text found start nested known first leaf found_is same One rest whole =
    (found_is ∙ ap (λ t. drop 1 t) whole, (λ place large. large), rw same (first_none (IsIdNotNormalAt start One) known (λ place uneven. uneven)), tt)
looks_leaf text found start nested known first leaf found_is same (Pair left right) rest whole = absurd (leaf (ap (λ t. get_or t 0 0) whole))

-- the parenthesis at the front is too deep
pub deep_here : (text : List ℕ) (start nested : ℕ) → get_or text 0 0 ≢ 48 → get_or text 0 0 ≢ 49 → nested ≡ most_nested → EndsId text start nested start
deep_here text start nested not_zero not_one most =
    for_pairs text _ not_zero not_one (λ left right rest whole. record { here = inl (most, refl); least = λ place is. (deep_in start nested (Pair left right) place is).0 })

-- what is known where the halves are looked over
pub record InPair (text inner : List ℕ) (start inner_start nested : ℕ) : Type 0 where
  pub not_zero : get_or text 0 0 ≢ 48
  pub not_one : get_or text 0 0 ≢ 49
  pub room : nested ≢ most_nested
  pub inner_is : inner ≡ drop 1 text
  pub end : inner_start + length inner ≡ start + length text

-- the left half stands behind the parenthesis
at_left : (text inner behind : List ℕ) (start inner_start nested : ℕ) → InPair text inner start inner_start nested → text ≡ 40 ∷ behind → (inner ≡ behind) × (inner_start ≡ start + 1)
at_left text inner behind start inner_start nested known whole =
    let is = known.inner_is ∙ ap (λ t. drop 1 t) whole in
    (is, omega (arith, known.end, ap (λ t. length t) is, ap (λ t. length t) whole))

-- the first place is in the left half
pub ends_left : (text inner : List ℕ) (start inner_start nested fault : ℕ) → InPair text inner start inner_start nested → EndsId inner inner_start (nested + 1) fault → EndsId text start nested fault
ends_left text inner start inner_start nested fault known in_left =
    for_pairs text _ known.not_zero known.not_one (λ left right rest whole.
    let l = at_left text inner _ start inner_start nested known whole in
    least_late fault _ _ (λ place own. known.room own.0)
    (least_early fault _ _ (λ place other is later. omega (arith, (deep_in (start + 1) (nested + 1) left place is).1, (deep_in (second_id start left) (nested + 1) right other later).0)) (rw l.1 at (in_left left _ l.0))))

-- the first place is in the right half
pub ends_right : (text inner found second : List ℕ) (start inner_start second_start nested fault : ℕ) (u0 u1 : Option ℕ) → InPair text inner start inner_start nested →
    LooksId inner found inner_start (nested + 1) u0 u1 → second ≡ drop 1 found → second_start + length second ≡ inner_start + length inner → EndsId second second_start (nested + 1) fault → EndsId text start nested fault
ends_right text inner found second start inner_start second_start nested fault u0 u1 known in_left second_is second_end in_right =
    for_pairs text _ known.not_zero known.not_one (λ left right rest whole.
    let l = at_left text inner _ start inner_start nested known whole in
    let one = rw l.1 at (in_left left _ l.0) in
    let r = at_second inner found second _ _ rest (start + 1) inner_start second_start l.0 l.1 one.0 second_is second_end in
    least_late fault _ _ (λ place own. known.room own.0) (least_late fault _ _ one.1 (rw r.1 at (in_right right _ r.0))))

-- whether two halves are the same leaf is told by their first bytes
same_leaf : (left right : Id) (x y : List ℕ) → let a = get_or (id_text left ++ x) 0 0 in let b = get_or (id_text right ++ y) 0 0 in
    ((a ≡ b) × (a ≢ 40) → ¬ AreApart left right) × (¬ AreApart left right → (a ≡ b) × (a ≢ 40))
same_leaf Zero Zero x y = ((λ same apart. apart), (λ is. (refl, omega arith)))
same_leaf One One x y = ((λ same apart. apart), (λ is. (refl, omega arith)))
same_leaf Zero One x y = ((λ same. absurd (omega (arith, same.0))), (λ is. absurd (is tt)))
same_leaf One Zero x y = ((λ same. absurd (omega (arith, same.0))), (λ is. absurd (is tt)))
same_leaf Zero (Pair l r) x y = ((λ same. absurd (omega (arith, same.0))), (λ is. absurd (is tt)))
same_leaf One (Pair l r) x y = ((λ same. absurd (omega (arith, same.0))), (λ is. absurd (is tt)))
same_leaf (Pair l r) right x y = ((λ same. absurd (same.1 refl)), (λ is. absurd (is tt)))

-- looking over a whole pair
pub looks_pair : (text inner found second end behind : List ℕ) (start inner_start second_start nested left_byte right_byte : ℕ) (u0 v0 u1 v1 u2 v2 u3 : Option ℕ) (test : Bool) →
    InPair text inner start inner_start nested → v0 ≡ u0 → v1 ≡ u1 → v2 ≡ u2 → LooksId inner found inner_start (nested + 1) v0 u1 → second ≡ drop 1 found →
    second_start + length second ≡ inner_start + length inner → LooksId second end second_start (nested + 1) v1 u2 → behind ≡ drop 1 end → left_byte ≡ get_or inner 0 0 → right_byte ≡ get_or second 0 0 →
    (IsTrue test ↔ ((left_byte ≡ right_byte) × (left_byte ≢ 40))) → IsFirstWith v2 (λ place. IsTrue test × (place ≡ start)) u3 → LooksId text behind start nested u0 u3
looks_pair text inner found second end behind start inner_start second_start nested left_byte right_byte u0 v0 u1 v1 u2 v2 u3 test known v0_is v1_is v2_is in_left second_is second_end in_right behind_is left_is right_is tells noted =
    for_pairs text _ known.not_zero known.not_one (λ left right rest whole.
    let l = at_left text inner _ start inner_start nested known whole in
    let one = rw (l.1, v0_is) at (in_left left _ l.0) in
    let r = at_second inner found second _ _ rest (start + 1) inner_start second_start l.0 l.1 one.0 second_is second_end in
    let other = rw (r.1, v1_is) at (in_right right _ r.0) in
    let same = same_leaf left right (44 ∷ (id_text right ++ (41 ∷ rest))) (41 ∷ rest) in
    let told = rw (left_is, right_is, l.0, r.0) at tells in
    let own : IsFirstWith u2 (λ place. (¬ AreApart left right) × (place ≡ start)) u3 =
    first_told _ _ u2 u3 (λ place (is, at). (same.0 (told.0 is), at)) (λ place (is, at). (told.1 (same.1 is), at)) (rw v2_is at noted) in (
      behind_is ∙ ap (λ t. drop 1 t) other.0,
      (λ place is. elim is [ inl own ↦ known.room own.0 | inr (inl l) ↦ one.1 place l | inr (inr r) ↦ other.1 place r ]),
      first_node _ _ _ u0 u1 u2 u3 one.2 other.2 own,
      tt,
    ))
