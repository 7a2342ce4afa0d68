-- Each step of a shelf keeps its rule.
use Rattle.std.proofs.Common.{◌≡◌, ℕ, ◌<◌, List, [], ◌∷◌, get_or, sym, refl, ◌∙◌, subst, ap, arith, Option, Some, None, length-set, get_or-set_same}
use mathlib.Core.Logic.{dite}
use mathlib.Core.Option.{some}
use native.Mathlib.Decide.{ℕ_discrete}
use Rattle.atomic_table.proofs.Lists.{set_here}
use Rattle.atomic_table.specs.Table.{Allows, Arrives, Me, gives, keeps, opening, rest, takes}
use Rattle.trace_session.specs.Belonging.{RestOf}
use Rattle.trace_session.specs.Hubs.{Owner}
use Rattle.trace_session.specs.Resting.{Rests}
use Rattle.trace_session.specs.Shelves.{HasEmpty, HasTaken, KeepsFor, Takes}

-- What rests of a tenant was put on a new shelf.
pub begins : (owner : Owner) (rests : Rests) → RestOf owner rests → KeepsFor owner (opening (0 ∷ []) (Some rests ∷ []) owner)
begins owner rests belongs = (refl, λ there. (rests, refl, belongs))

-- A seat that finds 0 takes what rests, and another one takes nothing. The word is not 0 then.
pub taken : (owner : Owner) (slots word : ℕ) → 0 < word → Arrives (KeepsFor owner) slots 0 (λ found. word) (Takes owner)
taken owner slots word nonzero state kept sized bounded =
    let becomes_it = get_or-set_same state.words 0 word 0 (omega (arith, kept.0)) in
    let still_one = length-set state.words 0 word ∙ kept.0 in
    dite (ℕ_discrete (get_or state.words 0 0) 0)
    (λ there. let lies = kept.1 there in (owner, takes 0 (Some lies.0), lies.1, (still_one, λ is_0. absurd (omega (arith, becomes_it, is_0, nonzero))), (λ found. (lies.0, refl, lies.2), λ other. absurd (other there))))
    (λ gone. (owner, keeps, tt, (still_one, λ is_0. absurd (omega (arith, becomes_it, is_0, nonzero))), (λ found. absurd (gone found), λ other. refl)))

-- what a seat knows and has
abbrev knowing : Owner → List (ℕ × Option Rests) → Me (Option Rests) Owner
knowing view slots = (view, slots)

-- The seat that has the slot puts down what belongs to the tenant, and has no slot then.
pub put_down : (owner view : Owner) (number : ℕ) (before me : Me (Option Rests) Owner) (rests : Rests) → HasEmpty before → me ≡ (view, (0, Some rests) ∷ rest before.1) → RestOf owner rests
    → Allows (KeepsFor owner) 1 number me 0 (λ found. 0) (λ found after. after.1 ≡ [])
put_down owner view number before me rests empty has belongs =
    let now : me ≡ knowing view ((0, Some rests) ∷ []) = has ∙ ap (λ (slots : List (ℕ × Option Rests)). knowing view ((0, Some rests) ∷ rest slots)) empty in
    subst (λ (one : Me (Option Rests) Owner). Allows (KeepsFor owner) 1 number one 0 (λ found. 0) (λ found after. after.1 ≡ [])) (sym now)
    (λ state kept sized known bounded. (view, gives, tt, (length-set state.words 0 0 ∙ kept.0, λ there. (rests, set_here state.homes 0 (some (Some rests)) (omega (arith, sized)), belongs)), refl))

-- what the slot that was taken last has
abbrev content_of : List (ℕ × Option Rests) → Option Rests
content_of [] = None
content_of (slot ∷ others) = slot.1

-- The slot that the seat has.
pub has_slot : (me : Me (Option Rests) Owner) (content : Option Rests) → me.1 ≡ (0, content) ∷ [] → me.1 ≡ (0, content) ∷ rest me.1
has_slot me content is = is ∙ ap (λ (slots : List (ℕ × Option Rests)). (0, content) ∷ rest slots) (sym is)

-- What the seat found in its slot is what rests.
pub found_there : (owner : Owner) (me : Me (Option Rests) Owner) (found : Option Rests) → HasTaken owner me → me.1 ≡ (0, found) ∷ rest me.1 → (rests : Rests) × (found ≡ Some rests) × RestOf owner rests
found_there owner me found has is = (has.0, ap content_of (sym is ∙ has.1), has.2)

-- It found nothing in a slot in which nothing is.
pub found_none : (me : Me (Option Rests) Owner) (found : Option Rests) → HasEmpty me → me.1 ≡ (0, found) ∷ rest me.1 → found ≡ None
found_none me found has is = ap content_of (sym is ∙ has)

-- It left nothing in its slot.
pub left_empty : (owner view : Owner) (me me' : Me (Option Rests) Owner) → HasTaken owner me → me' ≡ (view, (0, None) ∷ rest me.1) → HasEmpty me'
left_empty owner view me me' has is =
    ap (λ (one : Me (Option Rests) Owner). one.1) is ∙ ap (λ (slots : List (ℕ × Option Rests)). (0, None) ∷ rest slots) has.1
