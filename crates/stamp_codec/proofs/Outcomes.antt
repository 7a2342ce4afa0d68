-- What looking over a whole text says of it.
use Rattle.std.proofs.Common.{◌≡◌, inl, inr, ℕ, ◌+◌, Option, None, Ok, List, [], ◌∷◌, ◌++◌, length, drop, ap, ◌∙◌, arith, length-append}
use Rattle.trace_types.specs.clock.Id.{Id}
use Rattle.stamp_codec.specs.StampText.{Written, SpellsStamp, id_text, written_text}
use Rattle.stamp_codec.specs.Faults.{IsLeast, tree_start, IsTooLargeAt, IsIdTooDeepAt, IsIdNotNormalAt, IsTreeTooLargeAt, IsTreeNotNormalAt}
use Rattle.stamp_codec.specs.Looks.{BeginsTree, IsFirstWith, LooksOver}
use Rattle.stamp_codec.specs.declared.child.Child.{Child}
use Rattle.stamp_codec.proofs.Firsts.{first_alone, least_early, least_late}
use Rattle.stamp_codec.proofs.LookIds.{LooksId, EndsId, deep_in}
use Rattle.stamp_codec.proofs.LookTrees.{LooksTree, EndsTree, large_in}

-- where the parts of a stamp stand
at_id : (text first : List ℕ) (start : ℕ) (id : Id) (tree : Written) → SpellsStamp text id tree → first ≡ drop 1 text → start + length first ≡ length text →
    (first ≡ id_text id ++ (59 ∷ (written_text tree ++ (93 ∷ [])))) × (start ≡ 1)
at_id text first start id tree spells first_is end =
    let is = first_is ∙ ap (λ t. drop 1 t) spells.whole in
    (is, omega (arith, end, ap (λ t. length t) is, ap (λ t. length t) spells.whole))

at_tree : (text found second : List ℕ) (start : ℕ) (id : Id) (tree : Written) → SpellsStamp text id tree → found ≡ 59 ∷ (written_text tree ++ (93 ∷ [])) → second ≡ drop 1 found → start + length second ≡ length text →
    BeginsTree second tree 93 [] × (start ≡ tree_start id)
at_tree text found second start id tree spells found_is second_is end =
    let is : second ≡ written_text tree ++ (93 ∷ []) = second_is ∙ ap (λ t. drop 1 t) found_is in (
      record { numbers = spells.numbers; whole = is },
      omega (arith, end, ap (λ t. length t) is, ap (λ t. length t) spells.whole, length-append (id_text id) (59 ∷ (written_text tree ++ (93 ∷ [])))),
    )

-- the first place that is too large is in the id
pub ends_in_id : (text first : List ℕ) (start place : ℕ) → first ≡ drop 1 text → start + length first ≡ length text → EndsId first start 0 place →
    (id : Id) (tree : Written) → SpellsStamp text id tree → IsLeast (IsTooLargeAt id tree) place
ends_in_id text first start place first_is end ends id tree spells =
    let a = at_id text first start id tree spells first_is end in
    let here : IsLeast (IsIdTooDeepAt 1 0 id) place = rw (← a.1) (ends id _ a.0) in
    least_early place _ _ (λ place other deep large. omega (arith, (deep_in 1 0 id place deep).1, (large_in (tree_start id) 0 0 tree other large).0)) here

-- or in the tree
pub ends_in_tree : (text first found second : List ℕ) (start second_start place : ℕ) (u0 u1 : Option ℕ) → first ≡ drop 1 text → start + length first ≡ length text → LooksId first found start 0 u0 u1 →
    second ≡ drop 1 found → second_start + length second ≡ length text → EndsTree second 93 second_start 0 0 place → (id : Id) (tree : Written) → SpellsStamp text id tree → IsLeast (IsTooLargeAt id tree) place
ends_in_tree text first found second start second_start place u0 u1 first_is first_end looks second_is second_end ends id tree spells =
    let a = at_id text first start id tree spells first_is first_end in
    let one = looks id _ a.0 in
    let b = at_tree text found second second_start id tree spells one.0 second_is second_end in
    let deep : (place : ℕ) → ¬ IsIdTooDeepAt 1 0 id place = rw (← a.1) one.1 in
    let here : IsLeast (IsTreeTooLargeAt (tree_start id) 0 0 tree) place = rw (← b.1) (ends tree _ b.0) in
    least_late place _ _ deep here

-- or there is none, and the first node that is not normal is known
pub looked : (text first found second end : List ℕ) (start second_start : ℕ) (seen : Child) (u0 u1 v1 u2 : Option ℕ) → first ≡ drop 1 text → start + length first ≡ length text → u0 ≡ None → v1 ≡ u1 →
    LooksId first found start 0 u0 u1 → second ≡ drop 1 found → second_start + length second ≡ length text → LooksTree second 93 end second_start 0 0 seen v1 u2 →
    (id : Id) (tree : Written) → SpellsStamp text id tree → LooksOver (Ok u2) id tree
looked text first found second end start second_start seen u0 u1 v1 u2 first_is first_end none_yet same looks second_is second_end tree_looks id tree spells =
    let a = at_id text first start id tree spells first_is first_end in
    let one = looks id _ a.0 in
    let b = at_tree text found second second_start id tree spells one.0 second_is second_end in
    let other = tree_looks tree _ b.0 in
    let deep : (place : ℕ) → ¬ IsIdTooDeepAt 1 0 id place = rw (← a.1) one.1 in
    let large : (place : ℕ) → ¬ IsTreeTooLargeAt (tree_start id) 0 0 tree place = rw (← b.1) other.1 in
    let ids : IsFirstWith None (IsIdNotNormalAt 1 id) u1 = rw (← none_yet, ← a.1) one.2 in
    let trees : IsFirstWith u1 (IsTreeNotNormalAt (tree_start id) tree) u2 = rw (← same, ← b.1) other.2 in
    ((λ place is. elim is [ inl i ↦ deep place i | inr t ↦ large place t ]), first_alone _ _ u1 u2 ids trees)
