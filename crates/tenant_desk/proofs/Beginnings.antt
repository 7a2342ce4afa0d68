-- Lists that begin with others.
use lib.Dec.{leb}
use Rattle.std.proofs.lemmas.Bool.Decides.{nat_tests}
use Rattle.std.proofs.Common.{◌<◌, Bool, true, false, MatchBool, ◌≡◌, ◌≤◌, List, [], ◌∷◌, ◌++◌, length, refl, ap, sym, ◌∙◌, arith, append_assoc}
use mathlib.Core.List.{IsPrefix}

module _ {A : Type 0} where
  pub begins_with_itself : (xs : List A) → IsPrefix xs xs
  begins_with_itself [] = ([], refl)
  begins_with_itself (x ∷ xs) = let rest = begins_with_itself xs in (rest.0, ap (λ ys. x ∷ ys) rest.1)

  pub begins_through : (xs ys zs : List A) → IsPrefix xs ys → IsPrefix ys zs → IsPrefix xs zs
  begins_through xs ys zs first second =
      (first.0 ++ second.0, sym (append_assoc xs first.0 second.0) ∙ ap (λ list. list ++ second.0) first.1 ∙ second.1)

  -- of two lists with which a third one begins, the longer begins with the other
  pub begins_with_shorter : (xs ys zs : List A) → IsPrefix xs zs → IsPrefix ys zs → length xs ≤ length ys → IsPrefix xs ys
  begins_with_shorter [] ys zs first second shorter = (ys, refl)
  begins_with_shorter (x ∷ xs) [] zs first second shorter = absurd (omega arith)
  begins_with_shorter (x ∷ xs) (y ∷ ys) [] first second shorter = absurd (cc first.1)
  begins_with_shorter (x ∷ xs) (y ∷ ys) (z ∷ zs) first second shorter =
      let heads : x ≡ y = cc (first.1, second.1) in
      let rest = begins_with_shorter xs ys zs (first.0, cc first.1) (second.0, cc second.1) (omega arith) in
      (rest.0, cc (heads, rest.1))

  -- which of the two it is, by their lengths
  pub longer_begins : (xs ys zs : List A) → IsPrefix xs zs → IsPrefix ys zs → (shorter : Bool) → leb (length ys) (length xs) ≡ shorter
      → MatchBool shorter (IsPrefix ys xs) (IsPrefix xs ys × (length xs < length ys))
  longer_begins xs ys zs first second true is = begins_with_shorter ys xs zs second first (grind (arith, nat_tests))
  longer_begins xs ys zs first second false is =
      let less : length xs < length ys = grind (arith, nat_tests) in
      (begins_with_shorter xs ys zs first second (omega arith), less)

  -- a list that is as long as one that begins with it is that one
  pub is_all : (xs ys : List A) → IsPrefix xs ys → length ys ≤ length xs → xs ≡ ys
  is_all [] [] begins long = refl
  is_all [] (y ∷ ys) begins long = absurd (omega arith)
  is_all (x ∷ xs) [] begins long = absurd (cc begins.1)
  is_all (x ∷ xs) (y ∷ ys) begins long = let rest = is_all xs ys (begins.0, cc begins.1) (omega arith) in cc (begins.1, rest)
