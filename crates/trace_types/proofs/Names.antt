-- The test for equal texts.
use Rattle.std.proofs.Common.{◌≡◌, ◌≢◌, ◌↔◌, ℕ, List, IsTrue, true, false, refl, sym, ◌∙◌}
use Rattle.std.proofs.lemmas.Bool.{false≢true}
use Rattle.std.proofs.lemmas.Slice.Eq.{bytes_eq-Decides}
use Rattle.trace_types.specs.text.Name.{is_same}

pub is_same_iff : (a b : List ℕ) → IsTrue (is_same a b) ↔ (a ≡ b)
is_same_iff a b = bytes_eq-Decides a b

pub is_same-itself : (a : List ℕ) → is_same a a ≡ true
is_same-itself a = (is_same_iff a a).1 refl

pub differ_by_test : (a b : List ℕ) → is_same a b ≡ false → a ≢ b
differ_by_test a b differ same = false≢true (sym differ ∙ (is_same_iff a b).1 same)
