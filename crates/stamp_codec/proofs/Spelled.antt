-- Texts part by part, with each part beside the byte behind it, and what is known of either outcome.
use Rattle.std.proofs.Common.{◌≡◌, List, ℕ, ◌++◌, codes, append_assoc, MatchOption, Option, Some, None}

-- nothing was found
pub on_none : {A : Type 0} (found : Option A) (P : Type 0) (Q : A → Type 0) → found ≡ None → P → MatchOption found P Q
on_none None P Q none holds = holds
on_none (Some x) P Q none holds = absurd (cc none)

-- what follows from either outcome
pub on_either : {A : Type 0} (found : Option A) (P P' : Type 0) (Q Q' : A → Type 0) → (P → P') → ((x : A) → Q x → Q' x) → MatchOption found P Q → MatchOption found P' Q'
on_either None P P' Q Q' refused taken holds = refused holds
on_either (Some x) P P' Q Q' refused taken holds = taken x holds

pub node_by_parts : (number left right : List ℕ) → codes "(" ++ ((number ++ codes ",") ++ ((left ++ codes ",") ++ (right ++ codes ")"))) ≡ codes "(" ++ (number ++ (codes "," ++ (left ++ (codes "," ++ (right ++ codes ")")))))
node_by_parts number left right = simp append_assoc

pub pair_by_parts : (left right : List ℕ) → codes "(" ++ ((left ++ codes ",") ++ (right ++ codes ")")) ≡ codes "(" ++ (left ++ (codes "," ++ (right ++ codes ")")))
pair_by_parts left right = simp append_assoc

pub stamp_by_parts : (id tree : List ℕ) → codes "[" ++ ((id ++ codes ";") ++ (tree ++ codes "]")) ≡ codes "[" ++ (id ++ (codes ";" ++ (tree ++ codes "]")))
stamp_by_parts id tree = simp append_assoc
