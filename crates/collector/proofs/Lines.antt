-- Lines with two numbers.
use Rattle.std.proofs.Common.{◌≡◌, ◌++◌, append_assoc, codes}
use Rattle.trace_types.specs.text.Name.{Text}

-- as they are formatted, and as they are defined
pub in_turn : (first one middle other : Text) → first ++ (one ++ (middle ++ (other ++ codes "\n"))) ≡ first ++ one ++ middle ++ other ++ codes "\n"
in_turn first one middle other = simp append_assoc
