-- The join of two nodes is what the joins of both sides are, by their bits.
use Rattle.std.proofs.Common.{◌≡◌, ◌&&◌, bit_and, refl}
use Rattle.event_tree.specs.Joins.{gives_second, gives_first, bits_of, join_of}
use Rattle.event_tree.specs.declared.ev_tree.joining.Join.{Join}
use Rattle.event_tree.specs.declared.ev_tree.joining.Join.TheVariants.{Made, Second, First, Either}

-- the join with the bits that both have
abbrev pub on_both_sides : Join → Join → Join
on_both_sides a b = join_of (bit_and (bits_of a) (bits_of b))

-- gives what both give
pub gives_on_both : (a b : Join) → (gives_second (on_both_sides a b) ≡ (gives_second a && gives_second b)) × (gives_first (on_both_sides a b) ≡ (gives_first a && gives_first b))
gives_on_both Made Made = (refl, refl)
gives_on_both Made Second = (refl, refl)
gives_on_both Made First = (refl, refl)
gives_on_both Made Either = (refl, refl)
gives_on_both Second Made = (refl, refl)
gives_on_both Second Second = (refl, refl)
gives_on_both Second First = (refl, refl)
gives_on_both Second Either = (refl, refl)
gives_on_both First Made = (refl, refl)
gives_on_both First Second = (refl, refl)
gives_on_both First First = (refl, refl)
gives_on_both First Either = (refl, refl)
gives_on_both Either Made = (refl, refl)
gives_on_both Either Second = (refl, refl)
gives_on_both Either First = (refl, refl)
gives_on_both Either Either = (refl, refl)
