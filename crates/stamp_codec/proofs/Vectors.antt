-- Texts of stamps, computed by the definitions.
use Rattle.std.proofs.Common.{◌≡◌, refl}
use Rattle.std.specs.Prelude.{codes}
use Rattle.std.specs.Fmt.{digits}
use Rattle.trace_types.specs.clock.Id as ids
use Rattle.trace_types.specs.clock.EventTree.{Leaf, Node}
use Rattle.stamp_codec.specs.Stamp.{seed, fork, stamp_event, stamp_join, peek}
use Rattle.stamp_codec.specs.StampText.{Number, Fork, stamp_as_text, whole_text, written_tree}

-- the seed
text-seed : stamp_as_text seed ≡ codes "[1;0]"
unfolding digits
text-seed = refl

-- the seed after a fork, on either side
text-forked : (stamp_as_text (fork seed).0 ≡ codes "[(1,0);0]") × (stamp_as_text (fork seed).1 ≡ codes "[(0,1);0]")
unfolding digits
text-forked = (refl, refl)

-- after an stamp_event, after both halves stamp_join again, and what is sent along
text-event : (stamp_as_text (stamp_event seed) ≡ codes "[1;1]") × (stamp_as_text (stamp_join (stamp_event (fork seed).0) (stamp_event (fork seed).1)) ≡ codes "[1;1]") × (stamp_as_text (peek (stamp_event seed)) ≡ codes "[0;1]")
unfolding digits
text-event = (refl, refl, refl)

-- a tree that is written with digits
text-digits : let tree = Fork (codes "12") (Number (codes "1")) (Number (codes "0")) in (whole_text (ids.Pair ids.One ids.Zero) tree ≡ codes "[(1,0);(12,1,0)]") × (written_tree tree ≡ Node 12 (Leaf 1) (Leaf 0))
text-digits = (refl, refl)
