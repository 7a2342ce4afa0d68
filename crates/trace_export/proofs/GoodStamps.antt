-- The text of a small stamp: it is plain, short, and spells its tree.
use Rattle.std.proofs.Common.{◌^◌, ◌<◌, ◌≤◌, ◌++◌, length, codes, refl, sym, arith}
use Rattle.std.specs.Fmt.{decimal}
use Rattle.trace_types.specs.clock.Id.{Id, Zero, One, Pair, IsNormalId}
use Rattle.trace_types.specs.clock.EventTree.{EventTree, Leaf, Node, maximum, IsNormal}
use Rattle.trace_types.specs.clock.Size.{inner_of_id, inner_of_tree}
use Rattle.trace_types.specs.text.Name.{Text}
use Rattle.trace_types.specs.text.StampText.{id_text, tree_text, stamp_text}
use Rattle.event_tree.specs.Height.{height}
use Rattle.stamp_codec.specs.Bounds.{id_height, IsBounded, as_written}
use Rattle.stamp_codec.specs.declared.stamp.Stamp.{Stamp}
use Rattle.stamp_codec.proofs.RoundTrip.{text_is}
use Rattle.trace_export.specs.Verdict.{IsStampTree}
use Rattle.trace_export.proofs.OneLine.{ArePlain, plain_append, decimal_is_plain}

id_is_plain : (id : Id) → ArePlain (id_text id)
id_is_plain Zero = refl
id_is_plain One = refl
id_is_plain (Pair left right) =
    plain_append (codes "(") (id_text left ++ (codes "," ++ (id_text right ++ codes ")"))) refl
    (plain_append (id_text left) (codes "," ++ (id_text right ++ codes ")")) (id_is_plain left)
    (plain_append (codes ",") (id_text right ++ codes ")") refl (plain_append (id_text right) (codes ")") (id_is_plain right) refl)))

tree_is_plain : (tree : EventTree) → maximum tree < 2 ^ 64 → ArePlain (tree_text tree)
tree_is_plain (Leaf n) fits = decimal_is_plain n fits
tree_is_plain (Node n left right) fits =
    let last = plain_append (tree_text right) (codes ")") (tree_is_plain right (omega (arith, fits))) refl in
    let behind = plain_append (tree_text left) (codes "," ++ (tree_text right ++ codes ")")) (tree_is_plain left (omega (arith, fits)))
    (plain_append (codes ",") (tree_text right ++ codes ")") refl last) in
    plain_append (codes "(") (decimal n ++ (codes "," ++ (tree_text left ++ (codes "," ++ (tree_text right ++ codes ")"))))) refl
    (plain_append (decimal n) (codes "," ++ (tree_text left ++ (codes "," ++ (tree_text right ++ codes ")")))) (decimal_is_plain n (omega (arith, fits)))
    (plain_append (codes ",") (tree_text left ++ (codes "," ++ (tree_text right ++ codes ")"))) refl behind))

pub stamp_is_plain : (id : Id) (tree : EventTree) → maximum tree < 2 ^ 64 → ArePlain (stamp_text id tree)
stamp_is_plain id tree fits =
    plain_append (codes "[") (id_text id ++ (codes ";" ++ (tree_text tree ++ codes "]"))) refl
    (plain_append (id_text id) (codes ";" ++ (tree_text tree ++ codes "]")) (id_is_plain id)
    (plain_append (codes ";") (tree_text tree ++ codes "]") refl (plain_append (tree_text tree) (codes "]") (tree_is_plain tree fits) refl)))

-- no tree is higher than it has inner nodes
id_height-le : (id : Id) → id_height id ≤ inner_of_id id
id_height-le Zero = omega arith
id_height-le One = omega arith
id_height-le (Pair left right) = omega (arith, id_height-le left, id_height-le right)

height-le : (tree : EventTree) → height tree ≤ inner_of_tree tree
height-le (Leaf n) = omega arith
height-le (Node n left right) = omega (arith, height-le left, height-le right)

-- A stamp of a tenant: it is normal, has no more inner nodes than a tenant has spawns, and no value above its events.
pub record IsSmall (id : Id) (tree : EventTree) : Type 0 where
  pub id_normal : IsNormalId id
  pub tree_normal : IsNormal tree
  pub id_inner : inner_of_id id ≤ 2047
  pub tree_inner : inner_of_tree tree ≤ 2047
  pub highest : maximum tree ≤ 16384
  pub short : length (stamp_text id tree) ≤ 36855

-- The text of a stamp with this tree: what a line of an export has.
pub record IsGoodStamp (text : Text) (tree : EventTree) : Type 0 where
  pub plain : ArePlain text
  pub short : length text ≤ 36855
  pub spells : IsStampTree text tree

abbrev stamp_with : Id → EventTree → Stamp
stamp_with id tree = record { id = id; tree = tree }

is_bounded : (id : Id) (tree : EventTree) → IsSmall id tree → IsBounded (stamp_with id tree)
is_bounded id tree small = record {
  id_normal = small.id_normal;
  tree_normal = small.tree_normal;
  id_nesting = omega (arith, small.id_inner, id_height-le id);
  tree_nesting = omega (arith, small.tree_inner, height-le tree);
  sums = omega (arith, small.highest);
}

-- the text of a small stamp is good
pub good_stamp : (id : Id) (tree : EventTree) → IsSmall id tree → IsGoodStamp (stamp_text id tree) tree
good_stamp id tree small =
    let spelled = text_is (stamp_with id tree) (is_bounded id tree small) in
    record {
      plain = stamp_is_plain id tree (omega (arith, small.highest));
      short = small.short;
      spells = (id, as_written tree, spelled.0, sym spelled.1);
    }
