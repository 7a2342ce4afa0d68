-- The tree that the text of a stamp spells.
use Rattle.std.proofs.Common.{◌≡◌, ◌^◌, ◌<◌, [], ◌∷◌, ◌++◌, sym, ap, ◌∙◌}
use Rattle.trace_types.specs.clock.Id.{Id}
use Rattle.trace_types.specs.clock.EventTree.{EventTree, maximum}
use Rattle.trace_types.specs.text.Name.{Text}
use Rattle.trace_types.specs.text.StampText.{id_text, stamp_text}
use Rattle.stamp_codec.specs.Bounds.{as_written}
use Rattle.stamp_codec.specs.StampText.{SpellsStamp, written_tree}
use Rattle.stamp_codec.proofs.RoundTrip.{numbers-written, text-written, tree_of-written}
use Rattle.stamp_codec.proofs.Unique.{spells_once}
use Rattle.trace_export.specs.Verdict.{IsStampTree}

-- the text of a stamp whose numbers fit spells that stamp
spells_itself : (text : Text) (id : Id) (tree : EventTree) → maximum tree < 2 ^ 64 → text ≡ stamp_text id tree → SpellsStamp text id (as_written tree)
spells_itself text id tree fits is = record {
  numbers = numbers-written tree fits;
  whole = is ∙ ap (λ written. 91 ∷ (id_text id ++ (59 ∷ (written ++ (93 ∷ []))))) (sym (text-written tree));
}

-- so where it spells some tree, that is the tree
pub spelled_tree : (text : Text) (id : Id) (tree found : EventTree) → maximum tree < 2 ^ 64 → text ≡ stamp_text id tree → IsStampTree text found → IsStampTree text tree
spelled_tree text id tree found fits is spelled =
    let once = spells_once text spelled.0 id spelled.1 (as_written tree) spelled.2.within.spells (spells_itself text id tree fits is) in
    (spelled.0, spelled.1, spelled.2, sym (ap written_tree once.1 ∙ tree_of-written tree fits))
