use Rattle.trace_types.proofs.NameWords.{same_by_words}
use Rattle.trace_types.proofs.name.are_same.Goals as goal

pub returns : goal.returns
returns c =
    same_by_words c.args.one.now c.args.other.now
    (record { long = c.told-one; small = c.fits-one })
    (record { long = c.told-other; small = c.fits-other })
    c.words.result c.words-2.result c.words.ensures c.words-2.ensures c.eq.result c.eq.ensures
