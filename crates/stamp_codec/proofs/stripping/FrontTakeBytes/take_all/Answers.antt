use Rattle.std.proofs.lemmas.Slice.Eq.{strip_prefix_is}
use Rattle.std.proofs.lemmas.Bool.Decides.{Decides-eqb}
use Rattle.stamp_codec.proofs.stripping.FrontTakeBytes.take_all.Goals as goal

pub returns-in-Some : goal.returns-in-Some
returns-in-Some c =
    let is = strip_prefix_is Decides-eqb c.args.self.now.rest.now c.args.bytes.now c.strip_prefix.result c.strip_prefix.ensures.cases in
    rw c.in-Some.is at is

pub returns-in-None : goal.returns-in-None
returns-in-None c =
    let is = strip_prefix_is Decides-eqb c.args.self.now.rest.now c.args.bytes.now c.strip_prefix.result c.strip_prefix.ensures.cases in
    rw c.in-None.is at is
