use Rattle.std.proofs.Common.{refl}
use Rattle.stamp_codec.proofs.Refusals.{number_read, number_refused}
use Rattle.stamp_codec.proofs.cursor.Cursor.number.Goals as goal

pub returns-in-Ok-clause-exact : goal.returns-in-Ok-clause-exact
returns-in-Ok-clause-exact c digits behind written whole =
    number_read c.args.most c.in-Ok.number c.args.end c.args.self.now.rest.now digits c.take_number.new.rest.now behind c.requires.most c.in-Ok.ensures.small c.requires.end c.in-Ok.ensures.text written whole

pub returns-in-Err-clause-exact : goal.returns-in-Err-clause-exact
returns-in-Err-clause-exact c digits behind written whole =
    (number_refused c.args.most c.args.end c.args.self.now.rest.now digits behind c.requires.most c.in-Err.ensures.refused.1 written whole, refl)
