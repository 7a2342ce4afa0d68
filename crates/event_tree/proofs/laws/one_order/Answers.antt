use Rattle.event_tree.proofs.Standing.{stand_somehow, stand_one_way}
use Rattle.event_tree.proofs.laws.one_order.Goals as goal

pub returns : goal.returns
returns c = record { some = stand_somehow; one = stand_one_way }
