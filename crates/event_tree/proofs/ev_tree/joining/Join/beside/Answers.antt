use Rattle.event_tree.proofs.JoinBits.{gives_on_both}
use Rattle.event_tree.proofs.ev_tree.joining.Join.beside.Goals as goal

pub returns-clause-second : goal.returns-clause-second
returns-clause-second c = rw (c.of_bits.ensures, c.bits.ensures, c.bits-2.ensures) ((gives_on_both c.args.self c.args.right).0)

pub returns-clause-first : goal.returns-clause-first
returns-clause-first c = rw (c.of_bits.ensures, c.bits.ensures, c.bits-2.ensures) ((gives_on_both c.args.self c.args.right).1)
