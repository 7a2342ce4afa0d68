use Rattle.std.proofs.Common.{◌≡◌, ◌+◌}
use Rattle.trace_session.proofs.serving.accept_all.Given as goal

abbrev pub invariant-loop-turn : goal.invariant-loop-turn
invariant-loop-turn g l = record {
  counted : l.queue ≡ l._turn;
  given : g.D.Door.given l.door ≡ g.D.Door.given l.fn.door + l.queue;
  failures : g.D.Door.failures l.door ≡ g.D.Door.failures l.fn.door;
  most : g.D.Door.most l.door ≡ g.D.Door.most l.fn.door;
}
