use Rattle.std.proofs.Common.{◌≡◌, false}
use Rattle.std.specs.Prelude.{codes}
use Rattle.trace_types.specs.text.Name.{is_same}
use Rattle.line_protocol.proofs.FirstWordLemmas.{alone_none, begins_as, not_first}
use Rattle.line_protocol.proofs.request.read_rare.Goals as goal

pub read_arguments-requires : goal.read_arguments-requires
read_arguments-requires c =
    let word = c.split_first.result.0.now in
    let rest = c.in_default-Some.arguments.now in
    let all = rw c.in_default-Some.is-1 at c.split_first.ensures in
    record {
      order = not_first c.args.line.now word (codes "order") rest all c.requires.order;
      local = not_first c.args.line.now word (codes "local") rest all c.requires.local;
      send = not_first c.args.line.now word (codes "send") rest all c.requires.send;
      recv = not_first c.args.line.now word (codes "recv") rest all c.requires.recv;
      spawn = not_first c.args.line.now word (codes "spawn") rest all c.requires.spawn;
      join = not_first c.args.line.now word (codes "join") rest all c.requires.join;
      end = not_first c.args.line.now word (codes "end") rest all c.requires.end;
      event = not_first c.args.line.now word (codes "event") rest all c.requires.event;
      stamp = not_first c.args.line.now word (codes "stamp") rest all c.requires.stamp;
      task = not_first c.args.line.now word (codes "task") rest all c.requires.task;
      message = not_first c.args.line.now word (codes "message") rest all c.requires.message;
    }

pub returns-in_default-None : goal.returns-in_default-None
returns-in_default-None c =
    let word = c.split_first.result.0.now in
    let all = rw c.in_default-None.is-1 at c.split_first.ensures in
    let whole = begins_as c.args.line.now word _ all in
    let other : is_same word (codes "count") ≡ false = rw whole at c.requires.count in
    rw all (alone_none word other)
