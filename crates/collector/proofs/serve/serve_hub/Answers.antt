use Rattle.std.proofs.Common.{rules, ◌≡◌, ◌⊎◌, ℕ, ◌+◌, ◌^◌, ◌++◌, ◌≤◌, if◌then◌else◌, inl, inr, Result, Ok, Err, IfErr, OnOk, IsTrue, ap, subst, sym, leb, arith}
use Rattle.std.proofs.lemmas.Bool.{and_parts, leb-true}
use denote.Param.Send.{sendable}
use Rattle.std.proofs.Crossing.{crosses}
use Rattle.line_protocol.specs.Sink.{Taken}
use Rattle.line_protocol.specs.Writing.{EndsInFault}
use Rattle.tcp_door.proofs.Crossing.{reader_send, writer_send}
use Rattle.trace_session.specs.declared.serving.ServeCounts.{ServeCounts}
use Rattle.trace_types.specs.text.Name.{Text, is_between}
use Rattle.collector.specs.Serving.{Serves, ServesInPart, line_of_counts, line_of_port}
use Rattle.collector.specs.Showing.{Shows, ShowsAll, ShowsFront}
use Rattle.collector.specs.declared.fault.Fault.{Fault}
use Rattle.collector.specs.declared.fault.Fault.TheVariants.{Write}
use Rattle.collector.proofs.Fronts.{both, front, front_behind, front_of_both, later_fault}
use Rattle.collector.proofs.serve.serve_hub.Goals as goal

-- the first line could not be written
unwritten : {T : Type 0} (port : ℕ) (taken taken' : Taken) (text : Text) (result : Result T Fault) → result ≡ Err Write
    → text ≡ line_of_port port → Shows taken taken' text → EndsInFault taken taken'
    → IfErr result (λ fault. ServesInPart fault port taken taken')
unwritten port taken taken' text result is text_is shows ends =
    subst (λ r. IfErr r (λ fault. ServesInPart fault port taken taken')) (sym is)
    (record {
      counts = record { sessions = 0; faults = 0 };
      lines = front_of_both taken.bytes taken'.bytes (line_of_port port) (line_of_counts (record { sessions = 0; faults = 0 }))
          (subst (ShowsFront taken.bytes taken'.bytes) text_is (front taken taken' text shows));
      ends = ends;
    })

-- as many connected as a door gives that was opened for so many, and closed
all_came : (asked most given most' given' sessions : ℕ) → IsTrue (is_between 1 1048576 asked) → most ≡ asked → given ≡ 0
    → given' ≡ given + sessions → most' ≡ most → given' ≤ most' → (most ≤ given') ⊎ (sessions ≡ 2 ^ 32) → sessions ≡ asked
all_came asked most given most' given' sessions within most_is given_is came same few (inl closed) = omega (arith, most_is, given_is, came, same, few, closed)
all_came asked most given most' given' sessions within most_is given_is came same few (inr full) =
    let least = (and_parts (leb 1 asked) (leb asked 1048576) within).1 in
    omega (arith, leb-true asked 1048576 least, most_is, given_is, came, same, few, full)

-- both lines were written
served : {T E : Type 0} (result : Result T E) (port sessions : ℕ) (counts : ServeCounts) (first second third : Taken) (one other : Text)
    → counts.sessions ≡ sessions → one ≡ line_of_port port → other ≡ line_of_counts counts → ShowsAll first second one
    → OnOk result (ShowsAll second third other) → OnOk result (Serves port sessions first third)
served (Ok done) port sessions counts first second third one other came one_is other_is all rest = record {
  counts = counts;
  all = came;
  lines = subst (λ text. ShowsAll first third (text ++ line_of_counts counts)) one_is
      (subst (λ text. ShowsAll first third (one ++ text)) other_is (both first second third one other all rest));
}
served (Err fault) port sessions counts first second third one other came one_is other_is all rest = tt

-- the second line could not be written
stopped : {T : Type 0} (result : Result T Fault) (port : ℕ) (counts : ServeCounts) (first second third : Taken) (one other : Text)
    → one ≡ line_of_port port → other ≡ line_of_counts counts → ShowsAll first second one → first.interruptions ≤ second.interruptions
    → Shows second third other → IfErr result (λ fault. (fault ≡ Write) × EndsInFault second third)
    → IfErr result (λ fault. ServesInPart fault port first third)
stopped (Ok done) port counts first second third one other one_is other_is all more shows failed = tt
stopped (Err fault) port counts first second third one other one_is other_is all more shows failed =
    subst (λ one. ServesInPart one port first third) (sym failed.0)
    (record {
      counts = counts;
      lines = subst (λ text. ShowsFront first.bytes third.bytes (text ++ line_of_counts counts)) one_is
          (subst (λ text. ShowsFront first.bytes third.bytes (one ++ text)) other_is
          (front_behind first second third one other all (front second third other shows)));
      ends = later_fault first second third one all more failed.1;
    })

pub returns-in_err-show-clause-err : goal.returns-in_err-show-clause-err
returns-in_err-show-clause-err g c =
    let is : c.from_residual-in_err-show.result ≡ Err Write = search rules in
    let text : c.as_str.result.now ≡ line_of_port c.args.wanted.now.port = search rules in
    unwritten _ _ _ c.as_str.result.now _ is text c.show.ensures.shown c.in_err-show.ensures.err.1

pub serve-requires-send-D-Reader : goal.serve-requires-send-D-Reader
serve-requires-send-D-Reader g c κs within = search (sendable, crosses, reader_send) depth 20

pub serve-requires-send-D-Writer : goal.serve-requires-send-D-Writer
serve-requires-send-D-Writer g c κs within = search (sendable, crosses, writer_send) depth 20

pub returns-clause-ok : goal.returns-clause-ok
returns-clause-ok g c =
    let port : c.as_str.result.now ≡ line_of_port c.args.wanted.now.port = search rules in
    let counts : c.as_str-2.result.now ≡ line_of_counts c.in_ok-counts.counts = search rules in
    let opened = c.in_ok-door.ensures in
    let asked : IsTrue (is_between 1 1048576 c.args.wanted.now.sessions) = search rules in
    let few : c.serve.new.door.given ≤ c.serve.new.door.most = search rules in
    let counted = c.in_ok-counts.ensures in
    let came = all_came c.args.wanted.now.sessions c.in_ok-door.door.most c.in_ok-door.door.given c.serve.new.door.most c.serve.new.door.given
    c.in_ok-counts.counts.sessions asked opened.0 opened.1 counted.sessions counted.most few
    (counted.closed (ap (λ failed. if failed then 1 else 0) opened.2)) in
    let seen = g.W.Sink.seen in
    served c.show-2.result _ c.args.wanted.now.sessions c.in_ok-counts.counts (seen c.args.writer.now) (seen c.show.new.writer) (seen c.show-2.new.writer) c.as_str.result.now c.as_str-2.result.now came port counts c.in_ok-show.ensures.ok
    c.show-2.ensures.ok

pub returns-clause-err : goal.returns-clause-err
returns-clause-err g c =
    let port : c.as_str.result.now ≡ line_of_port c.args.wanted.now.port = search rules in
    let counts : c.as_str-2.result.now ≡ line_of_counts c.in_ok-counts.counts = search rules in
    let seen = g.W.Sink.seen in
    stopped c.show-2.result _ c.in_ok-counts.counts (seen c.args.writer.now) (seen c.show.new.writer) (seen c.show-2.new.writer) c.as_str.result.now c.as_str-2.result.now port counts c.in_ok-show.ensures.ok
    c.show.ensures.more c.show-2.ensures.shown c.show-2.ensures.err
