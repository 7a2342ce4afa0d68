use Rattle.trace_export.proofs.Refusing.{nothing_is_faulty_after}
use Rattle.trace_export.proofs.follower.Follower.add.Goals as goal

pub returns-in-Err-clause-faulty : goal.returns-in-Err-clause-faulty
returns-in-Err-clause-faulty g c =
    let told = c.in-Err.ensures c.args.line.now c.requires.short c.in_ok-json.ensures in
    record {
      no_header = λ headless empty. told.0 (c.is_unbegun.ensures.1 (headless, empty));
      faulty = nothing_is_faulty_after c.in-Err.reason c.args.self.now.ledger.limits c.args.self.now.ledger.rows c.args.line.now told.1;
    }
