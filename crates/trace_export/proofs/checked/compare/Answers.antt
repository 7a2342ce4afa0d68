use Rattle.trace_export.proofs.checked.compare.Goals as goal

pub returns-in-Err-clause-faulty : goal.returns-in-Err-clause-faulty
returns-in-Err-clause-faulty c =
    let told = rw c.in-Err.is at c.in_ok-reason.ensures.added in
    record { no_header = λ headless empty. told.0 (c.is_unbegun-is_first.ensures.1 (headless, empty)); faulty = told.1 }
