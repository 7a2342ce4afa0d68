use Rattle.tenant_ledger.proofs.stack.+touch.Given as goal

abbrev pub decreases-touch : goal.decreases-touch
decreases-touch l = l.pages
