use Rattle.tenant_ledger.proofs.ledger.Ledger.clock.Goals as goal

pub returns : goal.returns
returns g c = c.clock.ensures c.args.self.now.limits c.args.self.now.rows c.rows.ensures.legal c.args.first c.args.second c.requires.first c.requires.second
