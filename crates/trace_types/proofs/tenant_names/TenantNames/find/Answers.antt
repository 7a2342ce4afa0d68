use Rattle.std.proofs.Common.{◌≡◌, ap, ◌∙◌}
use Rattle.trace_types.specs.world.Replay.{place_of}
use Rattle.trace_types.proofs.Places.{within_places}
use Rattle.trace_types.proofs.Distinct.{stands_where_found}
use Rattle.trace_types.proofs.tenant_names.TenantNames.find.Goals as goal

found : (c : goal.After-place_of) → c.place_of.result ≡ place_of c.args.self.now c.args.text.now
found c = c.place_of.ensures.place ∙ ap (λ names. place_of names c.args.text.now) c.as_slice.ensures.names

pub returns-clause-stands : goal.returns-clause-stands
returns-clause-stands c place = rw (found c) (stands_where_found c.args.self.now c.as_slice.ensures.tenants c.args.text.now place)

pub returns-clause-within : goal.returns-clause-within
returns-clause-within c = rw (found c) (within_places c.args.self.now c.args.text.now)
