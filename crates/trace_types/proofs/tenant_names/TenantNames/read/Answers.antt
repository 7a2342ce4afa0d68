use Rattle.std.proofs.Common.{rules, ◌≡◌, sym, ap, ◌∙◌, None, map, false, string_bytes}
use Rattle.std.proofs.lemmas.Bool.{and_right}
use Rattle.std.proofs.lemmas.List.Folds.{list_all_at, list_all-map}
use Rattle.trace_types.specs.text.Name.{is_name}
use Rattle.trace_types.specs.world.TenantNames.{are_tenants, can_be_tenants}
use Rattle.trace_types.proofs.tenant_names.TenantNames.read.Goals as goal

pub returns-in_err-names-clause-tenants : goal.returns-in_err-names-clause-tenants
returns-in_err-names-clause-tenants c =
    let none : c.from_residual.result ≡ None = search rules in
    let no_name : is_name (string_bytes c.index-texts-place.result) ≡ false = search rules in
    let not_all = list_all-map is_name string_bytes c.args.texts.now
    ∙ list_all_at (λ text. is_name (string_bytes text)) c.args.texts.now c.loop-place.place c.index-texts-place.result (search rules)
    (ap (λ text. is_name (string_bytes text)) (sym c.index-texts-place.is) ∙ no_name) in
    let no : are_tenants (map string_bytes c.args.texts.now) ≡ false = and_right (can_be_tenants (map string_bytes c.args.texts.now)) _ not_all in
    rw (none, no) (search rules)
