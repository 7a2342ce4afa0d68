-- Tenants by their names.
use Rattle.std.proofs.Common.{◌≡◌, true, false, List, [], ◌∷◌, ◌++◌, ap, sym, ◌∙◌}
use Rattle.std.proofs.lemmas.List.{map-append}
use Rattle.std.proofs.lemmas.List.Elements.{All-push}
use Rattle.std.specs.Prelude.{Some}
use Rattle.trace_types.specs.tenant.Limits.{Limits}
use Rattle.trace_types.specs.text.Name.{Text, is_same}
use Rattle.trace_session.specs.Hubs.{Hub, IsHubOf, Owner, tenant_named}

-- The first tenant has this name.
pub named_here : (name : Text) (tenant : Owner) (others : Hub) → is_same tenant.name name ≡ true → tenant_named name (tenant ∷ others) ≡ Some tenant
named_here name tenant others same = rw same

-- The first tenant has another name.
pub named_later : (name : Text) (tenant : Owner) (others : Hub) → is_same tenant.name name ≡ false → tenant_named name (tenant ∷ others) ≡ tenant_named name others
named_later name tenant others other = rw other

-- A hub with one tenant more.
pub one_more : (names : List Text) (limits : Limits) (hub : Hub) (name : Text) (tenant : Owner) → IsHubOf names limits hub → tenant.name ≡ name → tenant.limits ≡ limits → tenant.log.tenant ≡ name → IsHubOf (names ++ name ∷ []) limits (hub ++ tenant ∷ [])
one_more names limits hub name tenant is named bounded logged = record {
  named =
      map-append (λ (one : Owner). one.name) hub (tenant ∷ [])
      ∙ ap (λ front. front ++ tenant.name ∷ []) is.named ∙ ap (λ (text : Text). names ++ text ∷ []) named;
  limited = All-push (λ (one : Owner). one.limits ≡ limits) hub tenant is.limited bounded;
  logged = All-push (λ (one : Owner). one.log.tenant ≡ one.name) hub tenant is.logged (logged ∙ sym named);
}
