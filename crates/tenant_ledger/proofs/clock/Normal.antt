-- Ids are normal, whatever the rows.
use Rattle.std.proofs.Common.{[], ◌∷◌, Option, Some, None}
use Rattle.std.proofs.lemmas.Bool.{cond_both}
use Rattle.tenant_ledger.proofs.Words.{Text, is_same, root, History, names, Clock, id_of, id_at, id_kept, id_given, of_named, acting_id, Row, Kind, Spawn, Join, ClockLaws}

module _ {Id Tree : Type 0} {clock : Clock Id Tree} {Point : Type 0} {IsNormalId : Id → Type 0} {IsNormalTree : Tree → Type 0}
    (laws : ClockLaws clock Point IsNormalId IsNormalTree) where
  id_at_normal : (kind : Kind) (own named : Id) → IsNormalId own → IsNormalId named → IsNormalId (id_at clock kind own named)
  id_at_normal Join own named own_normal named_normal = laws.sum_normal own named own_normal named_normal
  id_at_normal kind own named own_normal named_normal = own_normal

  id_kept_normal : (kind : Kind) (own named : Id) → IsNormalId own → IsNormalId named → IsNormalId (id_kept clock kind own named)
  id_kept_normal Spawn own named own_normal named_normal = (laws.split_normal own own_normal).0
  id_kept_normal Join own named own_normal named_normal = laws.sum_normal own named own_normal named_normal
  id_kept_normal kind own named own_normal named_normal = own_normal

  id_given_normal : (kind : Kind) (own named : Id) → IsNormalId own → IsNormalId named → IsNormalId (id_given clock kind own named)
  id_given_normal Spawn own named own_normal named_normal = (laws.split_normal own own_normal).1
  id_given_normal Join own named own_normal named_normal = laws.nobody_normal
  id_given_normal kind own named own_normal named_normal = named_normal

  of_named_normal : (id : Text → Id) → ((task : Text) → IsNormalId (id task)) → (name : Option Text) → IsNormalId (of_named clock.nobody id name)
  of_named_normal id normal None = laws.nobody_normal
  of_named_normal id normal (Some name) = normal name

  pub id_of_normal : (history : History) (task : Text) → IsNormalId (id_of clock history task)
  id_of_normal [] task = cond_both (is_same task root) _ _ IsNormalId (λ _. laws.whole_normal) (λ _. laws.nobody_normal)
  id_of_normal (row ∷ earlier) task =
      let before = id_of_normal earlier in
      cond_both (is_same row.task task) _ _ IsNormalId (λ _. id_kept_normal row.kind _ _ (before task) (of_named_normal (id_of clock earlier) before row.name))
      λ _. cond_both (names row task) _ _ IsNormalId (λ _. id_given_normal row.kind _ _ (before row.task) (before task)) (λ _. before task)

  pub acting_id_normal : (row : Row) (earlier : History) → IsNormalId (acting_id clock earlier row)
  acting_id_normal row earlier =
      id_at_normal row.kind _ _ (id_of_normal earlier row.task) (of_named_normal (id_of clock earlier) (id_of_normal earlier) row.name)
