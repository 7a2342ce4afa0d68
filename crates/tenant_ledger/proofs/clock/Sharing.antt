-- What each report does with the ids: it leaves one holder to each point, and a live task some.
use Rattle.std.proofs.Common.{◌≡◌, ◌⊎◌, ℕ, true, false, IsTrue, List, ◌∷◌, Option, Some, None, refl, sym, ◌∙◌, inl, inr, arith}
use Rattle.std.proofs.lemmas.Bool.Decides.{nat_tests}
use Rattle.std.proofs.lemmas.Bool.{false≢true, cases_Bool, or_left, or_cases}
use Rattle.tenant_ledger.proofs.Words.{Text, is_same, History, names, is_known, is_ended, Clock, id_of, id_kept, acting_id, of_named, Row, Kind, Spawn, Join, ClockLaws, OwnsSome, IsLive, AllowsNamed, IsLegal, holds, Invariant}
use Rattle.trace_types.proofs.Names.{is_same_iff, differ_by_test}
use Rattle.tenant_ledger.proofs.clock.Normal.{id_of_normal}
use Rattle.tenant_ledger.proofs.clock.OneMore.{is_within, WasHeld, TookPart, StoodBy, IsInOrder}
use Rattle.tenant_ledger.proofs.clock.Tasks.{last_event-acting, was_live, unknown_has_no_event}

module _ {Id Tree : Type 0} {clock : Clock Id Tree} {Point : Type 0} {IsNormalId : Id → Type 0} {IsNormalTree : Tree → Type 0}
    (laws : ClockLaws clock Point IsNormalId IsNormalTree) (row : Row) (earlier : History) where
  -- the id that the row leaves its task
  abbrev pub kept : Id
  kept = id_kept clock row.kind (id_of clock earlier row.task) (of_named clock.nobody (id_of clock earlier) row.name)

  -- the row names the task, which has the point from it
  abbrev pub IsGiven : Text → Point → Type 0
  IsGiven task point = (names row task ≡ true) × (TookPart laws row earlier task point × (laws.owns kept point ≡ false))

  -- what is asked of the ids
  pub record SharesOut : Type 0 where
    pub id_some : OwnsSome laws.owns (acting_id clock earlier row)
    pub was_held : (point : Point) → is_within laws row earlier point ≡ true → WasHeld laws row earlier point
    pub kept_within : (point : Point) → laws.owns kept point ≡ true → is_within laws row earlier point ≡ true
    pub kept_some : OwnsSome laws.owns kept
    pub others : (task : Text) (point : Point) → is_same row.task task ≡ false → holds laws (row ∷ earlier) task point ≡ true
        → IsGiven task point ⊎ StoodBy laws row earlier task point
    pub others_some : (task : Text) → is_same row.task task ≡ false → IsLive (row ∷ earlier) task → OwnsSome laws.owns (id_of clock (row ∷ earlier) task)

  named_once : (name : Option Text) (one other : Text) → names (record row { name = name }) one ≡ true → names (record row { name = name }) other ≡ true → one ≡ other
  named_once None one other is is_too = absurd (false≢true is)
  named_once (Some name) one other is is_too = sym ((is_same_iff name one).0 is) ∙ (is_same_iff name other).0 is_too

  module _ (shares : SharesOut) where
    holders : (task : Text) (point : Point) → holds laws (row ∷ earlier) task point ≡ true → TookPart laws row earlier task point ⊎ StoodBy laws row earlier task point
    holders task point held = grind (arith, nat_tests, is_same_iff row.task task, shares.others task point, last_event-acting row earlier task, shares.kept_within point)

    one_within : (task other : Text) (point : Point) → is_within laws row earlier point ≡ true
        → holds laws (row ∷ earlier) task point ≡ true → holds laws (row ∷ earlier) other point ≡ true → task ≡ other
    one_within task other point within held other_held =
        grind (arith, nat_tests, is_same_iff row.task task, is_same_iff row.task other, shares.others task point, shares.others other point, named_once row.name task other)

    live_some : (task : Text) → IsLive (row ∷ earlier) task → OwnsSome laws.owns (id_of clock (row ∷ earlier) task)
    live_some task live = elim (cases_Bool (is_same row.task task)) [
      | inl acts ↦ rw (acts, sym ((is_same_iff row.task task).0 acts)) shares.kept_some
      | inr differ ↦ shares.others_some task differ live
    ]

    pub shared_is_in_order : IsInOrder laws row earlier
    shared_is_in_order = record { id_some = shares.id_some; was_held = shares.was_held; holders = holders; one_within = one_within; live_some = live_some }

module _ {Id Tree : Type 0} {clock : Clock Id Tree} {Point : Type 0} {IsNormalId : Id → Type 0} {IsNormalTree : Tree → Type 0}
    (laws : ClockLaws clock Point IsNormalId IsNormalTree) (task : Text) (preds : List ℕ) (earlier : History)
    (before : Invariant laws earlier) (legal : IsLegal earlier) (live : IsLive earlier task) where
  abbrev row : Kind → Option Text → Row
  row kind name = record { task = task; kind = kind; name = name; preds = preds }

  abbrev own : Id
  own = id_of clock earlier task

  own_some : OwnsSome laws.owns own
  own_some = before.normal.some task live

  -- no other task holds a point of the acting task's id
  own_apart : (other : Text) → is_same task other ≡ false → (point : Point) → holds laws earlier other point ≡ true → laws.owns own point ≡ true → ⊥
  own_apart other differ point held owned = differ_by_test task other differ (before.one_holder task other point owned held)

  spawning : (child : Text) → is_known earlier child ≡ false → SharesOut laws (row Spawn (Some child)) earlier
  spawning child new =
      let parts_some = laws.split_some own (id_of_normal laws earlier task) own_some in
      record {
        id_some = own_some;
        was_held = λ point within. record { task = task; held = within; followed = inl refl };
        kept_within = λ point in_first. sym (laws.split_owns own point) ∙ or_left (laws.owns (clock.split own).0 point) _ in_first;
        kept_some = parts_some.0;
        others = λ other point differ held.
            grind (arith, nat_tests, is_same_iff child other, unknown_has_no_event earlier other legal, laws.split_owns own point, laws.split_apart own point, own_apart other differ point);
        others_some = λ other differ live_after. elim (cases_Bool (is_same child other)) [
          | inl named ↦ rw (differ, named) parts_some.1
          | inr not_named ↦ rw (differ, not_named) (before.normal.some other (was_live (row Spawn (Some child)) earlier other not_named live_after))
        ];
      }

  joining : (child : Text) → IsTrue (is_ended earlier child) → SharesOut laws (row Join (Some child)) earlier
  joining child ended =
      let sum_owns = laws.sum_owns own (id_of clock earlier child) in
      let sum_some : OwnsSome laws.owns (clock.sum own (id_of clock earlier child)) = (own_some.0, sum_owns own_some.0 ∙ or_left _ _ own_some.1) in
      record {
        id_some = sum_some;
        was_held = λ point within. elim (or_cases _ _ (sym (sum_owns point) ∙ within)) [
          | inl by_acting ↦ record { task = task; held = by_acting; followed = inl refl }
          | inr by_child ↦ record { task = child; held = by_child; followed = inr refl }
        ];
        kept_within = λ point held. held;
        kept_some = sum_some;
        others = λ other point differ held.
            grind (arith, nat_tests, is_same_iff child other, laws.nobody_owns point, sum_owns point, own_apart other differ point, before.one_holder child other point);
        others_some = λ other differ live_after.
            let was = was_live (row Join (Some child)) earlier other refl live_after in
            let not_taken : is_same child other ≡ false = grind (arith, nat_tests, is_same_iff child other, was.1, ended) in
            rw (differ, not_taken) (before.normal.some other was);
      }

  -- an allowed report shares the ids out: any but these two changes none
  shares_out : (kind : Kind) (name : Option Text) → AllowsNamed earlier kind name → SharesOut laws (row kind name) earlier
  shares_out Spawn (Some child) new = spawning child new
  shares_out Join (Some child) allowed = joining child allowed.1
  shares_out Spawn None allowed = absurd allowed
  shares_out Join None allowed = absurd allowed
  shares_out kind name allowed = record {
    id_some = own_some;
    was_held = λ point within. record { task = task; held = within; followed = inl refl };
    kept_within = λ point held. held;
    kept_some = own_some;
    others = λ other point differ held. inr (grind (arith, nat_tests, own_apart other differ point));
    others_some = λ other differ live_after.
        grind (arith, nat_tests, before.normal.some other (was_live (row kind name) earlier other refl live_after));
  }

  pub allowed_is_in_order : (kind : Kind) (name : Option Text) → AllowsNamed earlier kind name → IsInOrder laws (row kind name) earlier
  allowed_is_in_order kind name allowed = shared_is_in_order laws (row kind name) earlier (shares_out kind name allowed)
