-- One more row of any kind keeps the invariant, where its ids and its tree are in order.
use Rattle.std.proofs.Common.{◌≡◌, ◌≢◌, ◌⊎◌, ℕ, ◌<◌, ◌≤◌, true, false, Bool, IsTrue, ◌∷◌, sym, ap, ◌∙◌, subst, inl, inr, arith}
use Rattle.std.proofs.lemmas.Bool.Decides.{nat_tests}
use Rattle.std.proofs.lemmas.Bool.{true_from_ne_false, cases_Bool, cases_eq}
use Rattle.tenant_ledger.proofs.Words.{Text, History, last_event, is_event, reaches, Clock, id_of, tree_of, acting_id, Row, OwnsSome, Raises, ClockLaws, IsLive, holds, value_of, OneHolder, HolderIsAhead, IsPrivate, HasPrivatePoint, EventsHavePrivatePoints, TreesRise, Invariant}
use Rattle.trace_types.proofs.Reachability.{last_event-le, reaches_earlier}
use Rattle.tenant_ledger.proofs.clock.Events.{known_before_new, tree_of-new, tree_of-older, event_bounds}
use Rattle.tenant_ledger.proofs.clock.Gathered.{Gathers, gathers}
use Rattle.tenant_ledger.proofs.clock.Normal.{acting_id_normal}
use Rattle.tenant_ledger.proofs.clock.Reaching.{new_event, Follows, followed-le, reached_from, reached_from_older, reaches_from_followed}

module _ {Id Tree : Type 0} {clock : Clock Id Tree} {Point : Type 0} {IsNormalId : Id → Type 0} {IsNormalTree : Tree → Type 0}
    (laws : ClockLaws clock Point IsNormalId IsNormalTree) (row : Row) (earlier : History) where
  -- whether the new event is made with an id that owns the point
  abbrev pub is_within : Point → Bool
  is_within point = laws.owns (acting_id clock earlier row) point

  -- the value at the point before the new event, and of it
  abbrev base_value : Point → ℕ
  base_value point = laws.value (known_before_new clock row earlier) point

  abbrev new_value : Point → ℕ
  new_value point = value_of laws (row ∷ earlier) (new_event earlier) point

  -- a task held the point, and the row follows its last event
  pub record WasHeld (point : Point) : Type 0 where
    pub task : Text
    pub held : holds laws earlier task point ≡ true
    pub followed : Follows row earlier (last_event earlier task)

  -- the new event is the task's last one, and its id owns the point
  abbrev pub TookPart : Text → Point → Type 0
  TookPart task point = (last_event (row ∷ earlier) task ≡ new_event earlier) × (is_within point ≡ true)

  -- the task held the point before, its last event is the same, and the new event's id does not own the point
  abbrev pub StoodBy : Text → Point → Type 0
  StoodBy task point = (last_event (row ∷ earlier) task ≡ last_event earlier task) × (holds laws earlier task point ≡ true) × (is_within point ≡ false)

  -- what is asked of the ids with which the new event is made, and which it leaves
  pub record IsInOrder : Type 0 where
    pub id_some : OwnsSome laws.owns (acting_id clock earlier row)
    pub was_held : (point : Point) → is_within point ≡ true → WasHeld point
    pub holders : (task : Text) (point : Point) → holds laws (row ∷ earlier) task point ≡ true → TookPart task point ⊎ StoodBy task point
    pub one_within : (task other : Text) (point : Point) → is_within point ≡ true
        → holds laws (row ∷ earlier) task point ≡ true → holds laws (row ∷ earlier) other point ≡ true → task ≡ other
    pub live_some : (task : Text) → IsLive (row ∷ earlier) task → OwnsSome laws.owns (id_of clock (row ∷ earlier) task)

  value_of-new : (event : ℕ) (point : Point) → event ≡ new_event earlier → value_of laws (row ∷ earlier) event point ≡ new_value point
  value_of-new event point new = ap (λ e. value_of laws (row ∷ earlier) e point) new

  value_of-older : (event : ℕ) (point : Point) → event ≢ new_event earlier → value_of laws (row ∷ earlier) event point ≡ value_of laws earlier event point
  value_of-older event point older = ap (λ tree. laws.value tree point) (tree_of-older clock row earlier event older)

  module _ (before : Invariant laws earlier) (new : IsInOrder) where
    gathered : Gathers laws row earlier (known_before_new clock row earlier)
    gathered = gathers laws row earlier before.normal.trees

    -- the new event's tree is above what is known before it at some point of its id, and nowhere else
    pub new_raises : Raises laws.owns laws.value IsNormalTree (acting_id clock earlier row) (known_before_new clock row earlier) (tree_of clock (row ∷ earlier) (new_event earlier))
    new_raises = subst (Raises laws.owns laws.value IsNormalTree (acting_id clock earlier row) (known_before_new clock row earlier)) (sym (tree_of-new clock row earlier))
        (laws.event_raises (acting_id clock earlier row) (known_before_new clock row earlier) (acting_id_normal laws row earlier) new.id_some gathered.normal)

    raised_within : is_within new_raises.rises.0 ≡ true
    raised_within = true_from_ne_false _ λ outside. omega (arith, new_raises.rises.1, new_raises.outside new_raises.rises.0 outside)

    trees_normal : (event : ℕ) → IsNormalTree (tree_of clock (row ∷ earlier) event)
    trees_normal event = elim (cases_eq event (new_event earlier)) [
      | inl is ↦ subst (λ e. IsNormalTree (tree_of clock (row ∷ earlier) e)) (sym is) new_raises.normal
      | inr older ↦ subst IsNormalTree (sym (tree_of-older clock row earlier event older)) (before.normal.trees event)
    ]

    one_holder : OneHolder laws (row ∷ earlier)
    one_holder task other point held other_held =
        grind (arith, nat_tests, new.holders task point held, new.holders other point other_held, new.one_within task other point, before.one_holder task other point)

    -- at a point of its id no event before knows more than is known before the new one
    all_below : (point : Point) → is_within point ≡ true → (event : ℕ) → value_of laws earlier event point ≤ base_value point
    all_below point within event =
        let was : WasHeld point = new.was_held point within in
        let ahead : value_of laws earlier event point ≤ value_of laws earlier (last_event earlier was.task) point = before.holder_is_ahead was.task point was.held event in
        omega (arith, ahead, gathered.followed_below (last_event earlier was.task) was.followed point)

    new_is_ahead : (point : Point) → is_within point ≡ true → (event : ℕ) → value_of laws (row ∷ earlier) event point ≤ new_value point
    new_is_ahead point within event =
        grind (arith, nat_tests, value_of-new event point, value_of-older event point, all_below point within event, new_raises.above point)

    -- a holder stays ahead of all events at a point that the new event does not raise
    stays_ahead : (task : Text) (point : Point) → holds laws earlier task point ≡ true → is_within point ≡ false → (event : ℕ)
        → value_of laws (row ∷ earlier) event point ≤ value_of laws earlier (last_event earlier task) point
    stays_ahead task point held outside event =
        let from = gathered.from_followed point in
        let ahead = before.holder_is_ahead task point held in
        grind (arith, nat_tests, value_of-new event point, value_of-older event point, new_raises.outside point outside, from.2, ahead from.0, ahead event)

    holder_is_ahead : HolderIsAhead laws (row ∷ earlier)
    holder_is_ahead task point held event =
        let value_at = λ (last : ℕ). value_of laws (row ∷ earlier) last point in
        let not_new : last_event earlier task ≢ new_event earlier = λ is. omega (arith, last_event-le earlier task, is) in
        elim (new.holders task point held) [
          | inl took ↦ omega (arith, ap value_at took.0, new_is_ahead point took.1 event)
          | inr stood ↦ omega (arith, ap value_at stood.0, value_of-older (last_event earlier task) point not_new, stays_ahead task point stood.1 stood.2 event)
        ]

    -- the new event knows as much of a point as an event before it only where one that its row follows does
    followed_knows : (event : ℕ) (point : Point) → value_of laws earlier event point ≤ new_value point
        → (other : ℕ) × Follows row earlier other × (value_of laws earlier event point ≤ value_of laws earlier other point)
    followed_knows event point known = elim (cases_Bool (is_within point)) [
      | inl within ↦ let was = new.was_held point within in (last_event earlier was.task, was.followed, before.holder_is_ahead was.task point was.held event)
      | inr outside ↦ let from = gathered.from_followed point in (from.0, from.1, omega (arith, known, new_raises.outside point outside, from.2))
    ]

    -- each point of its id that the new event raises is private to it
    pub raised_is_private : (point : Point) → is_within point ≡ true → base_value point < new_value point
        → IsPrivate laws (row ∷ earlier) (new_event earlier) point
    raised_is_private point within higher other known = elim (cases_eq other (new_event earlier)) [
      | inl is ↦ grind (arith, nat_tests, is)
      | inr older ↦ absurd (omega (arith, known, value_of-older other point older, all_below point within other, higher))
    ]

    -- a point that is private to an event stays so
    pub stays_private : (event : ℕ) → IsTrue (is_event earlier event) → (point : Point) → IsPrivate laws earlier event point
        → IsPrivate laws (row ∷ earlier) event point
    stays_private event is_old point private other known =
        let bounds = event_bounds earlier event is_old in
        let same = value_of-older event point (λ is. omega (arith, bounds.1, is)) in
        elim (cases_eq other (new_event earlier)) [
          | inl is ↦
              let follows = followed_knows event point (omega (arith, known, same, value_of-new other point is)) in
              subst (λ e. reaches (row ∷ earlier) event e ≡ true) (sym is)
              (reaches_from_followed row earlier event (λ zero. omega (arith, zero, bounds.0)) (follows.0, follows.1, private follows.0 follows.2))
          | inr older ↦ reaches_earlier row earlier event other older ∙ private other (omega (arith, known, same, value_of-older other point older))
        ]

    private_points : EventsHavePrivatePoints laws (row ∷ earlier)
    private_points event is_one = elim (cases_eq event (new_event earlier)) [
      | inl is ↦ subst (HasPrivatePoint laws (row ∷ earlier)) (sym is) (new_raises.rises.0, raised_is_private new_raises.rises.0 raised_within new_raises.rises.1)
      | inr older ↦
          let is_old : IsTrue (is_event earlier event) = grind (arith, nat_tests, older, is_one) in
          let private = before.private_points event is_old in
          (private.0, stays_private event is_old private.0 private.1)
    ]

    trees_rise : TreesRise laws (row ∷ earlier)
    trees_rise event other reached point = elim (reached_from row earlier event other reached) [
      | inl same ↦ omega (arith, ap (λ e. value_of laws (row ∷ earlier) e point) same)
      | inr earlier_one ↦ elim earlier_one [
        | inl (last, (followed, follows, known)) ↦
            let older = reached_from_older earlier event followed (λ is. omega (arith, followed-le row earlier followed follows, is)) known in
            let rises = before.trees_rise event followed known point in
            let below = gathered.followed_below followed follows point in
            omega (arith, value_of-older event point older, value_of-new other point last, rises, below, new_raises.above point)
        | inr (other_older, known) ↦
            let older = reached_from_older earlier event other other_older known in
            omega (arith, value_of-older event point older, value_of-older other point other_older, before.trees_rise event other known point)
      ]
    ]

    -- one more row that is in order keeps the invariant
    pub keeps_invariant : Invariant laws (row ∷ earlier)
    keeps_invariant = search (trees_normal, one_holder, holder_is_ahead, private_points, trees_rise)
