-- What events know tells how they stand in the graph; and what the interval tree clock asks of ids and trees holds of those of a legal history.
use Rattle.std.proofs.Common.{length-append, ◌≢◌, ℕ, ◌<◌, ◌≤◌, true, List, ◌++◌, subst, [], ◌∷◌, length, refl, ap, ◌∙◌, inl, inr, arith, ◌≡◌, ◌↔◌, IsTrue, eqb, sym}
use Rattle.std.proofs.lemmas.Bool.Decides.{nat_tests}
use Rattle.std.proofs.lemmas.Bool.{cases_eq, cond_both, false≢true, eqb-true, eqb-false}
use Rattle.tenant_ledger.proofs.Words.{owns, IsPrivate, Text, History, Zero, AreDisjoint, maximum, tree_clock, id_of, tree_of, acting_id, Row, IsLegal, is_event, reaches, order_of, value, Clock, Order, StandsAs, ClockLaws, value_of, Invariant}
use Rattle.trace_types.specs.clock.Points.{Point}
use Rattle.tenant_ledger.specs.Laws.{DecidesReach, IsRaisedBy, known_before_event}
use Rattle.event_tree.proofs.Joined.{maximum-joined-le}
use Rattle.tenant_ledger.proofs.clock.Events.{known_before_new, tree_of-new, tree_of-older}
use Rattle.tenant_ledger.proofs.clock.Gathered.{gathers}
use Rattle.tenant_ledger.proofs.clock.Normal.{acting_id_normal}
use Rattle.tenant_ledger.proofs.clock.OneMore.{raised_is_private, stays_private}
use Rattle.tenant_ledger.proofs.clock.Reaching.{new_event, first_of, second_of, followed-le, reaches_forward}
use Rattle.tenant_ledger.proofs.clock.TreeClock.{tree_clock_laws, some_is_not_Zero, raises}
use Rattle.tenant_ledger.proofs.clock.Upheld.{invariant_upheld, legal_row_in_order}

-- an event knows no more than another exactly where it reaches it
pub below_iff_reaches : {Id Tree : Type 0} {clock : Clock Id Tree} {Point : Type 0} {IsNormalId : Id → Type 0} {IsNormalTree : Tree → Type 0}
    → (laws : ClockLaws clock Point IsNormalId IsNormalTree) (history : History) → Invariant laws history → (a b : ℕ) → IsTrue (is_event history a)
    → ((point : Point) → value_of laws history a point ≤ value_of laws history b point) ↔ IsTrue (reaches history a b)
below_iff_reaches laws history holds a b is =
    let private = holds.private_points a is in
    (λ below. private.1 b (below private.0), λ reached. holds.trees_rise a b reached)

-- each two events' trees stand to each other as the events do in the graph
pub stands_as_ordered : (history : History) → IsLegal history → (a b : ℕ) → IsTrue (is_event history a) → IsTrue (is_event history b)
    → StandsAs (order_of history a b) (tree_of tree_clock history a) (tree_of tree_clock history b)
stands_as_ordered history legal a b a_is b_is =
    let holds = invariant_upheld tree_clock_laws history legal in
    let below = below_iff_reaches tree_clock_laws history holds a b a_is in
    let above = below_iff_reaches tree_clock_laws history holds b a b_is in
    let Stands = λ (order : Order). StandsAs order (tree_of tree_clock history a) (tree_of tree_clock history b) in
    cond_both (eqb a b) _ _ Stands
    (λ same. rw (eqb-true a b same) ((λ point. omega arith), (λ point. omega arith)))
    λ differ. cond_both (reaches history a b) _ _ Stands
    (λ forth. (below.1 forth, λ is_above. eqb-false a b differ (grind (arith, reaches_forward history a b forth, reaches_forward history b a (above.0 is_above)))))
    λ not_forth. cond_both (reaches history b a) _ _ Stands
    (λ back. ((λ is_below. false≢true (sym not_forth ∙ below.0 is_below)), above.1 back))
    (λ not_back. ((λ is_below. false≢true (sym not_forth ∙ below.0 is_below)), (λ is_above. false≢true (sym not_back ∙ above.0 is_above))))

-- the ids of two tasks are disjoint
pub ids_are_disjoint : (history : History) → IsLegal history → (task other : Text) → task ≢ other
    → AreDisjoint (id_of tree_clock history task) (id_of tree_clock history other)
ids_are_disjoint history legal task other differ point held other_held =
    differ ((invariant_upheld tree_clock_laws history legal).one_holder task other point held other_held)

-- each id with which an event is made owns some point
pub acting_id_is_not_Zero : (row : Row) (earlier : History) → IsLegal (row ∷ earlier) → acting_id tree_clock earlier row ≢ Zero
acting_id_is_not_Zero row earlier legal =
    some_is_not_Zero (acting_id tree_clock earlier row) (legal_row_in_order tree_clock_laws row earlier (invariant_upheld tree_clock_laws earlier legal.1) legal).id_some

-- what is known before an event has no value above the number of events, where that holds of each event
known_before_new-le : (row : Row) (earlier : History) → ((event : ℕ) → maximum (tree_of tree_clock earlier event) ≤ event)
    → maximum (known_before_new tree_clock row earlier) ≤ length earlier
known_before_new-le row earlier bounded =
    let first = first_of row earlier in
    let second = second_of row earlier in
    let joined-le = maximum-joined-le 0 (tree_of tree_clock earlier first) 0 (tree_of tree_clock earlier second) in
    grind (arith, nat_tests, joined-le, bounded first, bounded second, followed-le row earlier first (inl refl), followed-le row earlier second (inr refl))

-- no value that an event knows is above its number
pub maximum_of-le : (history : History) → IsLegal history → (event : ℕ) → maximum (tree_of tree_clock history event) ≤ event
maximum_of-le [] legal event = omega arith
maximum_of-le (row ∷ earlier) legal event =
    let bounded = maximum_of-le earlier legal.1 in
    let before = invariant_upheld tree_clock_laws earlier legal.1 in
    let order = legal_row_in_order tree_clock_laws row earlier before legal in
    elim (cases_eq event (new_event earlier)) [
      | inl is ↦
          let base = known_before_new tree_clock row earlier in
          let higher = (raises (acting_id tree_clock earlier row) base (acting_id_normal tree_clock_laws row earlier) order.id_some (gathers tree_clock_laws row earlier before.normal.trees).normal).bounded in
          let same = ap maximum (ap (tree_of tree_clock (row ∷ earlier)) is ∙ tree_of-new tree_clock row earlier) in
          omega (arith, is, same, higher, known_before_new-le row earlier bounded)
      | inr older ↦ omega (arith, ap maximum (tree_of-older tree_clock row earlier event older), bounded event)
    ]

-- so an event may be made of what is known before it, as long as there are few
pub known_before_maximum-le : (row : Row) (earlier : History) → IsLegal earlier → maximum (known_before_new tree_clock row earlier) ≤ length earlier
known_before_maximum-le row earlier legal = known_before_new-le row earlier (maximum_of-le earlier legal)

-- a point that the event of a row raised is private to it, however the history goes on
private_in : (later : List Row) (row : Row) (earlier : History) → IsLegal (later ++ row ∷ earlier) → (point : Point)
    → owns (acting_id tree_clock earlier row) point ≡ true
    → value (known_before_event row earlier) point < value (tree_of tree_clock (later ++ row ∷ earlier) (new_event earlier)) point
    → IsPrivate tree_clock_laws (later ++ row ∷ earlier) (new_event earlier) point
private_in [] row earlier legal point owned raised =
    let before = invariant_upheld tree_clock_laws earlier legal.1 in
    raised_is_private tree_clock_laws row earlier before (legal_row_in_order tree_clock_laws row earlier before legal) point owned raised
private_in (next ∷ later) row earlier legal point owned raised =
    let whole = later ++ row ∷ earlier in
    let event = new_event earlier in
    let before = invariant_upheld tree_clock_laws whole legal.1 in
    let within : event ≤ length whole = omega (arith, length-append later (row ∷ earlier)) in
    let same = tree_of-older tree_clock next whole event (λ newest. omega (arith, newest, within)) in
    stays_private tree_clock_laws next whole before (legal_row_in_order tree_clock_laws next whole before legal) event (grind (arith, nat_tests, within)) point
    (private_in later row earlier legal.1 point owned (omega (arith, raised, ap (λ tree. value tree point) same)))

pub decides_reach : (history : History) → IsLegal history → (event : ℕ) (point : Point) → IsRaisedBy history event point → DecidesReach history event point
decides_reach history legal event point raised other =
    let whole = raised.later ++ raised.row ∷ raised.earlier in
    let same = ap (λ h. tree_of tree_clock h event) raised.rows ∙ ap (tree_of tree_clock whole) raised.number in
    let private = private_in raised.later raised.row raised.earlier (subst IsLegal raised.rows legal) point raised.raised.owned
    (omega (arith, raised.raised.raised, ap (λ tree. value tree point) same)) in
    let here = subst (λ h. IsPrivate tree_clock_laws h event point) (sym raised.rows)
    (subst (λ e. IsPrivate tree_clock_laws whole e point) (sym raised.number) private) in
    (here other, λ reached. (invariant_upheld tree_clock_laws history legal).trees_rise event other reached point)
