-- What operations of a desk make of what is published.
use Rattle.std.proofs.Common.{◌≡◌, ◌↔◌, ◌<◌, ℕ, Bool, true, false, IsTrue, MatchBool, List, [], ◌∷◌, ◌++◌, length, fold, refl, ap, sym, subst, ◌∙◌, arith}
use Rattle.std.proofs.lemmas.Bool.{false≢true}
use Rattle.std.specs.Prelude.{Option, Some, None}
use Rattle.left_right.specs.Register.{TurnsAt}
use Rattle.trace_types.specs.tenant.Limits.{Limits}
use Rattle.tenant_ledger.proofs.keeping.Kept.{new_is_kept}
use Rattle.tenant_ledger.specs.Ledger.{Contents, Event, IsKept, with_event}
use Rattle.tenant_desk.specs.Events.{Published, no_events}
use Rattle.tenant_desk.specs.Histories.{Line, longer_by}
use Rattle.tenant_desk.specs.Publications.{IsFor, IsShown, left_by, with_next, with_some}
use Rattle.tenant_desk.specs.Rules.{Holds, Sees, IsPublished, sight_of}
use Rattle.tenant_desk.specs.declared.published.Operation.{Operation}
use Rattle.tenant_desk.specs.declared.publishing_rule.Sight.{Sight}
use Rattle.tenant_desk.proofs.Steps.{continues_itself, sees}

-- The operation of the next event may be shown.
pub is_for_next : (published : Published) (event : Event) (operation : Operation) → IsPublished published → IsKept (with_event event published.events)
    → operation.event ≡ Some event → operation.front ≡ longer_by event.row published.front → IsFor published operation
is_for_next published event operation sound next is_event is_front =
    let is : left_by published operation ≡ with_next event published = λ i. record { events = with_some (is_event i) published.events; front = is_front i } in
    record {
      sound = rw is (record {
        events = next;
        seeded = omega (arith, sound.seeded);
        rows = ap (λ rows. rows ++ event.row ∷ []) sound.rows;
      });
      continues = rw is (record { of = (refl, refl); begins = (event.row ∷ [], refl) });
    }

-- and so is one without an event
pub is_for_none : (published : Published) (operation : Operation) → IsPublished published
    → operation.event ≡ None → operation.front ≡ published.front → IsFor published operation
is_for_none published operation sound is_event is_front =
    let is : left_by published operation ≡ published = λ i. record { events = with_some (is_event i) published.events; front = is_front i } in
    record {
      sound = rw is sound;
      continues = rw is (continues_itself published);
    }

-- No events are published, and no place knows of them.
pub none_are_published : (events : Contents) (home : List ℕ) (limits : Limits) (front : Line) → events ≡ no_events home limits → front.rows ≡ []
    → IsPublished (record { events = events; front = front })
none_are_published events home limits front none no_rows = record {
  events = subst IsKept (sym none) (new_is_kept home limits 1 (no_events home limits) refl).0;
  seeded = omega (arith, ap (λ (of : Contents). of.kept_ids) none);
  rows = no_rows ∙ ap (λ (of : Contents). of.rows) (sym none);
}

-- An operation may be shown where nothing else waits.
pub turns : (place : ℕ) (known : Option Sight) (published next : Published) (waiting : List Operation) (operation : Operation)
    → IsFor published operation → waiting ≡ operation ∷ [] → next ≡ fold left_by published waiting → TurnsAt Holds place known published next Sees
turns place known published next waiting operation for alone is =
    let made : next ≡ left_by published operation = is ∙ ap (fold left_by published) alone in
    sees place known published next (rw made for.sound) (rw made for.continues)

-- Nothing waits where none is said to wait.
pub none_waits : (waiting : List Operation) (some : Bool) → (IsTrue some ↔ (0 < length waiting)) → some ≡ false → waiting ≡ []
none_waits [] some tells none = refl
none_waits (operation ∷ waiting) some tells none = absurd (false≢true (sym none ∙ tells.1 (omega arith)))

-- What is shown after an operation, or still, is of the same log and is known.
pub still_shown : (shows : Bool) (published next : Published) (known now : Option Sight) (operation : Operation) → IsShown published known → IsFor published operation
    → MatchBool shows (next ≡ left_by published operation) (next ≡ published) → MatchBool shows (now ≡ Some (sight_of next)) (now ≡ known)
    → (next.front.log ≡ published.front.log) × IsShown next now
still_shown true published next known now operation shown for values seen =
    (ap (λ (one : Published). one.front.log) values ∙ for.continues.of.0, record { sound = rw values for.sound; seen = seen })
still_shown false published next known now operation shown for values seen =
    (ap (λ (one : Published). one.front.log) values, rw (values, seen) shown)
