-- The steps of a desk and of its views keep the rule over what is published.
use Rattle.std.proofs.Common.{◌≡◌, ℕ, ◌≢◌, List, set, refl, sym, ◌∙◌, subst, ⊎_elim}
use Rattle.std.specs.Prelude.{Option, Some, None}
use mathlib.Core.Option.{some}
use lib.ListN.{get_elem?}
use Rattle.left_right.specs.Register.{Admits, TurnsAt, Forks, Merges}
use Rattle.atomic_table.proofs.Lists.{at_set, at_snoc}
use Rattle.tenant_desk.specs.Rules.{Fits, Continues, IsPublished, Holds, Sees, sight_of}
use Rattle.tenant_desk.specs.Events.{Published}
use Rattle.tenant_desk.specs.declared.publishing_rule.Sight.{Sight}
use Rattle.tenant_desk.proofs.Beginnings.{begins_with_itself, begins_through}

pub continues_itself : (published : Published) → Continues published published
continues_itself published = record { of = (refl, refl); begins = begins_with_itself published.front.rows }

fits_next : (before after : Published) (known : Option Sight) → Continues before after → Fits before known → Fits after known
fits_next before after None continues fits = tt
fits_next before after (Some sight) continues fits = (
  (fits.0.0 ∙ sym continues.of.0, fits.0.1 ∙ sym continues.of.1),
  begins_through sight.front.rows before.front.rows after.front.rows fits.1 continues.begins,
)

pub fits_seen : (published : Published) → Fits published (Some (sight_of published))
fits_seen published = ((refl, refl), begins_with_itself published.front.rows)

-- a place that knows nothing may come
pub admits : Admits Holds None
admits published known holds =
    (holds.0, λ place sight at. ⊎_elim (holds.1 place sight) (λ (is : None ≡ sight). subst (Fits published) is tt) (at_snoc known None sight place at))

-- a step may publish what continues what was there, and sees all of it
pub sees : (place : ℕ) (known : Option Sight) (before after : Published) → IsPublished after → Continues before after → TurnsAt Holds place known before after Sees
sees place known before after sound continues others holds at =
    let now : Option Sight = Some (sight_of after) in (
      now,
      (
        sound,
        λ other sight is. ⊎_elim (λ (here : (other ≡ place) × (now ≡ sight)). subst (Fits after) here.1 (fits_seen after))
            (λ (there : (other ≢ place) × (get_elem? others other ≡ some sight)). fits_next before after sight continues (holds.1 other sight there.1))
            (at_set others place other now sight is),
      ),
      (sound, refl, fits_next before after known continues (holds.1 place known at)),
    )

-- and so where it publishes nothing
pub looks : (place : ℕ) (known : Option Sight) (published : Published) → TurnsAt Holds place known published published Sees
looks place known published others holds at = sees place known published published holds.0 (continues_itself published) others holds at

set_keeps : (published : Published) (others : List (Option Sight)) (place : ℕ) (now : Option Sight) → Holds published others → Fits published now
    → Holds published (set others place now)
set_keeps published others place now holds fits = (
  holds.0,
  λ other sight is. ⊎_elim (λ (here : (other ≡ place) × (now ≡ sight)). subst (Fits published) here.1 fits)
      (λ (there : (other ≢ place) × (get_elem? others other ≡ some sight)). holds.1 other sight there.1)
      (at_set others place other now sight is),
)

-- what a place knows may be noted
pub forks : (place : ℕ) (known : Option Sight) → Forks Holds place known known known
forks place known published others holds at =
    let fits = holds.1 place known at in
    let kept : Holds published (set others place known) = set_keeps published others place known holds fits in (
      kept.0,
      λ other sight is. ⊎_elim (kept.1 other sight) (λ (same : known ≡ sight). subst (Fits published) same fits) (at_snoc (set others place known) known sight other is),
    )

-- and another may take the note over
pub merges : (place : ℕ) (known : Option Sight) (other : ℕ) (noted : Option Sight) → Merges Holds place known other noted noted None
merges place known other noted published others holds at apart there =
    let fits : Fits published noted = ⊎_elim (λ (here : (other ≡ place) × (noted ≡ noted)). absurd (apart here.0))
    (λ (away : (other ≢ place) × (get_elem? others other ≡ some noted)). holds.1 other noted away.1)
    (at_set others place other noted noted there) in
    set_keeps published (set others place noted) other None (set_keeps published others place noted holds fits) tt
