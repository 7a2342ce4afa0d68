-- Which side of a node is grown, from the sides' costs and a price.
use Rattle.std.proofs.Common.{◌≡◌, ℕ, ◌+◌, ◌<◌, ◌⊎◌, true, false, is_some, Option, Some, None, inl, inr, refl, ap, arith}
use Rattle.std.proofs.lemmas.Bool.{cases_Bool}
use Rattle.trace_types.specs.clock.Grow.{Cost}
use Rattle.trace_types.specs.clock.Grow.{is_less, is_cheaper, cheaper, dearer}
use Rattle.event_tree.specs.GrownFor.{costs}

-- where a lesser cost is not below a price, a greater is not
less_chain : (a b q : Cost) → is_less a b ≡ true → is_less a q ≡ false → is_less b q ≡ false
less_chain a b q one other = grind arith

-- and what is not below a cost that is not below another is not below that
not_less_chain : (a b q : Cost) → is_less a b ≡ false → is_less b q ≡ false → is_less a q ≡ false
not_less_chain a b q one other = grind arith

-- after the same step costs stand as before it
less_further : (more : ℕ) (a p q : Cost) → p.expansions ≡ q.expansions + more → p.steps ≡ q.steps + 1 → is_less (record { expansions = a.expansions + more; steps = a.steps + 1 }) p ≡ is_less a q
less_further more a p q e s = grind arith

costs_further : (more : ℕ) (a p q : Cost) → p.expansions ≡ q.expansions + more → p.steps ≡ q.steps + 1 → costs p (Some (record { expansions = a.expansions + more; steps = a.steps + 1 })) ≡ costs q (Some a)
costs_further more a p q e s = grind arith

-- what costs a price is that price
costs_is : (a q : Cost) → costs q (Some a) ≡ true → a ≡ q
costs_is a q same = grind arith

-- what is not below a price, and is not the price, is above it
dearer_than : (b q : Cost) → is_less b q ≡ false → costs q (Some b) ≡ false → is_less q b ≡ true
dearer_than b q one other = grind arith

module _ (more : ℕ) (p q : Cost) (expansions : p.expansions ≡ q.expansions + more) (steps : p.steps ≡ q.steps + 1) where
  -- a price after a step tells what the price told before it
  pub is_cheaper-further : (x : Option Cost) → is_cheaper (dearer more 1 x) (Some p) ≡ is_cheaper x (Some q)
  is_cheaper-further None = refl
  is_cheaper-further (Some a) = less_further more a p q expansions steps

  pub costs-further : (x : Option Cost) → costs p (dearer more 1 x) ≡ costs q x
  costs-further None = refl
  costs-further (Some a) = costs_further more a p q expansions steps

-- nothing that takes a step more costs a price that a step uses up
costs_spent : (more : ℕ) (a p : Cost) → (p.expansions < more) ⊎ (p.steps ≡ 0) → costs p (Some (record { expansions = a.expansions + more; steps = a.steps + 1 })) ≡ false
costs_spent more a p spent = grind arith

pub costs-spent : (p : Cost) (more : ℕ) (x : Option Cost) → (p.expansions < more) ⊎ (p.steps ≡ 0) → costs p (dearer more 1 x) ≡ false
costs-spent p more None spent = refl
costs-spent p more (Some a) spent = costs_spent more a p spent

-- what is not below the price, while the cheaper is not
pub first_not_cheaper : (a b : Option Cost) (q : Cost) → is_cheaper (cheaper a b) (Some q) ≡ false → is_cheaper a (Some q) ≡ false
first_not_cheaper None b q least = refl
first_not_cheaper (Some a) None q least = least
first_not_cheaper (Some a) (Some b) q least =
    elim (cases_Bool (is_less a b)) [
      | inl is_so ↦ rw is_so at least
      | inr is_not ↦ not_less_chain a b q is_not (rw is_not at least)
    ]

pub second_not_cheaper : (a b : Option Cost) (q : Cost) → is_cheaper (cheaper a b) (Some q) ≡ false → is_cheaper b (Some q) ≡ false
second_not_cheaper a None q least = refl
second_not_cheaper None (Some b) q least = least
second_not_cheaper (Some a) (Some b) q least =
    elim (cases_Bool (is_less a b)) [
      | inl is_so ↦ less_chain a b q is_so (rw is_so at least)
      | inr is_not ↦ rw is_not at least
    ]

pub costs-is : (a : Option Cost) (q : Cost) → costs q a ≡ true → a ≡ Some q
costs-is None q same = absurd (cc)
costs-is (Some a) q same = ap Some (costs_is a q same)

pub costs-itself : (q : Cost) → costs q (Some q) ≡ true
costs-itself q = grind arith

-- where the second is had at the price, and the first for no less, the second is taken
pub second_taken : (a b : Option Cost) (q : Cost) → is_cheaper a (Some q) ≡ false → costs q b ≡ true → is_cheaper a b ≡ false
second_taken a b q least at_price = rw (costs-is b q at_price) least

-- where only the first is, the first is taken
pub first_taken : (a b : Option Cost) (q : Cost) → is_cheaper b (Some q) ≡ false → costs q b ≡ false → costs q a ≡ true → is_cheaper a b ≡ true
first_taken a None q least differs at_price = rw (costs-is a q at_price) refl
first_taken a (Some b) q least differs at_price = rw (costs-is a q at_price) (dearer_than b q least differs)

-- where neither is, the cheaper is not
pub neither_taken : (a b : Option Cost) (q : Cost) → costs q a ≡ false → costs q b ≡ false → costs q (cheaper a b) ≡ false
neither_taken a b q one other = elim (cases_Bool (is_cheaper a b)) [ inl is_so ↦ rw is_so one | inr is_not ↦ rw is_not other ]

-- what can be had on the cheaper side can be had there
pub side_had : (more : ℕ) (a b : Option Cost) → is_some (dearer more 1 (cheaper a b)) ≡ true → ((is_cheaper a b ≡ true) × (is_some a ≡ true)) ⊎ ((is_cheaper a b ≡ false) × (is_some b ≡ true))
side_had more None None had = absurd (cc)
side_had more None (Some b) had = inr (refl, refl)
side_had more (Some a) None had = inl (refl, refl)
side_had more (Some a) (Some b) had = elim (cases_Bool (is_less a b)) [ inl is_so ↦ inl (is_so, refl) | inr is_not ↦ inr (is_not, refl) ]

-- where either side can be had, so can the node
pub had_either : (more : ℕ) (a b : Option Cost) → (is_some a ≡ true) ⊎ (is_some b ≡ true) → is_some (dearer more 1 (cheaper a b)) ≡ true
had_either more None None (inl had) = had
had_either more None None (inr had) = had
had_either more None (Some b) had = refl
had_either more (Some a) None had = refl
had_either more (Some a) (Some b) had = elim (cases_Bool (is_less a b)) [ inl is_so ↦ rw is_so refl | inr is_not ↦ rw is_not refl ]

-- what can be had is cheaper than what cannot
pub cheaper_than_none : (a : Option Cost) → is_some a ≡ true → is_cheaper a None ≡ true
cheaper_than_none None had = absurd (cc)
cheaper_than_none (Some a) had = refl

-- an expansion and a step are a step and then an expansion
pub dearer_twice : (a : Option Cost) → dearer 1 1 a ≡ dearer 1 0 (dearer 0 1 a)
dearer_twice None = refl
dearer_twice (Some a) = grind arith
