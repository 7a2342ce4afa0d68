-- What one row more makes of the tasks: which are known and ended, and their last events.
use Rattle.std.proofs.lemmas.Bool.Decides.{nat_tests}
use Rattle.std.proofs.Common.{◌≡◌, suc, true, false, [], ◌∷◌, length, refl, arith}
use Rattle.std.specs.List.{list_any}
use Rattle.std.proofs.lemmas.Bool.{ne_eqb, or_parts}
use Rattle.tenant_ledger.proofs.Words.{Text, is_same, History, newest, is_of, starts, ends, last_event, is_known, is_ended, Row, IsLive, IsLegal}
use Rattle.trace_types.proofs.Names.{is_same_iff}

-- the acting task's last event is the new one
pub last_event-acting : (row : Row) (earlier : History) (task : Text) → is_same row.task task ≡ true → last_event (row ∷ earlier) task ≡ suc (length earlier)
last_event-acting row earlier task acts = rw (acts, ne_eqb (suc (length earlier)) 0 (λ zero. omega (arith, zero))) refl

-- so is that of a task that the row starts
pub last_event-started : (row : Row) (earlier : History) (task : Text) → is_same row.task task ≡ false → newest (is_of task) earlier ≡ 0
    → starts task row ≡ true → last_event (row ∷ earlier) task ≡ suc (length earlier)
last_event-started row earlier task other none starts_it = rw (other, none, starts_it) refl

-- any other task keeps its last event
pub last_event-bystander : (row : Row) (earlier : History) (task : Text) → is_same row.task task ≡ false → starts task row ≡ false
    → last_event (row ∷ earlier) task ≡ last_event earlier task
last_event-bystander row earlier task other not_started = rw (other, not_started) refl

-- a live task that the row does not start was live
pub was_live : (row : Row) (earlier : History) (task : Text) → starts task row ≡ false → IsLive (row ∷ earlier) task → IsLive earlier task
was_live row earlier task not_started live =
    let known : is_known earlier task ≡ true = rw not_started at live.0 in (known, (or_parts (ends task row) (list_any (ends task) earlier) live.1).1)

-- a task that is not known after a row was not known before it
pub unwas_known : (row : Row) (earlier : History) (task : Text) → is_known (row ∷ earlier) task ≡ false → is_known earlier task ≡ false
unwas_known row earlier task unknown = grind (arith, nat_tests)

-- what is live is no task that is not known
pub live_is_not_unknown : (history : History) (task other : Text) → IsLive history task → is_known history other ≡ false → is_same task other ≡ false
live_is_not_unknown history task other live unknown = grind (arith, nat_tests, is_same_iff task other)

-- nor one that has ended
pub live_is_not_ended : (history : History) (task other : Text) → IsLive history task → is_ended history other ≡ true → is_same task other ≡ false
live_is_not_ended history task other live ended = grind (arith, nat_tests, is_same_iff task other)

-- a task that is not known has no event
pub unknown_has_no_event : (history : History) (task : Text) → IsLegal history → is_known history task ≡ false → newest (is_of task) history ≡ 0
unknown_has_no_event [] task legal unknown = refl
unknown_has_no_event (row ∷ earlier) task legal unknown =
    grind (arith, nat_tests, unwas_known row earlier task unknown, live_is_not_unknown earlier row.task task legal.0.0, unknown_has_no_event earlier task legal.1)
