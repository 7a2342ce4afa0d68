-- The row that comes next in a tenant's trace: what is listed of it has plain words, small numbers and a good stamp.
use Rattle.std.proofs.Common.{◌≡◌, ℕ, zero, suc, false, eqb, ◌^◌, ◌<◌, ◌≤◌, List, [], ◌∷◌, length, Option, Some, None, refl, sym, subst, arith}
use Rattle.std.specs.Prelude.{nat_lt}
use Rattle.std.specs.List.{All}
use Rattle.std.specs.List.Sorted.{IsStrictlyIncreasing}
use Rattle.std.proofs.lemmas.Bool.{cond_both, ltb-true}
use Rattle.std.proofs.lemmas.Bool.Decides.{nat_tests}
use Rattle.std.proofs.lemmas.List.Elements.{All-cons, All-nil, All-weaker}
use Rattle.serde_json.specs.Written.{compact_text}
use Rattle.trace_types.specs.clock.Stamps.{stamp_text_of}
use Rattle.trace_types.specs.tenant.Reachability.{event_or_none, increasing, second_event}
use Rattle.trace_types.specs.tenant.Rows.{History, last_event, spawn_count}
use Rattle.trace_types.specs.text.Name.{Text}
use Rattle.trace_types.specs.text.Text.{name_text}
use Rattle.trace_types.specs.declared.row.Kind.{Kind}
use Rattle.trace_types.specs.declared.row.Kind.TheVariants.{Local, Spawn, Send, Recv, End, Join}
use Rattle.trace_types.specs.declared.row.Row.{Row}
use Rattle.trace_types.proofs.Reachability.{last_event-le, second_event-le}
use Rattle.tenant_ledger.specs.Legal.{IsLegal}
use Rattle.trace_export.specs.Export.{listed_row}
use Rattle.trace_export.specs.Following.{placed_of, placing_of}
use Rattle.trace_export.specs.Listing.{FitsKind, IsReadAgain, Listed, listed_json}
use Rattle.trace_export.specs.Verdict.{AreIncreasingBefore, IsRightNext}
use Rattle.trace_export.proofs.Connecting.{length-with_next}
use Rattle.trace_export.proofs.GoodStamps.{IsGoodStamp}
use Rattle.trace_export.proofs.LegalRows.{AreSound}
use Rattle.trace_export.proofs.OneLine.{ArePlain, IsLine, IsPlainListed, listed_is_line, name_is_plain}
use Rattle.trace_export.proofs.Placings.{length-placing, ordered_alike}
use Rattle.trace_export.proofs.StampTrees.{newest_stamp}

some_event : (a : ℕ) → eqb a 0 ≡ false → 0 < a
some_event a some = grind (arith, nat_tests)

is_more : (a b : ℕ) → eqb a b ≡ false → nat_lt a b ≡ false → b < a
is_more a b differ more = grind (arith, nat_tests)

-- the events increase, come before the next one, and are at most two
abbrev AreTwoAtMost : ℕ → List ℕ → Type 0
AreTwoAtMost most events = AreIncreasingBefore events (suc most) × (length events ≤ 2)

none_before : (most : ℕ) → AreTwoAtMost most []
none_before most = (((λ k less. absurd (omega (arith, less))), All-nil (λ earlier. (0 < earlier) × (earlier < suc most))), omega arith)

one_before : (a most : ℕ) → 0 < a → a ≤ most → AreTwoAtMost most (a ∷ [])
one_before a most some few =
    (((λ k less. absurd (omega (arith, less))), All-cons (λ earlier. (0 < earlier) × (earlier < suc most)) a [] (some, omega (arith, few)) (All-nil (λ earlier. (0 < earlier) × (earlier < suc most)))), omega arith)

two_increase : (a b : ℕ) → a < b → IsStrictlyIncreasing (a ∷ b ∷ [])
two_increase a b less zero within = less
two_increase a b less (suc k) within = absurd (omega (arith, within))

two_before : (a b most : ℕ) → 0 < a → a < b → b ≤ most → AreTwoAtMost most (a ∷ b ∷ [])
two_before a b most some less few = (
  (
    two_increase a b less,
    All-cons (λ earlier. (0 < earlier) × (earlier < suc most)) a (b ∷ []) (some, omega (arith, less, few)) (one_before b most (omega (arith, some, less)) few).0.1,
  ),
  omega arith,
)

event_or_none_is : (a most : ℕ) → a ≤ most → AreTwoAtMost most (event_or_none a)
event_or_none_is a most few =
    cond_both (eqb a 0) [] (a ∷ []) (AreTwoAtMost most) (λ none. none_before most) (λ some. one_before a most (some_event a some) few)

-- the predecessors are such events
increasing_is : (a b most : ℕ) → a ≤ most → b ≤ most → AreTwoAtMost most (increasing a b)
increasing_is a b most a-le b-le =
    cond_both (eqb a 0) _ _ (AreTwoAtMost most) (λ no_a. event_or_none_is b most b-le)
    λ a_some. cond_both (eqb b 0) _ _ (AreTwoAtMost most) (λ no_b. event_or_none_is a most a-le)
    λ b_some. cond_both (eqb a b) _ _ (AreTwoAtMost most) (λ same. one_before a most (some_event a a_some) a-le)
    λ differ. cond_both (nat_lt a b) _ _ (AreTwoAtMost most) (λ less. two_before a b most (some_event a a_some) (ltb-true a b less) b-le)
    (λ more. two_before b a most (some_event b b_some) (is_more a b differ more) a-le)

name_of_kind : (kind : Kind) (name : Option Text) → FitsKind kind name → ArePlain (name_text name) × (length (name_text name) ≤ 24)
name_of_kind kind None fits = (refl, omega arith)
name_of_kind Local (Some text) fits = absurd (cc fits)
name_of_kind End (Some text) fits = absurd (cc fits)
name_of_kind Spawn (Some text) fits = subst (λ name. ArePlain (name_text name) × (length (name_text name) ≤ 24)) (sym fits.1) (name_is_plain fits.0 fits.2)
name_of_kind Send (Some text) fits = subst (λ name. ArePlain (name_text name) × (length (name_text name) ≤ 24)) (sym fits.1) (name_is_plain fits.0 fits.2)
name_of_kind Recv (Some text) fits = subst (λ name. ArePlain (name_text name) × (length (name_text name) ≤ 24)) (sym fits.1) (name_is_plain fits.0 fits.2)
name_of_kind Join (Some text) fits = subst (λ name. ArePlain (name_text name) × (length (name_text name) ≤ 24)) (sym fits.1) (name_is_plain fits.0 fits.2)

small_preds : (events : List ℕ) (event : ℕ) → event ≤ 16384 → All (λ earlier. (0 < earlier) × (earlier < event)) events → All (λ n. n < 10 ^ 5) events
small_preds events event few all = All-weaker (λ earlier. (0 < earlier) × (earlier < event)) (λ n. n < 10 ^ 5) (λ n before. omega (arith, before.1, few)) events all

module _ (row : Row) (earlier : History) (legal : IsLegal (row ∷ earlier)) (sound : AreSound (row ∷ earlier))
    (few : suc (length earlier) ≤ 16384) (spawns : spawn_count (row ∷ earlier) ≤ 2047) (stamp : Text)
    (stamp_is : stamp ≡ stamp_text_of (row ∷ earlier) (suc (length earlier))) where
  abbrev pub next_row : Listed
  next_row = listed_row (suc (length earlier)) row stamp

  pub good : IsGoodStamp stamp (placed_of row earlier).tree
  good = subst (λ text. IsGoodStamp text (placed_of row earlier).tree) (sym stamp_is) (newest_stamp row earlier legal few spawns)

  pub preds_before : AreIncreasingBefore row.preds (suc (length earlier)) × (length row.preds ≤ 2)
  preds_before = subst (λ events. AreIncreasingBefore events (suc (length earlier)) × (length events ≤ 2)) (sym sound.0.preds)
      (increasing_is (last_event earlier row.task) (second_event earlier row.kind row.name) (length earlier) (last_event-le earlier row.task) (second_event-le earlier row.kind row.name))

  pub plain : IsPlainListed next_row
  plain = record {
    event = omega (arith, few);
    name = name_of_kind row.kind row.name sound.0.name;
    preds = (preds_before.1, small_preds row.preds (suc (length earlier)) few preds_before.0.1);
    stamp = (good.plain, good.short);
    task = name_is_plain row.task sound.0.task;
  }

  pub is_line : IsLine (compact_text (listed_json next_row)) 65536
  is_line = listed_is_line next_row plain

  pub is_right : IsReadAgain next_row → IsRightNext (placing_of earlier) (compact_text (listed_json next_row)) (placed_of row earlier)
  is_right read =
      let len = length-placing earlier in
      record {
        listed = next_row;
        listing = (is_line.short, (listed_json next_row, read, record { written = refl; may = record { task = sound.0.task; name = sound.0.name; preds = preds_before.1 } }));
        comes = record {
          number = (omega (arith, len), omega (arith, len, few));
          preds = preds_before.0;
          tree = good.spells;
          edges = refl;
        };
        ordered = λ other placed.
            let longer = length-with_next (placing_of earlier) (placed_of row earlier) in
            ordered_alike (row ∷ earlier) sound legal other (suc (length (placing_of earlier))) (placed.0, omega (arith, placed.1, longer)) (omega arith, omega (arith, longer));
      }
