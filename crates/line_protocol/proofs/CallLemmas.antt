-- What a writer held before it took bytes.
use Rattle.std.proofs.Common.{◌≡◌, ℕ, ◌+◌, ◌-◌, ◌≤◌, ◌==◌, ◌∷◌, Result, Ok, Err, append-nil, Bool, true, false, List, [], ◌++◌, length, take, drop, Option, Some, None, refl, sym, ap, ◌∙◌, append_assoc, arith, length-append, subst}
use Rattle.std.proofs.lemmas.List.{take-append-drop, take_rest, length-take-le, drop-drop}
use Rattle.std.proofs.Math.Seq.{drop-append_seam, take-append_seam}
use Rattle.std.proofs.lemmas.Bool.{ne_eqb}
use Rattle.std.specs.Io.KnownBytes.{Keeps, Appends, WriteAppends}
use Rattle.std.specs.Prelude.{if◌then◌else◌, IfSome, IfOk, nat_lt, ◌&&◌}
use Rattle.std.specs.Result.{result_unwrap_or}
use Rattle.std.specs.declared.io.Error.{Error}
use Rattle.line_protocol.specs.declared.stop.Stop.{Stop}
use Rattle.line_protocol.specs.declared.stop.Stop.TheVariants as stop
use Rattle.line_protocol.specs.Stopped.{StopsAs}
use Rattle.line_protocol.specs.Endings.{count_ending}
use Rattle.line_protocol.specs.Sink.{WritesOnce}
use Rattle.trace_types.specs.text.Name.{is_same}
use Rattle.trace_types.proofs.Names.{is_same_iff, is_same-itself}
use Rattle.line_protocol.specs.Calls.{EdgeCall, edge_call_of, bytes_moved, taken_by, held_before}

-- what is held, once some of it was handed on
pub handed_on : (old new items total : List ℕ) (start count : ℕ) → new ≡ old ++ take count (take (length items - start) (drop start items)) → old ++ drop start items ≡ total → new ++ drop (start + count) items ≡ total
handed_on old new items total start count grows held =
    let rest : new ≡ old ++ take count (drop start items) = rw take_rest at grows in
    ap (λ bytes. bytes ++ drop (start + count) items) rest
    ∙ append_assoc old (take count (drop start items)) (drop (start + count) items)
    ∙ ap (λ bytes. old ++ (take count (drop start items) ++ bytes)) (sym (drop-drop count start items))
    ∙ ap (λ bytes. old ++ bytes) (take-append-drop count (drop start items))
    ∙ held

-- a write that took some bytes did not fail
pub took_some : (old new n : ℕ) (some : Bool) → (n ≡ 0 → ⊥) → new ≡ old + (if (n == 0) && some then 1 else 0) → new ≡ old
took_some old new n some taken counts = let is : new ≡ old + 0 = rw (ne_eqb n 0 taken) at counts in omega (arith, is)

-- what stands before the bytes that were taken
pub held_before-front : (first bytes : List ℕ) → held_before bytes (Some (first ++ bytes)) ≡ Some first
held_before-front first bytes =
    let at : length (first ++ bytes) - length bytes ≡ length first = omega (arith, length-append first bytes) in
    rw (at, drop-append_seam first bytes, take-append_seam first bytes, is_same-itself bytes) refl

split : (contents bytes first : List ℕ) (n : ℕ) (same : Bool) → is_same (drop n contents) bytes ≡ same → (if same then Some (take n contents) else None) ≡ Some first → contents ≡ first ++ bytes
split contents bytes first n true same is =
    let front : take n contents ≡ first = cc in
    let back : drop n contents ≡ bytes = (is_same_iff (drop n contents) bytes).0 same in
    sym (take-append-drop n contents) ∙ ap (λ xs. xs ++ drop n contents) front ∙ ap (λ xs. first ++ xs) back
split contents bytes first n false same is = absurd (cc)

-- where it is known, the writer holds it and the bytes behind it
pub held_before-known : (bytes first : List ℕ) (contents : Option (List ℕ)) → held_before bytes contents ≡ Some first → contents ≡ Some (first ++ bytes)
held_before-known bytes first None is = absurd (cc)
held_before-known bytes first (Some contents) is =
    ap Some (split contents bytes first (length contents - length bytes) (is_same (drop (length contents - length bytes) contents) bytes) refl is)

known-appended : (bytes more : List ℕ) (contents contents' : Option (List ℕ)) (first : Option (List ℕ)) → held_before bytes contents ≡ first → Appends contents contents' more → Keeps first (held_before (bytes ++ more) contents')
known-appended bytes more contents contents' None is appends = tt
known-appended bytes more None contents' (Some first) is appends = absurd (cc)
known-appended bytes more (Some held) None (Some first) is appends = absurd appends
known-appended bytes more (Some held) (Some held') (Some first) is appends =
    let known : Some held ≡ Some (first ++ bytes) = held_before-known bytes first (Some held) is in
    let was : held ≡ first ++ bytes = cc in
    let now : held' ≡ first ++ (bytes ++ more) = appends ∙ ap (λ xs. xs ++ more) was ∙ append_assoc first bytes more in
    rw (now, held_before-front first (bytes ++ more)) refl

-- a writer that grows by the bytes that it takes still tells what it held first
pub Keeps-appended : (bytes more : List ℕ) (contents contents' : Option (List ℕ)) → Appends contents contents' more → Keeps (held_before bytes contents) (held_before (bytes ++ more) contents')
Keeps-appended bytes more contents contents' appends = known-appended bytes more contents contents' (held_before bytes contents) refl appends

inside : (bytes : List ℕ) (contents known : Option (List ℕ)) → held_before bytes contents ≡ known → IfSome known (λ first. contents ≡ Some (first ++ bytes))
inside bytes contents None is = tt
inside bytes contents (Some first) is = held_before-known bytes first contents is

-- what the writer holds, where it is known what it held before
pub held_before-inside : (bytes : List ℕ) (contents : Option (List ℕ)) → IfSome (held_before bytes contents) (λ first. contents ≡ Some (first ++ bytes))
held_before-inside bytes contents = inside bytes contents (held_before bytes contents) refl

-- what a writer's own bytes grow by, where its outcome is told by why it stopped
appends_as : (contents contents' : Option (List ℕ)) (bytes : List ℕ) (told : Result ℕ Error) (outcome : Result ℕ Stop) → WriteAppends contents contents' told bytes → StopsAs told outcome → WriteAppends contents contents' outcome bytes
appends_as contents contents' bytes (Ok n) (Ok m) appends same = subst (λ k. Appends contents contents' (take k bytes)) (sym same) appends
appends_as contents contents' bytes (Ok n) (Err stop) appends same = absurd same
appends_as contents contents' bytes (Err error) (Ok m) appends same = absurd same
appends_as contents contents' bytes (Err error) (Err stop) appends same = appends

bound_as : (bytes : List ℕ) (told : Result ℕ Error) (outcome : Result ℕ Stop) → IfOk told (λ n. n ≤ length bytes) → StopsAs told outcome → IfOk outcome (λ n. n ≤ length bytes)
bound_as bytes (Ok n) (Ok m) bound same = omega (arith, bound, same)
bound_as bytes (Ok n) (Err stop) bound same = absurd same
bound_as bytes (Err error) (Ok m) bound same = absurd same
bound_as bytes (Err error) (Err stop) bound same = tt

appends_none : (contents contents' : Option (List ℕ)) → Keeps contents contents' → Appends contents contents' []
appends_none None contents' keeps = tt
appends_none (Some held) None keeps = absurd keeps
appends_none (Some held) (Some held') keeps = keeps ∙ sym (append-nil held)

-- a write that moved bytes, or none of some
moved : (contents contents' : Option (List ℕ)) (calls : List EdgeCall) (n : ℕ) (bytes : List ℕ) (none : Bool) → ((n == 0) && nat_lt 0 (length bytes)) ≡ none → n ≤ length bytes → Appends contents contents' (take n bytes)
    → WritesOnce (taken_by contents calls) (taken_by contents' (record { ending = if none then 1 else 0; bytes = take n bytes } ∷ calls)) (Ok n) bytes
moved contents contents' calls n bytes true is bound appends = record {
  taken = refl;
  failures = rw is (omega arith);
  interruptions = omega arith;
  call = rw is refl;
  began = Keeps-appended (bytes_moved calls) (take n bytes) contents contents' appends;
}
moved contents contents' calls n bytes false is bound appends = record {
  taken = refl;
  failures = rw is (omega arith);
  interruptions = omega arith;
  call = rw (is, length-take-le n bytes bound) refl;
  began = Keeps-appended (bytes_moved calls) (take n bytes) contents contents' appends;
}

kept : (calls : List EdgeCall) (contents contents' : Option (List ℕ)) → Keeps contents contents' → Keeps (held_before (bytes_moved calls) contents) (held_before (bytes_moved calls ++ []) contents')
kept calls contents contents' keeps = Keeps-appended (bytes_moved calls) [] contents contents' (appends_none contents contents' keeps)

-- the note of a write is that of one write
noted : (contents contents' : Option (List ℕ)) (calls : List EdgeCall) (outcome : Result ℕ Stop) (bytes : List ℕ) → IfOk outcome (λ n. n ≤ length bytes) → WriteAppends contents contents' outcome bytes
    → WritesOnce (taken_by contents calls) (taken_by contents' (edge_call_of (count_ending outcome (length bytes) ∷ []) (take (result_unwrap_or outcome 0) bytes) ∷ calls)) outcome bytes
noted contents contents' calls (Ok n) bytes bound appends = moved contents contents' calls n bytes ((n == 0) && nat_lt 0 (length bytes)) refl bound appends
noted contents contents' calls (Err stop.Interrupted) bytes bound keeps = record {
  taken = refl;
  failures = omega arith;
  interruptions = omega arith;
  call = refl;
  began = kept calls contents contents' keeps;
}
noted contents contents' calls (Err stop.Failed) bytes bound keeps = record {
  taken = refl;
  failures = omega arith;
  interruptions = omega arith;
  call = refl;
  began = kept calls contents contents' keeps;
}

pub WritesOnce-noted : (contents contents' : Option (List ℕ)) (calls calls' : List EdgeCall) (told : Result ℕ Error) (outcome : Result ℕ Stop) (bytes : List ℕ) (ending count : ℕ)
    → IfOk told (λ n. n ≤ length bytes) → WriteAppends contents contents' told bytes → StopsAs told outcome → ending ≡ count_ending outcome (length bytes) → count ≡ result_unwrap_or outcome 0
    → calls' ≡ edge_call_of (ending ∷ []) (take count bytes) ∷ calls → WritesOnce (taken_by contents calls) (taken_by contents' calls') outcome bytes
WritesOnce-noted contents contents' calls calls' told outcome bytes ending count bound appends stops is_ending is_count note =
    rw (note, is_ending, is_count) (noted contents contents' calls outcome bytes (bound_as bytes told outcome bound stops) (appends_as contents contents' bytes told outcome appends stops))
