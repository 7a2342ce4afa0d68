-- The reads that a line reader makes, the lines that it finds, and for callers what they are together.
use Rattle.std.proofs.Common.{Result, Ok, Err, IsErrAnd, ◌≡◌, ◌≤◌, ◌<◌, ◌+◌, ℕ, Bool, IsTrue, true, false, cond, List, [], ◌∷◌, ◌++◌, ◌⊎◌, inl, inr, length, take, drop, refl, sym, ap, ◌∙◌, append_assoc, arith, length-append, subst, ◌==◌, lt-ltb}
use Rattle.std.proofs.lemmas.List.{append-nil, append_cancel_left}
use Rattle.std.proofs.Math.Seq.{take-append_seam}
use Rattle.std.proofs.KnownBytes.{Keeps-refl, Keeps-trans}
use Rattle.trace_types.specs.text.Name.{Text}
use Rattle.trace_types.specs.text.Lines.{lines, without_return, is_longer_than}
use Rattle.line_protocol.specs.HandingOn.{FindsBehind, failed_reads_in}
use Rattle.line_protocol.specs.declared.flushing.LineFault.{LineFault}
use Rattle.line_protocol.specs.declared.flushing.LineFault.TheVariants.{Read, Write}
use Rattle.line_protocol.specs.Held.{Held, ReadingBounds, fresh_within}
use Rattle.line_protocol.specs.Source.{Given, HasToldEnd, LastRead, StopsAtEnd, one_if}
use Rattle.line_protocol.specs.declared.line.Line.{Line}
use Rattle.line_protocol.specs.declared.line.Line.TheVariants.{Whole, TooLong}
use Rattle.line_protocol.specs.declared.line_reader.ReadFault.{ReadFault}
use Rattle.line_protocol.specs.LineReading.{GivesLine, Finds, FindsNone, HasRead, Reads, ReadsForLine, ReadsUntil, AllWereMade, failed_reads_of}
use Rattle.line_protocol.specs.Ends.{HasNoEnd, end_count, EndsAt, Comes, Skipped, Skips, kind_of, last_line}
use Rattle.line_protocol.proofs.EndsLemmas.{lines-ended, lines-last, HasNoEnd-append, length-lines-ended}
use Rattle.line_protocol.proofs.SkipLemmas.{EndsAt-after}

-- no read was made yet
pub Reads-none : (given : Given) (held : Held) → Reads given given held held 0
Reads-none given held = record {
  counted = refl;
  failures = omega arith;
  ends = refl;
  ended = λ ended. inl ended;
  whole = Keeps-refl given.whole;
  work = omega arith;
  bounds = refl;
}

-- more reads were made; none of them where the end was told before
pub Reads-on : {before mid after : Given} {old held new : Held} {failed : ℕ} → Reads before mid old held 0 → (IsTrue held.is_ended → after ≡ mid)
    → Reads mid after held new failed → Reads before after old new failed
Reads-on {before = before} {mid = mid} {after = after} first at_end second = record {
  counted = omega arith;
  failures = omega arith;
  ends = omega arith;
  ended = λ ended. elim (second.ended ended) [
    | inl was ↦ elim (first.ended was) [ inl old ↦ inl old | inr told ↦ inr (subst HasToldEnd (sym (at_end was)) told) ]
    | inr told ↦ inr told
  ];
  whole = Keeps-trans before.whole mid.whole after.whole first.whole second.whole;
  work = omega arith;
  bounds = second.bounds ∙ first.bounds;
}

-- more reads were made where the end was not told
pub Reads-more : {before mid after : Given} {old held new : Held} {failed : ℕ} → Reads before mid old held 0 → held.is_ended ≡ false → Reads mid after held new failed
    → Reads before after old new failed
Reads-more first goes_on second = Reads-on first (λ ended. absurd (cc)) second

-- what is known of the end since nothing was held, the source told
pub has_told_end : {before after : Given} {bounds : ReadingBounds} {held : Held} {failed : ℕ} → Reads before after (fresh_within bounds) held failed → IsTrue held.is_ended → HasToldEnd after
has_told_end reads ended = elim (reads.ended ended) [ inl never ↦ absurd (cc) | inr told ↦ told ]

-- and it was told once
pub told_once : {before after : Given} {bounds : ReadingBounds} {held : Held} {failed : ℕ} → Reads before after (fresh_within bounds) held failed → IsTrue held.is_ended → after.ends ≡ before.ends + 1
told_once {before = before} {after = after} {held = held} reads ended =
    let ends : after.ends + 0 ≡ before.ends + one_if held.is_ended = reads.ends in
    let one : one_if held.is_ended ≡ 1 = ap one_if ended in
    omega (arith, ends, one)

-- the end was told once at most, and by the last read
pub stops_at_end : {before after : Given} {bounds : ReadingBounds} {held : Held} {failed : ℕ} → Reads before after (fresh_within bounds) held failed → StopsAtEnd before after
stops_at_end {before = before} {after = after} {held = held} reads = by held.is_ended reads.ends (has_told_end reads)
  where
    by : (b : Bool) → after.ends + 0 ≡ before.ends + one_if b → (IsTrue b → HasToldEnd after) → StopsAtEnd before after
    by true ends told = inr (omega arith, (told refl).0)
    by false ends told = inl (omega arith)

-- bytes that are held were taken or thrown away
pub Reads-fewer : {before after : Given} {old held new : Held} {failed : ℕ} → Reads before after old held failed
    → new.reads ≡ held.reads → new.is_ended ≡ held.is_ended → new.bounds ≡ held.bounds → length new.left ≤ length held.left → Reads before after old new failed
Reads-fewer reads same_reads same_end same_bounds fewer = record {
  counted = omega arith;
  failures = reads.failures;
  ends = rw same_end reads.ends;
  ended = rw same_end reads.ended;
  whole = reads.whole;
  work = omega (arith, ap (λ (bounds : ReadingBounds). bounds.reads) same_bounds);
  bounds = same_bounds ∙ reads.bounds;
}

-- more reads were made, until this result
pub ReadsUntil-more : {A : Type 0} {before mid after : Given} {old held new : Held} {result : Result A ReadFault}
    → Reads before mid old held 0 → held.is_ended ≡ false → ReadsUntil mid after held new result → ReadsUntil before after old new result
ReadsUntil-more first goes_on second = record { reads = Reads-more first goes_on second.reads; most = second.most; too_long = second.too_long }

-- other bytes are left, and no more
pub Reads-dropped : {before after : Given} {old held new : Held} {failed : ℕ} {left : List ℕ} → Reads before after old held failed
    → new ≡ record held { left = left } → length left ≤ length held.left → Reads before after old new failed
Reads-dropped {before = before} {after = after} {old = old} {held = held} {failed = failed} {left = left} reads is fewer =
    let dropped : Reads before after old (record held { left = left }) failed = Reads-fewer reads refl refl refl fewer in
    subst (λ (h : Held). Reads before after old h failed) (sym is) dropped

-- what was known at a fault is known where that fault is answered
pub ReadsUntil-fault : {A B : Type 0} {before after : Given} {old new : Held} (result : Result B ReadFault) (fault : ReadFault) → IsErrAnd result (λ e. e ≡ fault)
    → ReadsUntil {A = A} before after old new (Err fault) → ReadsUntil before after old new result
ReadsUntil-fault (Ok value) fault is reads = absurd is
ReadsUntil-fault {before = before} {after = after} {old = old} {new = new} (Err e) fault is reads = record {
  reads = subst (λ f. Reads before after old new (failed_reads_of f)) (sym is) reads.reads;
  most = reads.most;
  too_long = subst (λ f. AllWereMade f new) (sym is) reads.too_long;
}

-- the line before an end of line
pub GivesLine-ended : {given given' left after : List ℕ} (gave before : List ℕ) (is_ended : Bool) → given' ≡ given ++ gave → left ++ gave ≡ before ++ 10 ∷ after → HasNoEnd before
    → GivesLine given given' left after is_ended (without_return before)
GivesLine-ended {after = after} gave before is_ended grows splits no_end = record {
  gave = gave;
  grows = grows;
  first = λ rest _.
      ap lines (ap (λ bytes. bytes ++ rest) splits ∙ append_assoc before (10 ∷ after) rest) ∙ lines-ended before (after ++ rest) no_end;
}

-- the line after the last end of line
pub GivesLine-last : {given given' left : List ℕ} (gave : List ℕ) (x : ℕ) (xs : List ℕ) (is_ended : Bool) → IsTrue is_ended → given' ≡ given ++ gave → left ++ gave ≡ x ∷ xs → HasNoEnd (x ∷ xs)
    → GivesLine given given' left [] is_ended (x ∷ xs)
GivesLine-last gave x xs is_ended ended grows splits no_end = record {
  gave = gave;
  grows = grows;
  first = λ rest none.
      ap lines (ap (λ bytes. bytes ++ rest) splits ∙ ap (λ more. (x ∷ xs) ++ more) (none ended) ∙ append-nil (x ∷ xs))
      ∙ lines-last x xs no_end ∙ ap (λ more. (x ∷ xs) ∷ lines more) (sym (none ended));
}

-- a line that is held is found as what it is
found_as : {given given' : List ℕ} (old new : Held) (b : Bool) → is_longer_than new.bounds.bytes new.line ≡ b → GivesLine given given' old.left new.left new.is_ended new.line
    → Finds given given' old new (cond b TooLong Whole)
found_as old new true is gives = (new.line, gives, is)
found_as old new false is gives = (gives, is)

pub Finds-line : {given given' : List ℕ} (old new : Held) → GivesLine given given' old.left new.left new.is_ended new.line → Finds given given' old new (kind_of new.bounds.bytes new.line)
Finds-line old new gives = found_as old new (is_longer_than new.bounds.bytes new.line) refl gives

-- what is found at an end of line
pub Finds-at : {given given' mid : List ℕ} {at : ℕ} (old new : Held) → Comes given given' old.left mid → EndsAt mid at
    → new.line ≡ without_return (take at mid) → new.left ≡ drop (at + 1) mid → Finds given given' old new (kind_of new.bounds.bytes new.line)
Finds-at {mid = mid} {at = at} old new comes ends line left =
    let before : take at mid ≡ ends.before =
    ap (λ n. take n mid) (sym ends.place) ∙ ap (take (length ends.before)) ends.splits ∙ take-append_seam ends.before (10 ∷ ends.after) in
    let is : new.line ≡ without_return ends.before = line ∙ ap without_return before in
    let after : new.left ≡ ends.after = left ∙ EndsAt-after mid at ends in
    Finds-line old new (rw (is, after) (GivesLine-ended comes.gave ends.before new.is_ended comes.grows (sym comes.adds ∙ ends.splits) ends.no_end))

none_of : (xs ys : List ℕ) → [] ≡ xs ++ ys → (xs ≡ []) × (ys ≡ [])
none_of [] ys e = (refl, sym e)
none_of (x ∷ xs) ys e = cc

-- what is found at the end of the input
pub Finds-rest : {given given' : List ℕ} (old new : Held) (mid : List ℕ) → Comes given given' old.left mid → HasNoEnd mid → IsTrue new.is_ended
    → new.line ≡ mid → new.left ≡ [] → Finds given given' old new (last_line new.bounds.bytes mid)
Finds-rest {given = given} old new [] comes no_end ended line left =
    let none = none_of old.left comes.gave comes.adds in
    (comes.grows ∙ ap (λ more. given ++ more) none.1 ∙ append-nil given, none.0, left, ended)
Finds-rest {given = given} {given' = given'} old new (x ∷ xs) comes no_end ended line left =
    subst (λ (found : Text). Finds given given' old new (kind_of new.bounds.bytes found)) line
    (Finds-line old new (rw (line, left) (GivesLine-last comes.gave x xs new.is_ended ended comes.grows (sym comes.adds) no_end)))

-- no line loses more than one byte
length-without_return : (xs : List ℕ) → length xs ≤ length (without_return xs) + 1
length-without_return [] = omega arith
length-without_return (x ∷ []) = one (x == 13) refl
  where
    one : (b : Bool) → (x == 13) ≡ b → length (x ∷ []) ≤ length (without_return (x ∷ [])) + 1
    one true e = rw e (omega arith)
    one false e = rw e (omega arith)
length-without_return (x ∷ y ∷ xs) = let rest = length-without_return (y ∷ xs) in omega arith

too_long : (most : ℕ) (line : List ℕ) → most < length line → is_longer_than most line ≡ true
too_long most line long = lt-ltb _ _ long

-- a line that was skipped
skipped_line : {given given' given'' left mid left' : List ℕ} (most : ℕ) (is_ended : Bool) (skipped : List ℕ) → Comes given given' left mid → HasNoEnd mid → most + 2 ≤ length mid → HasNoEnd skipped
    → (given'' ≡ given' ++ (skipped ++ 10 ∷ left')) ⊎ ((given'' ≡ given' ++ skipped) × (left' ≡ []) × IsTrue is_ended)
    → (line : Text) × GivesLine given given'' left left' is_ended line × (is_longer_than most line ≡ true)
skipped_line {given = given} {left = left} {mid = mid} {left' = left'} most is_ended skipped comes no_end long none (inl grows) =
    let more : List ℕ = skipped ++ 10 ∷ left' in (
      without_return (mid ++ skipped),
      GivesLine-ended (comes.gave ++ more) (mid ++ skipped) is_ended
          (grows ∙ ap (λ bytes. bytes ++ more) comes.grows ∙ append_assoc given comes.gave more)
          (sym (append_assoc left comes.gave more) ∙ ap (λ bytes. bytes ++ more) (sym comes.adds) ∙ sym (append_assoc mid skipped (10 ∷ left')))
          (HasNoEnd-append mid skipped no_end none),
      too_long most (without_return (mid ++ skipped)) (omega (arith, length-without_return (mid ++ skipped), length-append mid skipped)),
    )
skipped_line {mid = []} most is_ended skipped comes no_end long none (inr ends) = absurd (omega arith)
skipped_line {given = given} {left = left} {mid = x ∷ xs} {left' = left'} most is_ended skipped comes no_end long none (inr ends) = (
  x ∷ (xs ++ skipped),
  rw ends.1
      (GivesLine-last (comes.gave ++ skipped) x (xs ++ skipped) is_ended ends.2
      (ends.0 ∙ ap (λ bytes. bytes ++ skipped) comes.grows ∙ append_assoc given comes.gave skipped)
      (sym (append_assoc left comes.gave skipped) ∙ ap (λ bytes. bytes ++ skipped) (sym comes.adds))
      (HasNoEnd-append (x ∷ xs) skipped no_end none)),
  too_long most (x ∷ (xs ++ skipped)) (omega (arith, length-append xs skipped)),
)

pub Finds-skipped : {given given' given'' left mid left' : List ℕ} {is_ended : Bool} (most : ℕ) → Comes given given' left mid → HasNoEnd mid → most + 2 ≤ length mid → Skips given' given'' left' is_ended
    → (line : Text) × GivesLine given given'' left left' is_ended line × (is_longer_than most line ≡ true)
Finds-skipped {is_ended = is_ended} most comes no_end long skips = skipped_line most is_ended skips.skipped comes no_end long skips.no_end skips.grows

-- a read failed while a line was skipped
pub FindsNone-skipped : {given given' given'' mid : List ℕ} {old : Held} → Comes given given' old.left mid → HasNoEnd mid → Skipped given' given'' → old.is_ended ≡ false → FindsNone given given'' old
FindsNone-skipped {given = given} {mid = mid} {old = old} comes no_end skipped goes_on = record {
  gave = comes.gave ++ skipped.skipped;
  grows = skipped.grows ∙ ap (λ bytes. bytes ++ skipped.skipped) comes.grows ∙ append_assoc given comes.gave skipped.skipped;
  no_end = subst HasNoEnd (ap (λ bytes. bytes ++ skipped.skipped) comes.adds ∙ append_assoc old.left comes.gave skipped.skipped) (HasNoEnd-append mid skipped.skipped no_end skipped.no_end);
  goes_on = goes_on;
}

-- what holds then of the bytes, and what that implies
pub LastRead-map : {R : Type 0} {seen : R → Given} {source : R} {Holds Implied : List ℕ → Type 0} → LastRead seen source Holds → ((given : List ℕ) → Holds given → Implied given)
    → LastRead seen source Implied
LastRead-map {seen = seen} last implies = record {
  earlier = last.earlier;
  held = implies (seen last.earlier).bytes last.held;
  once = last.once;
}

-- what came is no line yet
FindsNone-came : {given given' left : List ℕ} {held : Held} → Comes given given' held.left left → HasNoEnd left → held.is_ended ≡ false → FindsNone given given' held
FindsNone-came comes no_end goes_on = record {
  gave = comes.gave;
  grows = comes.grows;
  no_end = subst HasNoEnd comes.adds no_end;
  goes_on = goes_on;
}

-- a read was made, since what came is no line yet
pub ReadsForLine-read : {R : Type 0} {held : Held} {left : List ℕ} (seen : R → Given) (source middle after : R) → Comes (seen source).bytes (seen middle).bytes held.left left → HasNoEnd left
    → held.is_ended ≡ false → LastRead seen after (λ given. given ≡ (seen middle).bytes) → ReadsForLine seen source after held
ReadsForLine-read {held = held} seen source middle after comes no_end goes_on last =
    inr (LastRead-map last (λ given same. subst (λ bytes. FindsNone (seen source).bytes bytes held) (sym same) (FindsNone-came comes no_end goes_on)))

-- more came after more
pub Comes-more : {given given' given'' left left' left'' : List ℕ} → Comes given given' left left' → Comes given' given'' left' left'' → Comes given given'' left left''
Comes-more {given = given} {left = left} first second = record {
  gave = first.gave ++ second.gave;
  grows = second.grows ∙ ap (λ bytes. bytes ++ second.gave) first.grows ∙ append_assoc given first.gave second.gave;
  adds = second.adds ∙ ap (λ bytes. bytes ++ second.gave) first.adds ∙ append_assoc left first.gave second.gave;
}

-- nothing was added, so nothing came
pub Comes-none : {given given' left left' : List ℕ} → Comes given given' left left' → left' ≡ left → given' ≡ given
Comes-none {given = given} {left = left} comes same =
    let none : comes.gave ≡ [] = append_cancel_left left comes.gave [] (sym comes.adds ∙ same ∙ sym (append-nil left)) in
    comes.grows ∙ ap (λ bytes. given ++ bytes) none ∙ append-nil given

-- For callers: nothing is read yet.
pub HasRead-start : (start : List ℕ) (held : Held) → held.left ≡ [] → HasRead start start held []
HasRead-start start held none = record { came = []; grows = sym (append-nil start); so_far = λ rest _. rw none refl }

gave_none : (given given' gave : List ℕ) → given' ≡ given ++ gave → given' ≡ given → gave ≡ []
gave_none given given' gave grows same = append_cancel_left given gave [] (sym grows ∙ same ∙ sym (append-nil given))

-- For callers: a line more was found. Once the source has told the end, it gives nothing more.
pub HasRead-line : {start given given' : List ℕ} {held held' : Held} {found : List Text} {line : Text} → HasRead start given held found
    → GivesLine given given' held.left held'.left held'.is_ended line → (IsTrue held.is_ended → (given' ≡ given) × IsTrue held'.is_ended)
    → HasRead start given' held' (found ++ line ∷ [])
HasRead-line {start = start} {given = given} {given' = given'} {held = held} {held' = held'} {found = found} {line = line} before gives at_end = record {
  came = before.came ++ gives.gave;
  grows = gives.grows ∙ ap (λ bytes. bytes ++ gives.gave) before.grows ∙ append_assoc start before.came gives.gave;
  so_far = λ rest none.
      ap lines (append_assoc before.came gives.gave rest)
      ∙ before.so_far (gives.gave ++ rest) (λ ended.
      ap (λ bytes. bytes ++ rest) (gave_none given given' gives.gave gives.grows (at_end ended).0) ∙ none (at_end ended).1)
      ∙ ap (λ bytes. found ++ lines bytes) (sym (append_assoc held.left gives.gave rest))
      ∙ ap (λ more. found ++ more) (gives.first rest none)
      ∙ sym (append_assoc found (line ∷ []) (lines (held'.left ++ rest)));
}

-- For callers: at the end of the input these are all the lines of what came.
pub HasRead-end : {start given : List ℕ} {held : Held} {found : List Text} (read : HasRead start given held found) → held.left ≡ [] → lines read.came ≡ found
HasRead-end {found = found} read none =
    ap lines (sym (append-nil read.came)) ∙ read.so_far [] (λ _. refl) ∙ ap (λ bytes. found ++ lines (bytes ++ [])) none ∙ append-nil found

-- For callers: each line that was found has its end, unless the source told the end.
pub HasRead-ended : {start given : List ℕ} {held : Held} {found : List Text} (read : HasRead start given held found) → held.is_ended ≡ false → length found ≤ end_count read.came
HasRead-ended {held = held} {found = found} read goes_on =
    let all : length (lines (read.came ++ 10 ∷ [])) ≡ end_count read.came + 1 = length-lines-ended read.came in
    let split : lines (read.came ++ 10 ∷ []) ≡ found ++ lines (held.left ++ 10 ∷ []) = read.so_far (10 ∷ []) (λ ended. absurd (cc)) in
    let last : length (lines (held.left ++ 10 ∷ [])) ≡ end_count held.left + 1 = length-lines-ended held.left in
    omega (arith, all, ap length split, length-append found (lines (held.left ++ 10 ∷ [])), last)

-- For callers: where no line was found, there are as many lines as ends of line came.
pub HasRead-none : {start given given' : List ℕ} {held : Held} {found : List Text} (read : HasRead start given held found) (none : FindsNone given given' held)
    → length found ≡ end_count (read.came ++ none.gave)
HasRead-none {held = held} {found = found} read none =
    let more : List ℕ = none.gave ++ 10 ∷ [] in
    let all : length (lines ((read.came ++ none.gave) ++ 10 ∷ [])) ≡ end_count (read.came ++ none.gave) + 1 = length-lines-ended (read.came ++ none.gave) in
    let split : lines ((read.came ++ none.gave) ++ 10 ∷ []) ≡ found ++ lines (held.left ++ more) =
    ap lines (append_assoc read.came none.gave (10 ∷ [])) ∙ read.so_far more (λ ended. absurd (cc)) in
    let last : length (lines (held.left ++ more)) ≡ 1 =
    ap (λ bytes. length (lines bytes)) (sym (append_assoc held.left none.gave (10 ∷ []))) ∙ ap length (lines-ended (held.left ++ none.gave) [] none.no_end) in
    omega (arith, all, ap length split, length-append found (lines (held.left ++ more)), last)

-- For callers: how many reads were made, where what was written is flushed before them.
pub Reads-behind : {R : Type 0} (seen : R → Given) (source source' : R) (old new : Held) (result : Result Line LineFault) → FindsBehind seen source source' old new result
    → Reads (seen source) (seen source') old new (failed_reads_in result)
Reads-behind seen source source' old new (Ok line) finds = finds.reads.reads
Reads-behind seen source source' old new (Err (Read fault)) finds = finds.reads.reads
Reads-behind seen source source' old new (Err Write) (source_is, new_is) = rw (source_is, new_is) (Reads-none (seen source) old)
