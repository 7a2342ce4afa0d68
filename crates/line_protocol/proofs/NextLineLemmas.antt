-- What a look for the next line did, by the way in which it ended.
use Rattle.std.proofs.Common.{◌≡◌, ℕ, ◌+◌, ◌≤◌, ◌<◌, Bool, true, false, IsTrue, cond, List, [], ◌∷◌, length, take, drop, Result, Ok, Err, IsErrAnd, ap, arith, length-append, length-drop}
use Rattle.trace_types.specs.text.Name.{Text}
use Rattle.trace_types.specs.text.Lines.{without_return, is_longer_than}
use Rattle.line_protocol.specs.Held.{Held, ReadingBounds}
use Rattle.line_protocol.specs.Source.{Given}
use Rattle.line_protocol.specs.declared.line.Line.{Line}
use Rattle.line_protocol.specs.declared.line.Line.TheVariants.{Whole, TooLong}
use Rattle.line_protocol.specs.declared.line_reader.ReadFault.{ReadFault}
use Rattle.line_protocol.specs.LineReading.{FindsNext, FindsNone, LeavesLess, ReadsUntil, work_left}
use Rattle.line_protocol.specs.Ends.{HasNoEnd, EndsAt, Comes, Skips, kind_of, last_line}
use Rattle.line_protocol.proofs.LineReadingLemmas.{Finds-at, Finds-rest, Finds-skipped, Reads-fewer, Reads-more}

-- an end of line is one of the bytes
EndsAt-within : (bytes : List ℕ) (at : ℕ) → EndsAt bytes at → at < length bytes
EndsAt-within bytes at ends = omega (arith, ends.place, ap length ends.splits, length-append ends.before (10 ∷ ends.after))

-- a line that is held leaves less, whatever it is
leaves_less : (old new : Held) (b : Bool) → work_left new < work_left old → LeavesLess old new (cond b TooLong Whole)
leaves_less old new true less = less
leaves_less old new false less = less

LeavesLess-line : (old new : Held) (most : ℕ) (line : Text) → work_left new < work_left old → LeavesLess old new (kind_of most line)
LeavesLess-line old new most line less = leaves_less old new (is_longer_than most line) less

LeavesLess-last : (old new : Held) (most : ℕ) (line : Text) → work_left new + length line ≤ work_left old → LeavesLess old new (last_line most line)
LeavesLess-last old new most [] less = omega arith
LeavesLess-last old new most (x ∷ xs) less = LeavesLess-line old new most (x ∷ xs) (omega arith)

-- the line had its end
pub FindsNext-at : {A : Type 0} {before after : Given} {old held new : Held} {at : ℕ} {value : A} → Comes before.bytes after.bytes old.left held.left → EndsAt held.left at
    → ReadsUntil before after old held (Ok value) → new.line ≡ without_return (take at held.left) → new.left ≡ drop (at + 1) held.left
    → new.is_ended ≡ held.is_ended → new.reads ≡ held.reads → new.bounds ≡ held.bounds → FindsNext before after old new (Ok (kind_of new.bounds.bytes new.line))
FindsNext-at {old = old} {held = held} {new = new} {at = at} comes ends until line left same_end same_reads same_bounds =
    let within = EndsAt-within held.left at ends in
    let same_bound = ap (λ (bounds : ReadingBounds). bounds.reads) same_bounds in
    let fewer : length new.left + 1 ≤ length held.left = omega (arith, ap length left, length-drop (at + 1) held.left) in
    record {
      line = Finds-at old new comes ends line left;
      less = LeavesLess-line old new new.bounds.bytes new.line (omega (arith, until.reads.work, same_bound));
      none = tt;
      reads = record { reads = Reads-fewer until.reads same_reads same_end same_bounds (omega arith); most = rw (same_reads, same_bounds) until.most; too_long = tt };
    }

-- what was left at the end of the input
pub FindsNext-rest : {A : Type 0} {before after : Given} {old held new : Held} {value : A} → Comes before.bytes after.bytes old.left held.left → HasNoEnd held.left
    → ReadsUntil before after old held (Ok value) → IsTrue held.is_ended → new.line ≡ held.left → new.left ≡ []
    → new.is_ended ≡ held.is_ended → new.reads ≡ held.reads → new.bounds ≡ held.bounds → FindsNext before after old new (Ok (last_line new.bounds.bytes held.left))
FindsNext-rest {old = old} {held = held} {new = new} comes no_end until ended line left same_end same_reads same_bounds =
    let none : length new.left ≡ 0 = ap length left in
    let same_bound = ap (λ (bounds : ReadingBounds). bounds.reads) same_bounds in
    record {
      line = Finds-rest old new held.left comes no_end (rw same_end ended) line left;
      less = LeavesLess-last old new new.bounds.bytes held.left (omega (arith, until.reads.work, same_bound));
      none = tt;
      reads = record { reads = Reads-fewer until.reads same_reads same_end same_bounds (omega arith); most = rw (same_reads, same_bounds) until.most; too_long = tt };
    }

-- a line that was too long was skipped
pub FindsNext-skipped : {A B : Type 0} {before mid after : Given} {old held new : Held} {value : A} {done : B} → Comes before.bytes mid.bytes old.left held.left → HasNoEnd held.left
    → ReadsUntil before mid old held (Ok value) → held.is_ended ≡ false → held.bounds.bytes + 2 ≤ length held.left → Skips mid.bytes after.bytes new.left new.is_ended
    → work_left new + length held.left ≤ work_left held → ReadsUntil mid after held new (Ok done) → FindsNext before after old new (Ok TooLong)
FindsNext-skipped {new = new} comes no_end until goes_on long skips less more = record {
  line = Finds-skipped new.bounds.bytes comes no_end (rw more.reads.bounds long) skips;
  less = omega (arith, until.reads.work);
  none = tt;
  reads = record { reads = Reads-more until.reads goes_on more.reads; most = more.most; too_long = tt };
}

-- no line was found
pub FindsNext-failed : {before after : Given} {old new : Held} (result : Result Line ReadFault) (fault : ReadFault) → IsErrAnd result (λ e. e ≡ fault)
    → FindsNone before.bytes after.bytes old → ReadsUntil before after old new result → FindsNext before after old new result
FindsNext-failed (Ok line) fault is none until = absurd is
FindsNext-failed (Err e) fault is none until = record { line = tt; less = tt; none = none; reads = until }
