-- What a line reader finds, between what it held and what its source had given before and after.
use Rattle.std.specs.Prelude.{◌≡◌, ℕ, ◌+◌, ◌-◌, ◌*◌, ◌≤◌, ◌<◌, ◌⊎◌, Result, Option, Bool, true, false, IsTrue, List, [], ◌∷◌, ◌++◌, length, Ok, Err, Some, None, IfOk, IfErr, OnErr}
use Rattle.std.specs.Io.KnownBytes.{Keeps}
use Rattle.trace_types.specs.text.Name.{Text}
use Rattle.trace_types.specs.text.Lines.{lines, is_longer_than}
use Rattle.line_protocol.specs.Held.{Held}
use Rattle.line_protocol.specs.Source.{Given, HasToldEnd, LastRead, one_if}
use Rattle.line_protocol.specs.Ends.{HasNoEnd, EndsAt, Skipped, Skips}
use Rattle.line_protocol.specs.declared.line.Line.{Line}
use Rattle.line_protocol.specs.declared.line.Line.TheVariants.{Whole, TooLong, End}
use Rattle.line_protocol.specs.declared.line_reader.ReadFault.{ReadFault}
use Rattle.line_protocol.specs.declared.line_reader.ReadFault.TheVariants as read_fault
use Rattle.line_protocol.specs.declared.stop.Stop.{Stop}

-- The source gave more. The first line of what was left and came is this line, and the bytes after it are left,
-- however the input goes on; where the source has told the end it does not go on.
pub record GivesLine (given given' left left' : List ℕ) (is_ended : Bool) (line : Text) : Type 0 where
  pub gave : List ℕ
  pub grows : given' ≡ given ++ gave
  pub first : (rest : List ℕ) → (IsTrue is_ended → rest ≡ []) → lines (left ++ gave ++ rest) ≡ line ∷ lines (left' ++ rest)

-- what was found
abbrev pub Finds : List ℕ → List ℕ → Held → Held → Line → Type 0
Finds given given' old new Whole =
    GivesLine given given' old.left new.left new.is_ended new.line × (is_longer_than new.bounds.bytes new.line ≡ false)
Finds given given' old new TooLong =
    (line : Text) × GivesLine given given' old.left new.left new.is_ended line × (is_longer_than new.bounds.bytes line ≡ true)
Finds given given' old new End =
    (given' ≡ given) × (old.left ≡ []) × (new.left ≡ []) × IsTrue new.is_ended

-- No line was found: the source had not told the end, and what was left and what it gave then have no end of line.
pub record FindsNone (given given' : List ℕ) (old : Held) : Type 0 where
  pub gave : List ℕ
  pub grows : given' ≡ given ++ gave
  pub no_end : HasNoEnd (old.left ++ gave)
  pub goes_on : old.is_ended ≡ false

-- No read was made once the next line had its end: none was made, or the last one began with no line to be found.
abbrev pub ReadsForLine : {R : Type 0} (seen : R → Given) (source source' : R) (held : Held) → Type 0
ReadsForLine seen source source' held =
    (source' ≡ source) ⊎ LastRead seen source' (λ given. FindsNone (seen source).bytes given held)

-- More bytes than a line reader can still give: those that it holds, and 65538 for each read that it may make.
abbrev pub work_left : Held → ℕ
work_left held = 65538 * (held.bounds.reads - held.reads) + length held.left

-- Each line that is found leaves less.
abbrev pub LeavesLess : Held → Held → Line → Type 0
LeavesLess old new Whole = work_left new < work_left old
LeavesLess old new TooLong = work_left new < work_left old
LeavesLess old new End = work_left new ≤ work_left old

-- how many reads failed before this fault came
abbrev pub failed_reads_of : ReadFault → ℕ
failed_reads_of read_fault.Read = 1
failed_reads_of read_fault.TooLong = 0

-- how many reads failed in a call that was answered so
abbrev pub failed_reads : {A : Type 0} → Result A ReadFault → ℕ
failed_reads (Ok value) = 0
failed_reads (Err fault) = failed_reads_of fault

-- all the reads were made where the fault is that there were too many
abbrev pub AllWereMade : ReadFault → Held → Type 0
AllWereMade read_fault.Read held = Unit {0}
AllWereMade read_fault.TooLong held = held.bounds.reads ≤ held.reads

-- Reads were made, and so many of them failed. None was made after one that told the end, and the end is known only
-- where it was told. What the source can tell of its bytes stays so, and each read pays for the bytes that it adds. No
-- call changes the bounds.
pub record Reads (before after : Given) (old new : Held) (failed : ℕ) : Type 0 where
  pub counted : new.reads + before.reads ≡ old.reads + after.reads
  pub failures : after.failures ≡ before.failures + failed
  pub ends : after.ends + one_if old.is_ended ≡ before.ends + one_if new.is_ended
  pub ended : IsTrue new.is_ended → IsTrue old.is_ended ⊎ HasToldEnd after
  pub whole : Keeps before.whole after.whole
  pub work : work_left new ≤ work_left old
  pub bounds : new.bounds ≡ old.bounds

-- Reads were made in a call that was answered so, and in all no more than may be. A failed one is a fault.
pub record ReadsUntil {A : Type 0} (before after : Given) (old new : Held) (result : Result A ReadFault) : Type 0 where
  pub reads : Reads before after old new (failed_reads result)
  pub most : new.reads ≤ new.bounds.reads
  pub too_long : IfErr result (λ fault. AllWereMade fault new)

-- One read was made into what is held; it adds at most 65538 bytes, and nothing where it stopped.
pub record FillsOnce {A : Type 0} (old new : Held) (result : Result A Stop) : Type 0 where
  pub counted : new.reads ≡ old.reads + 1
  pub fits : length new.left ≤ length old.left + 65538
  pub bounds : new.bounds ≡ old.bounds
  pub stopped : OnErr result ((new.left ≡ old.left) × (new.is_ended ≡ false))

-- The first end of line of what is left was found; or there is none, and none is to be looked for, since the source
-- told the end or the line is too long. A fault comes only where there is none and the end was not told.
abbrev pub FindsEnd : Held → Held → Result (Option ℕ) ReadFault → Type 0
FindsEnd old new (Ok (Some at)) = EndsAt new.left at
FindsEnd old new (Ok None) = HasNoEnd new.left × (IsTrue new.is_ended ⊎ (new.bounds.bytes + 2 ≤ length new.left))
FindsEnd old new (Err fault) = HasNoEnd new.left × (old.is_ended ≡ false)

-- The source was read to the end of the line, or a fault came before it.
abbrev pub SkipsLine : {A : Type 0} → List ℕ → List ℕ → Held → Result A ReadFault → Type 0
SkipsLine given given' new (Ok done) = Skips given given' new.left new.is_ended
SkipsLine given given' new (Err fault) = Skipped given given'

-- The next line was looked for. What is found is the first line of what was left and came, and leaves less, so a loop
-- over the lines ends; a fault loses no line that has its end.
pub record FindsNext (before after : Given) (old new : Held) (result : Result Line ReadFault) : Type 0 where
  pub line : IfOk result (λ line. Finds before.bytes after.bytes old new line)
  pub less : IfOk result (λ line. LeavesLess old new line)
  pub none : OnErr result (FindsNone before.bytes after.bytes old)
  pub reads : ReadsUntil before after old new result

-- A line cannot be given without a read: no end of line is held, and the end was not told.
abbrev pub NeedsRead : Held → Type 0
NeedsRead held = HasNoEnd held.left × (held.is_ended ≡ false)

-- For callers: since the source had given `start`, these lines were found. What came is these lines and then the
-- lines of what is left, however the input goes on.
pub record HasRead (start given : List ℕ) (held : Held) (found : List Text) : Type 0 where
  pub came : List ℕ
  pub grows : given ≡ start ++ came
  pub so_far : (rest : List ℕ) → (IsTrue held.is_ended → rest ≡ []) → lines (came ++ rest) ≡ found ++ lines (held.left ++ rest)
