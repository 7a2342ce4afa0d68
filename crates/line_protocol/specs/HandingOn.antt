-- What becomes of what was written before the next line is read.
use Rattle.std.specs.Prelude.{◌≡◌, ℕ, IsTrue, Result, Ok, Err, Option, Some, None}
use Rattle.line_protocol.specs.Held.{Held}
use Rattle.line_protocol.specs.LineReading.{FindsNext, NeedsRead, failed_reads_of}
use Rattle.line_protocol.specs.Patience.{FlushesPatiently}
use Rattle.line_protocol.specs.Sink.{Taken}
use Rattle.line_protocol.specs.Source.{Given}
use Rattle.line_protocol.specs.Writing.{GoesWell, HandsAllOn, StopsHandingOn}
use Rattle.line_protocol.specs.declared.line.Line.{Line}
use Rattle.line_protocol.specs.declared.flushing.LineFault.{LineFault}
use Rattle.line_protocol.specs.declared.flushing.LineFault.TheVariants.{Read, Write}
use Rattle.line_protocol.specs.declared.line_reader.ReadFault.{ReadFault}

-- What was written stays, and was perhaps handed on.
abbrev pub KeepsAll : Taken → Taken → Type 0
KeepsAll before after = (after.bytes ≡ before.bytes) × GoesWell before after × FlushesPatiently before.calls after.calls

-- What was written is handed on where the next line needs a read, and else stays as it is.
abbrev pub HandsOnBefore : {A : Type 0} → Held → Result A LineFault → Taken → Taken → Type 0
HandsOnBefore held (Ok value) before after =
    KeepsAll before after × (NeedsRead held → IsTrue after.is_flushed) × (¬ NeedsRead held → after ≡ before)
HandsOnBefore held (Err (Read fault)) before after = HandsAllOn before after
HandsOnBefore held (Err Write) before after = StopsHandingOn before after

-- The next line was looked for; or what was written was not handed on, and nothing was looked for.
abbrev pub FindsBehind : {R : Type 0} (seen : R → Given) (source source' : R) (old new : Held) → Result Line LineFault → Type 0
FindsBehind seen source source' old new (Ok line) = FindsNext (seen source) (seen source') old new (Ok line)
FindsBehind seen source source' old new (Err (Read fault)) = FindsNext (seen source) (seen source') old new (Err fault)
FindsBehind seen source source' old new (Err Write) = (source' ≡ source) × (new ≡ old)

-- the fault of reading in which a call ended, if it did
abbrev pub read_fault_in : {A : Type 0} → Result A LineFault → Option ReadFault
read_fault_in (Ok value) = None
read_fault_in (Err (Read fault)) = Some fault
read_fault_in (Err Write) = None

-- how many reads failed in a call that ended so
abbrev pub failed_reads_in : {A : Type 0} → Result A LineFault → ℕ
failed_reads_in (Ok value) = 0
failed_reads_in (Err (Read fault)) = failed_reads_of fault
failed_reads_in (Err Write) = 0
