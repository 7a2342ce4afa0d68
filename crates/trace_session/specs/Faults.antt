-- Which fault of a session a fault of reading is.
use Rattle.std.specs.Prelude.{ℕ, Result, Ok, Err, Option, Some, None}
use Rattle.line_protocol.specs.declared.flushing.LineFault.{LineFault}
use Rattle.line_protocol.specs.declared.flushing.LineFault.TheVariants as line
use Rattle.line_protocol.specs.declared.line_reader.ReadFault.{ReadFault}
use Rattle.line_protocol.specs.declared.line_reader.ReadFault.TheVariants as read
use Rattle.trace_session.specs.declared.session_end.SessionFault.{SessionFault}
use Rattle.trace_session.specs.declared.session_end.SessionFault.TheVariants.{Read, Write, TooLong}

abbrev pub session_fault_of : ReadFault → SessionFault
session_fault_of read.Read = Read
session_fault_of read.TooLong = TooLong

-- the same, of a fault before the next line was found
abbrev pub session_fault_by : LineFault → SessionFault
session_fault_by (line.Read fault) = session_fault_of fault
session_fault_by line.Write = Write

-- the fault of reading that a fault of a session is, if it is one
abbrev pub read_fault_of : SessionFault → Option ReadFault
read_fault_of Read = Some read.Read
read_fault_of TooLong = Some read.TooLong
read_fault_of other = None

-- the fault of reading in which a call ended, if it did
abbrev pub read_fault_in : {A : Type 0} → Result A SessionFault → Option ReadFault
read_fault_in (Ok value) = None
read_fault_in (Err fault) = read_fault_of fault

-- how many reads failed before this fault came
abbrev pub failed_reads_by : SessionFault → ℕ
failed_reads_by Read = 1
failed_reads_by other = 0

-- how many reads failed in a call that ended so
abbrev pub failed_reads_in : {A : Type 0} → Result A SessionFault → ℕ
failed_reads_in (Ok value) = 0
failed_reads_in (Err fault) = failed_reads_by fault
