-- Which fault of work that reads and writes one of reading is, and when each comes.
use Rattle.std.specs.Prelude.{◌≡◌, ◌+◌, ◌<◌, ◌↔◌, ◌^◌, IsErrOf, Result}
use Rattle.line_protocol.specs.Sink.{Taken}
use Rattle.line_protocol.specs.Source.{Given}
use Rattle.line_protocol.specs.Writing.{EndsInFault}
use Rattle.line_protocol.specs.declared.line_reader.ReadFault.{ReadFault}
use Rattle.line_protocol.specs.declared.line_reader.ReadFault.TheVariants as read
use Rattle.line_protocol.specs.declared.stream_fault.StreamFault.{StreamFault}
use Rattle.line_protocol.specs.declared.stream_fault.StreamFault.TheVariants.{Read, Write, TooLong}

-- the fault that one of reading is
abbrev pub stream_fault_of : ReadFault → StreamFault
stream_fault_of read.Read = Read
stream_fault_of read.TooLong = TooLong

-- When each fault came. A failed read or write was not passed over.
pub record PassesNoFaultOver {A : Type 0} (before after : Given) (taken taken' : Taken) (result : Result A StreamFault) : Type 0 where
  pub read : IsErrOf result Read ↔ (before.failures < after.failures)
  pub too_long : IsErrOf result TooLong → after.reads ≡ before.reads + 2 ^ 30
  pub write : IsErrOf result Write → EndsInFault taken taken'
  pub write_failed : taken.failures < taken'.failures → IsErrOf result Write
