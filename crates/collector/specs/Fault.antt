-- How the program's faults are told.
use Rattle.std.specs.Prelude.{ℕ, List, codes}
use Rattle.std.specs.declared.io.ErrorKind.{ErrorKind}
use Rattle.std.specs.declared.io.ErrorKind.TheVariants.{OutOfMemory}
use Rattle.trace_types.specs.declared.world_fault.WorldFault.{WorldFault}
use Rattle.trace_types.specs.declared.world_fault.WorldFault.TheVariants as world
use Rattle.line_protocol.specs.declared.stream_fault.StreamFault.{StreamFault}
use Rattle.line_protocol.specs.declared.stream_fault.StreamFault.TheVariants as stream
use Rattle.trace_export.specs.declared.check_fault.CheckFault.{CheckFault}
use Rattle.trace_export.specs.declared.check_fault.CheckFault.TheVariants as check
use Rattle.tcp_door.specs.declared.tcp_door.DoorRefusal.{DoorRefusal}
use Rattle.tcp_door.specs.declared.tcp_door.DoorRefusal.TheVariants as door
use Rattle.trace_session.specs.declared.serving.ServeFault.{ServeFault}
use Rattle.trace_session.specs.declared.serving.ServeFault.TheVariants as serving
use Rattle.collector.specs.declared.fault.Fault.{Fault}
use Rattle.collector.specs.declared.fault.Fault.TheVariants.{Words, Tenants, Port, Accept, Read, Write, TooLong, Memory}

-- the status with which the program ends
abbrev pub status_of : Fault → ℕ
status_of Words = 2
status_of Tenants = 2
status_of Port = 3
status_of Accept = 3
status_of Read = 3
status_of Write = 3
status_of TooLong = 3
status_of Memory = 4

-- the line on standard error
abbrev pub line_of_fault : Fault → List ℕ
line_of_fault Words = codes "itc_trace: words\n"
line_of_fault Tenants = codes "itc_trace: tenants\n"
line_of_fault Port = codes "itc_trace: port\n"
line_of_fault Accept = codes "itc_trace: accept fault\n"
line_of_fault Read = codes "itc_trace: read fault\n"
line_of_fault Write = codes "itc_trace: write fault\n"
line_of_fault TooLong = codes "itc_trace: input too long\n"
line_of_fault Memory = codes "itc_trace: no memory\n"

-- the program's fault if no world is made
abbrev pub fault_of_world : WorldFault → Fault
fault_of_world world.Names = Tenants
fault_of_world world.Capacity = Words
fault_of_world world.Memory = Memory

-- the program's fault if a replay stops, or an export is not loaded whole
abbrev pub fault_of_stream : StreamFault → Fault
fault_of_stream stream.Read = Read
fault_of_stream stream.Write = Write
fault_of_stream stream.TooLong = TooLong
fault_of_stream stream.Memory = Memory

-- the program's fault if a check stops
abbrev pub fault_of_check : CheckFault → Fault
fault_of_check check.Read = Read
fault_of_check check.TooLong = TooLong
fault_of_check check.Memory = Memory

-- the program's fault if no door is opened
abbrev pub fault_of_refusal : DoorRefusal → Fault
fault_of_refusal door.Port = Port
fault_of_refusal door.Memory = Memory

-- the program's fault if no more is served
abbrev pub fault_of_serving : ServeFault → Fault
fault_of_serving serving.Workers = Words
fault_of_serving serving.Door = Accept
fault_of_serving serving.Memory = Memory

-- the program's fault if its words cannot be had
abbrev pub fault_of_words : ErrorKind → Fault
fault_of_words OutOfMemory = Memory
fault_of_words kind = Words
