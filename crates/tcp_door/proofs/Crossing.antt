-- What is read of a connection and what is written to it may go to another thread. It is shown type by type, lowest first: a
-- search that goes down through all of them runs out of steps.
use denote.Param.Send.{IsSend, IsSync, sendable}
use Rattle.std.proofs.Crossing.{crosses}
use Rattle.line_protocol.specs.contracts.buffered_sink.Buffered as Buffered
use Rattle.line_protocol.specs.contracts.from_reader.FromReader as FromReader
use Rattle.line_protocol.specs.contracts.into_writer.IntoWriter as IntoWriter
use Rattle.line_protocol.specs.declared.sink.Sink.{Ghosts}
use Rattle.tcp_door.specs.contracts.half.Connection as Connection
use Rattle.tcp_door.specs.contracts.half.Half as Half

connection_send : IsSend Connection.the_row
connection_send = search (sendable, crosses) depth 20

connection_sync : IsSync Connection.the_row
connection_sync = search (sendable, crosses) depth 20

half_send : IsSend Half.the_row
half_send = search (sendable, crosses, connection_send, connection_sync) depth 20

pub reader_send : IsSend (FromReader.the_row Half.the_row)
reader_send = search (sendable, crosses, half_send) depth 20

into_writer_send : IsSend (IntoWriter.the_row Half.the_row)
into_writer_send = search (sendable, crosses, half_send) depth 20

pub writer_send : (seen : Ghosts (IntoWriter.the_row Half.the_row).Denot) → IsSend (Buffered.the_row (IntoWriter.the_row Half.the_row) seen)
writer_send seen = search (sendable, crosses, into_writer_send) depth 20
