-- Connections in memory.
use Rattle.desk.specs.declared.memory_listener.EndedConnection.{EndedConnection}
use Rattle.desk.specs.Serving.{Ending}

abbrev pub ending_of : EndedConnection → Ending
ending_of e = record { written = e.written.items; failed_reads = e.failed_reads; failed_writes = e.failed_writes }
