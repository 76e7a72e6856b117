-- What one connection does with its source and its sink.
use Rattle.std.specs.Prelude.{◌≡◌, ◌⊎◌, ℕ, ◌+◌, Result, Ok, Err, IsErrOf}
use Rattle.desk_types.specs.Moved.{GivesAtMost}
use Rattle.desk_types.specs.declared.device.Sink as sink
use Rattle.desk_types.specs.declared.device.Source as source
use Rattle.desk_types.specs.declared.fault.DeskFault.{DeskFault}
use Rattle.desk_types.specs.declared.fault.DeskFault.TheVariants.{Read, Write, Memory}
use Rattle.desk_head.specs.Limits.{request_limit}
use Rattle.desk_call.specs.Read.{StopsShort}

-- how many calls of the source, and how many of the sink, have failed
pub record Failures : Type 0 where
  pub reads : ℕ
  pub writes : ℕ

-- one read or one write failed where the fault says so, and else none
abbrev pub CountsFault : {T : Type 0} → Result T DeskFault → Failures → Failures → Type 0
CountsFault (Ok v) old new = (new.reads ≡ old.reads) × (new.writes ≡ old.writes)
CountsFault (Err Read) old new = (new.reads ≡ old.reads + 1) × (new.writes ≡ old.writes)
CountsFault (Err Write) old new = (new.reads ≡ old.reads) × (new.writes ≡ old.writes + 1)
CountsFault (Err Memory) old new = (new.reads ≡ old.reads) × (new.writes ≡ old.writes)

-- However a connection ended: at most a greatest request was taken, and one call failed where the fault says so. If it
-- was a read, the bytes before hold no whole request. If a read failed or memory ran out, nothing was written.
pub record UsesDevices {R W T : Type 0} (from : source.Ghosts R) (to : sink.Ghosts W) (result : Result T DeskFault)
    (source_old source_new : R) (sink_old sink_new : W) : Type 0 where
  pub most : GivesAtMost (from.left source_old) (from.left source_new) request_limit
  pub count : CountsFault result
      (record { reads = from.failure_count source_old; writes = to.failure_count sink_old })
      (record { reads = from.failure_count source_new; writes = to.failure_count sink_new })
  pub short : IsErrOf result Read → StopsShort (from.left source_old) (from.left source_new)
  pub unwritten : IsErrOf result Read ⊎ IsErrOf result Memory → sink_new ≡ sink_old
