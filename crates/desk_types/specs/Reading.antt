-- What becomes of a source that is read.
use Rattle.std.specs.Prelude.{ℕ, Result}
use Rattle.desk_types.specs.declared.device.Source.{Ghosts}
use Rattle.desk_types.specs.declared.fault.ReadFault.{ReadFault}
use Rattle.desk_types.specs.Counts.{CountsRead}
use Rattle.desk_types.specs.Moved.{GivesAtMost}

-- However reading ended, the source gave at most so many bytes, and one call failed where the fault is that of a read.
pub record ReadsAtMost {R T : Type 0} (source : Ghosts R) (old new : R) (limit : ℕ)
    (result : Result T ReadFault) : Type 0 where
  pub most : GivesAtMost (source.left old) (source.left new) limit
  pub count : CountsRead result (source.failure_count old) (source.failure_count new)
