use Rattle.dbc_read.proofs.Common.{take}
use Rattle.dbc_read.specs.Faults.{entries_of}
use Rattle.dbc_read.proofs.EntryLimits.{IsFirstExcess}
use Rattle.dbc_read.proofs.first_fault.tables_fault.Given as goal

abbrev pub invariant-loop-table : goal.invariant-loop-table
invariant-loop-table l = IsFirstExcess (entries_of (take l.table-index l.tables)) l.first
