use Rattle.dbc_read.proofs.Common.{take}
use Rattle.dbc_read.proofs.EntryLimits.{IsFirstExcess}
use Rattle.dbc_read.proofs.first_fault.values_fault.Given as goal

abbrev pub invariant-loop-entries : goal.invariant-loop-entries
invariant-loop-entries l = IsFirstExcess (take l.entries-index l.values) l.first
