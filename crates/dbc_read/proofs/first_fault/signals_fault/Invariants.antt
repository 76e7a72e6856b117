use Rattle.dbc_read.proofs.Common.{take}
use Rattle.dbc_read.specs.Faults.{HaveSignalLines}
use Rattle.dbc_read.proofs.first_fault.signals_fault.Given as goal

abbrev pub invariant-loop-message : goal.invariant-loop-message
invariant-loop-message l = HaveSignalLines (take l.message-index l.messages)
