use Rattle.dbc_read.proofs.Common.{nat_cmp, nat_eq, take, message_limit}
use Rattle.dbc_read.specs.Faults.{line_number}
use Rattle.dbc_read.proofs.FirstRefused.{ArePassed}
use Rattle.dbc_read.proofs.first_fault.number_fault.Given as goal

abbrev pub invariant-loop-message : goal.invariant-loop-message
invariant-loop-message l = ArePassed nat_cmp nat_eq line_number message_limit (take l.message-index l.messages) l.before
