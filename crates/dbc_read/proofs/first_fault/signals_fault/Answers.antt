use Rattle.dbc_read.proofs.FaultsAt.{signals_fault_at}
use Rattle.dbc_read.proofs.first_fault.signals_fault.Goals as goal

pub returns-then-is_some-clause-fault : goal.returns-then-is_some-clause-fault
returns-then-is_some-clause-fault c =
    signals_fault_at c.args.messages.now c.loop-message.message-index c.message-item.result c.in_ok-fault.fault
    c.loop-message-test.true c.message-item.is c.loop-message.invariant c.in_ok-fault.ensures.fault
