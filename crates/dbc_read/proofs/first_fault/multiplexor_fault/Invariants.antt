use Rattle.dbc_read.proofs.Common.{take, is_multiplexor}
use Rattle.dbc_read.specs.Described.{Described}
use Rattle.dbc_read.proofs.Multiplexors.{PassOnce}
use Rattle.dbc_read.proofs.first_fault.multiplexor_fault.Given as goal

abbrev pub invariant-loop-signal : goal.invariant-loop-signal
invariant-loop-signal l = PassOnce (λ (s : Described). is_multiplexor s.signal.mux) (take l.signal-index l.signals)
    l.has_multiplexor
