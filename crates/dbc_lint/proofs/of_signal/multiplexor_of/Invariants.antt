use Rattle.dbc_lint.proofs.Common.{◌≡◌, drop}
use Rattle.dbc_lint.specs.OfSignal.{multiplexor_of}
use Rattle.dbc_lint.proofs.of_signal.multiplexor_of.Given as goal

-- the one that is looked for is among those that are left
abbrev pub invariant-loop-signal : goal.invariant-loop-signal
invariant-loop-signal l = multiplexor_of l.signals ≡ multiplexor_of (drop l.signal-index l.signals)
