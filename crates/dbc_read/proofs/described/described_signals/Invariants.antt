use Rattle.dbc_read.proofs.Common.{◌≡◌, ◌++◌, drop}
use Rattle.dbc_read.specs.Described.{described, described_with, own_offsets}
use Rattle.dbc_read.proofs.described.described_signals.Given as goal

abbrev pub invariant-loop-signal : goal.invariant-loop-signal
invariant-loop-signal l =
    l.found.items ++ described_with (own_offsets l.line) (drop l.signal-index l.line.signals.items) l.left
    ≡ described l.line
