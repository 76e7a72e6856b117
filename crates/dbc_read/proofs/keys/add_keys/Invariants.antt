use Rattle.dbc_read.proofs.Common.{◌≡◌, ◌++◌, drop, map, dbc_number, keys_of, SignalLine, message_of, signals_of}
use Rattle.dbc_read.specs.Keys.{key_of}
use Rattle.dbc_read.proofs.keys.add_keys.Given as goal

abbrev pub invariant-loop-signal : goal.invariant-loop-signal
invariant-loop-signal l = map key_of l.found.items ++ map (λ (s : SignalLine). (dbc_number l.line.ident, s.name))
    (signals_of (drop l.signal-index l.line.signals.items)) ≡ map key_of l.initial.found.items
    ++ keys_of (message_of l.line)
