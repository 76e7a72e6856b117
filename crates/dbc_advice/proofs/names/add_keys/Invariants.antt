use Rattle.dbc_advice.proofs.Common.{◌≡◌, ◌++◌, drop, map, number_of, Signal, key_of}
use Rattle.dbc_advice.specs.Names.{keys_of}
use Rattle.dbc_advice.proofs.names.add_keys.Given as goal

abbrev pub invariant-loop-signal : goal.invariant-loop-signal
invariant-loop-signal l = map key_of l.keys.items ++ map (λ (s : Signal). (number_of l.message, s.name))
    (drop l.signal-index l.message.signals) ≡ map key_of l.initial.keys.items ++ keys_of l.message
