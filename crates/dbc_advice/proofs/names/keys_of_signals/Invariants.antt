use Rattle.dbc_advice.proofs.Common.{◌≡◌, ◌++◌, drop, map, flat_map, key_of}
use Rattle.dbc_advice.specs.Names.{keys_of}
use Rattle.dbc_advice.proofs.names.keys_of_signals.Given as goal

abbrev pub invariant-loop-message : goal.invariant-loop-message
invariant-loop-message l = map key_of l.keys.items ++ flat_map keys_of (drop l.message-index l.messages)
    ≡ flat_map keys_of l.messages
