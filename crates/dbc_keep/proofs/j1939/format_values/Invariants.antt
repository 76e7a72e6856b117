use Rattle.dbc_keep.proofs.Common.{◌≡◌, ◌++◌, take, flat_map}
use Rattle.dbc_keep.specs.J1939.{format_value}
use Rattle.dbc_keep.proofs.j1939.format_values.Given as goal

abbrev pub invariant-loop-message : goal.invariant-loop-message
invariant-loop-message l = l.text.items
    ≡ l.initial.text.items ++ flat_map format_value (take l.message-index l.messages)
