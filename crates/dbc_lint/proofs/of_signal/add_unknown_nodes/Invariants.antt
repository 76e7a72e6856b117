use Rattle.dbc_lint.proofs.Common.{◌≡◌, ◌++◌, drop, flat_map}
use Rattle.dbc_lint.specs.OfSignal.{unknown_node}
use Rattle.dbc_lint.proofs.of_signal.add_unknown_nodes.Given as goal

abbrev pub invariant-loop-name : goal.invariant-loop-name
invariant-loop-name l =
    l.remarks.items ++ flat_map (unknown_node l.whole l.words l.at) (drop l.name-index l.names)
    ≡ l.initial.remarks.items ++ flat_map (unknown_node l.whole l.words l.at) l.names
