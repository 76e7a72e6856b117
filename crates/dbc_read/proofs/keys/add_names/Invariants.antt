use Rattle.dbc_read.proofs.Common.{◌≡◌, ◌++◌, drop, map, names_of}
use Rattle.dbc_read.specs.Keys.{text_of}
use Rattle.dbc_read.proofs.keys.add_names.Given as goal

abbrev pub invariant-loop-node : goal.invariant-loop-node
invariant-loop-node l = map text_of l.found.items ++ names_of (drop l.node-index l.nodes)
    ≡ map text_of l.initial.found.items ++ names_of l.nodes
