use Rattle.dbc_advice.proofs.Common.{◌≡◌, ◌++◌, drop, map, node_name, text_of}
use Rattle.dbc_advice.proofs.names.names_of_nodes.Given as goal

abbrev pub invariant-loop-node : goal.invariant-loop-node
invariant-loop-node l = map text_of l.names.items ++ map node_name (drop l.node-index l.nodes) ≡ map node_name l.nodes
