use Rattle.dbc_lint.proofs.Common.{take, HasNamesOf, node_name}
use Rattle.dbc_lint.proofs.whole.names_of_nodes.Given as goal

abbrev pub invariant-loop-node : goal.invariant-loop-node
invariant-loop-node l = HasNamesOf node_name (take l.node-index l.nodes) l.names
