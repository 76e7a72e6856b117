use Rattle.dbc_read.proofs.Common.{◌≡◌, ◌++◌, into_iter_items}
use Rattle.dbc_read.proofs.gathered.gather_nodes.Given as goal

abbrev pub invariant-loop-node : goal.invariant-loop-node
invariant-loop-node l = l.found ++ into_iter_items l.node-iterator ≡ l.initial.found ++ l.fn.nodes.items
