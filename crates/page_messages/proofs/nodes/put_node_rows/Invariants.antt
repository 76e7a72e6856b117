use Rattle.page_messages.proofs.Common.{take, flat_map, Becomes, adding}
use Rattle.page_messages.specs.Nodes.{node_row}
use Rattle.page_messages.proofs.nodes.put_node_rows.Given as goal

abbrev pub invariant-loop-node : goal.invariant-loop-node
invariant-loop-node l =
    Becomes l.page (adding (flat_map (node_row l.messages) (take l.node-index l.nodes)) l.initial.page)
