use Rattle.page_messages.proofs.Common.{take, flat_map, Becomes, adding}
use Rattle.page_messages.specs.Nodes.{node_head}
use Rattle.page_messages.proofs.nodes.put_node_heads.Given as goal

abbrev pub invariant-loop-node : goal.invariant-loop-node
invariant-loop-node l = Becomes l.page (adding (flat_map node_head (take l.node-index l.nodes)) l.initial.page)
