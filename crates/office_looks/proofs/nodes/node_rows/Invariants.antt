use Rattle.office_looks.proofs.Common.{◌≡◌, map, take}
use Rattle.office_looks.specs.Nodes.{node_row}
use Rattle.office_looks.proofs.nodes.node_rows.Given as goal

abbrev pub invariant-loop-node : goal.invariant-loop-node
invariant-loop-node l = l.rows ≡ map (node_row l.messages) (take l.node-index l.nodes)
