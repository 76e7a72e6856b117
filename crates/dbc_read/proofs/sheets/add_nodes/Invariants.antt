use Rattle.dbc_read.proofs.Common.{◌≡◌, ◌++◌, into_iter_items, names_of}
use Rattle.dbc_read.specs.Built.{nodes_from}
use Rattle.dbc_read.proofs.sheets.add_nodes.Given as goal

abbrev pub invariant-loop-node : goal.invariant-loop-node
invariant-loop-node l = record {
  rest : l.sheet.nodes ++ nodes_from (names_of (into_iter_items l.node-iterator)) l.comments ≡ l.initial.sheet.nodes
      ++ nodes_from (names_of l.fn.nodes) l.fn.comments;
  same : l.sheet ≡ record l.initial.sheet { nodes = l.sheet.nodes };
}
