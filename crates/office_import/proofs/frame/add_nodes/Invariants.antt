use Rattle.office_import.proofs.Common.{◌≡◌, ◌++◌, into_iter_items, Sheet}
use Rattle.office_import.proofs.frame.add_nodes.Given as goal

abbrev pub invariant-loop-node : goal.invariant-loop-node
invariant-loop-node l = record {
  rest : l.sheet.nodes ++ into_iter_items l.node-iterator ≡ l.initial.sheet.nodes ++ l.fn.nodes;
  same : ◌≡◌ {A = Sheet} l.sheet (record l.initial.sheet { nodes = l.sheet.nodes });
}
