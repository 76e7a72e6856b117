use Rattle.dbc_read.proofs.Common.{into_iter_items, err_from_is_err_and, node_name, Node, names_of}
use Rattle.dbc_read.specs.Built.{nodes_from}
use Rattle.dbc_read.proofs.SheetsFit.{node_refused}
use Rattle.dbc_read.proofs.sheets.add_nodes.Goals as goal

pub returns-in_err-with_node-clause-refused : goal.returns-in_err-with_node-clause-refused
returns-in_err-with_node-clause-refused c =
    let p = err_from_is_err_and c.from_residual.result c.from_residual.ensures.1 in
    let before = c.loop-node.sheet.nodes in
    let node : Node = record { name = c.in-Some.node.name; comment = c.next_or-comment.result } in
    let after = nodes_from (names_of (into_iter_items c.next.new.self)) c.next_or-comment.new.self in
    rw (p.1, p.2) (node_refused node_name before node after _ _
    (rw (c.next_or-comment.ensures.value, c.empty.ensures, c.next_or-comment.ensures.rest)
    (rw c.in-Some.ensures.steps.0 at c.loop-node.invariant.rest)) c.in_err-with_node.ensures.refused)
