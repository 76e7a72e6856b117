use Rattle.office_looks.proofs.Common.{◌∙◌, ap, count_by, sends}
use Rattle.office_looks.specs.Nodes.{counts_row, node_row}
use Rattle.office_looks.proofs.nodes.node_rows.Goals as goal
use Rattle.rows.proofs.Pushing.{row_more}

pub loop-node-preserved : goal.loop-node-preserved
loop-node-preserved c =
    let messages = c.args.messages.now in
    let node = c.node-item.result in
    row_more (node_row messages) c.args.nodes.now c.loop-node.node-index node c.loop-node.rows c.push_node.new.rows
    (counts_row c.times-sending.result c.times-receiving.result node)
    c.loop-node-test.true c.node-item.is c.loop-node.invariant
    (ap (λ k. counts_row k c.times-receiving.result node) (c.times-sending.ensures ∙ c.in_ok-sent.ensures node.name)
    ∙ ap (λ k. counts_row (count_by (sends node.name) messages) k node)
    (c.times-receiving.ensures ∙ c.in_ok-received.ensures node.name))
    c.in_ok-push_node.ensures
