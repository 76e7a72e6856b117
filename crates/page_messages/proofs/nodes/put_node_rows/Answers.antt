use Rattle.page_messages.proofs.Common.{ap, ◌∙◌, count_by, adding, item_added}
use Rattle.std.specs.Prelude.{ℕ}
use Rattle.office_views.specs.Sending.{sends}
use Rattle.office_views.specs.Tally.{times}
use Rattle.page_messages.specs.Nodes.{counts_row, node_row}
use Rattle.page_messages.proofs.nodes.put_node_rows.Goals as goal

pub loop-node-preserved : goal.loop-node-preserved
loop-node-preserved c =
    let messages = c.args.messages.now in
    let node = c.node-item.result in
    item_added (node_row messages) c.args.nodes.now c.loop-node.node-index node _ _ _ c.loop-node-test.true
    c.node-item.is c.loop-node.invariant
    (λ h. c.put_node_row.ensures h
    ∙ ap (λ (k : ℕ). adding (counts_row k (times c.in_ok-received.received node.name) node) c.loop-node.page)
    (c.in_ok-sent.ensures node.name)
    ∙ ap (λ (k : ℕ). adding (counts_row (count_by (sends node.name) messages) k node) c.loop-node.page)
    (c.in_ok-received.ensures node.name))
