use Rattle.dbc_write.proofs.Adds.{also}
use Rattle.dbc_write.proofs.sheet.lines.Goals as goal

pub returns : goal.returns
returns c =
    let tables = rw c.tables.ensures.tables at c.in_ok-table_lines.ensures in
    let messages = rw c.messages.ensures.messages at c.in_ok-messages.ensures in
    let file_comment = rw c.comment.ensures at c.in_ok-file_comment.ensures in
    let node_comments = rw c.nodes.ensures.nodes at c.in_ok-node_comments.ensures in
    let message_comments = rw c.messages-3.ensures.messages at c.in_ok-message_comments.ensures in
    let defined = also (also c.in_ok-heading.ensures tables) messages in
    let commented = also (also (also defined file_comment) node_comments) message_comments in
    also (also (also commented c.in_ok-spns.ensures) c.in_ok-lines.ensures) c.in_ok-lines-2.ensures
