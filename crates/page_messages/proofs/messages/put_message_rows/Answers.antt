use Rattle.page_messages.proofs.Common.{◌∙◌, List, subst, enumerate_from, flat_map, take_all, Message, Becomes, adding}
use Rattle.markup.proofs.Changes.{numbered_added}
use Rattle.page_messages.specs.Messages.{message_row}
use Rattle.page_messages.proofs.messages.put_message_rows.Goals as goal

pub loop-index-preserved : goal.loop-index-preserved
loop-index-preserved c =
    numbered_added (message_row c.args.subject.now c.args.marks.now c.args.columns) c.messages-message-items.result.now
    c.loop-index.index c.message-item.result c.args.page.now c.loop-index.page c.put_message_row.new.page
    c.loop-index-test.true c.message-item.is c.loop-index.invariant c.put_message_row.ensures

pub returns : goal.returns
returns c =
    let row = message_row c.args.subject.now c.args.marks.now c.args.columns in
    let messages = c.messages-message-items in
    subst (λ (v : List Message).
    Becomes c.loop-index.page (adding (flat_map row (enumerate_from 0 v)) c.args.page.now))
    (take_all c.loop-index.index messages.result.now c.loop-index-test.false ∙ messages.ensures) c.loop-index.invariant
