use Rattle.page_changes.proofs.Common.{map}
use Rattle.page_changes.specs.Changes.{list_of, messages_in}
use Rattle.page_changes.proofs.ChangeParts.{message_cut}
use Rattle.page_changes.proofs.changes.message_changes.Goals as goal

pub loop-first-preserved : goal.loop-first-preserved
loop-first-preserved c =
    message_cut c.count_beside-count.result c.loop-first.rest.now c.in-Some.later.now c.split_at.result.0.now
    c.split_at.result.1.now c.in-Some.first.now (map list_of c.loop-first.messages.items)
    (map list_of c.add_message.new.messages.items) (messages_in c.args.differences.now) c.in-Some.ensures.cases.0
    c.count_beside-count.ensures.is c.split_at.ensures.front c.split_at.ensures.back c.in_ok-add_message.ensures
    c.loop-first.invariant
