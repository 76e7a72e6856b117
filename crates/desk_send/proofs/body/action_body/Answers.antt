use Rattle.desk_send.proofs.Common.{members_view}
use Rattle.desk_send.proofs.BodiesBack.{action_read}
use Rattle.desk_send.proofs.ObjectTexts.{action_flat}
use Rattle.desk_send.proofs.body.action_body.Goals as goal

pub object_text-requires-clause-shallow : goal.object_text-requires-clause-shallow
object_text-requires-clause-shallow c =
    (action_flat c.args.net.now c.args.action.now (members_view c.in_ok-members.members.entries)
    c.in_ok-members.ensures).1

pub returns-clause-back : goal.returns-clause-back
returns-clause-back c =
    action_read c.args.net.now c.args.action.now c.in_ok-object_text.field-0.items
    (members_view c.in_ok-members.members.entries) c.as_bytes.ensures.keeps c.has_form.ensures c.in_ok-members.ensures
    c.in_ok-object_text.ensures.json
