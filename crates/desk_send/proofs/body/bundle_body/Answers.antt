use Rattle.desk_send.proofs.Common.{members_view}
use Rattle.desk_send.proofs.ObjectTexts.{bundle_flats}
use Rattle.desk_send.proofs.body.bundle_body.Goals as goal

pub object_text-requires-clause-shallow : goal.object_text-requires-clause-shallow
object_text-requires-clause-shallow c =
    (bundle_flats c.as_slice-2.result.now (members_view c.in_ok-members.members.entries) c.in_ok-members.ensures).1
