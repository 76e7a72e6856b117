use Rattle.office_looks.proofs.Common.{◌≡◌, ◌≤◌, length, ap, ◌∙◌, arith}
use Rattle.office_looks.proofs.Owning.{fewer_messages, fewer_owners}
use Rattle.office_looks.proofs.messages.owned_count.Goals as goal

pub returns-then-messages-owners-clause-all : goal.returns-then-messages-owners-clause-all
returns-then-messages-owners-clause-all c =
    let view = c.args.view.now in
    let m : length c.messages-messages.result.now ≡ length view.sheet.messages =
    ap length c.messages-messages.ensures.messages in
    let o : length c.as_slice-owners.result.now ≡ length view.owners = ap length c.as_slice-owners.ensures in
    let few : length view.sheet.messages ≤ length view.owners = omega arith in
    m ∙ fewer_messages view few

pub returns-else-messages-owners-clause-all : goal.returns-else-messages-owners-clause-all
returns-else-messages-owners-clause-all c =
    let view = c.args.view.now in
    let m : length c.messages-messages.result.now ≡ length view.sheet.messages =
    ap length c.messages-messages.ensures.messages in
    let o : length c.as_slice-owners.result.now ≡ length view.owners = ap length c.as_slice-owners.ensures in
    let few : length view.owners ≤ length view.sheet.messages = omega arith in
    o ∙ fewer_owners view few
