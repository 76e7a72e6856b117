use Rattle.page_changes.proofs.RisingParts.{by_number}
use Rattle.page_changes.proofs.changes.Changes.of.Goals as goal

pub returns-clause-by_number : goal.returns-clause-by_number
returns-clause-by_number c rising =
    by_number c.args.differences.now c.in_ok-messages.messages.items c.in_ok-messages.ensures rising
