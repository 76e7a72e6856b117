use Rattle.store.proofs.Common.{IfOk-weaker}
use Rattle.store.proofs.DecidedOnPart.{next_unwanted}
use Rattle.store.proofs.deciding.decide_on_tables.Goals as goal

pub returns-in_ok-decision-clause-decided : goal.returns-in_ok-decision-clause-decided
returns-in_ok-decision-clause-decided g c clean office net book at is_net in_book =
    let decided = c.in_ok-decision.ensures.decided clean office net book at is_net in_book in
    (decided.0, next_unwanted net c.in_ok-decision.decision.changes decided.1)

pub returns-then-not-reads_releases-clause-decided : goal.returns-then-not-reads_releases-clause-decided
returns-then-not-reads_releases-clause-decided g c clean office =
    IfOk-weaker c.decide_without_releases.result _ _ (λ it decided net book at is_net in_book. decided net book at
    in_book) (c.decide_without_releases.ensures.decided clean office)

pub returns-then-not-reads_bodies-clause-decided : goal.returns-then-not-reads_bodies-clause-decided
returns-then-not-reads_bodies-clause-decided g c clean office =
    IfOk-weaker c.decide_by_count.result _ _ (λ it decided net book at is_net in_book. decided net book at in_book)
    (c.decide_by_count.ensures.decided clean office)

pub returns-else-not-reads_bodies-clause-decided : goal.returns-else-not-reads_bodies-clause-decided
returns-else-not-reads_bodies-clause-decided g c clean office =
    IfOk-weaker c.decide_by_net.result _ _ (λ it decided net book at is_net in_book. decided net book at in_book)
    (c.decide_by_net.ensures.decided clean office)
