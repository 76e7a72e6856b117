use Rattle.store_rows.proofs.Common.{sym, subst, ◌∙◌}
use Rattle.store_bodies.specs.Body.{IsBody}
use Rattle.store_rows.proofs.Values.{one_blob, one_text, one_message, whole_message}
use Rattle.store_rows.proofs.from_row.LiveMessageFromRow.from_row.Goals as goal

pub returns-in-Some : goal.returns-in-Some
returns-in-Some c other shows =
    let body = one_blob _ shows.body c.in_ok-body.body.now shows.shown c.in_ok-body.ensures in
    let reads = subst (λ t. IsBody t other.message) body shows.reads in
    whole_message c.in-Some.message c.in_ok-owner.owner other
    (one_message c.in-Some.message other.message (sym c.in-Some.is ∙ c.in_ok-message.ensures.found other.message reads))
    (one_text _ c.in_ok-owner.owner other.owner c.in_ok-owner.ensures shows.owner)
