use Rattle.store_changes.proofs.Common.{sym, ◌∙◌, IfOk-weaker}
use Rattle.store_changes.proofs.KeptParts.{parts_are_shown}
use Rattle.store_changes.proofs.replies.parts_at.Goals as goal

pub returns-clause-found : goal.returns-clause-found
returns-clause-found g c clean office =
    IfOk-weaker c.items_of.result _ _ (λ items one h kept a first is_team is_key found. one _ (rw c.deref.ensures.value
    (parts_are_shown a h _ _ _ _ first kept (is_team ∙ sym c.as_bytes.ensures.bytes)
    (is_key ∙ sym c.as_bytes-2.ensures.bytes) found (c.in_ok-rows.ensures.found clean office)))) c.items_of.ensures
