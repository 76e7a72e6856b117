use Rattle.store_changes.proofs.Common.{IfOk-weaker}
use Rattle.store_changes.proofs.TeamKeys.{keys_are_of}
use Rattle.store_changes.proofs.requests.keys_of.Goals as goal

pub returns-clause-found : goal.returns-clause-found
returns-clause-found g c clean office =
    IfOk-weaker c.keys_in.result _ _
    (λ keys shown h kept. keys_are_of _ _ h _ _ keys.items kept (c.in_ok-rows.ensures.found clean office)
    (rw c.deref.ensures.value at shown) c.as_bytes.ensures.bytes) c.keys_in.ensures
