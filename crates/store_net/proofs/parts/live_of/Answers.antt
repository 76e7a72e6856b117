use Rattle.store_net.proofs.Common.{IfOk-weaker}
use Rattle.store_rows.proofs.Reading.{live_shown}
use Rattle.store_net.proofs.parts.live_of.Goals as goal

pub returns-clause-found : goal.returns-clause-found
returns-clause-found g c clean office =
    IfOk-weaker c.items_of.result _ _
    (λ items one others listed. one others (rw c.deref.ensures.value (live_shown c.args.name.now _ _ others listed
    (rw c.as_bytes.ensures.bytes at (c.in_ok-rows.ensures.found clean office))))) c.items_of.ensures
