use Rattle.store_net.proofs.Common.{IfOk-weaker}
use Rattle.store_rows.proofs.Reading.{spn_blocks_are_shown}
use Rattle.store_net.proofs.parts.spn_blocks_of.Goals as goal

pub returns-clause-found : goal.returns-clause-found
returns-clause-found g c clean office =
    IfOk-weaker c.items_of.result _ _
    (λ items one others listed. one others (rw c.deref.ensures.value (spn_blocks_are_shown _ _ others listed
    (rw (c.from.ensures, c.number.ensures.number) at (c.in_ok-rows.ensures.found clean office))))) c.items_of.ensures
