use Rattle.store_net.proofs.Common.{IfOk-weaker}
use Rattle.store_net.proofs.Names.{names_are}
use Rattle.store_net.proofs.nets.names_of.Goals as goal

pub returns-clause-found : goal.returns-clause-found
returns-clause-found g c clean office =
    IfOk-weaker c.names_in.result _ _
    (λ names shown nets are. names_are _ _ names.items nets (c.in_ok-rows.ensures.found clean office)
    (rw c.deref.ensures.value at shown) are) c.names_in.ensures
