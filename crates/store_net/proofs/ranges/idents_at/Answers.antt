use Rattle.store_net.proofs.Common.{IfOk-weaker}
use Rattle.store_net.specs.Numbers.{idents_between}
use Rattle.store_net.proofs.ranges.idents_at.Goals as goal

pub returns-clause-found : goal.returns-clause-found
returns-clause-found g c clean office =
    IfOk-weaker c.items_of.result _ _
    (λ items one idents has. one (idents_between c.args.first c.args.last idents)
    (rw c.deref.ensures.value (c.in_ok-rows.ensures.found clean office idents has))) c.items_of.ensures
