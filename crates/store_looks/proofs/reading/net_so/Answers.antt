use Rattle.store_looks.proofs.Common.{IfOk-weaker}
use Rattle.store_looks.proofs.ReadWhole.{read_bare, read_whole}
use Rattle.store_looks.proofs.reading.net_so.Goals as goal

pub returns-then-releases-clause-found : goal.returns-then-releases-clause-found
returns-then-releases-clause-found g c clean office =
    IfOk-weaker c.net_at.result _ _
    (λ found is net at. read_whole c.args.releases net found c.if-releases.true (is net at))
    (c.net_at.ensures.found clean office)

pub returns-else-releases-clause-found : goal.returns-else-releases-clause-found
returns-else-releases-clause-found g c clean office =
    IfOk-weaker c.unreleased_net_at.result _ _
    (λ found is net at. read_bare c.args.releases net found c.if-releases.false (is net at))
    (c.unreleased_net_at.ensures.found clean office)
