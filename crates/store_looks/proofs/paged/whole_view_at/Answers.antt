use Rattle.store_looks.proofs.Common.{subst, IfOk-weaker}
use Rattle.store_looks.specs.Seen.{IsSeen}
use Rattle.store_looks.proofs.Seeing.{whole_seen}
use Rattle.store_looks.proofs.paged.whole_view_at.Goals as goal

pub returns-clause-found : goal.returns-clause-found
returns-clause-found g c clean office =
    IfOk-weaker c.view_at.result _ _
    (λ found seen net at book in_book. whole_seen net book found
    (subst (λ reads. IsSeen reads net book found) c.all_read-reads.ensures (seen net at book in_book)))
    (c.view_at.ensures.found clean office)
