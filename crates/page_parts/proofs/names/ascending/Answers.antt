use Rattle.page_parts.proofs.Once.{once, same_once}
use Rattle.page_parts.proofs.names.ascending.Goals as goal

pub returns-clause-ascending : goal.returns-clause-ascending
returns-clause-ascending c = once _ _ c.dedup.ensures.filtered c.in_ok-sort.ensures.sorted

pub returns-clause-same : goal.returns-clause-same
returns-clause-same c = same_once _ _ _ c.in_ok-sort.ensures.permutation c.dedup.ensures.filtered
