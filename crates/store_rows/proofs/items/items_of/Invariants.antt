use Rattle.store_rows.proofs.Common.{◌≡◌, List, take}
use Rattle.store_rows.specs.Listed.{AreShown}
use Rattle.store_rows.proofs.items.items_of.Given as goal

abbrev pub invariant-loop-row : goal.invariant-loop-row
invariant-loop-row g l = (others : List _) → AreShown g.T.FromRow.shows others (take l.row-index l.rows)
    → l.items ≡ others
