use Rattle.store_rows.proofs.Common.{◌≡◌, List, take, filter}
use Rattle.store_rows.specs.Listed.{AreShown}
use Rattle.store_rows.specs.Showing.{ShowsBlock, is_own}
use Rattle.store_rows.proofs.granted.granted_of.Given as goal

abbrev pub invariant-loop-row : goal.invariant-loop-row
invariant-loop-row l = (others : List _) → AreShown ShowsBlock others (filter is_own (take l.row-index l.rows))
    → l.items ≡ others
