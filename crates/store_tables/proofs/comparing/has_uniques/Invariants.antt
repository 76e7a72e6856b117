use Rattle.store_tables.proofs.Common.{◌≡◌, map, take}
use Rattle.store_tables.proofs.comparing.has_uniques.Given as goal

abbrev pub invariant-loop-at : goal.invariant-loop-at
invariant-loop-at l = take l.at l.uniques ≡ take l.at (map (λ columns. columns.now) l.lists)
