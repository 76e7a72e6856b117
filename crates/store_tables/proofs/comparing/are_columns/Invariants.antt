use Rattle.store_tables.proofs.Common.{◌≡◌, map, take}
use Rattle.store_tables.specs.Comparing.{column_at}
use Rattle.store_tables.proofs.comparing.are_columns.Given as goal

abbrev pub invariant-loop-at : goal.invariant-loop-at
invariant-loop-at l = take l.at l.columns ≡ take l.at (map column_at l.office)
