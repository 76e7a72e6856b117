use Rattle.store_tables.proofs.Common.{◌≡◌, map, take}
use Rattle.store_tables.specs.Comparing.{every_table, table_of}
use Rattle.store_tables.proofs.comparing.are_tables.Given as goal

abbrev pub invariant-loop-at : goal.invariant-loop-at
invariant-loop-at l = take l.at l.tables ≡ take l.at (map table_of every_table)
