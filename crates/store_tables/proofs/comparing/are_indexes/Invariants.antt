use Rattle.store_tables.proofs.Common.{◌≡◌, map, take}
use Rattle.store_tables.specs.Comparing.{every_index, index_of}
use Rattle.store_tables.proofs.comparing.are_indexes.Given as goal

abbrev pub invariant-loop-at : goal.invariant-loop-at
invariant-loop-at l = take l.at l.indexes ≡ take l.at (map index_of every_index)
