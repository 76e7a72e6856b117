use Rattle.store_tables.proofs.Common.{◌≡◌, map, take}
use Rattle.store_tables.specs.Schema.{ascending}
use Rattle.store_tables.proofs.comparing.are_ascending.Given as goal

abbrev pub invariant-loop-at : goal.invariant-loop-at
invariant-loop-at l = take l.at l.orders ≡ take l.at (map (λ _. ascending) l.lists)
