use Rattle.store_tables.proofs.Common.{rules}
use Rattle.store_tables.proofs.EveryTable.{indexes_are, tables_are}
use Rattle.store_tables.proofs.comparing.is_begun.Goals as goal

pub returns-then-are_tables : goal.returns-then-are_tables
returns-then-are_tables c = rw (← tables_are, ← indexes_are) (search rules)

pub returns-else-are_tables : goal.returns-else-are_tables
returns-else-are_tables c = rw (← tables_are, ← indexes_are) (search rules)
