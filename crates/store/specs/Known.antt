-- What an office remembers of its tables.
use Rattle.sqlite.specs.Held.{Held, state}
use Rattle.sqlite.specs.State.{HasCleanDisk}
use Rattle.sqlite_trees.specs.declared.store.Store.{Ghosts}
use Rattle.store_looks.specs.Seen.{IsTrueOf, Known}
use Rattle.store_tables.specs.Tables.{tables_of}
use Rattle.store.specs.Opening.{HasTables}

-- where no disk is in doubt and the connection has the tables of an office, what is remembered is so in them
abbrev pub IsKnown : {S : Type 0} → Ghosts S → Held S → Known → Type 0
IsKnown g conn known = HasCleanDisk (state g conn) → HasTables (state g conn)
    → IsTrueOf known (tables_of (state g conn).now.trees)
