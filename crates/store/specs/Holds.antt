-- Tables that hold a history.
use Rattle.std.specs.Prelude.{List}
use Rattle.office_rules.specs.Profile.{Two}
use Rattle.store_tables.specs.Tables.{Tables}
use Rattle.office_history.specs.History.{Answered}
use Rattle.store_migrate.specs.Forms.{HoldsAsRows}

-- The form of now: the tables are of profile 2, and live messages are rows. The history itself may have arrivals of
-- both profiles.
abbrev pub Holds : List Answered → Tables → Type 0
Holds = HoldsAsRows Two
