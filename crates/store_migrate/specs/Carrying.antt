-- Words for carrying tables of an earlier form over to an office's.
use Rattle.std.specs.Prelude.{◌≡◌, List, IsTrue, OnOk, Result}
use Rattle.sqlite.specs.Held.{state}
use Rattle.sqlite.specs.Schema.{Schema}
use Rattle.sqlite.specs.State.{HasCleanDisk, KeepsCommit}
use Rattle.sqlite.specs.declared.transaction.Transaction.{Transaction}
use Rattle.sqlite_trees.specs.declared.store.Store.{Ghosts}
use Rattle.office_history.specs.History.{Answered}
use Rattle.office_rules.specs.Profile.{Two}
use Rattle.store_tables.specs.Statements.{IsOfficeWith, LeavesNothing, statistics_of, tables_in}
use Rattle.store_tables.specs.Tables.{IsOffice, Tables, tables_of}
use Rattle.store_migrate.specs.Forms.{HoldsAsRows}

-- each history that the tables before hold so, those after hold as rows under profile 2
abbrev pub CarriesEach : (List Answered → Tables → Type 0) → Tables → Tables → Type 0
CarriesEach Holds before after = (h : List Answered) → Holds h before → HoldsAsRows Two h after

-- where there are the tables of a schema, if it succeeds, each history that they hold so is carried over
abbrev pub CarriesFrom : {S X E : Type 0} → (g : Ghosts S) → Transaction S → Transaction S → Result X E
    → Schema → (List Answered → Tables → Type 0) → Type 0
CarriesFrom g old new result before Holds = HasCleanDisk (state g new.conn.now)
    → IsOfficeWith before (state g old.conn.now).now
    → OnOk result (CarriesEach Holds (tables_in before (state g old.conn.now).now.trees)
    (tables_of (state g new.conn.now).now.trees))

-- where there are the tables of a schema, nothing is committed, and if it succeeds, they are an office's, of the schema
-- after, with the statistics that there were, in a transaction
pub record BecomesOffice {S X E : Type 0} (g : Ghosts S) (old new : Transaction S) (result : Result X E)
    (before after : Schema) : Type 0 where
  pub same_reference : new.conn.ghost_name ≡ old.conn.ghost_name
  pub office : HasCleanDisk (state g new.conn.now) → IsOfficeWith before (state g old.conn.now).now
      → OnOk result (IsOffice (state g new.conn.now).now)
  pub schema_is : HasCleanDisk (state g new.conn.now) → IsOfficeWith before (state g old.conn.now).now
      → OnOk result ((state g new.conn.now).now.schema ≡ after)
  pub statistics : HasCleanDisk (state g new.conn.now) → IsOfficeWith before (state g old.conn.now).now
      → OnOk result (statistics_of (state g new.conn.now).now ≡ statistics_of (state g old.conn.now).now)
  pub inside : HasCleanDisk (state g new.conn.now) → IsOfficeWith before (state g old.conn.now).now
      → OnOk result (IsTrue (state g new.conn.now).in_transaction)
  pub kept : HasCleanDisk (state g new.conn.now) → IsOfficeWith before (state g old.conn.now).now
      → KeepsCommit (state g old.conn.now) (state g new.conn.now)
  pub survives : LeavesNothing (state g old.conn.now) (state g new.conn.now)
