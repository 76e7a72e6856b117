-- What a function on a transaction keeps, whatever else it does: one record for each kind of function. After them,
-- words for what else it does. A transaction is its connection's: `conn`.
use Rattle.std.specs.Prelude.{◌≡◌, OnOk, Result}
use Rattle.sqlite.specs.Held.{state}
use Rattle.sqlite.specs.Schema.{Schema}
use Rattle.sqlite.specs.State.{HasCleanDisk}
use Rattle.sqlite.specs.declared.transaction.Transaction.{Transaction}
use Rattle.sqlite.specs.Tree.{Trees}
use Rattle.sqlite_trees.specs.declared.store.Store.{Ghosts}
use Rattle.store_tables.specs.Statements.{AddsNoCommit, ChangesNothing, CommitsNothing, EndsInside, Finds, FindsIn}
use Rattle.store_tables.specs.Statements.{KeepsSchema, KeepsStatistics, LeavesNothing, MakesTables, StaysInside}
use Rattle.store_tables.specs.Statements.{StaysOffice, StaysSame, Writes}
use Rattle.store_tables.specs.Statements.{AreMade, Grows, HasNoTable, IsEmptyOffice, IsOfficeWith}
use Rattle.store_tables.specs.Tables.{IsEmptyWith, Tables}

-- it only reads: if it succeeds, it leaves everything as it is
pub record ReadsOnly {S X E : Type 0} (g : Ghosts S) (old new : Transaction S) (result : Result X E) : Type 0 where
  pub same_reference : new.conn.ghost_name ≡ old.conn.ghost_name
  pub same : ChangesNothing result (state g old.conn.now) (state g new.conn.now)
  pub kept : CommitsNothing (state g old.conn.now) (state g new.conn.now)
  pub survives : LeavesNothing (state g old.conn.now) (state g new.conn.now)

-- it only reads, by several statements or none: if it succeeds, it leaves a connection that is open as it is
pub record ReadsWhileOpen {S X E : Type 0} (g : Ghosts S) (old new : Transaction S) (result : Result X E) : Type 0 where
  pub same_reference : new.conn.ghost_name ≡ old.conn.ghost_name
  pub same : StaysSame result (state g old.conn.now) (state g new.conn.now)
  pub kept : CommitsNothing (state g old.conn.now) (state g new.conn.now)
  pub survives : LeavesNothing (state g old.conn.now) (state g new.conn.now)

-- it only writes, on any tables: nothing is committed, and a crash finds nothing more
pub record OnlyWrites {S : Type 0} (g : Ghosts S) (old new : Transaction S) : Type 0 where
  pub same_reference : new.conn.ghost_name ≡ old.conn.ghost_name
  pub kept : AddsNoCommit (state g old.conn.now) (state g new.conn.now)
  pub survives : LeavesNothing (state g old.conn.now) (state g new.conn.now)

-- it only writes; on an office's tables, if it succeeds, they are an office's still, and the transaction goes on
pub record WritesAndStaysIn {S X E : Type 0} (g : Ghosts S) (old new : Transaction S) (result : Result X E) : Type 0
  where
    pub same_reference : new.conn.ghost_name ≡ old.conn.ghost_name
    pub office : StaysOffice result (state g old.conn.now) (state g new.conn.now)
    pub same_schema : KeepsSchema result (state g old.conn.now) (state g new.conn.now)
    pub statistics : KeepsStatistics result (state g old.conn.now) (state g new.conn.now)
    pub inside : StaysInside result (state g old.conn.now) (state g new.conn.now)
    pub kept : AddsNoCommit (state g old.conn.now) (state g new.conn.now)
    pub survives : LeavesNothing (state g old.conn.now) (state g new.conn.now)

-- the same, but the transaction is open then, whether or not it was before
pub record WritesAndEndsIn {S X E : Type 0} (g : Ghosts S) (old new : Transaction S) (result : Result X E) : Type 0
  where
    pub same_reference : new.conn.ghost_name ≡ old.conn.ghost_name
    pub office : StaysOffice result (state g old.conn.now) (state g new.conn.now)
    pub same_schema : KeepsSchema result (state g old.conn.now) (state g new.conn.now)
    pub statistics : KeepsStatistics result (state g old.conn.now) (state g new.conn.now)
    pub inside : EndsInside result (state g old.conn.now) (state g new.conn.now)
    pub kept : AddsNoCommit (state g old.conn.now) (state g new.conn.now)
    pub survives : LeavesNothing (state g old.conn.now) (state g new.conn.now)

-- it reads and writes an office's tables: if it succeeds, they are an office's still, and the transaction goes on
pub record StaysIn {S X E : Type 0} (g : Ghosts S) (old new : Transaction S) (result : Result X E) : Type 0 where
  pub same_reference : new.conn.ghost_name ≡ old.conn.ghost_name
  pub office : StaysOffice result (state g old.conn.now) (state g new.conn.now)
  pub same_schema : KeepsSchema result (state g old.conn.now) (state g new.conn.now)
  pub statistics : KeepsStatistics result (state g old.conn.now) (state g new.conn.now)
  pub inside : StaysInside result (state g old.conn.now) (state g new.conn.now)
  pub kept : CommitsNothing (state g old.conn.now) (state g new.conn.now)
  pub survives : LeavesNothing (state g old.conn.now) (state g new.conn.now)

-- the same, but the transaction is open then, whether or not it was before
pub record EndsIn {S X E : Type 0} (g : Ghosts S) (old new : Transaction S) (result : Result X E) : Type 0 where
  pub same_reference : new.conn.ghost_name ≡ old.conn.ghost_name
  pub office : StaysOffice result (state g old.conn.now) (state g new.conn.now)
  pub same_schema : KeepsSchema result (state g old.conn.now) (state g new.conn.now)
  pub statistics : KeepsStatistics result (state g old.conn.now) (state g new.conn.now)
  pub inside : EndsInside result (state g old.conn.now) (state g new.conn.now)
  pub kept : CommitsNothing (state g old.conn.now) (state g new.conn.now)
  pub survives : LeavesNothing (state g old.conn.now) (state g new.conn.now)

-- ---- what else it does

-- if it succeeds, this holds of its answer and of the tables
abbrev pub Asks : {S X E : Type 0} → (g : Ghosts S) → Transaction S → Transaction S → Result X E
    → (X → Tables → Type 0) → Type 0
Asks g old new result IsFound = Finds result (state g old.conn.now) (state g new.conn.now) IsFound

-- if it succeeds, this holds of its answer and of the trees, in which each row has its rowid first
abbrev pub AsksTrees : {S X E : Type 0} → (g : Ghosts S) → Transaction S → Transaction S → Result X E
    → (X → Trees → Type 0) → Type 0
AsksTrees g old new result IsFound = FindsIn result (state g old.conn.now) (state g new.conn.now) IsFound

-- if it succeeds, it makes these tables of those that there were, and the transaction is open
abbrev pub Edits : {S X E : Type 0} → (g : Ghosts S) → Transaction S → Transaction S → Result X E
    → (Tables → Tables) → Type 0
Edits g old new result made = MakesTables result (state g old.conn.now) (state g new.conn.now) made

-- if it succeeds, this holds of the tables before and after it
abbrev pub Relates : {S X E : Type 0} → (g : Ghosts S) → Transaction S → Transaction S → Result X E
    → (Tables → Tables → Type 0) → Type 0
Relates g old new result IsWritten = Writes result (state g old.conn.now) (state g new.conn.now) IsWritten

-- ---- what it does when it makes tables

-- where there is no table, if it succeeds, it makes those of the schema, with no row
abbrev pub MakesFromNone : {S X E : Type 0} → (g : Ghosts S) → Transaction S → Transaction S → Result X E
    → Schema → Type 0
MakesFromNone g old new result after = HasCleanDisk (state g new.conn.now) → HasNoTable (state g old.conn.now)
    → OnOk result (AreMade after (state g new.conn.now))

-- where there is no table, if it succeeds, it makes the office's, with no row
abbrev pub MakesOffice : {S X E : Type 0} → (g : Ghosts S) → Transaction S → Transaction S → Result X E → Type 0
MakesOffice g old new result = HasCleanDisk (state g new.conn.now) → HasNoTable (state g old.conn.now)
    → OnOk result (IsEmptyOffice (state g new.conn.now))

-- where those of a schema have no row, if it succeeds, it makes those of a schema with more, with no row
abbrev pub MakesNext : {S X E : Type 0} → (g : Ghosts S) → Transaction S → Transaction S → Result X E
    → Schema → Schema → Type 0
MakesNext g old new result before after = HasCleanDisk (state g new.conn.now)
    → IsEmptyWith before (state g old.conn.now).now → OnOk result (AreMade after (state g new.conn.now))

-- where there are those of a schema, with whatever rows, if it succeeds, it makes those of a schema with more, and no
-- row changes
abbrev pub AddsTables : {S X E : Type 0} → (g : Ghosts S) → Transaction S → Transaction S → Result X E
    → Schema → Schema → Type 0
AddsTables g old new result before after = HasCleanDisk (state g new.conn.now)
    → IsOfficeWith before (state g old.conn.now).now
    → OnOk result (Grows before after (state g old.conn.now) (state g new.conn.now))

-- where the tables are those of a schema, if it succeeds, they are those of a schema with more
abbrev pub Extends : {S X E : Type 0} → (g : Ghosts S) → Transaction S → Transaction S → Result X E
    → Schema → Schema → Type 0
Extends g old new result before after = HasCleanDisk (state g new.conn.now) → (state g old.conn.now).now.schema ≡ before
    → OnOk result ((state g new.conn.now).now.schema ≡ after)
