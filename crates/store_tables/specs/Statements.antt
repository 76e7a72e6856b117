-- What a statement in a transaction makes of the tables, and words for what it does.
use Rattle.std.specs.Prelude.{◌≡◌, List, [], drop, map, IfOk, IsTrue, OnOk, Result}
use Rattle.sqlite.specs.Change.{KeepsRows, created, next_tree}
use Rattle.sqlite.specs.Effect.{Database}
use Rattle.sqlite.specs.Schema.{Schema}
use Rattle.sqlite.specs.Table.{Table}
use Rattle.sqlite.specs.Tree.{Trees}
use Rattle.sqlite.specs.State.{State, HasCleanDisk, IsUnchanged, KeepsCommit, Survives}
use Rattle.sqlite_catalog.specs.Listing.{IsSound}
use Rattle.sqlite.specs.Order.{Row}
use Rattle.store_tables.specs.Schema.{no_schema, office_schema}
use Rattle.store_tables.specs.Tables.{AreNumbered, Tables, named, row_by, tables_of, no_rows, IsOffice, IsEmptyWith}

-- the rows of each of these tables
abbrev pub rows_in : List Table → Trees → List (List Row)
rows_in tables db = map (λ t. map (row_by t.key) (db t.tree)) tables

-- the rows of the tables after the fourteen of an office: those of the statistics, if they are there
abbrev pub statistics_in : Schema → Trees → List (List Row)
statistics_in schema db = rows_in (drop 14 schema.tables) db

abbrev pub statistics_of : Database → List (List Row)
statistics_of db = statistics_in db.schema db.trees

-- the tables of the office before, changed in this way, are those after, and the statistics stay; nothing is committed
pub record Makes (change : Tables → Tables) (old new : State) : Type 0 where
  pub office : IsOffice new.now
  pub same_schema : new.now.schema ≡ old.now.schema
  pub statistics : statistics_of new.now ≡ statistics_of old.now
  pub tables_are : tables_of new.now.trees ≡ change (tables_of old.now.trees)
  pub committed : new.committed ≡ old.committed
  pub inside : IsTrue new.in_transaction
  pub was_open : IsTrue old.is_open
  pub is_open : IsTrue new.is_open

-- inside a transaction, the tables of a schema as they are made: none has a row
pub record AreMade (schema : Schema) (new : State) : Type 0 where
  pub empty : IsEmptyWith schema new.now
  pub sound : IsSound schema new.now.trees
  pub inside : IsTrue new.in_transaction

-- inside a transaction, the tables of the office with no row, and no statistics
pub record IsEmptyOffice (new : State) : Type 0 where
  pub office : IsOffice new.now
  pub schema_is : new.now.schema ≡ office_schema
  pub tables_are : tables_of new.now.trees ≡ no_rows
  pub inside : IsTrue new.in_transaction

-- a database with the tables of a schema, which have the rows of these trees, and one more table, which has none
pub record IsAt (schema : Schema) (table : Table) (old : Trees) (new : Database) : Type 0 where
  pub schema_is : new.schema ≡ created schema table
  pub others : KeepsRows schema.tables old new.trees
  pub empty : new.trees (next_tree schema) ≡ []

pub record IsTableAdded (schema : Schema) (table : Table) (old : Trees) (new : Database) : Type 0 where
  pub at : IsAt schema table old new
  pub sound : IsSound (created schema table) new.trees

-- The tables of a schema that has the first of the office's tables: those that it lacks have no row.
abbrev pub tables_in : Schema → Trees → Tables
tables_in schema db = named (rows_in schema.tables db)

-- a database with the tables of the schema, and whatever rows
pub record IsOfficeWith (schema : Schema) (db : Database) : Type 0 where
  pub schema_is : db.schema ≡ schema
  pub sound : IsSound schema db.trees
  pub numbered : AreNumbered schema db.trees

-- from one schema to a greater one: no row changed
pub record Grows (before after : Schema) (old new : State) : Type 0 where
  pub office : IsOfficeWith after new.now
  pub tables_are : tables_in after new.now.trees ≡ tables_in before old.now.trees
  pub inside : IsTrue new.in_transaction

-- ---- words for a statement on the office's tables, or for several of them

-- What is promised of tables is under two conditions: they are the office's, and the disk has done its part.

-- if it succeeds, this holds of its answer and the tables
abbrev pub Finds : {X E : Type 0} → Result X E → State → State → (X → Tables → Type 0) → Type 0
Finds result old new IsFound = HasCleanDisk new → IsOffice old.now
    → IfOk result (λ x. IsFound x (tables_of old.now.trees))

-- if it succeeds, this holds of its answer and the trees, in which each row has its rowid first
abbrev pub FindsIn : {X E : Type 0} → Result X E → State → State → (X → Trees → Type 0) → Type 0
FindsIn result old new IsFound = HasCleanDisk new → IsOffice old.now → IfOk result (λ x. IsFound x old.now.trees)

-- if it succeeds, it leaves everything as it is
abbrev pub ChangesNothing : {X E : Type 0} → Result X E → State → State → Type 0
ChangesNothing result old new = HasCleanDisk new → IsOffice old.now → OnOk result (IsUnchanged old new)

-- the same of a connection that is open, after several statements or none
abbrev pub StaysSame : {X E : Type 0} → Result X E → State → State → Type 0
StaysSame result old new = HasCleanDisk new → IsOffice old.now → IsTrue old.is_open → OnOk result (IsUnchanged old new)

-- if it succeeds, it makes these tables of those that there were
abbrev pub MakesTables : {X E : Type 0} → Result X E → State → State → (Tables → Tables) → Type 0
MakesTables result old new made = HasCleanDisk new → IsOffice old.now → OnOk result (Makes made old new)

-- if it succeeds, this holds of the tables before and after it
abbrev pub Writes : {X E : Type 0} → Result X E → State → State → (Tables → Tables → Type 0) → Type 0
Writes result old new IsWritten = HasCleanDisk new → IsOffice old.now
    → OnOk result (IsWritten (tables_of old.now.trees) (tables_of new.now.trees))

-- if it succeeds, the tables are the office's still
abbrev pub StaysOffice : {X E : Type 0} → Result X E → State → State → Type 0
StaysOffice result old new = HasCleanDisk new → IsOffice old.now → OnOk result (IsOffice new.now)

-- if it succeeds, there are the same tables: statistics after the office's only if they were there
abbrev pub KeepsSchema : {X E : Type 0} → Result X E → State → State → Type 0
KeepsSchema result old new = HasCleanDisk new → IsOffice old.now → OnOk result (new.now.schema ≡ old.now.schema)

-- and the rows of the statistics are as they were
abbrev pub KeepsStatistics : {X E : Type 0} → Result X E → State → State → Type 0
KeepsStatistics result old new = HasCleanDisk new → IsOffice old.now
    → OnOk result (statistics_of new.now ≡ statistics_of old.now)

-- if it succeeds, the transaction goes on
abbrev pub StaysInside : {X E : Type 0} → Result X E → State → State → Type 0
StaysInside result old new = HasCleanDisk new → IsOffice old.now → IsTrue old.in_transaction
    → OnOk result (IsTrue new.in_transaction)

-- whether it succeeds or not, it commits nothing; a query on any other tables may fail in any way
abbrev pub CommitsNothing : State → State → Type 0
CommitsNothing old new = HasCleanDisk new → IsOffice old.now → KeepsCommit old new

-- the same on any tables
abbrev pub AddsNoCommit : State → State → Type 0
AddsNoCommit old new = HasCleanDisk new → KeepsCommit old new

-- and leaves nothing more for a crash to find
abbrev pub LeavesNothing : State → State → Type 0
LeavesNothing old new = Survives old new (λ _. ⊥)

-- if it succeeds, a transaction is open, whether or not one was before
abbrev pub EndsInside : {X E : Type 0} → Result X E → State → State → Type 0
EndsInside result old new = HasCleanDisk new → IsOffice old.now → OnOk result (IsTrue new.in_transaction)

-- ---- words for making tables

-- there is no table
abbrev pub HasNoTable : State → Type 0
HasNoTable s = s.now.schema ≡ no_schema
