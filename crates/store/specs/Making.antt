-- Words for what makes the tables of an office below an open and `migrate`: `old` is the connection before, `new` the
-- one after. A result is that it is done, or why it is lost or fails.
use Rattle.std.specs.Prelude.{◌≡◌, ◌≢◌, ◌⊎◌, Result, IsTrue, IfErr, OnErr, OnOk}
use Rattle.sqlite.specs.Effect.{Database}
use Rattle.sqlite.specs.Held.{Held, state}
use Rattle.sqlite.specs.Schema.{Schema}
use Rattle.sqlite.specs.State.{HasCleanDisk, IsUnchanged, Survives}
use Rattle.sqlite.specs.declared.transaction.Transaction.{Transaction}
use Rattle.sqlite_trees.specs.declared.store.Store.{Ghosts}
use Rattle.store_tables.specs.Schema.{IsCurrentSchema, IsOfficeSchema, analyzed_schema, no_schema, office_schema}
use Rattle.store_tables.specs.Schema.{schema_13}
use Rattle.store_tables.specs.Statements.{AddsNoCommit, IsOfficeWith, LeavesNothing}
use Rattle.store_tables.specs.Tables.{tables_of}
use Rattle.store_migrate.specs.FormSchema.{schema_of}
use Rattle.store_migrate.specs.ProfileRows.{HasProfileRows}
use Rattle.store_migrate.specs.declared.forms.SchemaForm.{SchemaForm}
use Rattle.store_migrate.specs.declared.forms.SchemaForm.TheVariants.{Foreign}
use Rattle.store_migrate.specs.declared.profile_rows.ProfileRows.{ProfileRows}
use Rattle.store_migrate.specs.declared.profile_rows.ProfileRows.TheVariants.{Newer, Second}
use Rattle.store.specs.declared.lost.Lost.{Lost}
use Rattle.store.specs.declared.lost.Lost.TheVariants.{NewerProfile, OlderProfile}
use Rattle.store.specs.Calls.{OnOpen, ShowsSame}
use Rattle.store.specs.Lost.{IsOfCall}
use Rattle.store.specs.Opening.{AreTreesOf, HasCommitted, HasProfileRowsOf, HasOlderProfileRows, IsCarried, IsGrown}
use Rattle.store.specs.Opening.{IsNew, MayMigrateFrom, MayOpen}

-- the connection has this schema
abbrev pub HasSchema : {S : Type 0} → Ghosts S → Held S → Schema → Type 0
HasSchema g conn schema = (state g conn).now.schema ≡ schema

-- the connection has all tables of an office, with statistics after them or not
abbrev pub HasAllTables : {S : Type 0} → Ghosts S → Held S → Type 0
HasAllTables g conn = IsCurrentSchema (state g conn).now.schema

-- the rows of its profile say this
abbrev pub SaysMarks : {S : Type 0} → Ghosts S → Held S → ProfileRows → Type 0
SaysMarks g conn marks = HasProfileRows (tables_of (state g conn).now.trees) marks

-- ---- when a promise is made: no disk is in doubt, and this is so

-- this was the schema
abbrev pub OnSchema : {S : Type 0} → Ghosts S → Held S → Held S → Schema → Type 0 → Type 0
OnSchema g old new schema Promise = HasCleanDisk (state g new) → HasSchema g old schema → Promise

-- all tables of an office were there
abbrev pub OnAllTables : {S : Type 0} → Ghosts S → Held S → Held S → Type 0 → Type 0
OnAllTables g old new Promise = HasCleanDisk (state g new) → HasAllTables g old → Promise

-- the schema was that of an office of some time
abbrev pub OnOfficeSchema : {S : Type 0} → Ghosts S → Held S → Held S → Type 0 → Type 0
OnOfficeSchema g old new Promise = HasCleanDisk (state g new) → IsOfficeSchema (state g old).now.schema → Promise

-- the tables were those of an office that lack the table of bundles' parts alone
abbrev pub OnNoParts : {S : Type 0} → Ghosts S → Held S → Held S → Type 0 → Type 0
OnNoParts g old new Promise = HasCleanDisk (state g new) → IsOfficeWith schema_13 (state g old).now → Promise

-- the tables were those of an office of some form: the promise is made of that form
abbrev pub OnForm : {S : Type 0} → Ghosts S → Held S → Held S → (SchemaForm → Type 0) → Type 0
OnForm g old new Promise = HasCleanDisk (state g new) → (form : SchemaForm) → form ≢ Foreign
    → IsOfficeWith (schema_of form) (state g old).now → Promise form

-- ---- what is promised

-- if it is done, the connection has committed such a database
abbrev pub CommitsOnOk : {S X E : Type 0} → Ghosts S → Held S → Result X E → (Database → Type 0) → Type 0
CommitsOnOk g new result IsSo = OnOk result (HasCommitted IsSo (state g new))

-- if it isn't, what was committed still is
abbrev pub KeepsCommitOnErr : {S X E : Type 0} → Ghosts S → Held S → Held S → Result X E → Type 0
KeepsCommitOnErr g old new result = OnErr result ((state g new).committed ≡ (state g old).committed)

-- if it isn't, the connection shows what was committed, which still is
abbrev pub ShowsCommitOnErr : {S X E : Type 0} → Ghosts S → Held S → Held S → Result X E → Type 0
ShowsCommitOnErr g old new result =
    OnErr result (((state g new).now ≡ (state g old).committed) × ((state g new).committed ≡ (state g old).committed))

-- ---- of what finds tables that are no office's

-- it only asks, by one statement on whatever tables: inside a transaction nothing is committed, and a crash finds
-- nothing more
pub record OnlyAsks {S : Type 0} (g : Ghosts S) (old new : Transaction S) : Type 0 where
  pub same_reference : new.conn.ghost_name ≡ old.conn.ghost_name
  pub kept : IsTrue (state g old.conn.now).in_transaction → AddsNoCommit (state g old.conn.now) (state g new.conn.now)
  pub survives : LeavesNothing (state g old.conn.now) (state g new.conn.now)

-- all tables stay, whatever they are
pub record StaysWhole {S : Type 0} (g : Ghosts S) (old new : Held S) : Type 0 where
  -- if the connection is open after the call, it shows what it showed, and the same is committed
  pub same : OnOpen g new (ShowsSame g old new)
  -- a crash leaves nothing that it didn't leave before
  pub survives : Survives (state g old) (state g new) (λ _. ⊥)

-- where there is a table, index or view, and the tables aren't those of an office of some time, all stay
abbrev pub KeepsOthers : {S : Type 0} → Ghosts S → Held S → Held S → Type 0
KeepsOthers g old new = ¬ HasSchema g old no_schema → ¬ IsOfficeSchema (state g old).now.schema
    → StaysWhole g old new

-- ---- of what makes new tables, where there was none

-- if it is done, the tables are new
abbrev pub MakesNew : {S X E : Type 0} → Ghosts S → Held S → Held S → Result X E → Type 0
MakesNew g old new result = OnSchema g old new no_schema (CommitsOnOk g new result IsNew)

-- if it isn't and the connection is open, nothing was made
abbrev pub MakesNoneOnErr : {S X E : Type 0} → Ghosts S → Held S → Held S → Result X E → Type 0
MakesNoneOnErr g old new result =
    OnSchema g old new no_schema (IsTrue (state g new).is_open → ShowsCommitOnErr g old new result)

-- a crash leaves what it could leave before, or new tables
abbrev pub LeavesNew : {S : Type 0} → Ghosts S → Held S → Held S → Type 0
LeavesNew g old new = HasSchema g old no_schema → Survives (state g old) (state g new) (AreTreesOf IsNew)

-- ---- of what makes the table of parts, where that alone was missing

-- if it is done, all tables are there, and the rows are as they were
abbrev pub MakesParts : {S X E : Type 0} → Ghosts S → Held S → Held S → Result X E → Type 0
MakesParts g old new result = OnNoParts g old new (CommitsOnOk g new result (IsGrown (state g old).now.trees))

-- what completes an office's tables
pub record Completes {S X : Type 0} (g : Ghosts S) (old new : Held S) (result : Result X Lost) : Type 0 where
  -- it is done only on the tables of an office, of which that of parts alone may be missing
  pub taken : OnOk result (HasSchema g old schema_13 ⊎ HasAllTables g old)
  -- then all tables are there, and no statistics where there were none
  pub tables : HasCleanDisk (state g new) → OnOk result (HasAllTables g new)
  pub none_come : HasCleanDisk (state g new) → ¬ HasSchema g old analyzed_schema
      → OnOk result (HasSchema g new office_schema)
  -- where all were there, nothing changes
  pub same : HasAllTables g old → OnOk result (new ≡ old)
  -- where that of parts was missing, it is made
  pub grown : MakesParts g old new result
  -- it isn't lost by the profile
  pub named : IfErr result IsOfCall
  -- where it is lost and the connection is open, what was committed still is
  pub back : OnOpen g new (KeepsCommitOnErr g old new result)

-- ---- of what readies the tables for an open

-- if it is done
pub record ReadiesOnOk {S X : Type 0} (g : Ghosts S) (old new : Held S) (result : Result X Lost) : Type 0 where
  -- only tables that may be opened are taken, and then all are there, and no statistics where there were none
  pub taken : HasCleanDisk (state g new) → OnOk result (MayOpen (state g old).now.schema)
  pub tables : HasCleanDisk (state g new) → OnOk result (HasAllTables g new)
  pub none_come : HasCleanDisk (state g new) → ¬ HasSchema g old analyzed_schema
      → OnOk result (HasSchema g new office_schema)
  -- of whatever office they were, the profile was the second
  pub second : OnOfficeSchema g old new (OnOk result (SaysMarks g old Second))
  -- no table: new ones are made
  pub made : MakesNew g old new result
  -- all tables of an office: nothing changes
  pub same : OnAllTables g old new (OnOk result (IsUnchanged (state g old) (state g new)))
  -- that of parts was missing: it is made
  pub grown : MakesParts g old new result

-- if it is lost
pub record UnreadyOnErr {S X : Type 0} (g : Ghosts S) (old new : Held S) (result : Result X Lost) : Type 0 where
  -- by another profile only where the tables of an office are of such a one
  pub older : OnOfficeSchema g old new
      (IfErr result (λ lost. lost ≡ OlderProfile → HasOlderProfileRows (tables_of (state g old).now.trees)))
  pub newer : OnOfficeSchema g old new (IfErr result (λ lost. lost ≡ NewerProfile → SaysMarks g old Newer))
  -- no table: it isn't lost by the profile
  pub named : HasSchema g old no_schema → IfErr result IsOfCall
  -- no table, or those of an office, and the connection is open: what was committed still is
  pub back : HasCleanDisk (state g new) → HasSchema g old no_schema ⊎ IsOfficeSchema (state g old).now.schema
      → IsTrue (state g new).is_open → KeepsCommitOnErr g old new result

-- ---- of what makes the tables those of now, for `migrate`

-- if it is done
pub record MakesCurrentOnOk {S X : Type 0} (g : Ghosts S) (old new : Held S) (result : Result X Lost) : Type 0 where
  -- only tables that may be migrated from are taken, and the profile was one that tables of their form have
  pub taken : HasCleanDisk (state g new) → OnOk result (MayMigrateFrom (state g old).now.schema)
  pub known : HasCleanDisk (state g new) → (form : SchemaForm) → form ≢ Foreign → HasSchema g old (schema_of form)
      → OnOk result (HasProfileRowsOf form (tables_of (state g old).now.trees))
  -- no table: new ones are made
  pub made : MakesNew g old new result
  -- all tables of an office, of the second profile: nothing changes
  pub same : OnAllTables g old new
      (SaysMarks g old Second → OnOk result (IsUnchanged (state g old) (state g new)))
  -- of the second profile, and that of parts was missing: it is made
  pub grown : OnNoParts g old new
      (SaysMarks g old Second → CommitsOnOk g new result (IsGrown (state g old).now.trees))
  -- of another profile: the tables are carried over
  pub carried : OnForm g old new
      (λ form. ¬ SaysMarks g old Second → CommitsOnOk g new result (IsCarried form (state g old).now.trees))

-- if it is lost
pub record NotCurrentOnErr {S X : Type 0} (g : Ghosts S) (old new : Held S) (result : Result X Lost) : Type 0 where
  -- by a newer profile only where the tables of an office are of such a one, and never by an older
  pub newer : OnOfficeSchema g old new (IfErr result (λ lost. lost ≡ NewerProfile → SaysMarks g old Newer))
  pub never_older : IfErr result (λ lost. lost ≢ OlderProfile)
  -- no table: it isn't lost by the profile
  pub named : HasSchema g old no_schema → IfErr result IsOfCall
  -- no table, or those of an office, and the connection is open: what was committed still is
  pub back : OnForm g old new (λ form. IsTrue (state g new).is_open → KeepsCommitOnErr g old new result)
  pub new_back : OnSchema g old new no_schema (IsTrue (state g new).is_open → KeepsCommitOnErr g old new result)
