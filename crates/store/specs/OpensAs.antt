-- What opening an office, and migrating to one, makes of a connection: `old` is the one before.
use Rattle.std.specs.Prelude.{◌≡◌, ◌≢◌, ◌⊎◌, false, List, [], Result, Ok, Err, IsTrue, MatchResult}
use Rattle.sqlite.specs.Held.{Held, state}
use Rattle.sqlite.specs.State.{HasCleanDisk, IsUnchanged, Survives}
use Rattle.sqlite.specs.Tree.{Trees}
use Rattle.sqlite_trees.specs.declared.store.Store.{Ghosts}
use Rattle.store_tables.specs.Schema.{analyzed_schema, office_schema}
use Rattle.store_tables.specs.Statements.{statistics_of}
use Rattle.store_tables.specs.Tables.{tables_of}
use Rattle.office_history.specs.History.{Answered}
use Rattle.store_migrate.specs.declared.forms.SchemaForm.{SchemaForm}
use Rattle.store_migrate.specs.declared.forms.SchemaForm.TheVariants.{Bodies, Rows}
use Rattle.store_migrate.specs.declared.profile_rows.ProfileRows.TheVariants.{Newer, Second}
use Rattle.store.specs.declared.lost.Lost.{Lost}
use Rattle.store.specs.declared.lost.Lost.TheVariants.{NewerProfile, OlderProfile}
use Rattle.store.specs.Calls.{HoldsThroughCrash, IsSettled, LeavesHistory, OnTables}
use Rattle.store.specs.Holding.{Holding, Keeps, Leaves}
use Rattle.store.specs.Lost.{IsOfCall}
use Rattle.store.specs.Making.{HasAllTables, HasSchema, SaysMarks}
use Rattle.store.specs.Office.{OfficeView}
use Rattle.store.specs.Opening.{AreTreesOf, HasCommitted, HasForm, HasProfileRowsOf, HasNone, HasOffice}
use Rattle.store.specs.Opening.{HasOlderProfileRows, HasTables}
use Rattle.store.specs.Opening.{HoldingInSomeForm, IsGrown, IsNew, MayComplete, MayMigrateFrom, MayOpen, StatisticsStay}

-- the connection afterwards: the office's, or the one that is given back
abbrev pub conn_of : {S : Type 0} → Result (OfficeView S) (Lost × Held S) → Held S
conn_of (Ok office) = office.conn
conn_of (Err lost) = lost.1

-- ---- when a promise is made: no disk is in doubt, and the connection had this

-- no table
abbrev pub OnNone : {S : Type 0} → Ghosts S → Held S → Held S → Type 0 → Type 0
OnNone g old new Promise = HasCleanDisk (state g new) → HasNone (state g old) → Promise

-- the tables of an office of some time
abbrev pub OnOffice : {S : Type 0} → Ghosts S → Held S → Held S → Type 0 → Type 0
OnOffice g old new Promise = HasCleanDisk (state g new) → HasOffice (state g old) → Promise

-- the tables of an office of this form
abbrev pub OnTablesOf : {S : Type 0} → SchemaForm → Ghosts S → Held S → Held S → Type 0 → Type 0
OnTablesOf form g old new Promise = HasCleanDisk (state g new) → HasForm form (state g old) → Promise

-- a history, in tables of some profile and form: the promise is made of each such history
abbrev pub OnSomeForm : {S : Type 0} → Ghosts S → Held S → Held S → (List Answered → Type 0) → Type 0
OnSomeForm g old new Promise =
    HasCleanDisk (state g new) → (h : List Answered) → HoldingInSomeForm h (state g old) → Promise h

-- ---- what is promised

-- the office's connection has committed the tables from before, with the table of bundles' parts
abbrev pub HasGrown : {S : Type 0} → Ghosts S → Held S → Held S → Type 0
HasGrown g old new = HasCommitted (IsGrown (state g old).now.trees) (state g new)

-- a crash leaves what was committed before, or such trees
abbrev pub LeavesCommittedOr : {S : Type 0} → Ghosts S → Held S → Held S → (Trees → Type 0) → Type 0
LeavesCommittedOr g old new AreSo = Leaves (λ db. (db ≡ (state g old).committed.trees) ⊎ AreSo db) (state g new)

-- a history in tables of some profile and form: a crash leaves what was committed, or tables of now that hold it, and
-- the statistics that there were
abbrev pub LeavesInForm : {S : Type 0} → Ghosts S → Held S → Held S → Type 0
LeavesInForm g old new = OnSomeForm g old new
    (λ h. LeavesCommittedOr g old new (λ db. Keeps h db × StatisticsStay (state g old).now db))

-- and the connection shows those that there were, with the same rows
abbrev pub ShowsStatistics : {S : Type 0} → Ghosts S → Held S → Held S → Type 0
ShowsStatistics g old new = OnSomeForm g old new (λ h. StatisticsStay (state g old).now (state g new).now.trees
    × (statistics_of (state g new).now ≡ statistics_of (state g old).now))

-- ---- an office was opened

pub record IsOpened {S : Type 0} (g : Ghosts S) (old : Held S) (office : OfficeView S) : Type 0 where
  -- it hasn't failed
  pub working : office.failed ≡ false
  -- there was no table, or those of an office of now, maybe without that of parts; and then all are there
  pub taken : HasCleanDisk (state g office.conn) → MayOpen (state g old).now.schema
  pub tables : HasCleanDisk (state g office.conn) → HasAllTables g office.conn
  -- no statistics are there where there were none
  pub none_come : HasCleanDisk (state g office.conn) → ¬ HasSchema g old analyzed_schema
      → HasSchema g office.conn office_schema
  -- of whatever office they were, the profile was the second
  pub second : OnOffice g old office.conn (SaysMarks g old Second)
  -- no table: it has new ones, which hold the empty history, and no statistics
  pub made : OnNone g old office.conn (HoldsThroughCrash g office.conn [])
  pub new : OnNone g old office.conn (HasCommitted IsNew (state g office.conn))
  -- all tables: nothing changed
  pub same : OnTables g old office.conn (IsUnchanged (state g old) (state g office.conn))
  -- all but that of parts: it has that too
  pub grown : OnTablesOf Rows g old office.conn (HasGrown g old office.conn)
  -- live messages as bodies: those aren't opened
  pub bodies : OnTablesOf Bodies g old office.conn ⊥
  -- a history that was held, in whatever tables: it is held, and the statistics stay
  pub completed : OnSomeForm g old office.conn (λ h. Holding h (state g office.conn))
  pub statistics : ShowsStatistics g old office.conn

-- the same of migrating, which carries tables of the first profile over
pub record IsMigrated {S : Type 0} (g : Ghosts S) (old : Held S) (office : OfficeView S) : Type 0 where
  -- it hasn't failed
  pub working : office.failed ≡ false
  -- there was no table, or those of an office of some time, with a profile that tables of their form have
  pub taken : HasCleanDisk (state g office.conn) → MayMigrateFrom (state g old).now.schema
  pub known : HasCleanDisk (state g office.conn) → (has : HasOffice (state g old))
      → HasProfileRowsOf has.form (tables_of (state g old).now.trees)
  -- no table: it has new ones, which hold the empty history, and no statistics
  pub made : OnNone g old office.conn (HoldsThroughCrash g office.conn [])
  pub new : OnNone g old office.conn (HasCommitted IsNew (state g office.conn))
  -- all tables, of the second profile: nothing changed
  pub same : OnTables g old office.conn (SaysMarks g old Second → IsUnchanged (state g old) (state g office.conn))
  -- of the second profile, and all but that of parts: it has that too
  pub grown : OnTablesOf Rows g old office.conn (SaysMarks g old Second → HasGrown g old office.conn)
  -- a history that was held, in whatever tables: it is held, and left by a crash, and the statistics stay
  pub migrated : OnSomeForm g old office.conn (HoldsThroughCrash g office.conn)
  pub statistics : ShowsStatistics g old office.conn

-- ---- it was lost, and the connection is given back

pub record IsGivenBack {S : Type 0} (g : Ghosts S) (old : Held S) (lost : Lost × Held S) : Type 0 where
  -- no transaction is open
  pub settled : IsSettled g lost.1
  -- no table, or those of an office, and the connection is open: what was committed still is
  pub back : HasCleanDisk (state g lost.1) → HasOffice (state g old) ⊎ HasNone (state g old)
      → IsTrue (state g lost.1).is_open → (state g lost.1).committed ≡ (state g old).committed
  -- no table: it isn't lost by the profile, and a crash leaves none, or new ones
  pub named : HasNone (state g old) → IsOfCall lost.0
  pub unmade : OnNone g old lost.1 (LeavesCommittedOr g old lost.1 (λ db. Keeps [] db × AreTreesOf IsNew db))
  -- the tables of an office: it is lost by another profile only where they are of such a one
  pub older : OnOffice g old lost.1 (lost.0 ≡ OlderProfile → HasOlderProfileRows (tables_of (state g old).now.trees))
  pub newer : OnOffice g old lost.1 (lost.0 ≡ NewerProfile → SaysMarks g old Newer)

-- the same of migrating
pub record IsNotMigrated {S : Type 0} (g : Ghosts S) (old : Held S) (lost : Lost × Held S) : Type 0 where
  pub given_back : IsGivenBack g old lost
  -- it isn't lost by an older profile
  pub never_older : lost.0 ≢ OlderProfile
  -- the tables of an office of a newer profile: a crash leaves nothing that it didn't leave before
  pub newer_stays : HasOffice (state g old) → SaysMarks g old Newer
      → Survives (state g old) (state g lost.1) (λ _. ⊥)

-- ---- whether it was opened or lost

-- an office was opened, or the connection is given back
abbrev pub Opens : {S : Type 0} → Ghosts S → Held S → Result (OfficeView S) (Lost × Held S) → Type 0
Opens g old result = MatchResult result (IsOpened g old) (IsGivenBack g old)

-- the same of migrating
abbrev pub Migrates : {S : Type 0} → Ghosts S → Held S → Result (OfficeView S) (Lost × Held S) → Type 0
Migrates g old result = MatchResult result (IsMigrated g old) (IsNotMigrated g old)

-- what a crash leaves of opening
pub record LeavesOpened {S : Type 0} (g : Ghosts S) (old new : Held S) : Type 0 where
  -- all tables of an office: nothing that it didn't leave before
  pub nothing_new : HasTables (state g old) → Survives (state g old) (state g new) (λ _. ⊥)
  -- the tables of an office of some time: those, or those with the table of parts
  pub completes : HasOffice (state g old) → Survives (state g old) (state g new) (MayComplete (state g old).now)
  -- a history that was held: tables that hold it
  pub held : LeavesHistory g old new
  -- a history that was held in whatever tables: those, or tables of now that hold it
  pub in_form : LeavesInForm g old new
