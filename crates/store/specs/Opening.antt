-- Connections as an office is opened on them.
use Rattle.std.specs.Prelude.{◌≡◌, ◌≢◌, ◌⊎◌, List, IsTrue}
use Rattle.sqlite.specs.Effect.{Database}
use Rattle.sqlite.specs.Schema.{Schema}
use Rattle.sqlite.specs.State.{State}
use Rattle.sqlite.specs.Tree.{Trees}
use Rattle.sqlite_catalog.specs.Listing.{IsSound}
use Rattle.office_rules.specs.Profile.{One, Profile, Two}
use Rattle.store_tables.specs.Schema.{IsCurrentSchema, IsOfficeSchema, analyzed_schema, no_schema, office_schema}
use Rattle.store_tables.specs.Schema.{schema_13, schema_9}
use Rattle.store_tables.specs.Statements.{IsOfficeWith, statistics_in, statistics_of, tables_in}
use Rattle.store_tables.specs.Tables.{AreNumbered, AreOffice, IsOffice, Tables, no_rows, tables_of}
use Rattle.office_history.specs.History.{Answered}
use Rattle.store_migrate.specs.FormSchema.{current_schema_of, schema_of}
use Rattle.store_migrate.specs.Forms.{HoldsAsRows, row_marks}
use Rattle.store_migrate.specs.InForm.{KeepsAs}
use Rattle.store_migrate.specs.ProfileRows.{HasProfileRows}
use Rattle.store_migrate.specs.declared.forms.SchemaForm.{SchemaForm}
use Rattle.store_migrate.specs.declared.forms.SchemaForm.TheVariants.{All, Analyzed, Bodies, Foreign, Rows}
use Rattle.store_migrate.specs.declared.profile_rows.ProfileRows.TheVariants as marks

-- the connection has no table
pub record HasNone (s : State) : Type 0 where
  pub is_open : IsTrue s.is_open
  pub schema : s.now.schema ≡ no_schema

-- the connection has the tables of an office, with whatever rows
pub record HasTables (s : State) : Type 0 where
  pub is_open : IsTrue s.is_open
  pub office : AreOffice s.now.trees

-- the same of an office of that form
pub record HasForm (form : SchemaForm) (s : State) : Type 0 where
  pub is_open : IsTrue s.is_open
  pub sound : IsSound (schema_of form) s.now.trees
  pub numbered : AreNumbered (schema_of form) s.now.trees

-- the same of an office of some time
pub record HasOffice (s : State) : Type 0 where
  pub is_open : IsTrue s.is_open
  pub form : SchemaForm
  pub known : form ≢ Foreign
  pub sound : IsSound (schema_of form) s.now.trees
  pub numbered : AreNumbered (schema_of form) s.now.trees

-- ---- what is taken

-- by an open: no table, or those of an office of now, of which that of bundles' parts alone may be missing
abbrev pub MayOpen : Schema → Type 0
MayOpen schema = (schema ≡ no_schema) ⊎ (schema ≡ schema_13) ⊎ IsCurrentSchema schema

-- by `migrate`: no table, or those of an office of some time
abbrev pub MayMigrateFrom : Schema → Type 0
MayMigrateFrom schema = (schema ≡ no_schema) ⊎ IsOfficeSchema schema

-- the profile is the first
abbrev pub HasOlderProfileRows : Tables → Type 0
HasOlderProfileRows t = HasProfileRows t marks.Bodies ⊎ HasProfileRows t marks.First

-- the profile is one that tables of this form have: where live messages are bodies the first, and else either
abbrev pub HasProfileRowsOf : SchemaForm → Tables → Type 0
HasProfileRowsOf Bodies t = HasProfileRows t marks.Bodies
HasProfileRowsOf Rows t = HasProfileRows t marks.First ⊎ HasProfileRows t marks.Second
HasProfileRowsOf All t = HasProfileRows t marks.First ⊎ HasProfileRows t marks.Second
HasProfileRowsOf Analyzed t = HasProfileRows t marks.First ⊎ HasProfileRows t marks.Second
HasProfileRowsOf Foreign t = ⊥

-- ---- statistics

-- where a database had no statistics, the trees are those of an office's tables alone; where it had some, they are
-- there after the office's tables, with the same rows
pub record StatisticsStay (before : Database) (after : Trees) : Type 0 where
  pub none_come : before.schema ≢ analyzed_schema → IsSound office_schema after
  pub they_stay : before.schema ≡ analyzed_schema
      → IsSound analyzed_schema after × (statistics_in analyzed_schema after ≡ statistics_of before)

-- the same tables, and the statistics among them have the same rows
pub record HasSameStatistics (before after : Database) : Type 0 where
  pub same_schema : after.schema ≡ before.schema
  pub statistics : statistics_of after ≡ statistics_of before

-- ---- what becomes of it

-- the connection is open and shows such a database, which is committed
abbrev pub HasCommitted : (Database → Type 0) → State → Type 0
HasCommitted IsSo s = IsSo s.now × (s.committed ≡ s.now) × IsTrue s.is_open

-- the trees are those of such a database
abbrev pub AreTreesOf : (Database → Type 0) → Trees → Type 0
AreTreesOf IsSo trees = (db : Database) × IsSo db × (trees ≡ db.trees)

-- the tables as they are made: the rows of profile 2, and no other
abbrev pub new_tables : Tables
new_tables = record no_rows { profile = row_marks Two }

pub record IsNew (db : Database) : Type 0 where
  pub office : IsOffice db
  pub schema_is : db.schema ≡ office_schema
  pub tables_are : tables_of db.trees ≡ new_tables

-- all tables of an office, with the rows of an office that had none for the parts of bundles
pub record IsGrown (before : Trees) (db : Database) : Type 0 where
  pub office : IsOffice db
  pub schema_is : db.schema ≡ office_schema
  pub tables_are : tables_of db.trees ≡ tables_in schema_13 before

-- all tables of an office, with the statistics that there were, which hold each history that older ones held
pub record IsCarried (form : SchemaForm) (before : Trees) (db : Database) : Type 0 where
  pub office : IsOffice db
  pub schema_is : db.schema ≡ current_schema_of form
  pub statistics : statistics_of db ≡ statistics_in (schema_of form) before
  pub holds : (h : List Answered) → KeepsAs One form h before → HoldsAsRows Two h (tables_of db.trees)

-- What a crash may leave beside the tables from before: those with the table of parts, where that alone was missing.
pub record MayGrow (before : Database) (after : Trees) : Type 0 where
  pub not_first : before.schema ≢ schema_9
  pub not_all : ¬ IsCurrentSchema before.schema
  pub grown : IsOfficeWith schema_13 before → AreTreesOf (IsGrown before.trees) after

-- The same of carrying over: those that hold each history that older ones held.
abbrev pub MayCarry : Database → Trees → Type 0
MayCarry before after = (form : SchemaForm) → form ≢ Foreign → IsOfficeWith (schema_of form) before
    → AreTreesOf (IsCarried form before.trees) after

-- What a crash may leave of an open: only tables whose profile is the second get the table of parts.
abbrev pub MayComplete : Database → Trees → Type 0
MayComplete before after = HasProfileRows (tables_of before.trees) marks.Second × MayGrow before after

-- The same of `migrate`: only tables whose profile is the first are carried over.
abbrev pub MayMigrate : Database → Trees → Type 0
MayMigrate before after = MayComplete before after
    ⊎ (HasOlderProfileRows (tables_of before.trees) × MayCarry before after)

-- the trees hold the history in the tables of some profile and form, or in those of the first profile
abbrev pub KeepsInSomeForm : List Answered → Trees → Type 0
KeepsInSomeForm h db = (p : Profile) × (form : SchemaForm) × KeepsAs p form h db

abbrev pub KeepsOlder : List Answered → Trees → Type 0
KeepsOlder h db = (form : SchemaForm) × KeepsAs One form h db

-- a connection that shows such trees
pub record HoldingInSomeForm (h : List Answered) (s : State) : Type 0 where
  pub is_open : IsTrue s.is_open
  pub keeps : KeepsInSomeForm h s.now.trees

pub record HoldingOlder (h : List Answered) (s : State) : Type 0 where
  pub is_open : IsTrue s.is_open
  pub keeps : KeepsOlder h s.now.trees
