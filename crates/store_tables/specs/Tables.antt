-- The rows of the tables, as the values of their columns.
use Rattle.std.specs.Prelude.{◌≡◌, ℕ, List, [], ◌∷◌, map, drop, slice_index_or, Option, Some, None}
use Rattle.std.specs.List.{AllByRecursion}
use Rattle.sqlite.specs.Order.{Row, column}
use Rattle.sqlite.specs.Tree.{Trees}
use Rattle.sqlite.specs.Schema.{Schema}
use Rattle.sqlite.specs.Effect.{Database}
use Rattle.sqlite_trees.specs.View.{IsShaped}
use Rattle.sqlite_trees.specs.declared.store.Shape.TheVariants as shape
use Rattle.sqlite_catalog.specs.Listing.{IsSound}
use Rattle.store_tables.specs.Schema.{IsCurrentSchema}

-- A tree keeps a row as its rowid and then its columns. The values of its columns:
abbrev pub values : Row → Row
values row = drop 1 row

-- The same where the first column is the key: the rowid has its value, and the column itself is NULL.
abbrev pub keyed_values : Row → Row
keyed_values row = column row 0 ∷ drop 2 row

-- how a table with such a key shows the rows of its tree
abbrev pub row_by : Option ℕ → Row → Row
row_by None = values
row_by (Some at) = keyed_values

-- each table's rows, in the order of their rowids
pub record Tables : Type 0 where
  pub profile : List Row
  pub net : List Row
  pub message : List Row
  pub block : List Row
  pub held : List Row
  pub spn : List Row
  pub approval : List Row
  pub frozen : List Row
  pub reply : List Row
  pub msg : List Row
  pub sig : List Row
  pub receiver : List Row
  pub sigvalue : List Row
  pub part : List Row

-- the tables that some trees keep; the trees between them are indexes
abbrev pub tables_of : Trees → Tables
tables_of db = record {
  profile = map keyed_values (db 0);
  net = map values (db 1);
  message = map values (db 3);
  block = map values (db 6);
  held = map values (db 8);
  spn = map keyed_values (db 10);
  approval = map values (db 11);
  frozen = map values (db 13);
  reply = map values (db 15);
  msg = map values (db 17);
  sig = map values (db 20);
  receiver = map values (db 23);
  sigvalue = map values (db 25);
  part = map values (db 27);
}

-- lists of rows by the names of the tables, in their order
abbrev pub named : List (List Row) → Tables
named rows = record {
  profile = slice_index_or rows 0 [];
  net = slice_index_or rows 1 [];
  message = slice_index_or rows 2 [];
  block = slice_index_or rows 3 [];
  held = slice_index_or rows 4 [];
  spn = slice_index_or rows 5 [];
  approval = slice_index_or rows 6 [];
  frozen = slice_index_or rows 7 [];
  reply = slice_index_or rows 8 [];
  msg = slice_index_or rows 9 [];
  sig = slice_index_or rows 10 [];
  receiver = slice_index_or rows 11 [];
  sigvalue = slice_index_or rows 12 [];
  part = slice_index_or rows 13 [];
}

abbrev pub no_rows : Tables
no_rows = record {
  profile = [];
  net = [];
  message = [];
  block = [];
  held = [];
  spn = [];
  approval = [];
  frozen = [];
  reply = [];
  msg = [];
  sig = [];
  receiver = [];
  sigvalue = [];
  part = [];
}

-- the rowids of each of the tables are integers and ascend
abbrev pub AreNumbered : Schema → Trees → Type 0
AreNumbered schema db = AllByRecursion (λ t. IsShaped shape.Table (db t.tree)) schema.tables

-- the trees list the office's tables, with statistics after them or not, and keep to them
pub record AreOffice (db : Trees) : Type 0 where
  pub schema : Schema
  pub current : IsCurrentSchema schema
  pub sound : IsSound schema db
  pub numbered : AreNumbered schema db

-- the same of a database as a connection shows it
pub record IsOffice (db : Database) : Type 0 where
  pub schema : IsCurrentSchema db.schema
  pub trees : AreOffice db.trees
  pub listed : trees.schema ≡ db.schema

-- a database with the tables of a schema and no row in any of them
pub record IsEmptyWith (schema : Schema) (db : Database) : Type 0 where
  pub schema_is : db.schema ≡ schema
  pub empty : AllByRecursion (λ t. db.trees t.tree ≡ []) schema.tables
