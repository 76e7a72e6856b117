-- The tables of the office, in the order in which they are made. A new table is made last: the number of each tree
-- hangs on this order.
use Rattle.std.specs.Prelude.{◌≡◌, ◌⊎◌, false, true, [], ◌∷◌, None, Some, codes, List, ℕ}
use Rattle.sqlite.specs.declared.types.Value.TheVariants.{Null}
use Rattle.sqlite.specs.Collation.TheVariants.{Binary}
use Rattle.sqlite.specs.Table.{Table}
use Rattle.sqlite.specs.Schema.{Schema}
use Rattle.sqlite.specs.Change.{created}
use Rattle.sqlite.specs.Kind.{Kind}
use Rattle.sqlite.specs.Kind.TheVariants.{Any, Integer, Text, Blob}
use Rattle.sqlite_value.specs.declared.keys.Order.{Order}
use Rattle.sqlite_schema.specs.declared.schema.Column.{Column}

-- ---- columns

abbrev pub column_of : Kind → List ℕ → Column
column_of kind name = record {
  name = name;
  kind = kind;
  is_strict = true;
  not_null = false;
  default = Null;
  collation =
      Binary;
}

abbrev pub integer : List ℕ → Column
integer = column_of Integer

abbrev text : List ℕ → Column
text = column_of Text

abbrev blob : List ℕ → Column
blob = column_of Blob

-- a column of whatever values, as those of SQLite's own tables are
abbrev pub untyped : List ℕ → Column
untyped name = record (column_of Any name) { is_strict = false }

-- a column of the primary key, which takes no NULL
abbrev pub keyed : Column → Column
keyed column = record column { not_null = true }

-- ---- tables

-- the key's columns each ascend
abbrev pub ascending : Order
ascending = record { digits = 0 }

-- a table with these columns, whose primary key is the columns of these numbers (the rowid is number 0), and
-- with these lists of columns that are unique together
abbrev declared_table : List ℕ → List Column → List ℕ → List (List ℕ) → List Order → Table
declared_table name columns primary uniques orders = record {
  name = name;
  tree = 0;
  columns = columns;
  key = None;
  primary = primary;
  uniques = uniques;
  orders = orders;
  checks = [];
  references = [];
  computed = [];
  stamps = record { places = []; terms = []; formats = [] };
  is_counted = false;
}

-- a STRICT table with a key of the columns of these numbers
abbrev keyed_table : List ℕ → List Column → List ℕ → Table
keyed_table name columns key = declared_table name columns key (key ∷ []) (ascending ∷ [])

-- a STRICT table whose first column is its INTEGER PRIMARY KEY, which is the rowid
abbrev rowid_table : List ℕ → List Column → Table
rowid_table name columns = record (declared_table name columns (0 ∷ []) [] []) { key = Some 0 }

-- the profile of the tables: one row, 1 and the number of the profile
abbrev pub profile : Table
profile = rowid_table (codes "profile") (integer (codes "one") ∷ integer (codes "number") ∷ [])

-- a network
abbrev pub net : Table
net = keyed_table (codes "net")
    (keyed (text (codes "name")) ∷ integer (codes "kind") ∷ integer (codes "reviews") ∷ integer (codes "phase")
    ∷ text (codes "submitter") ∷ blob (codes "frame") ∷ [])
    (1 ∷ [])

-- a live message of a network
abbrev pub message : Table
message = declared_table (codes "message")
    (keyed (text (codes "net")) ∷ keyed (integer (codes "number")) ∷ text (codes "name") ∷ text (codes "owner")
    ∷ blob (codes "body") ∷ [])
    (1 ∷ 2 ∷ []) ((1 ∷ 2 ∷ []) ∷ (1 ∷ 3 ∷ []) ∷ []) (ascending ∷ ascending ∷ [])

-- a block of numbers of a team on a network
abbrev pub block : Table
block = keyed_table (codes "block")
    (keyed (text (codes "net")) ∷ keyed (integer (codes "form")) ∷ keyed (integer (codes "first"))
    ∷ integer (codes "last") ∷ text (codes "team") ∷ [])
    (1 ∷ 2 ∷ 3 ∷ [])

-- an identifier of a network that is held for good
abbrev pub held : Table
held = keyed_table (codes "held") (keyed (text (codes "net")) ∷ keyed (integer (codes "number")) ∷ []) (1 ∷ 2 ∷ [])

-- a suspect parameter number that was ever used
abbrev pub spn : Table
spn = rowid_table (codes "spn") (integer (codes "number") ∷ [])

-- a team's approval of a network in review
abbrev pub approval : Table
approval = keyed_table (codes "approval") (keyed (text (codes "net")) ∷ keyed (text (codes "team")) ∷ []) (1 ∷ 2 ∷ [])

-- a release of a network
abbrev pub frozen : Table
frozen = keyed_table (codes "frozen")
    (keyed (text (codes "net")) ∷ keyed (integer (codes "number")) ∷ blob (codes "body") ∷ []) (1 ∷ 2 ∷ [])

-- the reply to the request of a team with a key
abbrev pub reply : Table
reply = keyed_table (codes "reply")
    (keyed (text (codes "team")) ∷ keyed (text (codes "key")) ∷ blob (codes "content") ∷ integer (codes "kind")
    ∷ integer (codes "a") ∷ integer (codes "b") ∷ integer (codes "c") ∷ [])
    (1 ∷ 2 ∷ [])

-- a live message of a network, without its signals
abbrev pub msg : Table
msg = declared_table (codes "msg")
    (keyed (text (codes "net")) ∷ keyed (integer (codes "number")) ∷ text (codes "name") ∷ text (codes "owner")
    ∷ integer (codes "length") ∷ text (codes "sender") ∷ blob (codes "comment") ∷ [])
    (1 ∷ 2 ∷ []) ((1 ∷ 2 ∷ []) ∷ (1 ∷ 3 ∷ []) ∷ []) (ascending ∷ ascending ∷ [])

-- a signal of a live message, without its receivers and value texts
abbrev pub sig : Table
sig = declared_table (codes "sig")
    (keyed (text (codes "net")) ∷ keyed (integer (codes "number")) ∷ keyed (integer (codes "place"))
    ∷ text (codes "name") ∷ integer (codes "start") ∷ integer (codes "size") ∷ integer (codes "motorola")
    ∷ integer (codes "signed") ∷ integer (codes "mux") ∷ text (codes "factor") ∷ text (codes "shift")
    ∷ text (codes "least") ∷ text (codes "most") ∷ blob (codes "unit") ∷ blob (codes "comment")
    ∷ integer (codes "spn") ∷ integer (codes "label") ∷ [])
    (1 ∷ 2 ∷ 3 ∷ []) ((1 ∷ 2 ∷ 3 ∷ []) ∷ (1 ∷ 2 ∷ 4 ∷ []) ∷ []) (ascending ∷ ascending ∷ [])

-- a receiver of a signal
abbrev pub receiver : Table
receiver = keyed_table (codes "receiver")
    (keyed (text (codes "net")) ∷ keyed (integer (codes "number")) ∷ keyed (integer (codes "place"))
    ∷ keyed (integer (codes "seat")) ∷ text (codes "name") ∷ [])
    (1 ∷ 2 ∷ 3 ∷ 4 ∷ [])

-- the text of a value of a signal
abbrev pub sigvalue : Table
sigvalue = keyed_table (codes "sigvalue")
    (keyed (text (codes "net")) ∷ keyed (integer (codes "number")) ∷ keyed (integer (codes "place"))
    ∷ keyed (integer (codes "seat")) ∷ text (codes "value") ∷ blob (codes "words") ∷ [])
    (1 ∷ 2 ∷ 3 ∷ 4 ∷ [])

-- the reply to a part of a bundle of commands
abbrev pub part : Table
part = keyed_table (codes "part")
    (keyed (text (codes "team")) ∷ keyed (text (codes "key")) ∷ keyed (integer (codes "place")) ∷ integer (codes "kind")
    ∷ integer (codes "a") ∷ integer (codes "b") ∷ [])
    (1 ∷ 2 ∷ 3 ∷ [])

-- the statistics that ANALYZE keeps, in a table that SQLite makes
abbrev pub statistics : Table
statistics = declared_table (codes "sqlite_stat1")
    (untyped (codes "tbl") ∷ untyped (codes "idx") ∷ untyped (codes "stat") ∷ []) [] [] []

-- ---- the schema, table by table

abbrev pub no_schema : Schema
no_schema = record { tables = []; indexes = []; views = [] }

unfoldable pub schema_1 : Schema
schema_1 = created no_schema profile

unfoldable pub schema_2 : Schema
unfolding schema_1
schema_2 = created schema_1 net

unfoldable pub schema_3 : Schema
unfolding schema_2
schema_3 = created schema_2 message

unfoldable pub schema_4 : Schema
unfolding schema_3
schema_4 = created schema_3 block

unfoldable pub schema_5 : Schema
unfolding schema_4
schema_5 = created schema_4 held

unfoldable pub schema_6 : Schema
unfolding schema_5
schema_6 = created schema_5 spn

unfoldable pub schema_7 : Schema
unfolding schema_6
schema_7 = created schema_6 approval

unfoldable pub schema_8 : Schema
unfolding schema_7
schema_8 = created schema_7 frozen

-- the tables of profile 1 as they were before messages had rows of their own
unfoldable pub schema_9 : Schema
unfolding schema_8
schema_9 = created schema_8 reply

unfoldable pub schema_10 : Schema
unfolding schema_9
schema_10 = created schema_9 msg

unfoldable pub schema_11 : Schema
unfolding schema_10
schema_11 = created schema_10 sig

unfoldable pub schema_12 : Schema
unfolding schema_11
schema_12 = created schema_11 receiver

unfoldable pub schema_13 : Schema
unfolding schema_12
schema_13 = created schema_12 sigvalue

-- all tables
unfoldable pub office_schema : Schema
unfolding schema_13
office_schema = created schema_13 part

-- and the statistics, once somebody ran ANALYZE on them
unfoldable pub analyzed_schema : Schema
unfolding office_schema
analyzed_schema = created office_schema statistics

-- all tables of an office, with statistics after them or not
abbrev pub IsCurrentSchema : Schema → Type 0
IsCurrentSchema schema = (schema ≡ office_schema) ⊎ (schema ≡ analyzed_schema)

-- the tables that an office of some time has: those before messages had rows of their own, those before there were
-- bundles, or all
abbrev pub IsOfficeSchema : Schema → Type 0
IsOfficeSchema schema = (schema ≡ schema_9) ⊎ (schema ≡ schema_13) ⊎ IsCurrentSchema schema
