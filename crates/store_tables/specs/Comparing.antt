-- What is compared of the tables of a database with those of an office: all of them.
use Rattle.std.specs.Prelude.{◌≡◌, ℕ, codes, false, true, List, [], ◌∷◌, length, take}
use Rattle.sqlite.specs.Schema.{Schema}
use Rattle.sqlite.specs.Table.{Table}
use Rattle.sqlite_schema.specs.declared.schema.Column.{Column}
use Rattle.sqlite_schema.specs.declared.schema.Index.{Index}
use Rattle.store_tables.specs.Schema.{analyzed_schema, ascending, column_of, keyed, untyped}
use Rattle.store_tables.specs.Schema.{approval, block, frozen, held, message, msg, net, part, profile, receiver, reply}
use Rattle.store_tables.specs.Schema.{sig, sigvalue, spn, statistics}
use Rattle.store_tables.specs.declared.office_column.OfficeColumn.{OfficeColumn}
use Rattle.store_tables.specs.declared.office_column.OfficeColumn.TheVariants.{Key, Other, Untyped}
use Rattle.store_tables.specs.declared.office_index.OfficeIndex.{OfficeIndex}
use Rattle.store_tables.specs.declared.office_index.OfficeIndex.TheVariants as index
use Rattle.store_tables.specs.declared.office_table.OfficeTable.{OfficeTable}
use Rattle.store_tables.specs.declared.office_table.OfficeTable.TheVariants as office

-- the tables are the first ones of an office with statistics, and so are the indexes, as many as they are, and there is
-- no view or trigger
abbrev pub IsBegun : Schema → Type 0
IsBegun s = (s.tables ≡ take (length s.tables) analyzed_schema.tables)
    × (s.indexes ≡ take (length s.indexes) analyzed_schema.indexes) × (s.views ≡ [])

-- ---- an office's tables, one by one

abbrev pub column_at : OfficeColumn → Column
column_at (Key name kind) = keyed (column_of kind name.now)
column_at (Other name kind) = column_of kind name.now
column_at (Untyped name) = untyped name.now

-- with the number of its tree
abbrev numbered : Table → ℕ → Table
numbered table tree = record table { tree = tree }

abbrev pub table_of : OfficeTable → Table
table_of office.Profile = numbered profile 0
table_of office.Net = numbered net 1
table_of office.Message = numbered message 3
table_of office.Block = numbered block 6
table_of office.Held = numbered held 8
table_of office.Spn = numbered spn 10
table_of office.Approval = numbered approval 11
table_of office.Frozen = numbered frozen 13
table_of office.Reply = numbered reply 15
table_of office.Msg = numbered msg 17
table_of office.Sig = numbered sig 20
table_of office.Receiver = numbered receiver 23
table_of office.SigValue = numbered sigvalue 25
table_of office.Part = numbered part 27
table_of office.Statistics = numbered statistics 29

-- the tables of an office, in the order in which they are made, and the statistics
abbrev pub every_table : List OfficeTable
every_table =
    office.Profile ∷ office.Net ∷ office.Message ∷ office.Block ∷ office.Held ∷ office.Spn ∷ office.Approval
    ∷ office.Frozen ∷ office.Reply
    ∷ office.Msg ∷ office.Sig ∷ office.Receiver ∷ office.SigValue ∷ office.Part
    ∷ office.Statistics ∷ []

-- no CHECK, no foreign key, no default that is computed, and no AUTOINCREMENT
pub record HasNoRule (t : Table) : Type 0 where
  pub checks : t.checks ≡ []
  pub references : t.references ≡ []
  pub computed : t.computed ≡ []
  pub stamps : t.stamps ≡ record { places = []; terms = []; formats = [] }
  pub counted : t.is_counted ≡ false

-- an index of a table with the number of its tree: its columns ascend, and are unique together
abbrev index_on : OfficeTable → List ℕ → List ℕ → ℕ → Index
index_on table name columns tree =
    record {
      name = name;
      tree = tree;
      table = (table_of table).tree;
      columns = columns;
      order = ascending;
      is_unique =
          true;
    }

abbrev pub index_of : OfficeIndex → Index
index_of index.Net = index_on office.Net (codes "sqlite_autoindex_net_1") (1 ∷ []) 2
index_of index.Message = index_on office.Message (codes "sqlite_autoindex_message_1") (1 ∷ 2 ∷ []) 4
index_of index.MessageName = index_on office.Message (codes "sqlite_autoindex_message_2") (1 ∷ 3 ∷ []) 5
index_of index.Block = index_on office.Block (codes "sqlite_autoindex_block_1") (1 ∷ 2 ∷ 3 ∷ []) 7
index_of index.Held = index_on office.Held (codes "sqlite_autoindex_held_1") (1 ∷ 2 ∷ []) 9
index_of index.Approval = index_on office.Approval (codes "sqlite_autoindex_approval_1") (1 ∷ 2 ∷ []) 12
index_of index.Frozen = index_on office.Frozen (codes "sqlite_autoindex_frozen_1") (1 ∷ 2 ∷ []) 14
index_of index.Reply = index_on office.Reply (codes "sqlite_autoindex_reply_1") (1 ∷ 2 ∷ []) 16
index_of index.Msg = index_on office.Msg (codes "sqlite_autoindex_msg_1") (1 ∷ 2 ∷ []) 18
index_of index.MsgName = index_on office.Msg (codes "sqlite_autoindex_msg_2") (1 ∷ 3 ∷ []) 19
index_of index.Sig = index_on office.Sig (codes "sqlite_autoindex_sig_1") (1 ∷ 2 ∷ 3 ∷ []) 21
index_of index.SigName = index_on office.Sig (codes "sqlite_autoindex_sig_2") (1 ∷ 2 ∷ 4 ∷ []) 22
index_of index.Receiver = index_on office.Receiver (codes "sqlite_autoindex_receiver_1") (1 ∷ 2 ∷ 3 ∷ 4 ∷ []) 24
index_of index.SigValue = index_on office.SigValue (codes "sqlite_autoindex_sigvalue_1") (1 ∷ 2 ∷ 3 ∷ 4 ∷ []) 26
index_of index.Part = index_on office.Part (codes "sqlite_autoindex_part_1") (1 ∷ 2 ∷ 3 ∷ []) 28

-- the indexes of an office, in the order in which they are made
abbrev pub every_index : List OfficeIndex
every_index =
    index.Net ∷ index.Message ∷ index.MessageName ∷ index.Block ∷ index.Held ∷ index.Approval ∷ index.Frozen
    ∷ index.Reply ∷ index.Msg
    ∷ index.MsgName ∷ index.Sig ∷ index.SigName ∷ index.Receiver ∷ index.SigValue ∷ index.Part ∷ []
