-- What the text that makes a table makes of those before it.
use Rattle.std.specs.Prelude.{◌≡◌, ℕ, List, [], Ok, false}
use Rattle.sqlite.proofs.Callers.{command_of, statement_of}
use Rattle.sqlite.specs.Change.{created}
use Rattle.sqlite.specs.Command.TheVariants.{CreateTable}
use Rattle.sqlite.specs.Compile.{table_defined_by}
use Rattle.sqlite.specs.Does.{lacks_sequence}
use Rattle.sqlite.specs.Given.{IsPlain}
use Rattle.sqlite.specs.Listing.{understood}
use Rattle.sqlite.specs.Schema.{Schema}
use Rattle.sqlite.specs.Table.{Table}
use Rattle.store_tables.specs.Comparing.{table_of}
use Rattle.store_tables.specs.Schema.{analyzed_schema, no_schema, office_schema, schema_1, schema_2, schema_3, schema_4}
use Rattle.store_tables.specs.Schema.{schema_5, schema_6, schema_7, schema_8, schema_9, schema_10, schema_11, schema_12}
use Rattle.store_tables.specs.Schema.{schema_13}
use Rattle.store_tables.specs.declared.creating.TheConstants as text
use Rattle.store_tables.specs.declared.office_table.OfficeTable.{OfficeTable}
use Rattle.store_tables.specs.declared.office_table.OfficeTable.TheVariants as office

-- the text is a CREATE TABLE, which adds this table to those of the schema
pub record Defines (schema : Schema) (sql : List ℕ) (table : Table) : Type 0 where
  pub command : command_of (understood schema sql) ≡ CreateTable
  pub whole : statement_of sql (understood schema sql) ≡ sql
  pub plain : IsPlain (understood schema sql)
  pub defined : table_defined_by sql ≡ Ok table
  pub counts : lacks_sequence (created schema table) ≡ false

-- the text that makes it; SQLite makes the statistics
abbrev pub text_of : OfficeTable → List ℕ
text_of office.Profile = text.PROFILE.now
text_of office.Net = text.NET.now
text_of office.Message = text.MESSAGE.now
text_of office.Block = text.BLOCK.now
text_of office.Held = text.HELD.now
text_of office.Spn = text.SPN.now
text_of office.Approval = text.APPROVAL.now
text_of office.Frozen = text.FROZEN.now
text_of office.Reply = text.REPLY.now
text_of office.Msg = text.MSG.now
text_of office.Sig = text.SIG.now
text_of office.Receiver = text.RECEIVER.now
text_of office.SigValue = text.SIG_VALUE.now
text_of office.Part = text.PART.now
text_of office.Statistics = []

-- the table before it has its place in a database
abbrev pub declared : OfficeTable → Table
declared table = record (table_of table) { tree = 0 }

-- the tables before it
abbrev pub schema_before : OfficeTable → Schema
schema_before office.Profile = no_schema
schema_before office.Net = schema_1
schema_before office.Message = schema_2
schema_before office.Block = schema_3
schema_before office.Held = schema_4
schema_before office.Spn = schema_5
schema_before office.Approval = schema_6
schema_before office.Frozen = schema_7
schema_before office.Reply = schema_8
schema_before office.Msg = schema_9
schema_before office.Sig = schema_10
schema_before office.Receiver = schema_11
schema_before office.SigValue = schema_12
schema_before office.Part = schema_13
schema_before office.Statistics = office_schema

-- the tables with it
abbrev pub schema_with : OfficeTable → Schema
schema_with office.Profile = schema_1
schema_with office.Net = schema_2
schema_with office.Message = schema_3
schema_with office.Block = schema_4
schema_with office.Held = schema_5
schema_with office.Spn = schema_6
schema_with office.Approval = schema_7
schema_with office.Frozen = schema_8
schema_with office.Reply = schema_9
schema_with office.Msg = schema_10
schema_with office.Sig = schema_11
schema_with office.Receiver = schema_12
schema_with office.SigValue = schema_13
schema_with office.Part = office_schema
schema_with office.Statistics = analyzed_schema
