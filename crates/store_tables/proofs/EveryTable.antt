-- The tables and the indexes of an office are those that are compared.
use Rattle.store_tables.proofs.Common.{◌≡◌, map, refl}
use Rattle.std.specs.Fmt.{digits}
use Rattle.store_tables.specs.Comparing.{every_index, every_table, index_of, table_of}
use Rattle.store_tables.specs.Schema.{analyzed_schema}

pub tables_are : map table_of every_table ≡ analyzed_schema.tables
unfolding analyzed_schema
tables_are = refl

pub indexes_are : map index_of every_index ≡ analyzed_schema.indexes
unfolding analyzed_schema digits
indexes_are = refl
