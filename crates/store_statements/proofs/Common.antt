-- What several proofs use of other crates, passed on from one place.
pub use Rattle.std.proofs.Common.{◌≡◌, ℕ, List, [], ◌∷◌, ◌++◌, codes, not, refl, ap, ◌∙◌, pos, false, Ok, Result, sym}
pub use Rattle.std.proofs.Common.{rules}
pub use Rattle.std.specs.Ordering.{ordering_then}
pub use Rattle.std.specs.Prelude.{filter, length, IfOk}
pub use Rattle.sqlite.proofs.Callers.{IsPlain, command_of}
pub use Rattle.sqlite.specs.Command.TheVariants.{Insert, Delete}
pub use Rattle.sqlite.specs.Edit.{edit_of, edited, next_rowid}
pub use Rattle.sqlite.specs.Effect.{value_rows}
pub use Rattle.sqlite.specs.Held.{state}
pub use Rattle.sqlite.specs.Order.{Row, column, value_cmp}
pub use Rattle.sqlite.specs.Rowids.TheVariants.{Chosen}
pub use Rattle.sqlite.specs.Rows.{stamped}
pub use Rattle.sqlite.specs.Schema.{Schema}
pub use Rattle.sqlite.specs.Source.TheVariants.{Values}
pub use Rattle.sqlite.specs.State.{Executes, State, Shown}
pub use Rattle.sqlite.specs.Term.{Term, lit, col}
pub use Rattle.sqlite.specs.Tree.{Trees, put_row}
pub use Rattle.sqlite.specs.declared.error.Error.{Error}
pub use Rattle.sqlite.specs.declared.types.Value.TheVariants.{Null, Int, Text}
pub use Rattle.sqlite_sql.specs.Aggregate.{count}
pub use Rattle.sqlite_value.proofs.OrderLemmas.{then-Equal}
pub use Rattle.sqlite_value.specs.declared.keys.Key.{Key}
pub use Rattle.store_tables.proofs.Changing.{appends, makes, removes, IsOfficeAs, puts, only_made, only_rows}
pub use Rattle.store_tables.proofs.Columns.{cast_null, column_is, cast_number}
pub use Rattle.store_tables.proofs.Counting.{IsCountSelect, counts}
pub use Rattle.store_tables.proofs.Current.{InEach, in_each}
pub use Rattle.store_tables.proofs.Finding.{ascending, IsSelect, Means, finds_now}
pub use Rattle.store_tables.proofs.Keeping.{reads_only}
pub use Rattle.store_tables.proofs.Selecting.{query}
pub use Rattle.store_tables.specs.Schema.{IsCurrentSchema, IsOfficeSchema}
pub use Rattle.store_tables.specs.Selected.{IsSelected}
pub use Rattle.store_tables.specs.Tables.{values, tables_of, keyed_values}
