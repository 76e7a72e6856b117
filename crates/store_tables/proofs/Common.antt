-- What several proofs use of other crates, passed on from one place.
pub use Rattle.std.proofs.Common.{◌≡◌, ℕ, ℤ, zero, suc, List, [], ◌∷◌, ◌++◌, map, slice_get, length, Bool, false, true}
pub use Rattle.std.proofs.Common.{not, Option, None, Some, Ok, Err, Result, refl, sym, ap, subst, ◌∙◌, arith, inl, inr}
pub use Rattle.std.proofs.Common.{pos, cond, negsuc, codes, slice_index_or, ◌+◌, ◌<◌, take, ◌⊎◌, rules}
pub use Rattle.std.proofs.lemmas.Bool.{cases_Bool}
pub use Rattle.std.proofs.lemmas.List.{map-append, length-map}
pub use Rattle.std.proofs.lemmas.List.Sorted.{length_permutation}
pub use Rattle.std.specs.List.{AllByRecursion, list_all, AllZip}
pub use Rattle.std.specs.Ordering.{is_eq}
pub use Rattle.std.specs.Prelude.{◌&&◌, ◌/◌, unwrap_or, IfOk, OnOk, IsTrue, IsPermutation, filter, flat_map}
pub use Rattle.std.specs.declared.cmp.Ordering.{Ordering}
pub use Rattle.std.specs.declared.cmp.Ordering.TheVariants.{Less}
pub use Rattle.sqlite.proofs.Callers.{IsPlain, command_of, runs_as, reads_as, statement_of, one_step}
pub use Rattle.sqlite.specs.Change.{next_tree, KeepsRows, created}
pub use Rattle.sqlite.specs.Collation.TheVariants.{Binary}
pub use Rattle.sqlite.specs.Command.TheVariants.{Insert, Delete, Select}
pub use Rattle.sqlite.specs.Compile.{table_defined_by}
pub use Rattle.sqlite.specs.Does.{Does, Tally}
pub use Rattle.sqlite.specs.Edit.{edit_of, id_in, without_all, next_rowid, Applies, taken_by}
pub use Rattle.sqlite.specs.Effect.{value_rows, Database}
pub use Rattle.sqlite.specs.Held.{state}
pub use Rattle.sqlite.specs.Listing.{understood, reads_listing}
pub use Rattle.sqlite.specs.Ops.{is_true}
pub use Rattle.sqlite.specs.Order.{Row, column, value_cmp}
pub use Rattle.sqlite.specs.Program.{overlay}
pub use Rattle.sqlite.specs.Query.{Query, inner, end, IsAnswer, output, Output, key_cmp}
pub use Rattle.sqlite.specs.Rowids.TheVariants.{Chosen}
pub use Rattle.sqlite.specs.Rows.{stamped, Written, Task}
pub use Rattle.sqlite.specs.Schema.{Schema}
pub use Rattle.sqlite.specs.Source.TheVariants.{Values}
pub use Rattle.sqlite.specs.State.{State, Executes, ExecutesInside, Shown, mode_of}
pub use Rattle.sqlite.specs.Table.{Table}
pub use Rattle.sqlite.specs.Term.{Term, col, lit, holds}
pub use Rattle.sqlite.specs.Tree.{Trees, put_row, rowid}
pub use Rattle.sqlite.specs.declared.error.Error.{Error}
pub use Rattle.sqlite.specs.declared.error.Error.TheVariants.{SqliteFailure}
pub use Rattle.sqlite.specs.declared.error.ErrorCode.TheVariants.{TransactionState}
pub use Rattle.sqlite.specs.declared.types.Value.{Value}
pub use Rattle.sqlite.specs.declared.types.Value.TheVariants.{Null, Int, Text}
pub use Rattle.sqlite_catalog.specs.Listing.{IsSound}
pub use Rattle.sqlite_rules.specs.Calls.{ids_of}
pub use Rattle.sqlite_schema.specs.declared.schema.Keys.{Keys}
pub use Rattle.sqlite_schema.specs.declared.schema.Keys.TheVariants.{Enforced}
pub use Rattle.sqlite_sql.specs.declared.ops.BinaryOp.TheVariants.{Compare}
pub use Rattle.sqlite_sql.specs.declared.ops.CompareOp.TheVariants.{Eq}
pub use Rattle.sqlite_trees.specs.View.{IsShaped, is_int}
pub use Rattle.sqlite_value.proofs.OrderLemmas.{value_cmp_total}
pub use Rattle.sqlite_value.specs.declared.keys.Key.{Key}
