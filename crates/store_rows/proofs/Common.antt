-- What several proofs use of other crates, passed on from one place.
pub use Rattle.std.proofs.Common.{◌≡◌, ℕ, ◌+◌, ◌<◌, pos, true, false, not, ◌&&◌, List, [], ◌∷◌, ◌++◌, length, Option}
pub use Rattle.std.proofs.Common.{Some, None, refl, sym, ap, subst, ◌∙◌, arith, Bool, Ok, Err, Result, inl, inr, codes}
pub use Rattle.std.proofs.Common.{slice_get, suc, get_or, map, take, cond, append-nil, filter, find, append_assoc, ◌||◌}
pub use Rattle.std.proofs.Common.{drop}
pub use Rattle.std.proofs.lemmas.Bool.{cases_Bool, eqb-true, false≢true, eq-eqb}
pub use Rattle.std.proofs.lemmas.Bool.Decides.{nat_tests}
pub use Rattle.std.proofs.lemmas.Int.{ints}
pub use Rattle.std.proofs.lemmas.List.{take_more}
pub use Rattle.std.proofs.lemmas.List.Elements.{All-from_recursion, recursion_from_All, filter-append}
pub use Rattle.std.proofs.lemmas.List.Sorted.{All-permutation, IsPermutation-sym, IsPermutation-trans}
pub use Rattle.std.proofs.lemmas.List.Sorted.{IsPermutation-refl, IsPermutation-cons, IsPermutation-to_front}
pub use Rattle.std.proofs.lemmas.List.Sorted.{IsPermutation-append}
pub use Rattle.std.proofs.lemmas.Result.{IfOk-weaker}
pub use Rattle.std.specs.Cmp.{tied_itself, IsTotalOrder, on_total, then_total}
pub use Rattle.std.specs.List.{AllByRecursion, list_any, prefix_len}
pub use Rattle.std.specs.Ordering.{is_eq, nat_cmp, ordering_then, is_lt, ordering_reverse}
pub use Rattle.std.specs.Prelude.{◌==◌, IsPermutation, IsSorted}
pub use Rattle.std.specs.Str.{bytes_eq}
pub use Rattle.std.specs.declared.cmp.Ordering.{Ordering}
pub use Rattle.std.specs.declared.cmp.Ordering.TheVariants.{Less, Equal, Greater}
pub use Rattle.base.proofs.PutKeeps.{put_cases}
pub use Rattle.base.specs.Keyed.{put, text_cmp, are_above}
pub use Rattle.can_id.specs.Ident.{IsIdentifier, dbc_number}
pub use Rattle.can_id.specs.declared.ident.Ident.{Ident}
pub use Rattle.dbc_sheet.specs.Signals.{without_signal, at_signal}
pub use Rattle.dbc_sheet.specs.declared.sheet.Sheet.{Sheet}
pub use Rattle.dbc_sheet.specs.declared.signal.Signal.{Signal}
pub use Rattle.dbc_sheet.specs.declared.value_texts.ValueText.{ValueText}
pub use Rattle.decimal.specs.Number.{IsDecimal, Number}
pub use Rattle.office_rules.specs.Change.{NetAndBook, at_message}
pub use Rattle.office_rules.specs.Facts.{live_named}
pub use Rattle.office_rules.specs.Numbers.{with_message}
pub use Rattle.office_types.specs.Block.{form_number, is_spn}
pub use Rattle.office_types.specs.State.{by_number}
pub use Rattle.office_types.specs.declared.block.BlockForm.TheVariants.{Spn}
pub use Rattle.office_types.specs.declared.book.SpnBlock.{SpnBlock}
pub use Rattle.office_types.specs.declared.book.SpnBook.{SpnBook}
pub use Rattle.office_types.specs.declared.command.SignalPath.{SignalPath}
pub use Rattle.office_types.specs.declared.state.GrantedBlock.{GrantedBlock}
pub use Rattle.office_types.specs.declared.state.Head.{Head}
pub use Rattle.office_types.specs.declared.state.LiveMessage.{LiveMessage}
pub use Rattle.office_types.specs.declared.state.Net.{Net}
pub use Rattle.sqlite.proofs.InsideLemmas.{keeps_then}
pub use Rattle.sqlite.specs.Held.{state}
pub use Rattle.sqlite.specs.Order.{Row, column, value_cmp}
pub use Rattle.sqlite.specs.State.{State, HasCleanDisk}
pub use Rattle.sqlite.specs.declared.transaction.Transaction.{Transaction}
pub use Rattle.sqlite.specs.declared.types.Value.{Value}
pub use Rattle.sqlite.specs.declared.types.Value.TheVariants.{Int, Text, Blob}
pub use Rattle.sqlite_trees.proofs.ListLemmas.{IsPermutation-filter, all-filter}
pub use Rattle.sqlite_trees.specs.declared.store.Store.{Ghosts}
pub use Rattle.sqlite_value.proofs.OrderLemmas.{value_cmp_total}
pub use Rattle.store_statements.specs.Rows.{net_row, block_row, held_row, spn_row, approval_row, frozen_row, is_of_net}
pub use Rattle.store_statements.specs.Rows.{is_of_form, has_net_and_number, has_net_and_name}
pub use Rattle.store_statements.specs.Shown.{net_order, blocks_order, blocks_of_form_order, held_order, spns_order}
pub use Rattle.store_statements.specs.Shown.{approvals_order, releases_order, messages_order, sigs_order, msgs_order}
pub use Rattle.store_statements.specs.Shown.{receivers_order, sigvalues_order, msg_named_order, msg_named_shown}
pub use Rattle.store_tables.specs.Frames.{StaysIn}
pub use Rattle.store_tables.specs.Selected.{has_text, has_number, by_column, IsSelected}
pub use Rattle.store_tables.specs.Tables.{Tables, no_rows}
