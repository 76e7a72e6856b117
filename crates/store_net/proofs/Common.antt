-- What several proofs use of other crates, passed on from one place.
pub use Rattle.std.proofs.Common.{◌≡◌, ◌∙◌, ℕ, suc, ◌<◌, List, [], ◌∷◌, map, length, Option, Some, None, refl, sym, ap}
pub use Rattle.std.proofs.Common.{subst, pos, Bool, true, false, cond, filter, zero, ◌++◌, take, get_or, arith, ◌+◌}
pub use Rattle.std.proofs.Common.{◌≤◌, slice_get, not, append-nil, take_all, drop, IsPermutation, add-one, rules}
pub use Rattle.std.proofs.lemmas.Bool.{eqb-true, false≢true}
pub use Rattle.std.proofs.lemmas.Bool.Decides.{nat_tests}
pub use Rattle.std.proofs.lemmas.List.{length-map, take_more}
pub use Rattle.std.proofs.lemmas.List.Sorted.{length_permutation}
pub use Rattle.std.proofs.lemmas.Result.{IfOk-weaker, on_ok_weaker}
pub use Rattle.std.specs.List.{AllByRecursion, flat_map, list_any, filter_map}
pub use Rattle.std.specs.Option.{option_map}
pub use Rattle.std.specs.Ordering.{nat_cmp, is_eq}
pub use Rattle.std.specs.Prelude.{IfSome, ◌==◌, min, IsTrue, ◌||◌, nat_le, find}
pub use Rattle.std.specs.Str.{bytes_eq}
pub use Rattle.std.specs.declared.cmp.Ordering.{Ordering}
pub use Rattle.std.specs.declared.cmp.Ordering.TheVariants.{Less}
pub use Rattle.base.specs.Keyed.{put}
pub use Rattle.can_id.specs.Ident.{IsIdentifier, dbc_number, ident_of}
pub use Rattle.can_id.specs.declared.form.IdentForm.{IdentForm}
pub use Rattle.can_id.specs.declared.form.IdentForm.TheVariants.{Standard, Extended}
pub use Rattle.can_id.specs.declared.form.TheConstants.{EXTENDED_FLAG, GREATEST_EXTENDED}
pub use Rattle.can_id.specs.declared.ident.Ident.{Ident}
pub use Rattle.dbc_grammar.specs.Canon.{canonical_text}
pub use Rattle.dbc_sheet.specs.Messages.{by_number, has_number}
pub use Rattle.dbc_sheet.specs.declared.message.Message.{Message}
pub use Rattle.dbc_sheet.specs.declared.sheet.Sheet.{Sheet}
pub use Rattle.dbc_sheet.specs.declared.signal.Signal.{Signal}
pub use Rattle.dbc_words.specs.Limits.{message_limit}
pub use Rattle.dbc_words.specs.Named.{has_name}
pub use Rattle.office_facts.specs.By.{AgreeInside}
pub use Rattle.office_facts.specs.Excerpt.{AreFacts}
pub use Rattle.office_facts.specs.FactsOf.{facts_in}
pub use Rattle.office_facts.specs.declared.excerpt.NumberExcerpt.{NumberExcerpt}
pub use Rattle.office_law.specs.Released.{with_releases}
pub use Rattle.office_rules.specs.Facts.{in_last, live_named, was_released, live_name, group_of, is_wanted, number_in}
pub use Rattle.office_rules.specs.Facts.{same_ident, blocks_of}
pub use Rattle.office_types.specs.State.{live_messages, sheet_with}
pub use Rattle.office_types.specs.declared.block.Block.{Block}
pub use Rattle.office_types.specs.declared.state.GrantedBlock.{GrantedBlock}
pub use Rattle.office_types.specs.declared.state.Head.{Head}
pub use Rattle.office_types.specs.declared.state.LiveMessage.{LiveMessage}
pub use Rattle.office_types.specs.declared.state.Net.{Net}
pub use Rattle.office_views.specs.Message.{message_chart}
pub use Rattle.office_views.specs.NetList.{nets_text}
pub use Rattle.office_views.specs.Table.{table_of}
pub use Rattle.sqlite.proofs.Callers.{unchanged_then}
pub use Rattle.sqlite.proofs.InsideLemmas.{keeps_then}
pub use Rattle.sqlite.specs.Effect.{Database}
pub use Rattle.sqlite.specs.Held.{state}
pub use Rattle.sqlite.specs.Order.{Row, column, value_cmp}
pub use Rattle.sqlite.specs.State.{HasCleanDisk, IsUnchanged, KeepsCommit, Survives}
pub use Rattle.sqlite.specs.declared.types.Value.TheVariants.{Int, Text, Blob}
pub use Rattle.store_rows.proofs.First.{none_first, some_first}
pub use Rattle.store_rows.proofs.Frames.{nothing_left}
pub use Rattle.store_rows.proofs.Keys.{int_test, releases_total}
pub use Rattle.store_rows.proofs.Listing.{kept_listed, none_listed}
pub use Rattle.store_rows.proofs.LiveRows.{places_ascend, sigs_are_shown}
pub use Rattle.store_rows.proofs.Made.{on_any, reads_any, reads_then, while_open}
pub use Rattle.store_rows.proofs.PartShown.{placed_part}
pub use Rattle.store_rows.proofs.Reading.{selected_shown, both_tests}
pub use Rattle.store_rows.proofs.Values.{one_number}
pub use Rattle.store_rows.specs.Listed.{AreListed, AreShown}
pub use Rattle.store_rows.specs.Live.{AreSignalsOf, live_rows, bare_signal, AreLiveRows, IsMsgRow}
pub use Rattle.store_rows.specs.NetIn.{HasRows, IsNetAt, RestRows}
pub use Rattle.store_rows.specs.Rows.{IsNetRow, IsRowOf, numbered, IsFrozenRow, IsNamed}
pub use Rattle.store_rows.specs.SignalShowing.{ShowsLive, ShowsPart, ShowsReceiver, ShowsValueText}
pub use Rattle.store_statements.specs.Rows.{has_net_and_number, is_of_net, net_row, has_rowid_below, msg_entries}
pub use Rattle.store_statements.specs.Rows.{frozen_row}
pub use Rattle.store_statements.specs.Shown.{receivers_order, receivers_shown, msgs_order, net_order}
pub use Rattle.store_tables.specs.Selected.{IsSelected}
pub use Rattle.store_tables.specs.Tables.{Tables, IsOffice, tables_of}
