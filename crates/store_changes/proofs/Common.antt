-- What several proofs use of other crates, passed on from one place.
pub use Rattle.std.proofs.Common.{◌≡◌, ℕ, ◌&&◌, List, [], ◌∷◌, ◌++◌, append-nil, map, filter, Option, Some, None, refl}
pub use Rattle.std.proofs.Common.{sym, ap, subst, ◌∙◌, arith, ◌+◌, ◌<◌, Bool, true, false, cond, length, ◌||◌, pos}
pub use Rattle.std.proofs.Common.{codes, not, append_assoc, get_or, take, length-take, drop}
pub use Rattle.std.proofs.lemmas.Bool.{false≢true}
pub use Rattle.std.proofs.lemmas.List.{take_more}
pub use Rattle.std.proofs.lemmas.List.Elements.{filter-append}
pub use Rattle.std.proofs.lemmas.List.Sorted.{IsPermutation-refl, IsPermutation-sym, IsPermutation-trans}
pub use Rattle.std.proofs.lemmas.Result.{on_ok_weaker, IfOk-weaker}
pub use Rattle.std.specs.List.{flat_map, AllByRecursion}
pub use Rattle.std.specs.Option.{option_to_list, option_map}
pub use Rattle.std.specs.Prelude.{IsPermutation, slice_get}
pub use Rattle.std.specs.Str.{bytes_eq}
pub use Rattle.std.specs.declared.cmp.Ordering.TheVariants.{Less}
pub use Rattle.can_id.specs.Ident.{dbc_number}
pub use Rattle.dbc_grammar.specs.Reads.{Reads}
pub use Rattle.dbc_sheet.specs.declared.sheet.Sheet.{Sheet}
pub use Rattle.dbc_sheet.specs.declared.signal.Signal.{Signal}
pub use Rattle.dbc_sheet.specs.declared.value_texts.ValueText.{ValueText}
pub use Rattle.decimal.specs.Number.{IsDecimal}
pub use Rattle.office_history.proofs.Pairs.{has_pair, pair_alone}
pub use Rattle.office_history.specs.History.{Answered, first_arrivals, first_of}
pub use Rattle.office_rules.specs.Change.{HaveOwnBlocks, IsHeadFirst, NetAndBook, all_applied}
pub use Rattle.office_rules.specs.Facts.{live_named}
pub use Rattle.office_types.specs.Reply.{reply_parts}
pub use Rattle.office_types.specs.declared.command.SignalPath.{SignalPath}
pub use Rattle.office_types.specs.declared.reply.PartReply.{PartReply}
pub use Rattle.office_types.specs.declared.reply.Reply.{Reply}
pub use Rattle.office_types.specs.declared.reply.Reply.TheVariants.{Bundle, Counts, Number, Refused}
pub use Rattle.office_types.specs.declared.state.LiveMessage.{LiveMessage}
pub use Rattle.office_types.specs.declared.state.Net.{Net}
pub use Rattle.sqlite.specs.Effect.{Database}
pub use Rattle.sqlite.specs.Held.{state}
pub use Rattle.sqlite.specs.Order.{Row, column}
pub use Rattle.sqlite.specs.State.{HasCleanDisk}
pub use Rattle.sqlite.specs.declared.types.Value.TheVariants.{Blob, Int, Text}
pub use Rattle.sqlite_trees.proofs.ListLemmas.{IsPermutation-filter}
pub use Rattle.store_rows.proofs.Changes.{first_alone}
pub use Rattle.store_rows.proofs.Frames.{edits_end, ends_and_stays, writes_then, going, none_written}
pub use Rattle.store_rows.proofs.Keys.{text_test}
pub use Rattle.store_rows.proofs.Listing.{filter_shown, last_shown}
pub use Rattle.store_rows.proofs.LiveNamed.{named_ascend}
pub use Rattle.store_rows.proofs.LiveRows.{named_sigs_are_shown, places_ascend}
pub use Rattle.store_rows.proofs.Made.{makes_as, stays_if_read, makes_then}
pub use Rattle.store_rows.proofs.NamedFollows.{its_signals}
pub use Rattle.store_rows.proofs.Reading.{shown_none, shown_push}
pub use Rattle.store_rows.proofs.SeatRows.{all_append}
pub use Rattle.store_rows.proofs.Values.{one_number}
pub use Rattle.store_rows.specs.Follows.{AreWritten}
pub use Rattle.store_rows.specs.Listed.{AreShown}
pub use Rattle.store_rows.specs.Live.{receiver_values, sigvalue_values, sig_values}
pub use Rattle.store_rows.specs.LiveWritten.{AreTextsSet, IsSpnSet, IsTakenOut, placed_from, receiver_rows, value_rows}
pub use Rattle.store_rows.specs.LiveWritten.{with_signal, with_signals, with_spns, with_texts, IsGone, placed_named}
pub use Rattle.store_rows.specs.LiveWritten.{without_place, without_places, IsSignal, IsAfter}
pub use Rattle.store_rows.specs.NetIn.{IsNetAt}
pub use Rattle.store_rows.specs.Rows.{IsNamed}
pub use Rattle.store_rows.specs.SignalShowing.{PlacesAscend, ShowsPlaced}
pub use Rattle.store_statements.specs.Rows.{has_two_texts, has_place_of, has_net_and_number, has_name_of}
pub use Rattle.store_statements.specs.Shown.{sigs_order, sigs_shown}
pub use Rattle.store_tables.specs.Frames.{WritesAndStaysIn}
pub use Rattle.store_tables.specs.Selected.{IsSelected, has_text}
pub use Rattle.store_tables.specs.Tables.{Tables, tables_of, IsOffice}
