-- What several proofs use of other crates, passed on from one place.
pub use Rattle.std.proofs.Common.{◌≡◌, ◌∙◌, ℕ, List, Option, Some, inl, inr, refl, ap, subst, Bool, true, false, []}
pub use Rattle.std.proofs.Common.{◌∷◌, None, ◌+◌, sym, ◌⊎◌, ◌++◌, map, length, arith, ◌≤◌, ◌<◌, Contains, ◌&&◌, not}
pub use Rattle.std.proofs.Common.{append-nil, append_assoc, ◌==◌, ◌||◌, zero, suc, get_or, eq-eqb, ◌≢◌, ◌*◌, min, cond}
pub use Rattle.std.proofs.Common.{nat_le, nat_lt}
pub use Rattle.std.proofs.lemmas.Bool.{false≢true, or_parts, cond_both, and_parts, false_from_ne_true, leb-true}
pub use Rattle.std.proofs.lemmas.Bool.{not-false, not-true, leb-false}
pub use Rattle.std.proofs.lemmas.Bool.Decides.{nat_tests, Decides-eqb}
pub use Rattle.std.proofs.lemmas.Cmp.{ranked, nat_cmp_total, nat_list_cmp_total, on_total, then_total}
pub use Rattle.std.proofs.lemmas.List.{length-append, length-map}
pub use Rattle.std.proofs.lemmas.List.Elements.{All-nil, Contains-append_left, Contains-append_right, All-contains}
pub use Rattle.std.proofs.lemmas.List.Elements.{All-filter, All-weaker, All-push, All-head, All-tail, All-append}
pub use Rattle.std.proofs.lemmas.List.Elements.{All-map, filter_passes, All-from_recursion, recursion_from_All}
pub use Rattle.std.proofs.lemmas.List.Elements.{All-cons}
pub use Rattle.std.proofs.lemmas.List.Folds.{list_any-from_Any, Any-from_list_any, list_any-append, list_any_at}
pub use Rattle.std.proofs.lemmas.List.Folds.{list_any_none}
pub use Rattle.std.proofs.lemmas.List.Kept.{IsStrictlySortedBy-filter}
pub use Rattle.std.proofs.lemmas.Map.Text.{is_eq-slice_cmp}
pub use Rattle.std.proofs.lemmas.Option.{same_Some}
pub use Rattle.std.proofs.lemmas.Slice.Eq.{bytes_eq-Decides}
pub use Rattle.std.specs.List.{list_any, filter, flat_map, All, find, AllByRecursion}
pub use Rattle.std.specs.Option.{option_map}
pub use Rattle.std.specs.Ordering.{nat_cmp, is_eq, on, is_lt}
pub use Rattle.std.specs.Prelude.{if◌then◌else◌, IfSome, is_none, is_some}
pub use Rattle.std.specs.Str.{bytes_eq}
pub use Rattle.std.specs.declared.cmp.Ordering.{Ordering}
pub use Rattle.std.specs.declared.cmp.Ordering.TheVariants.{Equal, Less, Greater}
pub use Rattle.base.proofs.PutKeeps.{All-put, AllPairs-put, IsStrictlySortedBy-put, length-put, put_cases}
pub use Rattle.base.specs.Keyed.{put, text_cmp, are_above, put_by_order}
pub use Rattle.base.specs.Refusing.{Test, first_refusal}
pub use Rattle.bitlayout.proofs.Clearance.{clear_from_none, none_from_clear}
pub use Rattle.bitlayout.proofs.Presence.{is_multiplexor_decides}
pub use Rattle.bitlayout.proofs.Search.{found_first}
pub use Rattle.bitlayout.specs.Clash.{first_clash_of}
pub use Rattle.bitlayout.specs.Clear.{IsClear, IsMultiplexor}
pub use Rattle.bitlayout.specs.Mux.{is_multiplexor, is_under}
pub use Rattle.bitlayout.specs.Start.{least_start_of, place_from, start_if_clear}
pub use Rattle.bitlayout.specs.declared.clash.Clash.{Clash}
pub use Rattle.bitlayout.specs.declared.layout.TheConstants.{GREATEST_START}
pub use Rattle.bitlayout.specs.declared.place.Place.{Place}
pub use Rattle.can_id.specs.Ident.{IsIdentifier, ident_of, dbc_number}
pub use Rattle.can_id.specs.J1939.{fields_with}
pub use Rattle.can_id.specs.declared.ident.Ident.{Ident}
pub use Rattle.dbc_grammar.specs.Reads.{ReadsAsOneAtMost}
pub use Rattle.dbc_sheet.specs.Form.{IsNode, IsSheet, KeepsMessage, IsMessage, IsSignal}
pub use Rattle.dbc_sheet.specs.Messages.{IsClearMessage, has_number, message_name, number_of}
pub use Rattle.dbc_sheet.specs.Sheet.{IsClearSheet, node_name}
pub use Rattle.dbc_sheet.specs.Signal.{place_of}
pub use Rattle.dbc_sheet.specs.Signals.{signal_is_multiplexor, places_of, at_signal, has_multiplexor}
pub use Rattle.dbc_sheet.specs.WellFormed.{AreFewTexts}
pub use Rattle.dbc_sheet.specs.declared.message.Message.{Message}
pub use Rattle.dbc_sheet.specs.declared.node.Node.{Node}
pub use Rattle.dbc_sheet.specs.declared.sheet.Sheet.{Sheet}
pub use Rattle.dbc_sheet.specs.declared.signal.Signal.{Signal}
pub use Rattle.dbc_words.proofs.Naming.{apart-filter}
pub use Rattle.dbc_words.proofs.Rosters.{apart_and_last}
pub use Rattle.dbc_words.specs.Limits.{message_limit, roster_limit, spn_limit}
pub use Rattle.dbc_words.specs.Name.{IsName}
pub use Rattle.dbc_words.specs.Named.{has_name, AreNamedApart}
pub use Rattle.dbc_words.specs.Text.{IsText}
pub use Rattle.office_rules.specs.Bundling.{PartsOutcome, bundle_outcome, part_then, with_part, RefusedAt, AllDone}
pub use Rattle.office_rules.specs.Bundling.{both_entries}
pub use Rattle.office_rules.specs.Change.{AllFit, Decides, IsQuiet, NetAndBook, all_applied, applied, at_message}
pub use Rattle.office_rules.specs.Change.{changed_book, left_after, net_changed, is_release}
pub use Rattle.office_rules.specs.Commands.{outcome, acted, done_task, parts_done, action_tests, releases_read}
pub use Rattle.office_rules.specs.Commands.{OfReleases, Nothing, Count, Bodies, is_of_releases, reads_releases}
pub use Rattle.office_rules.specs.Facts.{is_granted, is_j1939, is_spn_granted, live_named, message_facts, in_review}
pub use Rattle.office_rules.specs.Facts.{has_node, is_held, is_live, is_named, is_submitter, spn_range, NumberFacts}
pub use Rattle.office_rules.specs.Facts.{blocks_of, group_of, has_ident, ident_facts, lies_in, same_ident, taken_groups}
pub use Rattle.office_rules.specs.Facts.{taken_idents, taken_numbers, group_facts, spn_blocks_of, live_name}
pub use Rattle.office_rules.specs.Facts.{was_released}
pub use Rattle.office_rules.specs.Importing.{FileReading, Unreadable, is_too_large, message_import_tests, Reading}
pub use Rattle.office_rules.specs.Importing.{file_imported, file_tests, import_tests, clear_tests, import, imported}
pub use Rattle.office_rules.specs.Importing.{new_messages, owned_by, spns_entered}
pub use Rattle.office_rules.specs.Kept.{IsNet, AreEntered, IsBook, IsEntered, AreLive}
pub use Rattle.office_rules.specs.Lists.{put_all, none_of}
pub use Rattle.office_rules.specs.Numbers.{with_message, number_given, take_ident_tests, take_pgn_tests, want_tests}
pub use Rattle.office_rules.specs.Numbers.{address_of, group_given, ident_with, new_message, take_ident, take_pgn}
pub use Rattle.office_rules.specs.Opening.{grant, granted, grant_tests, with_block, with_node, bare_net, new_head}
pub use Rattle.office_rules.specs.Opening.{open_net_tests, add_node_tests, is_block_taken}
pub use Rattle.office_rules.specs.Outcome.{Entries, Changing, Outcome, Refusing, entered, on_net, unless, when}
pub use Rattle.office_rules.specs.Outcome.{given_or, refused_or, reply_of, no_entries, requested_of}
pub use Rattle.office_rules.specs.Profile.{Profile}
pub use Rattle.office_rules.specs.Retiring.{retired, with_held, without_message}
pub use Rattle.office_rules.specs.Reviewing.{in_phase, with_approval, with_release, release_limit, release_tests}
pub use Rattle.office_rules.specs.Signals.{spn_given, take_spn, take_spn_tests, with_spn, with_signals, is_needed}
pub use Rattle.office_rules.specs.Signals.{on_message, spn_tests, start_given, start_tests, spn_entered, new_signal}
pub use Rattle.office_rules.specs.Signals.{place_at, take_bits, take_bits_tests, with_last_signal, on_found, has_signal}
pub use Rattle.office_rules.specs.Step.{net_named, IsRead, Run, Step, file_wanted, office_after, TeamCommand}
pub use Rattle.office_rules.specs.Step.{step_outcome, opening, IsReadingOf}
pub use Rattle.office_types.proofs.Blocks.{have_common-comm}
pub use Rattle.office_types.proofs.Least.{least_free_is}
pub use Rattle.office_types.specs.Block.{is_spn, same_form, IsRange, block_form, have_common}
pub use Rattle.office_types.specs.Book.{by_net}
pub use Rattle.office_types.specs.Command.{group_form, IsAction}
pub use Rattle.office_types.specs.Free.{IsLeastFree, has_form, is_taken, least_free, number_form}
pub use Rattle.office_types.specs.PlainName.{is_office, IsPlainName}
pub use Rattle.office_types.specs.Reply.{part_reply, whole_reply}
pub use Rattle.office_types.specs.State.{by_name, sheet_of, by_number, live_messages, sheet_with}
pub use Rattle.office_types.specs.declared.block.Block.{Block}
pub use Rattle.office_types.specs.declared.block.BlockForm.TheVariants.{Pgn}
pub use Rattle.office_types.specs.declared.book.SpnBlock.{SpnBlock}
pub use Rattle.office_types.specs.declared.book.SpnBook.{SpnBook}
pub use Rattle.office_types.specs.declared.change.Change.{Change}
pub use Rattle.office_types.specs.declared.change.Change.TheVariants.{AddSignal, RemoveSignal, SetSpn, SetValues}
pub use Rattle.office_types.specs.declared.change.Change.TheVariants.{AddRelease}
pub use Rattle.office_types.specs.declared.change.Decision.{Decision}
pub use Rattle.office_types.specs.declared.command.Action.{Action}
pub use Rattle.office_types.specs.declared.command.Command.{Command}
pub use Rattle.office_types.specs.declared.command.Grant.{Grant}
pub use Rattle.office_types.specs.declared.command.NewMessage.{NewMessage}
pub use Rattle.office_types.specs.declared.command.OpenNet.{OpenNet}
pub use Rattle.office_types.specs.declared.command.Pdu.{Pdu}
pub use Rattle.office_types.specs.declared.command.Pdu.TheVariants.{Addressed, Broadcast}
pub use Rattle.office_types.specs.declared.command.TakeBits.{TakeBits}
pub use Rattle.office_types.specs.declared.command.TakeIdent.{TakeIdent}
pub use Rattle.office_types.specs.declared.command.TakePgn.{TakePgn}
pub use Rattle.office_types.specs.declared.command.TakeSpn.{TakeSpn}
pub use Rattle.office_types.specs.declared.command.Task.{Task}
pub use Rattle.office_types.specs.declared.command.Task.TheVariants.{Act, Bundle, Import}
pub use Rattle.office_types.specs.declared.free.NumberForm.{NumberForm}
pub use Rattle.office_types.specs.declared.free.NumberForm.TheVariants.{Spn}
pub use Rattle.office_types.specs.declared.refusal.Refusal.{Refusal}
pub use Rattle.office_types.specs.declared.reply.PartReply.{PartReply}
pub use Rattle.office_types.specs.declared.reply.Reply.{Reply}
pub use Rattle.office_types.specs.declared.reply.Reply.TheVariants.{Number, Refused, Start, Done}
pub use Rattle.office_types.specs.declared.state.GrantedBlock.{GrantedBlock}
pub use Rattle.office_types.specs.declared.state.LiveMessage.{LiveMessage}
pub use Rattle.office_types.specs.declared.state.Net.{Net}
pub use Rattle.office_types.specs.declared.state.Office.{Office}
pub use Rattle.office_types.specs.declared.state.Phase.{Phase}
pub use Rattle.office_types.specs.declared.state.Phase.TheVariants.{Draft, Review}
