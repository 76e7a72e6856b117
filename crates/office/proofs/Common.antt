-- What several proofs use of other crates, passed on from one place.
pub use Rattle.std.proofs.Common.{◌≡◌, ◌∙◌, ◌≤◌, ◌<◌, ℕ, Bool, true, false, cond, List, [], ◌∷◌, Option, Some, None}
pub use Rattle.std.proofs.Common.{length, get_or, find, refl, sym, ap, arith, ◌++◌, map, subst, not, zero, suc, set}
pub use Rattle.std.proofs.Common.{filter, inl, inr, ◌&&◌, ◌||◌, drop, take, ◌+◌, append_assoc, rules, ◌-◌}
pub use Rattle.std.proofs.lemmas.Bool.{false≢true, false_from_ne_true, or_parts}
pub use Rattle.std.proofs.lemmas.List.{map-append, drop_more, take_more}
pub use Rattle.std.proofs.lemmas.List.Sorted.{answers_always}
pub use Rattle.std.proofs.lemmas.Option.{slice_get_cases, get_or_from_slice_get}
pub use Rattle.std.proofs.lemmas.Result.{on_ok_weaker, IfOk-weaker}
pub use Rattle.std.proofs.lemmas.Slice.Eq.{bytes_eq-Decides}
pub use Rattle.std.specs.BTreeMap.{get}
pub use Rattle.std.specs.Cmp.{nat_cmp_is}
pub use Rattle.std.specs.List.{position, filter_map, remove, AllByRecursion, insert, list_any}
pub use Rattle.std.specs.List.Sorted.{IsStrictlySortedBy}
pub use Rattle.std.specs.Map.{lookup}
pub use Rattle.std.specs.Ordering.{nat_cmp, is_eq}
pub use Rattle.std.specs.Prelude.{slice_get, Err, Ok, OnErr, OnOk, Result, option_map, IfSome, slice_set, is_some}
pub use Rattle.std.specs.Str.{bytes_eq}
pub use Rattle.std.specs.declared.cmp.Ordering.TheVariants.{Equal, Less}
pub use Rattle.base.proofs.AscendingLists.{searched}
pub use Rattle.base.specs.Ascending.{IsAt, IsGap}
pub use Rattle.base.specs.Keyed.{put, text_cmp}
pub use Rattle.can_id.specs.Ident.{IsIdentifier, dbc_number, ident_of}
pub use Rattle.can_id.specs.declared.form.IdentForm.{IdentForm}
pub use Rattle.can_id.specs.declared.form.IdentForm.TheVariants.{Standard, Extended}
pub use Rattle.can_id.specs.declared.ident.Ident.{Ident}
pub use Rattle.dbc_sheet.specs.Signals.{at_signal}
pub use Rattle.dbc_sheet.specs.declared.signal.Signal.{Signal}
pub use Rattle.dbc_words.specs.Named.{AreNamedApart}
pub use Rattle.office_facts.specs.Excerpt.{AreFacts}
pub use Rattle.office_history.specs.Answering.{answered}
pub use Rattle.office_history.specs.History.{Answered, first_of}
pub use Rattle.office_history.specs.declared.arrival.Answer.{Answer}
pub use Rattle.office_law.proofs.Idents.{same_ident-from}
pub use Rattle.office_law.proofs.KeptOffice.{offices_are_kept}
pub use Rattle.office_rules.proofs.Idents.{same_ident-true}
pub use Rattle.office_rules.specs.Change.{changed_book, net_changed, NetAndBook, all_applied, AllFit}
pub use Rattle.office_rules.specs.Facts.{live_named, number_in, has_ident, is_held, live_name, same_ident}
pub use Rattle.office_rules.specs.Kept.{IsNet, IsOffice}
pub use Rattle.office_rules.specs.Numbers.{with_message}
pub use Rattle.office_rules.specs.Profile.{Two}
pub use Rattle.office_rules.specs.Signals.{with_last_signal, with_signals}
pub use Rattle.office_rules.specs.Step.{net_named, Step, HasRun}
pub use Rattle.office_types.specs.Free.{is_taken}
pub use Rattle.office_types.specs.State.{by_name, by_number, live_messages}
pub use Rattle.office_types.specs.declared.book.SpnBlock.{SpnBlock}
pub use Rattle.office_types.specs.declared.book.SpnBook.{SpnBook}
pub use Rattle.office_types.specs.declared.change.Change.{Change}
pub use Rattle.office_types.specs.declared.change.Change.TheVariants.{SetHead, AddSignal, SetSpn, SetSpnBlock, EnterSpn}
pub use Rattle.office_types.specs.declared.reply.Reply.{Reply}
pub use Rattle.office_types.specs.declared.state.LiveMessage.{LiveMessage}
pub use Rattle.office_types.specs.declared.state.Net.{Net}
pub use Rattle.office_types.specs.declared.state.Office.{Office}
