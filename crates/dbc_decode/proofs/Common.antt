-- What several proofs use of other crates, passed on from one place.
pub use Rattle.std.proofs.Common.{◌≡◌, ◌⊎◌, ◌∙◌, Bool, true, false, cond, ℕ, List, Option, Some, None, inl, inr, refl}
pub use Rattle.std.proofs.Common.{sym, ap, subst, ◌==◌, length, Contains, not, ◌<◌, ◌+◌, ◌*◌, ◌^◌, [], ◌∷◌, arith, ◌≢◌}
pub use Rattle.std.proofs.Common.{◌-◌, suc, get_or, ◌++◌, ◌≤◌}
pub use Rattle.std.proofs.Math.Nat.{pow-suc}
pub use Rattle.std.proofs.lemmas.Bool.{and_from, cond-true, both_ways, eq-eqb, eqb-true, not-true, cases_Bool}
pub use Rattle.std.proofs.lemmas.Bool.{true≢false, cond-false, le-ltb}
pub use Rattle.std.proofs.lemmas.List.{length-reverse, get_or-reverse}
pub use Rattle.std.specs.List.{find}
pub use Rattle.std.specs.Prelude.{reverse, count_by, pos, ◌-ℤ◌, nat_lt}
pub use Rattle.std.specs.Str.{bytes_eq}
pub use Rattle.bitlayout.proofs.Walks.{length-walk}
pub use Rattle.bitlayout.specs.Bits.{positions}
pub use Rattle.bitlayout.specs.Mux.{is_multiplexor}
pub use Rattle.bitlayout.specs.declared.layout.Layout.{Layout}
pub use Rattle.bitlayout.specs.declared.layout.Order.{Order}
pub use Rattle.bitlayout.specs.declared.layout.Order.TheVariants.{Intel, Motorola}
pub use Rattle.bitlayout.specs.declared.place.Mux.TheVariants.{Always, Multiplexor, Under}
pub use Rattle.dbc_compare.proofs.FieldsTold.{mux_told, order_told, truth_told, type_told, whole_is, word_is}
pub use Rattle.dbc_compare.proofs.Members.{In, find_only, found_in, all_in, from_map, in_from, in_map, in_to, in_first}
pub use Rattle.dbc_compare.proofs.Members.{in_later, in_left, in_right}
pub use Rattle.dbc_compare.proofs.ThingLists.{found_named, found_self}
pub use Rattle.dbc_compare.proofs.ToldSheets.{all_keep}
pub use Rattle.dbc_compare.proofs.ValueTests.{value_decides}
pub use Rattle.dbc_compare.specs.Differences.{changes_between, differences}
pub use Rattle.dbc_compare.specs.Fields.{message_fields, Valued, signal_fields}
pub use Rattle.dbc_compare.specs.List.{breaks}
pub use Rattle.dbc_compare.specs.Value.{Value, same_value, value_text, Dec}
pub use Rattle.dbc_compare.specs.declared.difference.Alteration.{Alteration}
pub use Rattle.dbc_compare.specs.declared.difference.Difference.{Difference}
pub use Rattle.dbc_compare.specs.declared.field.SheetField.{SheetField}
pub use Rattle.dbc_sheet.specs.Form.{IsSheet, IsSignal}
pub use Rattle.dbc_sheet.specs.Messages.{IsClearMessage, number_of, AreMessages}
pub use Rattle.dbc_sheet.specs.Signals.{signal_is_multiplexor}
pub use Rattle.dbc_sheet.specs.declared.message.Message.{Message}
pub use Rattle.dbc_sheet.specs.declared.sheet.Sheet.{Sheet}
pub use Rattle.dbc_sheet.specs.declared.signal.Signal.{Signal}
pub use Rattle.dbc_words.proofs.NamedThings.{some_none, none_found}
pub use Rattle.dbc_words.specs.Named.{has_name, thing_named}
pub use Rattle.dbc_words.specs.declared.value_type.ValueType.{ValueType}
pub use Rattle.dbc_words.specs.declared.value_type.ValueType.TheVariants.{Integer, Float, Double}
