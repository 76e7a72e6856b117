-- What several proofs use of other crates, passed on from one place.
pub use Rattle.std.proofs.Common.{◌≡◌, ◌≢◌, ◌≤◌, ◌<◌, ◌^◌, ◌&&◌, ℕ, true, List, [], ◌∷◌, Some, refl, arith, nat_le, ◌∙◌}
pub use Rattle.std.proofs.Common.{not, Bool, false, Option, None, Ordering, Less, Equal, Greater, sym, ap, nat_cmp}
pub use Rattle.std.proofs.Common.{◌==◌, length, IsUtf8, subst, codes, map, ◌++◌, Ok, append-nil, decimal, nat_lt}
pub use Rattle.std.proofs.Common.{Result, Err, Global, zero, suc, append_assoc, length-append, take, is_some}
pub use Rattle.std.proofs.lemmas.Bool.{and_parts, false≢true}
pub use Rattle.std.proofs.lemmas.Bool.Decides.{nat_tests}
pub use Rattle.std.proofs.lemmas.Fmt.{decimal_is_IsNumeral}
pub use Rattle.std.proofs.lemmas.List.Elements.{All-head, All-tail}
pub use Rattle.std.proofs.lemmas.List.Folds.{list_all-append}
pub use Rattle.std.proofs.lemmas.Slice.Eq.{bytes_eq-Decides}
pub use Rattle.std.proofs.lemmas.Str.{is_utf8-from_IsUtf8}
pub use Rattle.std.specs.Char.{is_ascii_digit, digit_value}
pub use Rattle.std.specs.Cmp.Lexicographic.{slice_cmp}
pub use Rattle.std.specs.List.{list_all, All, AllZip}
pub use Rattle.std.specs.Option.{option_map}
pub use Rattle.std.specs.Ordering.{match_ordering}
pub use Rattle.std.specs.Prelude.{IfSome, ⊤}
pub use Rattle.std.specs.Str.{bytes_eq, is_utf8}
pub use Rattle.std.specs.Str.Parse.{AllDigits}
pub use Rattle.bitlayout.specs.declared.layout.Order.TheVariants.{Intel, Motorola}
pub use Rattle.bitlayout.specs.declared.place.Mux.{Mux}
pub use Rattle.bitlayout.specs.declared.place.Mux.TheVariants.{Always, Multiplexor, Under}
pub use Rattle.dbc_sheet.specs.Form.{IsMux, IsValueText}
pub use Rattle.dbc_sheet.specs.declared.value_texts.ValueText.{ValueText}
pub use Rattle.decimal.specs.Number.{IsDecimal, Number}
pub use Rattle.desk_call.proofs.SoughtBack.{whole_decimal}
pub use Rattle.desk_call.proofs.Texts.{is_json}
pub use Rattle.desk_call.specs.Body.{json_name, json_in, named}
pub use Rattle.desk_head.proofs.Parameters.{Lacks}
pub use Rattle.desk_head.proofs.TargetParts.{all_weaker, plain_part, IsPart}
pub use Rattle.desk_head.specs.Limits.{body_limit}
pub use Rattle.json.proofs.Printed.Utf8.{IsUtf8-are_ascii, are_ascii}
pub use Rattle.office_fields.specs.Field.{row_of}
pub use Rattle.office_fields.specs.Given.{NamedValue, Readings}
pub use Rattle.office_fields.specs.Kind.{action_fields, fields_of, kind_of, action_word}
pub use Rattle.office_fields.specs.Value.{◌>>=◌, Value, value_from, where_true}
pub use Rattle.office_fields.specs.declared.field.Field.{Field}
pub use Rattle.office_fields.specs.declared.field.FieldKind.{FieldKind}
pub use Rattle.office_fields.specs.declared.field.Occurrence.{Occurrence}
pub use Rattle.office_fields.specs.declared.field.Occurrence.TheVariants.{Required, Optional, Repeated}
pub use Rattle.office_history.specs.Key.{is_key_byte}
pub use Rattle.office_history.specs.declared.arrival.Answer.{Answer}
pub use Rattle.office_history.specs.declared.arrival.Answer.TheVariants.{Reply, KeyReused}
pub use Rattle.office_types.specs.Command.{IsAction}
pub use Rattle.office_types.specs.Parts.{AreParts, part_limit}
pub use Rattle.office_types.specs.PlainName.{IsPlainName}
pub use Rattle.office_types.specs.declared.block.BlockForm.{BlockForm}
pub use Rattle.office_types.specs.declared.command.Action.{Action}
pub use Rattle.office_types.specs.declared.command.Command.{Command}
pub use Rattle.office_types.specs.declared.command.NetKind.TheVariants.{Can, J1939}
pub use Rattle.office_types.specs.declared.command.Pdu.{Pdu}
pub use Rattle.office_types.specs.declared.command.Task.{Task}
pub use Rattle.office_types.specs.declared.command.Task.TheVariants.{Act, Import, Bundle}
pub use Rattle.serde_json.specs.Data.{Data, Items, Members, array, member, no_members, put, number, object, unsigned}
pub use Rattle.serde_json.specs.Data.{boolean, item, no_items, string, depth}
pub use Rattle.serde_json.specs.Find.{get_member}
pub use Rattle.serde_json.specs.Read.{max_depth, of_json, read}
pub use Rattle.serde_json.specs.View.{items_view, view, members_view}
pub use Rattle.serde_json.specs.Written.{items_outline, outline, has_float, compact_text}
