-- What several proofs use of other crates, passed on from one place.
pub use Rattle.std.proofs.Common.{◌≡◌, ◌==◌, ◌<◌, ◌⊎◌, ℕ, zero, suc, false, List, [], ◌∷◌, length, inl, inr, refl, sym}
pub use Rattle.std.proofs.Common.{ap, subst, arith, true, ◌++◌, Some, None, ◌↔◌, Bool, Result, Ok, Err, not, map}
pub use Rattle.std.proofs.Common.{Option, is_some, option_map, ◌∙◌, cond, ◌&&◌, ◌≤◌, append_assoc, ◌+◌, ◌-◌, drop, eqb}
pub use Rattle.std.proofs.Common.{take}
pub use Rattle.std.proofs.lemmas.Bool.{and_from, and_parts, eqb-true}
pub use Rattle.std.proofs.lemmas.Bool.Decides.{nat_tests}
pub use Rattle.std.proofs.lemmas.List.{append-nil, length-append, drop_at, take_at}
pub use Rattle.std.proofs.lemmas.List.Folds.{length-prefix_len}
pub use Rattle.std.proofs.lemmas.List.Sorted.{IsPermutation-sym}
pub use Rattle.std.proofs.lemmas.List.Sums.{prefix_len-le-length}
pub use Rattle.std.proofs.lemmas.Slice.Eq.{bytes_eq-Decides}
pub use Rattle.std.specs.Char.{is_ascii_digit}
pub use Rattle.std.specs.List.{AllByRecursion, flat_map, list_all, prefix_len}
pub use Rattle.std.specs.Option.{option_and_then}
pub use Rattle.std.specs.Prelude.{codes, pos, negsuc, if◌then◌else◌}
pub use Rattle.std.specs.Str.{bytes_eq}
pub use Rattle.bitlayout.specs.declared.layout.Order.TheVariants.{Intel, Motorola}
pub use Rattle.bitlayout.specs.declared.place.Mux.TheVariants.{Always, Multiplexor, Under}
pub use Rattle.can_id.specs.declared.ident.Ident.{Ident}
pub use Rattle.can_id.specs.declared.ident.Ident.TheVariants.{Std, Ext}
pub use Rattle.dbc_sheet.specs.Messages.{number_of}
pub use Rattle.dbc_sheet.specs.WellFormed.{IsWellFormed}
pub use Rattle.dbc_sheet.specs.declared.message.Message.{Message}
pub use Rattle.dbc_sheet.specs.declared.sheet.Sheet.{Sheet}
pub use Rattle.dbc_sheet.specs.declared.value_texts.ValueText.{ValueText}
pub use Rattle.dbc_words.proofs.Naming.{bytes_eq-flip}
pub use Rattle.dbc_words.proofs.Texts.{text-Decides}
pub use Rattle.dbc_words.specs.Keyword.{keyword_of}
pub use Rattle.dbc_words.specs.Name.{starts_identifier}
pub use Rattle.dbc_words.specs.Named.{AreNamedApart}
pub use Rattle.dbc_words.specs.declared.keyword.Keyword.{Keyword}
pub use Rattle.dbc_words.specs.declared.keyword.Keyword.TheVariants.{Signal, Nodes, EnvironmentVariable, Version}
pub use Rattle.dbc_words.specs.declared.keyword.Keyword.TheVariants.{NewSymbols, BitTiming, ValueTable, Comment}
pub use Rattle.dbc_words.specs.declared.keyword.Keyword.TheVariants.{ValueTexts, SignalValueType, AttributeValue}
pub use Rattle.dbc_words.specs.declared.value_type.ValueType.TheVariants.{Integer, Float, Double}
pub use Rattle.decimal.proofs.Tokens.{Stops, prefix_all, prefix_exact}
pub use Rattle.decimal.specs.Number.{Number, IsDecimal}
pub use Rattle.decimal.specs.Spelling.{are_digits, is_numeral}
