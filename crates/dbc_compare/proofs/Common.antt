-- What several proofs use of other crates, passed on from one place.
pub use Rattle.std.proofs.Common.{◌≡◌, ◌++◌, ◌⊎◌, ◌∙◌, Bool, true, false, List, [], ◌∷◌, inl, inr, refl, ap, subst, ℕ}
pub use Rattle.std.proofs.Common.{get_or, Option, Some, None, arith, ◌<◌, ◌+◌, suc, take, drop, map, sym, ◌==◌, not}
pub use Rattle.std.proofs.lemmas.Bool.{cond-true, both_ways}
pub use Rattle.std.proofs.lemmas.Slice.Eq.{bytes_eq-Decides}
pub use Rattle.std.specs.List.{AllByRecursion, flat_map}
pub use Rattle.std.specs.Str.{bytes_eq}
pub use Rattle.bitlayout.specs.declared.layout.Order.TheVariants.{Intel, Motorola}
pub use Rattle.bitlayout.specs.declared.place.Mux.TheVariants.{Always, Under}
pub use Rattle.dbc_sheet.specs.Form.{IsSheet}
pub use Rattle.dbc_sheet.specs.Messages.{AreMessages, number_of}
pub use Rattle.dbc_sheet.specs.Pairs.{partner}
pub use Rattle.dbc_sheet.specs.Sheet.{node_name, table_name}
pub use Rattle.dbc_sheet.specs.declared.message.Message.{Message}
pub use Rattle.dbc_sheet.specs.declared.node.Node.{Node}
pub use Rattle.dbc_sheet.specs.declared.sheet.Sheet.{Sheet}
pub use Rattle.dbc_sheet.specs.declared.signal.Signal.{Signal}
pub use Rattle.dbc_sheet.specs.declared.value_table.ValueTable.{ValueTable}
pub use Rattle.dbc_sheet.specs.declared.value_texts.ValueText.{ValueText}
pub use Rattle.dbc_words.proofs.NamedThings.{some_same, none_found}
pub use Rattle.dbc_words.proofs.Naming.{bytes_eq-flip}
pub use Rattle.dbc_words.specs.Named.{thing_named}
pub use Rattle.dbc_words.specs.declared.value_type.ValueType.TheVariants.{Integer, Float}
pub use Rattle.decimal.specs.Number.{Number}
