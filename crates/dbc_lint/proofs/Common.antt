-- What several proofs use of other crates, passed on from one place.
pub use Rattle.std.proofs.Common.{◌≡◌, ◌∙◌, ◌++◌, ◌∷◌, ℕ, List, ap, drop, sym, ◌<◌, ◌+◌, Bool, true, false, [], Option}
pub use Rattle.std.proofs.Common.{Some, None, cond, get_or, length, map, refl, subst, take, arith, ◌≤◌, not, ◌&&◌, ℤ}
pub use Rattle.std.proofs.Common.{◌-ℤ◌, unsigned_abs, ◌||◌, Bor, lit<, rules, tests}
pub use Rattle.std.proofs.lemmas.Int.{ints, to_z-of_z}
pub use Rattle.std.proofs.lemmas.Iterator.Splits.{YieldsList-from_str_split}
pub use Rattle.std.proofs.lemmas.List.{append_assoc, drop_more}
pub use Rattle.std.specs.Int.{w16, w128}
pub use Rattle.std.specs.List.{flat_map}
pub use Rattle.std.specs.Ordering.{is_eq}
pub use Rattle.std.specs.Prelude.{is_some, count_by, FitsSigned, find}
pub use Rattle.std.specs.Str.{bytes_eq}
pub use Rattle.dbc_sheet.specs.Sheet.{node_name}
pub use Rattle.dbc_sheet.specs.declared.message.Message.{Message}
pub use Rattle.dbc_sheet.specs.declared.node.Node.{Node}
pub use Rattle.dbc_sheet.specs.declared.sheet.Sheet.{Sheet}
pub use Rattle.dbc_sheet.specs.declared.signal.Signal.{Signal}
pub use Rattle.dbc_sheet.specs.declared.value_texts.ValueText.{ValueText}
pub use Rattle.dbc_words.specs.Named.{has_name, HasNamesOf}
pub use Rattle.decimal.specs.Number.{Number}
