-- What several proofs use of other crates, passed on from one place.
pub use Rattle.std.proofs.Common.{◌≡◌, ◌++◌, ℕ, List, [], ◌∷◌, take, map, Bool, true, false, if◌then◌else◌, sym, ap}
pub use Rattle.std.proofs.Common.{◌∙◌, append_assoc, ◌==◌}
pub use Rattle.std.specs.List.{flat_map}
pub use Rattle.std.specs.Prelude.{codes}
pub use Rattle.dbc_grammar.specs.Canon.{Line, line_text, mark, tight, space, word, table_line}
pub use Rattle.dbc_sheet.specs.declared.message.Message.{Message}
pub use Rattle.dbc_sheet.specs.declared.signal.Signal.{Signal}
pub use Rattle.decimal.specs.Printing.{text_of}
