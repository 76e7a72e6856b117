-- What several proofs use of other crates, passed on from one place.
pub use Rattle.std.proofs.Common.{◌≡◌, ◌+◌, ◌-◌, ◌<◌, ◌≤◌, ℕ, List, [], ◌∷◌, ◌++◌, inl, inr, length, map, take, drop}
pub use Rattle.std.proofs.Common.{get_or, sym, ap, ◌∙◌, subst, arith, append_assoc, append-nil, length-append, ◌&&◌}
pub use Rattle.std.proofs.Common.{Bool, true, false, not, Option, Some, None, refl, ◌||◌, encode_utf8_all}
pub use Rattle.std.proofs.lemmas.Bool.Decides.{nat_tests}
pub use Rattle.std.proofs.lemmas.Grind.{flat_map-append}
pub use Rattle.std.proofs.lemmas.List.{at_drop_all, at_drop_more, length-map, map-append, take-append-le, take_all}
pub use Rattle.std.proofs.lemmas.List.{take_more}
pub use Rattle.std.proofs.lemmas.List.Folds.{list_any-append}
pub use Rattle.std.proofs.lemmas.Slice.Eq.{bytes_eq-Decides}
pub use Rattle.std.specs.Char.{is_control}
pub use Rattle.std.specs.List.{enumerate_from, flat_map, list_any}
pub use Rattle.std.specs.Prelude.{codes, if◌then◌else◌, slice_get}
pub use Rattle.std.specs.Str.{bytes_eq, NoCharPasses}
pub use Rattle.bitlayout.specs.Clash.{first_clash_of}
pub use Rattle.bitlayout.specs.declared.place.Place.{Place}
pub use Rattle.dbc_read.proofs.ReadFaults.{read_fault}
pub use Rattle.dbc_read.specs.Keys.{key_of, text_of}
pub use Rattle.dbc_read.specs.declared.passed.Passed.{Passed}
pub use Rattle.dbc_sheet.specs.Messages.{number_of}
pub use Rattle.dbc_sheet.specs.Sheet.{node_name}
pub use Rattle.dbc_sheet.specs.Signals.{places_of}
pub use Rattle.dbc_sheet.specs.declared.message.Message.{Message}
pub use Rattle.dbc_sheet.specs.declared.signal.Signal.{Signal}
