-- What several proofs use of other crates, passed on from one place.
pub use Rattle.std.proofs.Common.{◌≡◌, ◌+◌, List, length, refl, ◌<◌, ℕ, true, false, [], ◌∷◌, ◌++◌, take, drop, get_or}
pub use Rattle.std.proofs.Common.{Option, Some, None, sym, ap, ◌∙◌, map, subst, ◌||◌, Bool, cond, ◌≤◌, arith, ◌-◌}
pub use Rattle.std.proofs.Common.{rules}
pub use Rattle.std.proofs.lemmas.Bool.{false≢true}
pub use Rattle.std.proofs.lemmas.Bool.Decides.{nat_tests}
pub use Rattle.std.specs.BTreeSet.{contains}
pub use Rattle.std.specs.List.{flat_map, list_any}
pub use Rattle.std.specs.Ordering.{is_eq}
pub use Rattle.std.specs.Str.{bytes_eq}
pub use Rattle.std.specs.Vec.Iter.{into_iter_items}
pub use Rattle.base.specs.Keyed.{text_cmp}
pub use Rattle.base.specs.Refusing.{Test, first_refusal}
pub use Rattle.dbc_sheet.specs.Sheet.{node_name, table_name}
pub use Rattle.dbc_sheet.specs.declared.message.Message.{Message}
pub use Rattle.dbc_sheet.specs.declared.sheet.Sheet.{Sheet}
pub use Rattle.dbc_words.specs.Named.{has_name}
pub use Rattle.office_facts.proofs.Deciding.{Decides-refused}
pub use Rattle.office_facts.proofs.Refusing.{first-later, first-refused}
pub use Rattle.office_rules.specs.Change.{Decides}
pub use Rattle.office_rules.specs.Facts.{live_name}
pub use Rattle.office_rules.specs.Importing.{live_already, new_messages, import_sheet, owned_by, spns_of, Reading}
pub use Rattle.office_rules.specs.Importing.{import_tests, is_too_large, message_import_tests, clear_tests}
pub use Rattle.office_types.specs.declared.book.SpnBook.{SpnBook}
pub use Rattle.office_types.specs.declared.change.Change.TheVariants.{SetMessage, EnterSpn}
pub use Rattle.office_types.specs.declared.change.Decision.{Decision}
pub use Rattle.office_types.specs.declared.refusal.Refusal.{Refusal}
pub use Rattle.office_types.specs.declared.state.Net.{Net}
