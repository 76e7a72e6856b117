-- What several proofs use of other crates, passed on from one place.
pub use Rattle.std.proofs.Common.{◌≡◌, ℕ, false, List, [], ◌∷◌, map, Some, None, refl, ◌≤◌, ◌+◌, arith, subst, Option}
pub use Rattle.std.proofs.Common.{◌++◌}
pub use Rattle.std.specs.Prelude.{codes}
pub use Rattle.bitlayout.specs.declared.layout.Order.TheVariants.{Intel}
pub use Rattle.bitlayout.specs.declared.place.Mux.TheVariants.{Always}
pub use Rattle.can_id.specs.declared.form.IdentForm.TheVariants.{Standard}
pub use Rattle.can_id.specs.declared.ident.Ident.{Ident}
pub use Rattle.dbc_sheet.specs.Sheet.{empty_sheet}
pub use Rattle.dbc_sheet.specs.declared.sheet.Sheet.{Sheet}
pub use Rattle.dbc_sheet.specs.declared.signal.Signal.{Signal}
pub use Rattle.dbc_sheet.specs.declared.value_texts.ValueText.{ValueText}
pub use Rattle.dbc_words.specs.Limits.{roster_limit}
pub use Rattle.office_types.specs.declared.command.NetKind.TheVariants.{Can, J1939}
pub use Rattle.office_types.specs.declared.command.Pdu.TheVariants.{Broadcast}
pub use Rattle.office_types.specs.declared.reply.Reply.{Reply}
pub use Rattle.office_types.specs.declared.reply.Reply.TheVariants.{Done, Number, Counts, Release, Refused}
pub use Rattle.office_types.specs.declared.state.Net.{Net}
pub use Rattle.office_types.specs.declared.state.Office.{Office}
