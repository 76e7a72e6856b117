-- What several proofs use of other crates, passed on from one place.
pub use Rattle.std.proofs.Common.{◌≡◌, ◌+◌, ◌∙◌, ℕ, suc, List, [], ◌∷◌, take, refl, ap, arith, ◌<◌, ◌++◌, length}
pub use Rattle.std.proofs.Common.{get_or, sym, None, Some, codes, true, false, ◌≤◌, zero, Bool, drop, filter, map}
pub use Rattle.std.proofs.Common.{append_assoc, cond}
pub use Rattle.std.proofs.lemmas.List.{length-append, take_more, drop_more, length-map}
pub use Rattle.std.specs.List.{flat_map}
pub use Rattle.std.specs.Option.{option_copied}
pub use Rattle.std.specs.Prelude.{pos, option_map, count_by, unwrap_or}
pub use Rattle.bitlayout.specs.declared.layout.Order.TheVariants.{Intel}
pub use Rattle.bitlayout.specs.declared.place.Mux.TheVariants.{Always}
pub use Rattle.can_id.specs.declared.ident.Ident.TheVariants.{Std, Ext}
pub use Rattle.dbc_sheet.specs.Pairs.{counts_of}
pub use Rattle.dbc_sheet.specs.Sheet.{empty_sheet}
pub use Rattle.dbc_sheet.specs.declared.message.Message.{Message}
pub use Rattle.dbc_sheet.specs.declared.node.Node.{Node}
pub use Rattle.dbc_sheet.specs.declared.sheet.Sheet.{Sheet}
pub use Rattle.dbc_sheet.specs.declared.signal.Signal.{Signal}
pub use Rattle.dbc_words.specs.declared.value_type.ValueType.TheVariants.{Integer}
pub use Rattle.decimal.specs.Number.{Number}
pub use Rattle.office_blocks.specs.Blocks.{block_row}
pub use Rattle.office_seen.specs.Owners.{last_name}
pub use Rattle.office_seen.specs.Since.{last_release}
pub use Rattle.office_seen.specs.View.{owned}
pub use Rattle.office_seen.specs.declared.view.View.{View}
pub use Rattle.office_types.specs.declared.block.BlockForm.{BlockForm}
pub use Rattle.office_types.specs.declared.block.BlockForm.TheVariants.{Pgn}
pub use Rattle.office_types.specs.declared.command.NetKind.TheVariants.{J1939}
pub use Rattle.office_types.specs.declared.look.LookForm.TheVariants.{Lines}
pub use Rattle.office_types.specs.declared.state.GrantedBlock.{GrantedBlock}
pub use Rattle.office_types.specs.declared.state.Phase.TheVariants.{Draft}
pub use Rattle.office_views.specs.Sending.{sends}
pub use Rattle.office_views.specs.Table.{signal_count}
pub use Rattle.rows.specs.Fact.{Fact}
pub use Rattle.rows.specs.Lines.{table_text}
