-- What several proofs use of other crates, passed on from one place.
pub use Rattle.std.proofs.Common.{◌≡◌, ◌&&◌, not, ℕ, List, length, map, sum, ◌++◌, ◌∙◌, Bool, [], Option, refl, sym, ap}
pub use Rattle.std.proofs.Common.{append-nil, append_assoc, ◌+◌, ◌-◌, ◌≤◌, ◌^◌, true, false, ◌∷◌, arith, Some, None}
pub use Rattle.std.proofs.Common.{subst, zero, suc, ◌<◌, cond, drop, take, get_or, leb, ltb, filter, codes, decimal}
pub use Rattle.std.proofs.Common.{rules, ◌*◌}
pub use Rattle.std.proofs.lemmas.Bool.{and_parts, false≢true}
pub use Rattle.std.proofs.lemmas.List.{map-append, take_more, length-drop, get_or_default}
pub use Rattle.std.proofs.lemmas.List.Concat.{flat_map-append}
pub use Rattle.std.proofs.lemmas.List.Elements.{filter-append}
pub use Rattle.std.proofs.lemmas.List.Sorted.{IsPartitionPoint-from_clause, IsPartitionedBy-ltb}
pub use Rattle.std.proofs.lemmas.List.Sums.{length-filter}
pub use Rattle.std.proofs.lemmas.Result.{on_ok_weaker}
pub use Rattle.std.specs.List.{flat_map, count_by, find, range_with_len}
pub use Rattle.std.specs.Option.{option_copied}
pub use Rattle.std.specs.Prelude.{is_some, ◌==◌}
pub use Rattle.columns.specs.Run.{runs_of}
pub use Rattle.dbc_sheet.specs.declared.message.Message.{Message}
pub use Rattle.markup.proofs.Changes.{added}
pub use Rattle.markup.specs.Html.{piece_html, words, escaped, element_html}
pub use Rattle.markup.specs.Writing.{Becomes, Writing, adding, whole}
pub use Rattle.office_blocks.specs.Blocks.{free_numbers, numbers_in}
pub use Rattle.office_blocks.specs.Numbers.{HaveSame}
pub use Rattle.office_seen.specs.Granted.{has_number_in}
pub use Rattle.office_seen.specs.Owners.{team_at}
pub use Rattle.office_types.specs.Block.{same_form}
pub use Rattle.office_types.specs.Free.{has_form, is_taken}
pub use Rattle.office_types.specs.declared.block.BlockForm.{BlockForm}
pub use Rattle.office_types.specs.declared.free.NumberForm.{NumberForm}
pub use Rattle.office_types.specs.declared.state.GrantedBlock.{GrantedBlock}
pub use Rattle.page_parts.specs.Frames.{with_fold, with_part}
pub use Rattle.page_parts.specs.Subjects.{names_of}
