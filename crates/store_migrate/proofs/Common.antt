-- What several proofs use of other crates, passed on from one place.
pub use Rattle.std.proofs.Common.{◌≡◌, ℕ, List, [], ◌∷◌, filter, map, refl, sym, ap, subst, arith, pos, length, take}
pub use Rattle.std.proofs.Common.{◌∙◌, inl, false, ◌++◌, ◌+◌, ◌<◌, inr, rules}
pub use Rattle.std.proofs.lemmas.List.{take_more}
pub use Rattle.std.proofs.lemmas.List.Sorted.{IsPermutation-refl}
pub use Rattle.std.proofs.lemmas.Result.{on_ok_weaker}
pub use Rattle.std.specs.List.{AllByRecursion}
pub use Rattle.std.specs.Ordering.{is_lt}
pub use Rattle.std.specs.Prelude.{if◌then◌else◌}
pub use Rattle.std.specs.declared.cmp.Ordering.TheVariants.{Less}
pub use Rattle.office_history.specs.History.{Answered}
pub use Rattle.office_rules.specs.Profile.{One, Two}
pub use Rattle.office_types.specs.State.{by_number}
pub use Rattle.office_types.specs.declared.state.LiveMessage.{LiveMessage}
pub use Rattle.office_types.specs.declared.state.Net.{Net}
pub use Rattle.sqlite.proofs.InsideLemmas.{keeps_then}
pub use Rattle.sqlite.specs.Effect.{Database}
pub use Rattle.sqlite.specs.Held.{state}
pub use Rattle.sqlite.specs.Order.{Row, column}
pub use Rattle.sqlite.specs.Schema.{Schema}
pub use Rattle.sqlite.specs.State.{HasCleanDisk}
pub use Rattle.sqlite.specs.Tree.{put_row}
pub use Rattle.sqlite.specs.declared.types.Value.TheVariants.{Int}
pub use Rattle.store_rows.proofs.Frames.{going}
pub use Rattle.store_rows.proofs.Listing.{none_listed}
pub use Rattle.store_rows.specs.Listed.{AreListed}
pub use Rattle.store_rows.specs.Live.{AreLiveRows}
pub use Rattle.store_rows.specs.NetIn.{HasBodies, HasRows, live_in}
pub use Rattle.store_rows.specs.Rows.{IsRowOf}
pub use Rattle.store_statements.specs.Rows.{mark_row}
pub use Rattle.store_tables.proofs.Changing.{named_rows}
pub use Rattle.store_tables.specs.Tables.{Tables, IsOffice, tables_of}
