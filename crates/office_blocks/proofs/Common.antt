-- What several proofs use of other crates, passed on from one place.
pub use Rattle.std.proofs.Common.{◌≡◌, false, ℕ, List, [], ◌∷◌, ◌++◌, Some, None, refl, zero, suc, ◌+◌, ◌-◌, ◌<◌, ◌≤◌}
pub use Rattle.std.proofs.Common.{inl, inr, Bool, true, ◌&&◌, not, cond, length, append-nil, sym, ap, ◌∙◌, arith, subst}
pub use Rattle.std.proofs.Common.{eq-eqb, drop, get_or, take, map}
pub use Rattle.std.proofs.lemmas.Bool.{cases_lt, ne_eqb}
pub use Rattle.std.proofs.lemmas.List.Sorted.{searched}
pub use Rattle.std.specs.List.{count_by, filter, range_with_len, flat_map}
pub use Rattle.std.specs.List.Sorted.{IsStrictlyIncreasing}
pub use Rattle.std.specs.Option.{option_copied}
pub use Rattle.std.specs.Prelude.{◌==◌, if◌then◌else◌, Ok, Err}
pub use Rattle.columns.specs.Run.{joined, runs_of}
pub use Rattle.columns.specs.declared.run.Run.{Run}
pub use Rattle.office_seen.specs.declared.view.View.{View}
pub use Rattle.office_types.proofs.Split.{weakly}
pub use Rattle.office_types.specs.Block.{Range}
pub use Rattle.office_types.specs.Free.{least_free, is_taken, has_form}
pub use Rattle.office_types.specs.declared.block.BlockForm.{BlockForm}
pub use Rattle.office_types.specs.declared.free.NumberForm.{NumberForm}
pub use Rattle.office_types.specs.declared.state.GrantedBlock.{GrantedBlock}
