-- What several proofs use of other crates, passed on from one place.
pub use Rattle.std.proofs.Common.{◌≡◌, ◌≤◌, ◌∙◌, ℕ, true, false, List, [], ◌∷◌, Some, None, ◌++◌, map, refl, ap, length}
pub use Rattle.std.proofs.Common.{take, sym, codes, Bor}
pub use Rattle.std.proofs.lemmas.List.{take_all}
pub use Rattle.std.proofs.lemmas.List.Folds.{flat_map-map}
pub use Rattle.std.specs.List.{flat_map}
pub use Rattle.columns.specs.Word.{word}
pub use Rattle.columns.specs.declared.run.Run.{Run}
pub use Rattle.decimal.specs.Number.{Number}
pub use Rattle.serde_json.specs.Data.{array, put}
pub use Rattle.serde_json.specs.View.{items_of, view}
pub use Rattle.serde_json.specs.Written.{has_float}
