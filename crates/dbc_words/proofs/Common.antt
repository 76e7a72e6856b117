-- What several proofs use of other crates, passed on from one place.
pub use Rattle.std.proofs.Common.{◌≡◌, ◌<◌, ◌+◌, ◌∙◌, ◌||◌, Bool, true, false, ℕ, zero, suc, List, [], ◌∷◌, ◌++◌}
pub use Rattle.std.proofs.Common.{length, take, get_or, refl, sym, ap, subst, map, None, Some, ◌&&◌, cond, not, set}
pub use Rattle.std.proofs.Common.{Option, arith, ◌≤◌, nat_le, drop}
pub use Rattle.std.proofs.lemmas.Bool.{false≢true, or_parts}
pub use Rattle.std.proofs.lemmas.List.Quantifiers.{position-Some}
pub use Rattle.std.proofs.lemmas.Slice.Eq.{bytes_eq-Decides}
pub use Rattle.std.specs.List.{AllByRecursion, list_any, find, position, remove}
pub use Rattle.std.specs.Prelude.{codes}
pub use Rattle.std.specs.Str.{bytes_eq}
