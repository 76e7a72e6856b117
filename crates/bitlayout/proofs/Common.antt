-- What several proofs use of other crates, passed on from one place.
pub use Rattle.std.proofs.Common.{◌≡◌, ℕ, ◌+◌, ◌<◌, Bool, true, false, List, [], ◌∷◌, ◌++◌, length, get_or, Some, None}
pub use Rattle.std.proofs.Common.{refl, sym, ap, subst, ◌∙◌, arith, inl, inr, ◌↔◌, take, Option, IsTrue, ◌≤◌, ◌⊎◌, not}
pub use Rattle.std.proofs.Common.{◌&&◌, ◌-◌, ◌*◌, ◌/◌, rules, below_more}
pub use Rattle.std.proofs.Math.ListN.{get_or-append}
pub use Rattle.std.proofs.Math.Seq.{get_or-append_seam}
pub use Rattle.std.proofs.lemmas.Bool.{cases_lt, both_ways, false_from_ne_true, false≢true, eqb-true, eq-eqb}
pub use Rattle.std.proofs.lemmas.Bool.{true≢false, leb-true, iff_false}
pub use Rattle.std.proofs.lemmas.Bool.Decides.{not_from_Decides, same_from_decides}
pub use Rattle.std.proofs.lemmas.List.{length-append, get_or-take, length-take-le, take_all}
pub use Rattle.std.proofs.lemmas.List.Quantifiers.{position-Some}
pub use Rattle.std.proofs.lemmas.Option.{slice_get-get_or, get_or_from_slice_get, slice_get_read}
pub use Rattle.std.specs.Bool.{Decides}
pub use Rattle.std.specs.Option.{is_some, option_and_then}
pub use Rattle.std.specs.Prelude.{slice_get, position, is_none, Any, IfSome, if◌then◌else◌, nat_lt}
pub use Prim.Native.Nat.{zero, suc}
