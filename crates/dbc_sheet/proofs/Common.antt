-- What several proofs use of other crates, passed on from one place.
pub use Rattle.std.proofs.Common.{◌≡◌, true, false, ℕ, List, [], ◌∷◌, Some, None, refl, ◌<◌, ◌≤◌, ◌+◌, ◌∙◌, length}
pub use Rattle.std.proofs.Common.{take, get_or, All, Option, sym, ap, subst, Bool, map, ◌==◌, ◌||◌, ◌&&◌, not, rules}
pub use Rattle.std.proofs.Common.{arith, nat_le}
pub use Rattle.std.proofs.lemmas.Bool.{false≢true}
pub use Rattle.std.specs.List.{list_any, insert, remove}
pub use Rattle.std.specs.Prelude.{codes, pos, is_some, count_by}
pub use Rattle.std.specs.Str.{bytes_eq}
pub use Rattle.base.proofs.AscendingLists.{put_gap, remove_at, find_at, find_gap}
pub use Rattle.base.proofs.Refusals.{none_holds}
pub use Rattle.base.specs.Ascending.{IsGap}
pub use Rattle.base.specs.Keyed.{put}
pub use Rattle.base.specs.Refusing.{first_refusal}
pub use Rattle.bitlayout.specs.declared.layout.Order.TheVariants.{Intel}
pub use Rattle.bitlayout.specs.declared.place.Mux.{Mux}
pub use Rattle.bitlayout.specs.declared.place.Mux.TheVariants.{Always, Under, Multiplexor}
pub use Rattle.can_id.specs.declared.ident.Ident.TheVariants.{Std, Ext}
pub use Rattle.dbc_words.specs.Limits.{message_limit}
pub use Rattle.dbc_words.specs.Named.{AreNamedApart, has_name, holds_name}
pub use Rattle.dbc_words.specs.declared.fault.SheetCode.TheVariants.{DoubleNumber, DoubleName, TwoMultiplexors, TooMany}
pub use Rattle.dbc_words.specs.declared.value_type.ValueType.TheVariants.{Integer}
pub use Rattle.decimal.specs.Number.{Number}
