-- What several proofs use of other crates, passed on from one place.
pub use Rattle.std.proofs.Common.{◌≡◌, ◌+◌, ◌++◌, ◌∙◌, ℕ, suc, List, [], ◌∷◌, ap, sym, arith, append-nil, Bool, true}
pub use Rattle.std.proofs.Common.{false, cond, take, drop, Option, Some, None, Bor, map, get_or, refl, subst}
pub use Rattle.std.proofs.Common.{append_assoc, ◌<◌, length, ◌≤◌, filter, rules, OnOk}
pub use Rattle.std.proofs.lemmas.Bool.{false≢true, cond-false, cond-true}
pub use Rattle.std.proofs.lemmas.Bool.Decides.{Decides-eqb}
pub use Rattle.std.proofs.lemmas.List.Sorted.{answers_always}
pub use Rattle.std.specs.Cmp.Lexicographic.{nat_list_cmp_total}
pub use Rattle.std.specs.List.{flat_map, range_with_len, prefix_len, AllByRecursion}
pub use Rattle.std.specs.List.Sorted.{IsStrictlySortedBy}
pub use Rattle.std.specs.Option.{option_copied}
pub use Rattle.std.specs.Ordering.{is_lt, nat_cmp, on}
pub use Rattle.std.specs.Prelude.{codes}
pub use Rattle.std.specs.Str.{bytes_eq}
pub use Rattle.std.specs.declared.cmp.Ordering.TheVariants.{Less}
pub use Rattle.base.specs.Keyed.{text_cmp}
pub use Rattle.can_id.specs.Ident.{dbc_number}
pub use Rattle.dbc_compare.specs.declared.difference.Difference.{Difference}
pub use Rattle.dbc_compare.specs.declared.place.Region.{Region}
pub use Rattle.dbc_sheet.specs.Messages.{number_of}
pub use Rattle.dbc_sheet.specs.declared.message.Message.{Message}
pub use Rattle.dbc_sheet.specs.declared.sheet.Sheet.{Sheet}
pub use Rattle.markup.proofs.Changes.{added}
pub use Rattle.markup.specs.Html.{element_html}
pub use Rattle.markup.specs.Writing.{Becomes, Writing, adding}
