-- What several proofs use of other crates, passed on from one place.
pub use Rattle.std.proofs.Common.{◌≡◌, ◌+◌, ◌<◌, ◌++◌, ◌∙◌, ℕ, List, [], ◌∷◌, length, take, get_or, refl, sym, ap}
pub use Rattle.std.proofs.Common.{subst, append-nil, append_assoc, ◌-◌, ◌*◌, ◌≤◌, ◌==◌, ◌&&◌, zero, suc, Bool, true}
pub use Rattle.std.proofs.Common.{false, All, cond, arith, ◌⊎◌, inl, inr, not, Option, Some, find, filter, map, leb}
pub use Rattle.std.proofs.Common.{ltb, ◌/◌, nat_lt, ◌↔◌, IsTrue, None, eqb, rules, ◌^◌, codes, Bor}
pub use Rattle.std.proofs.lemmas.Bool.{cases_lt}
pub use Rattle.std.proofs.lemmas.Bool.Decides.{nat_tests}
pub use Rattle.std.proofs.lemmas.List.{take_more, length-take-le, take_all}
pub use Rattle.std.proofs.lemmas.List.Elements.{All-head, All-nil, All-tail}
pub use Rattle.std.proofs.lemmas.List.FromFn.{length-enumerate_from, get_or-range_with_len, length-range_with_len}
pub use Rattle.std.specs.Bool.{MatchBool}
pub use Rattle.std.specs.List.{flat_map, list_all, range_with_len, enumerate_from, list_any}
pub use Rattle.std.specs.List.Sorted.{IsNonDecreasingBy}
pub use Rattle.std.specs.Prelude.{count_by, vec_len}
pub use Rattle.bitlayout.proofs.Walks.{is_bit_decides}
pub use Rattle.bitlayout.specs.Bits.{is_bit}
pub use Rattle.bitlayout.specs.Mask.{mask_end, Has}
pub use Rattle.columns.specs.declared.run.Run.{Run}
pub use Rattle.dbc_sheet.specs.declared.message.Message.{Message}
pub use Rattle.dbc_sheet.specs.declared.signal.Signal.{Signal}
pub use Rattle.markup.proofs.Changes.{added, next, item_added}
pub use Rattle.markup.specs.Html.{end_tag, start_tag, escaped}
pub use Rattle.markup.specs.Writing.{Becomes, Writing, adding, beginning, ending, whole}
pub use Rattle.page_parts.specs.Frames.{with_part}
pub use Rattle.page_parts.specs.Subjects.{messages_of}
pub use Rattle.page_parts.specs.declared.marks.Marks.{Marks}
