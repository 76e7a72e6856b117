-- What several proofs use of other crates, passed on from one place.
pub use Rattle.std.proofs.Common.{◌≡◌, ℕ, List, [], ◌∷◌, map, Option, Some, None, true, false, codes, refl, ◌+◌, ◌-◌}
pub use Rattle.std.proofs.Common.{◌≤◌, length, ap, arith, length-append, ◌<◌, ◌^◌, ◌&&◌, ◌++◌, ◌∙◌, Bool, nat_le, inl}
pub use Rattle.std.proofs.Common.{inr, sym, ◌⊎◌, vec_len}
pub use Rattle.std.proofs.lemmas.Bool.Decides.{nat_tests}
pub use Rattle.std.specs.Fmt.{decimal}
pub use Rattle.std.specs.Io.KnownBytes.{IsAtEnd}
pub use Rattle.std.specs.List.{list_all}
pub use Rattle.std.specs.Option.{option_map}
pub use Rattle.std.specs.Str.{bytes_eq}
pub use Rattle.desk_head.proofs.BodySizes.{size_is_small}
pub use Rattle.desk_head.specs.Asked.{word_of}
pub use Rattle.desk_head.specs.Demand.{demand_of, body_size}
pub use Rattle.desk_head.specs.Fields.{Headers}
pub use Rattle.desk_head.specs.Head.{HasHead}
pub use Rattle.desk_head.specs.Limits.{head_limit, request_limit}
pub use Rattle.desk_head.specs.declared.demand.Demand.{Demand}
pub use Rattle.desk_types.proofs.Gives.{reads_to_fault}
pub use Rattle.desk_types.specs.Moved.{Moves}
pub use Rattle.httparse.specs.Grammar.{RequestHead}
pub use Rattle.httparse.specs.Spans.{name_and_value}
pub use Rattle.office_fields.specs.Given.{named_values}
pub use Rattle.office_types.specs.declared.look.LookForm.TheVariants.{Lines}
pub use Rattle.serde_json.specs.Read.{read}
pub use Rattle.serde_json.specs.View.{items_view, view}
pub use Rattle.serde_json.specs.declared.value.Value.{Value}
