-- A test of the keys of a map is the test of the members that it stands for.
use Rattle.desk_call.proofs.Common.{◌≡◌, List, [], ◌∷◌, ◌&&◌, refl, ap, list_all, Value, bytes_eq}
use Rattle.std.proofs.Common.{String, Global, string_bytes}
use Rattle.std.specs.Map.{keys_of}
use Rattle.serde_json.specs.View.{members_view}
use Rattle.office_fields.specs.declared.field.Field.{Field}
use Rattle.std.specs.Prelude.{codes}
use Rattle.desk_call.specs.Body.{has_just, is_name_of}
use Rattle.desk_call.specs.Bundle.{has_just_commands, has_just_part, is_part_name}

pub all_just : (fields : List Field) (members : List (String Global × Value)) →
    has_just fields (members_view members) ≡ list_all (λ k. is_name_of fields (string_bytes k)) (keys_of members)
all_just fields [] = refl
all_just fields (m ∷ members) = ap (λ b. is_name_of fields (string_bytes m.0) && b) (all_just fields members)

pub all_just_part : (fields : List Field) (members : List (String Global × Value)) →
    has_just_part fields (members_view members) ≡ list_all (λ k. is_part_name fields (string_bytes k)) (keys_of members)
all_just_part fields [] = refl
all_just_part fields (m ∷ members) =
    ap (λ b. is_part_name fields (string_bytes m.0) && b) (all_just_part fields members)

pub all_commands : (members : List (String Global × Value)) →
    has_just_commands (members_view members) ≡ list_all (λ k. bytes_eq (string_bytes k) (codes "commands"))
    (keys_of members)
all_commands [] = refl
all_commands (m ∷ members) = ap (λ b. bytes_eq (string_bytes m.0) (codes "commands") && b) (all_commands members)
