-- The parts of a bundle that a JSON body gives: an object of `commands`, a list of an object for each part.
use Rattle.std.specs.Prelude.{ℕ, ◌&&◌, ◌||◌, Bool, true, List, [], ◌∷◌, Option, Some, codes}
use Rattle.std.specs.Option.{option_map}
use Rattle.std.specs.Str.{bytes_eq}
use Rattle.serde_json.specs.Data.{Data, Items, no_items, item, Members, no_members, member}
use Rattle.serde_json.specs.Find.{as_array, as_object, as_str, get}
use Rattle.office_types.specs.declared.command.Action.{Action}
use Rattle.office_fields.specs.Requested.{are_parts, part_of}
use Rattle.office_fields.specs.Given.{NamedValue}
use Rattle.office_fields.specs.Kind.{action_of_word, part_fields}
use Rattle.office_fields.specs.Value.{◌>>=◌, where_true}
use Rattle.office_fields.specs.declared.field.Field.{Field}
use Rattle.office_fields.specs.declared.kind.ActionKind.{ActionKind}
use Rattle.desk_call.specs.Body.{given_in, is_name_of, json_in}

-- a part has its command's word, and its fields without the network
abbrev pub is_part_name : List Field → List ℕ → Bool
is_part_name fields name = bytes_eq name (codes "command") || is_name_of fields name

abbrev pub has_just_part : List Field → Members → Bool
has_just_part fields no_members = true
has_just_part fields (member name d ms) = is_part_name fields name && has_just_part fields ms

abbrev pub kind_in : Data → Option ActionKind
kind_in d = get (codes "command") d >>= as_str >>= action_of_word

-- what an object of just the command and these fields gives for them
abbrev pub part_values : List Field → Data → Option (List NamedValue)
part_values fields d = as_object d >>= λ ms. where_true (has_just_part fields ms) (given_in fields d)

unfoldable pub part_in : Data → Option Action
part_in d = do
  k ← kind_in d
  values ← part_values (part_fields k) d
  part_of k values

abbrev pub parts_of_items : Items → Option (List Action)
parts_of_items no_items = Some []
parts_of_items (item d ds) = part_in d >>= λ part. option_map (λ parts. part ∷ parts) (parts_of_items ds)

abbrev pub has_just_commands : Members → Bool
has_just_commands no_members = true
has_just_commands (member name d ms) = bytes_eq name (codes "commands") && has_just_commands ms

-- the list of an object of just `commands`
abbrev pub commands_in : Data → Option Items
commands_in d = as_object d >>= λ ms. where_true (has_just_commands ms) (get (codes "commands") d >>= as_array)

unfoldable pub bundle_in : List ℕ → Option (List Action)
bundle_in body = json_in body >>= commands_in >>= parts_of_items >>= are_parts
