-- What a JSON body gives: the bytes of a value by its kind, what is given for each field, and the command.
use Rattle.std.specs.Prelude.{ℕ, ◌==◌, Bool, true, false, ◌&&◌, List, [], ◌∷◌, ◌++◌, Option, Some, None, codes, decimal}
use Rattle.std.specs.Prelude.{if◌then◌else◌}
use Rattle.std.specs.List.{list_any}
use Rattle.std.specs.Option.{option_map}
use Rattle.std.specs.Str.{bytes_eq, is_utf8}
use Rattle.serde_json.specs.Data.{Data, Items, no_items, item, Members, no_members, member}
use Rattle.serde_json.specs.Find.{as_array, as_bool, as_number, as_object, as_str, as_u64, get}
use Rattle.serde_json.specs.Read.{read}
use Rattle.office_types.specs.declared.command.Command.{Command}
use Rattle.office_fields.specs.Requested.{command_of}
use Rattle.office_fields.specs.Field.{row_of}
use Rattle.office_fields.specs.Given.{NamedValue}
use Rattle.office_fields.specs.Kind.{fields_of}
use Rattle.office_fields.specs.Value.{◌>>=◌, where_true}
use Rattle.office_fields.specs.declared.field.Field.{Field}
use Rattle.office_fields.specs.declared.field.FieldKind.{FieldKind}
use Rattle.office_fields.specs.declared.field.FieldKind.TheVariants as kind
use Rattle.office_fields.specs.declared.field.Occurrence.{Occurrence}
use Rattle.office_fields.specs.declared.field.Occurrence.TheVariants.{Required, Optional, Repeated}
use Rattle.office_fields.specs.declared.kind.ActionKind.{ActionKind}
use Rattle.office_fields.specs.declared.kind.CommandKind.TheVariants.{Act}

-- ---- values

-- a whole number, in digits alone
abbrev pub whole_bytes : Data → Option (List ℕ)
whole_bytes d = option_map decimal (as_number d >>= as_u64)

abbrev pub truth_word : Bool → List ℕ
truth_word true = codes "true"
truth_word false = codes "false"

-- two texts, of which the first has no `:`
abbrev pub joined : List ℕ → List ℕ → Option (List ℕ)
joined value text = if list_any (λ b. b == 58) value then None else Some (value ++ 58 ∷ text)

abbrev pub pair_bytes : Items → Option (List ℕ)
pair_bytes no_items = None
pair_bytes (item a no_items) = None
pair_bytes (item a (item b no_items)) = as_str a >>= λ value. as_str b >>= λ text. joined value text
pair_bytes (item a (item b (item c ds))) = None

-- the bytes that a JSON value gives for a kind: a number, true or false, a list of two texts, or else a text
abbrev pub bytes_of : FieldKind → Data → Option (List ℕ)
bytes_of kind.Number d = whole_bytes d
bytes_of kind.Reviews d = whole_bytes d
bytes_of kind.Length d = whole_bytes d
bytes_of kind.Priority d = whole_bytes d
bytes_of kind.Address d = whole_bytes d
bytes_of kind.Size d = whole_bytes d
bytes_of kind.Start d = whole_bytes d
bytes_of kind.Truth d = option_map truth_word (as_bool d)
bytes_of kind.ValueText d = as_array d >>= pair_bytes
bytes_of k d = as_str d

-- ---- fields

-- a field that may be given any number of times is one list, whose name is in the plural
abbrev pub name_by : Occurrence → List ℕ → List ℕ
name_by Repeated name = name ++ codes "s"
name_by Required name = name
name_by Optional name = name

abbrev pub json_name : Field → List ℕ
json_name f = name_by (row_of f).occurrence (row_of f).name

abbrev pub named : Field → List ℕ → NamedValue
named f bytes = record { name = (row_of f).name; value = bytes }

abbrev pub one_given : Field → Data → Option (List NamedValue)
one_given f d = option_map (λ bytes. named f bytes ∷ []) (bytes_of (row_of f).kind d)

abbrev pub each_given : Field → Items → Option (List NamedValue)
each_given f no_items = Some []
each_given f (item d ds) =
    bytes_of (row_of f).kind d >>= λ bytes. option_map (λ values. named f bytes ∷ values) (each_given f ds)

-- what a member gives for a field that may be given so often
abbrev pub given_as : Occurrence → Field → Option Data → Option (List NamedValue)
given_as Required f None = None
given_as Required f (Some d) = one_given f d
given_as Optional f None = Some []
given_as Optional f (Some d) = one_given f d
given_as Repeated f None = None
given_as Repeated f (Some d) = as_array d >>= each_given f

abbrev pub given_by : Field → Option Data → Option (List NamedValue)
given_by f found = given_as (row_of f).occurrence f found

-- what is given for the fields
abbrev pub given_in : List Field → Data → Option (List NamedValue)
given_in [] d = Some []
given_in (f ∷ fields) d =
    given_by f (get (json_name f) d) >>= λ values. option_map (λ more. values ++ more) (given_in fields d)

-- ---- the body

abbrev pub is_name_of : List Field → List ℕ → Bool
is_name_of fields name = list_any (λ f. bytes_eq (json_name f) name) fields

-- each member has the name of one of the fields
abbrev pub has_just : List Field → Members → Bool
has_just fields no_members = true
has_just fields (member name d ms) = is_name_of fields name && has_just fields ms

-- what an object of just these fields gives
abbrev pub values_in : List Field → Data → Option (List NamedValue)
values_in fields d = as_object d >>= λ ms. where_true (has_just fields ms) (given_in fields d)

-- the JSON value that the bytes are the text of (RFC 8259), as `serde_json` reads it
unfoldable pub json_in : List ℕ → Option Data
json_in bytes = where_true (is_utf8 bytes) (read bytes)

-- the command of the kind that the body gives
unfoldable pub command_in : ActionKind → List ℕ → Option Command
command_in k body = json_in body >>= values_in (fields_of (Act k)) >>= command_of k
