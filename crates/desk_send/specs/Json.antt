-- The values of fields as JSON, and the object of a command's fields: the other way round than `desk_call` reads them.
-- `None` where a text isn't UTF-8, which JSON can't hold.
use Rattle.std.specs.Prelude.{ℕ, List, [], ◌∷◌, Option, Some, None, codes}
use Rattle.std.specs.Option.{option_map}
use Rattle.std.specs.Str.{is_utf8}
use Rattle.serde_json.specs.Data.{Data, array, boolean, number, object, put, string, unsigned, Items, item, no_items}
use Rattle.serde_json.specs.Data.{Members, no_members}
use Rattle.decimal.specs.Printing as printed
use Rattle.dbc_sheet.specs.declared.value_texts.ValueText.{ValueText}
use Rattle.office_types.specs.declared.command.Action.{Action}
use Rattle.office_fields.specs.Field.{row_of}
use Rattle.office_fields.specs.Given.{Readings}
use Rattle.office_fields.specs.Kind.{action_word, kind_of}
use Rattle.office_fields.specs.Value.{Value, ◌>>=◌, where_true}
use Rattle.office_fields.specs.declared.field.Field.TheVariants as field
use Rattle.office_fields.specs.declared.field.FieldKind.{FieldKind}
use Rattle.office_fields.specs.declared.field.FieldKind.TheVariants as kind
use Rattle.office_fields.specs.declared.field.Occurrence.{Occurrence}
use Rattle.office_fields.specs.declared.field.Occurrence.TheVariants.{Required, Optional, Repeated}
use Rattle.desk_call.specs.Body.{json_name}
use Rattle.desk_send.specs.Fields.{Entry, entries_of, filled}
use Rattle.desk_send.specs.Texts.{text_of}

-- ---- values

-- a text, which is UTF-8
abbrev pub text_data : List ℕ → Option Data
text_data bytes = where_true (is_utf8 bytes) (Some (string bytes))

-- a list of two texts: the value and its text
abbrev pub pair_data : ValueText → Option Data
pair_data v = do
  value ← text_data (printed.text_of v.value)
  text ← text_data v.text
  Some (array (item value (item text no_items)))

abbrev pub whole_data : ℕ → Option Data
whole_data n = Some (number (unsigned n))

-- a whole number, true or false, a list of two texts, or else a text
abbrev pub data_of : (k : FieldKind) → Value k → Option Data
data_of kind.Number n = whole_data n
data_of kind.Reviews n = whole_data n
data_of kind.Length n = whole_data n
data_of kind.Priority n = whole_data n
data_of kind.Address n = whole_data n
data_of kind.Size n = whole_data n
data_of kind.Start n = whole_data n
data_of kind.Truth b = Some (boolean b)
data_of kind.ValueText v = pair_data v
data_of kind.NetName v = text_data (text_of kind.NetName v)
data_of kind.Team v = text_data (text_of kind.Team v)
data_of kind.Name v = text_data (text_of kind.Name v)
data_of kind.Text v = text_data (text_of kind.Text v)
data_of kind.Path v = text_data (text_of kind.Path v)
data_of kind.NetKind v = text_data (text_of kind.NetKind v)
data_of kind.IdentForm v = text_data (text_of kind.IdentForm v)
data_of kind.BlockForm v = text_data (text_of kind.BlockForm v)
data_of kind.Addressing v = text_data (text_of kind.Addressing v)
data_of kind.ByteOrder v = text_data (text_of kind.ByteOrder v)
data_of kind.Mark v = text_data (text_of kind.Mark v)
data_of kind.Decimal v = text_data (text_of kind.Decimal v)

abbrev pub data_list : {A : Type 0} → (A → Option Data) → List A → Option (List Data)
data_list data_by [] = Some []
data_list data_by (v ∷ vs) = data_by v >>= λ d. option_map (λ ds. d ∷ ds) (data_list data_by vs)

abbrev pub items_by : {A : Type 0} → (A → Option Data) → List A → Option Items
items_by data_by [] = Some no_items
items_by data_by (v ∷ vs) = data_by v >>= λ d. option_map (λ ds. item d ds) (items_by data_by vs)

-- ---- members

-- the members, with one of this name
abbrev pub with_value : List ℕ → Option Data → Members → Option Members
with_value name found ms = option_map (λ d. put name d ms) found

abbrev pub with_list : List ℕ → Option Items → Members → Option Members
with_list name found ms = option_map (λ ds. put name (array ds) ms) found

-- with what is given for a field that may be given so often
abbrev pub with_as : {A : Type 0} → (o : Occurrence) → List ℕ → (A → Option Data) → Readings o A → Members
    → Option Members
with_as Required name data_by v ms = with_value name (data_by v) ms
with_as Optional name data_by None ms = Some ms
with_as Optional name data_by (Some v) ms = with_value name (data_by v) ms
with_as Repeated name data_by vs ms = with_list name (items_by data_by vs) ms

abbrev pub with_entry : Entry → Members → Option Members
with_entry e ms = with_as (row_of e.of).occurrence (json_name e.of) (data_of (row_of e.of).kind) e.value ms

abbrev pub with_entries : List Entry → Members → Option Members
with_entries [] ms = Some ms
with_entries (e ∷ es) ms = with_entry e ms >>= with_entries es

-- ---- objects

-- the fields of an action, and its network
abbrev pub action_data : List ℕ → Action → Option Data
action_data net a = option_map object (with_entries (filled field.Net net ∷ entries_of a) no_members)

-- a part of a bundle: the command's word, and its fields
abbrev pub part_data : Action → Option Data
part_data a =
    option_map object
    (with_entries (entries_of a) (put (codes "command") (string (action_word (kind_of a))) no_members))

abbrev pub bundle_data : List Action → Option Data
bundle_data parts = option_map object (with_list (codes "commands") (items_by part_data parts) no_members)
