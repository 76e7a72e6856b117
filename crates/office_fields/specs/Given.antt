-- Values that are given under names, and what they give for a field.
use Rattle.std.specs.Prelude.{ℕ, Bool, List, [], ◌∷◌, map, filter, Option, Some, None}
use Rattle.std.specs.Option.{option_map}
use Rattle.std.specs.List.{list_all, list_any}
use Rattle.std.specs.Str.{bytes_eq}
use Rattle.office_fields.specs.declared.field.Field.{Field}
use Rattle.office_fields.specs.declared.field.Occurrence.{Occurrence}
use Rattle.office_fields.specs.declared.field.Occurrence.TheVariants.{Required, Optional, Repeated}
use Rattle.office_fields.specs.declared.given.GivenValue.{GivenValue}
use Rattle.office_fields.specs.Field.{row_of}
use Rattle.office_fields.specs.Value.{Value, value_from, ◌>>=◌}

-- a name, and the bytes that are given under it
pub record NamedValue : Type 0 where
  pub name : List ℕ
  pub value : List ℕ

-- what contracts see of given values
abbrev pub named_value : GivenValue → NamedValue
named_value v = record { name = v.name.now; value = v.value.items }

abbrev pub named_values : List GivenValue → List NamedValue
named_values values = map named_value values

-- all that is given under a name, in order
abbrev pub values_of : List NamedValue → List ℕ → List (List ℕ)
values_of values name = map (λ v. v.value) (filter (λ v. bytes_eq v.name name) values)

abbrev pub is_name_of : List Field → List ℕ → Bool
is_name_of fields name = list_any (λ f. bytes_eq (row_of f).name name) fields

-- each name is that of one of the fields
abbrev pub are_known : List Field → List NamedValue → Bool
are_known fields values = list_all (λ v. is_name_of fields v.name) values

-- ---- readings of what is given, by a reader of one value

-- exactly one value
abbrev pub read_once : {A : Type 0} → (List ℕ → Option A) → List (List ℕ) → Option A
read_once read [] = None
read_once read (value ∷ []) = read value
read_once read (value ∷ next ∷ values) = None

-- one value or none
abbrev pub read_at_most_once : {A : Type 0} → (List ℕ → Option A) → List (List ℕ) → Option (Option A)
read_at_most_once read [] = Some None
read_at_most_once read (value ∷ []) = option_map Some (read value)
read_at_most_once read (value ∷ next ∷ values) = None

-- all values
abbrev pub read_each : {A : Type 0} → (List ℕ → Option A) → List (List ℕ) → Option (List A)
read_each read [] = Some []
read_each read (value ∷ values) = read value >>= λ x. option_map (λ xs. x ∷ xs) (read_each read values)

-- what is read of a field that may be given so often
abbrev pub Readings : Occurrence → Type 0 → Type 0
Readings Required A = A
Readings Optional A = Option A
Readings Repeated A = List A

abbrev pub read_as : {A : Type 0} → (o : Occurrence) → (List ℕ → Option A) → List (List ℕ) → Option (Readings o A)
read_as Required read values = read_once read values
read_as Optional read values = read_at_most_once read values
read_as Repeated read values = read_each read values

-- what is given for a field, if it is given as often as it may be and each time by a value of its kind
abbrev pub given : (f : Field) → List NamedValue → Option (Readings (row_of f).occurrence (Value (row_of f).kind))
given f values = read_as (row_of f).occurrence (value_from (row_of f).kind) (values_of values (row_of f).name)
