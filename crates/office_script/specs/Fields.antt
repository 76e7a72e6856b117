-- The fields of a line.
use Rattle.std.specs.Prelude.{◌≡◌, ◌≢◌, ◌==◌, if◌then◌else◌, ◌++◌, ℕ, List, [], ◌∷◌, Option, Some, None, All}
use Rattle.std.specs.Option.{option_map, option_and_then}
use Rattle.std.specs.List.{AllZip, before_first, after_first, list_any}
use Rattle.office_fields.specs.Given.{NamedValue}
use Rattle.office_script.specs.Escapes.{StandsFor, unescaped}

-- a word is `name=value`: a name without `=` (61), a `=`, and the written value
pub record IsFieldWord (word : List ℕ) (field : NamedValue) : Type 0 where
  pub written : List ℕ
  pub name : All (λ b. b ≢ 61) field.name
  pub parts : word ≡ field.name ++ (61 ∷ written)
  pub value : StandsFor written field.value

-- the words are the fields, each its own
abbrev pub AreFieldWords : List (List ℕ) → List NamedValue → Type 0
AreFieldWords words fields = AllZip IsFieldWord words fields

-- the field that a word is, if it is one: what comes before its first `=`, and what the rest stands for
abbrev pub field_of : List ℕ → Option NamedValue
field_of word =
    if list_any (λ b. b == 61) word
    then option_map (λ value. record { name = before_first (λ b. b == 61) word; value = value })
    (unescaped (after_first (λ b. b == 61) word))
    else None

-- the fields that words are, if each is one
abbrev pub fields_of : List (List ℕ) → Option (List NamedValue)
fields_of [] = Some []
fields_of (word ∷ words) = option_and_then (λ field. option_map (λ fields. field ∷ fields) (fields_of words))
    (field_of word)
