-- Letters and colours of names. `names` are those that have some, in ascending order, each once.
use Rattle.std.specs.Prelude.{ℕ, zero, suc, ◌+◌, ◌-◌, ◌/◌, ◌%◌, ◌==◌, nat_lt, not, Bool, false, List, [], ◌∷◌, ◌++◌}
use Rattle.std.specs.Prelude.{Option, Some, None, codes, filter, length, if◌then◌else◌}
use Rattle.markup.specs.Html.{end_tag, escaped, start_tag, valued}
use Rattle.markup.specs.declared.tag.Tag.TheVariants as tag
use Rattle.page_parts.specs.Colours.{class}
pub use Rattle.page_parts.specs.Names.{AreAscending, HaveSame, has_name, index_in}
use Rattle.page_parts.specs.declared.letters.Shade.{Shade}
use Rattle.page_parts.specs.declared.letters.Shade.TheVariants.{Live}

abbrev pub has_bytes : List ℕ → Bool
has_bytes name = not (length name == 0)

-- these are the names that were given, but those without bytes
abbrev pub AreNamesOf : List (List ℕ) → List (List ℕ) → Type 0
AreNamesOf given names = HaveSame names (filter has_bytes given)

-- the class of a cell of this shade in the colour of the name
abbrev pub class_in : Shade → List (List ℕ) → List ℕ → List ℕ
class_in shade names name = class shade (index_in names name)

-- `a` or `A`
abbrev pub first_letter : Bool → ℕ
first_letter is_small = if is_small then 97 else 65

-- the last k letters of an index at most: A to Z, and then AA, AB and so on
abbrev pub letters_within : ℕ → ℕ → Bool → List ℕ
letters_within zero i is_small = []
letters_within (suc k) i is_small =
    (if nat_lt i 26 then [] else letters_within k (i / 26 - 1) is_small)
    ++ escaped ((first_letter is_small + i % 26) ∷ [])

-- the letter of an index
unfoldable pub letter : ℕ → Bool → List ℕ
letter i is_small = letters_within (suc i) i is_small

abbrev pub letter_at : Option ℕ → Bool → List ℕ → List ℕ
letter_at (Some i) is_small otherwise = letter i is_small
letter_at None is_small otherwise = escaped otherwise

-- the letter of the name, or `otherwise` where it has none
unfoldable pub letter_or : List (List ℕ) → List ℕ → Bool → List ℕ → List ℕ
letter_or names name is_small otherwise = letter_at (index_in names name) is_small otherwise

-- what stands before a name: its letter in its colour
abbrev pub before_name : Option ℕ → List ℕ
before_name None = []
before_name (Some i) =
    start_tag tag.Bold (valued (codes " class=\"") (escaped (class Live (Some i))))
    ++ (letter i false ++ (end_tag tag.Bold ++ escaped (194 ∷ 160 ∷ [])))

-- the name after its letter in its colour; a name without a letter alone
unfoldable pub badge : List (List ℕ) → List ℕ → List ℕ
badge names name = before_name (index_in names name) ++ escaped name
