-- Names in ascending order, each once.
use Rattle.std.specs.Prelude.{◌≡◌, ℕ, Bool, List, Option, position}
use Rattle.std.specs.List.{list_any}
use Rattle.std.specs.List.Sorted.{IsStrictlySortedBy}
use Rattle.std.specs.Str.{bytes_eq}
use Rattle.base.specs.Keyed.{text_cmp}

-- each name is above those before it
abbrev pub AreAscending : List (List ℕ) → Type 0
AreAscending names = IsStrictlySortedBy text_cmp names

abbrev pub is_name : List ℕ → List ℕ → Bool
is_name name one = bytes_eq one name

-- the name is one of the names
abbrev pub has_name : List (List ℕ) → List ℕ → Bool
has_name names name = list_any (is_name name) names

-- each name is among both or among neither
abbrev pub HaveSame : List (List ℕ) → List (List ℕ) → Type 0
HaveSame names others = (name : List ℕ) → has_name names name ≡ has_name others name

-- where the name is among the names, if it is one of them
abbrev pub index_in : List (List ℕ) → List ℕ → Option ℕ
index_in names name = position (is_name name) names
