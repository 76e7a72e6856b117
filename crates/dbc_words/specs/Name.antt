-- Names of messages, signals, nodes and value tables: C identifiers (Vector's DBC File Format Documentation),
-- here of at most `name_limit` bytes, that are neither a keyword nor the name that means no node.
use Rattle.std.specs.Prelude.{ℕ, ◌==◌, nat_le, Bool, false, not, ◌&&◌, ◌||◌, List, [], ◌∷◌, length, codes, IsTrue}
use Rattle.std.specs.List.{list_all}
use Rattle.std.specs.Str.{bytes_eq}
use Rattle.dbc_words.specs.Keyword.{is_keyword}
use Rattle.dbc_words.specs.Limits.{name_limit}

-- the letters A to Z and a to z, and `_`
abbrev pub starts_identifier : ℕ → Bool
starts_identifier b = (nat_le 65 b && nat_le b 90) || (nat_le 97 b && nat_le b 122) || (b == 95)

-- those and the digits
abbrev pub continues_identifier : ℕ → Bool
continues_identifier b = starts_identifier b || (nat_le 48 b && nat_le b 57)

abbrev pub is_c_identifier : List ℕ → Bool
is_c_identifier [] = false
is_c_identifier (b ∷ bs) = starts_identifier b && list_all continues_identifier bs

-- the name that DBC files write if there is no node
abbrev pub no_node : List ℕ
no_node = codes "Vector__XXX"

unfoldable pub is_name : List ℕ → Bool
is_name bytes = is_c_identifier bytes && nat_le (length bytes) name_limit && not (is_keyword bytes)
    && not (bytes_eq bytes no_node)

abbrev pub IsName : List ℕ → Type 0
IsName bytes = IsTrue (is_name bytes)
