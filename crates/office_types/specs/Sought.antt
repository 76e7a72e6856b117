-- What a word looks for: `pgn=` or `spn=` and 1 to 6 digits, `0x` and 1 to 8 hexadecimal digits, 1 to 10 digits, or a
-- name.
use Rattle.std.specs.Prelude.{ℕ, ◌+◌, ◌*◌, ◌&&◌, nat_le, nat_lt, List, [], ◌∷◌, length, take, drop, codes}
use Rattle.std.specs.Prelude.{Option, Some, None, if◌then◌else◌}
use Rattle.std.specs.Char.{digit_value}
use Rattle.std.specs.Option.{option_map}
use Rattle.std.specs.Str.{bytes_eq}
use Rattle.base.specs.Split.{split_once}
use Rattle.base.specs.WholeNumber.{whole_of}
use Rattle.dbc_words.specs.Name.{is_name}
use Rattle.office_types.specs.declared.sought.Sought.{Sought}
use Rattle.office_types.specs.declared.sought.Sought.TheVariants as sought

-- `=`
abbrev equals : ℕ
equals = 61

-- the number that so many digits write at most
abbrev pub short_decimal : ℕ → List ℕ → Option ℕ
short_decimal most bytes = if nat_le (length bytes) most then whole_of bytes else None

-- the number that hexadecimal digits write when they follow those of n; no other bytes write one
abbrev pub hexadecimal_after : ℕ → List ℕ → Option ℕ
hexadecimal_after n [] = Some n
hexadecimal_after n (b ∷ bytes) =
    if nat_lt (digit_value b) 16 then hexadecimal_after (n * 16 + digit_value b) bytes else None

-- 1 to 8 hexadecimal digits
abbrev pub hexadecimal_of : List ℕ → Option ℕ
hexadecimal_of bytes =
    if nat_le 1 (length bytes) && nat_le (length bytes) 8 then hexadecimal_after 0 bytes else None

-- a number of a kind
abbrev pub number_sought : List ℕ → List ℕ → Option Sought
number_sought kind digits =
    if bytes_eq kind (codes "pgn") then option_map sought.Group (short_decimal 6 digits)
    else (if bytes_eq kind (codes "spn") then option_map sought.Spn (short_decimal 6 digits) else None)

-- a name, where there is no number
abbrev pub named_sought : List ℕ → Option ℕ → Option Sought
named_sought bytes (Some n) = Some (sought.Decimal n)
named_sought bytes None = if is_name bytes then Some (sought.Name bytes) else None

-- a number in hexadecimal after `0x`, in decimal, or a name
abbrev pub plain_sought : List ℕ → Option Sought
plain_sought bytes = if bytes_eq (take 2 bytes) (codes "0x")
    then option_map sought.Hexadecimal (hexadecimal_of (drop 2 bytes))
    else named_sought bytes (short_decimal 10 bytes)

abbrev pub sought_of : List ℕ → Option Sought
sought_of bytes = elim (split_once equals bytes) [
  | Some parts ↦ number_sought parts.0 parts.1
  | None ↦ plain_sought bytes
]
