-- Whole numbers as they are written: decimal digits only.
use Rattle.std.specs.Prelude.{ℕ, ◌^◌, nat_lt, Bool, false, ◌&&◌, List, [], ◌∷◌, Option, Some, None, if◌then◌else◌}
use Rattle.std.specs.List.{list_all}
use Rattle.std.specs.Char.{digit_value}
use Rattle.std.specs.Str.Parse.{digits_value}

-- one or more decimal digits and nothing else
abbrev pub is_numeral : List ℕ → Bool
is_numeral [] = false
is_numeral (b ∷ bytes) = list_all (λ d. nat_lt (digit_value d) 10) (b ∷ bytes)

-- the number that the digits write, up to 4294967295; leading zeros don't count
abbrev pub whole_of : List ℕ → Option ℕ
whole_of bytes = if is_numeral bytes && nat_lt (digits_value 10 bytes) (2 ^ 32) then Some (digits_value 10 bytes)
    else None
