-- How the parts of a number token are found: each is the longest run of its bytes.
use Rattle.std.specs.Prelude.{ℕ, ◌+◌, ◌==◌, ◌^◌, min, Bool, List, [], ◌∷◌, take, drop, ℤ, pos, negsuc, neg_ℤ, suc}
use Rattle.std.specs.Prelude.{if◌then◌else◌}
use Rattle.std.specs.Char.{is_ascii_digit}
use Rattle.std.specs.List.{prefix_len}
use Rattle.decimal.specs.Spelling.{Spelling}
use Rattle.decimal.specs.declared.spelling.Parts.{Parts}

-- how many bytes a point and the digits after it take
abbrev pub fraction_len : List ℕ → ℕ
fraction_len [] = 0
fraction_len (b ∷ bs) = if b == 46 then 1 + prefix_len is_ascii_digit bs else 0

-- digits, a point with digits, and whatever is left
unfoldable pub cut : List ℕ → Spelling
cut bs =
    let whole = prefix_len is_ascii_digit bs in
    let rest = drop whole bs in
    record { whole = take whole bs; fraction = take (fraction_len rest) rest; exponent = drop (fraction_len rest) rest }

abbrev pub spelling : Parts → Spelling
spelling p = record { whole = p.whole.now; fraction = p.fraction.now; exponent = p.exponent.now }

-- A power beyond this one is out of range after any digits that fit in memory.
abbrev pub greatest_power : ℕ
greatest_power = 10 ^ 20

-- the power itself, or the greatest one with its sign
abbrev pub capped_power : ℤ → ℤ
capped_power (pos n) = pos (min n greatest_power)
capped_power (negsuc n) = neg_ℤ (pos (min (suc n) greatest_power))

-- the digit 0
abbrev pub is_zero : ℕ → Bool
is_zero b = b == 48
