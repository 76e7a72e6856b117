-- The spelling of a number in a DBC file, and the number that it writes.
use Rattle.std.specs.Prelude.{◌≡◌, ℕ, ◌==◌, Bool, true, false, not, ◌&&◌, ◌||◌, List, [], ◌∷◌, ◌++◌, length, drop, ℤ}
use Rattle.std.specs.Prelude.{pos, neg_ℤ, ◌-ℤ◌, IsTrue, if◌then◌else◌}
use Rattle.std.specs.Char.{is_ascii_digit}
use Rattle.std.specs.List.{list_all}
use Rattle.std.specs.Str.Parse.{digits_value}
use Rattle.decimal.specs.Number.{Number, SameValue}

-- the bytes of a number token, cut into three parts
pub record Spelling : Type 0 where
  -- the digits before the point
  pub whole : List ℕ
  -- the point and the digits after it, or nothing
  pub fraction : List ℕ
  -- the letter E, a sign if there is one, and digits, or nothing
  pub exponent : List ℕ

-- zero or more digits
abbrev pub are_digits : List ℕ → Bool
are_digits bs = list_all is_ascii_digit bs

-- one or more digits
abbrev pub is_numeral : List ℕ → Bool
is_numeral bs = not (length bs == 0) && are_digits bs

-- nothing, or `.` and zero or more digits
abbrev pub is_fraction : List ℕ → Bool
is_fraction [] = true
is_fraction (b ∷ bs) = (b == 46) && are_digits bs

-- `+` or `-`
abbrev pub is_sign : ℕ → Bool
is_sign b = (b == 43) || (b == 45)

-- one or more digits, with a sign or without
abbrev pub is_power : List ℕ → Bool
is_power [] = false
is_power (b ∷ bs) = if is_sign b then is_numeral bs else is_numeral (b ∷ bs)

-- `E` or `e`
abbrev pub is_letter_e : ℕ → Bool
is_letter_e b = (b == 69) || (b == 101)

-- nothing, or `E` or `e` and a power
abbrev pub is_exponent : List ℕ → Bool
is_exponent [] = true
is_exponent (b ∷ bs) = is_letter_e b && is_power bs

abbrev pub bytes_of : Spelling → List ℕ
bytes_of s = s.whole ++ (s.fraction ++ s.exponent)

-- The bytes are one number token, in these parts: one or more digits; then optionally `.` and zero or more
-- digits; then optionally `E` or `e`, optionally `+` or `-`, and one or more digits. These are the unsigned
-- integers and doubles of Vector's DBC File Format Documentation; a leading sign is a token of its own.
pub record IsNumberToken (bytes : List ℕ) (s : Spelling) : Type 0 where
  pub parts : bytes ≡ bytes_of s
  pub whole : IsTrue (is_numeral s.whole)
  pub fraction : IsTrue (is_fraction s.fraction)
  pub exponent : IsTrue (is_exponent s.exponent)

-- the digits before and after the point
abbrev pub digits_of : Spelling → List ℕ
digits_of s = s.whole ++ drop 1 s.fraction

-- the whole number that a power writes
abbrev pub power_of : List ℕ → ℤ
power_of [] = pos 0
power_of (b ∷ bs) =
    if b == 45 then neg_ℤ (pos (digits_value 10 bs))
    else (if b == 43 then pos (digits_value 10 bs)
    else pos (digits_value 10 (b ∷ bs)))

abbrev pub signed : Bool → ℕ → ℤ
signed true n = neg_ℤ (pos n)
signed false n = pos n

-- The number that a spelling writes, negated or not: all its digits as one whole number, times ten to its
-- power less one for each digit after the point.
abbrev pub number_of : Bool → Spelling → Number
number_of negative s = record {
  mantissa = signed negative (digits_value 10 (digits_of s));
  exponent = power_of (drop 1 s.exponent) -ℤ pos (length (drop 1 s.fraction));
}

-- the bytes are one number token, and n has the value that it writes, negated or not
pub record Writes (negative : Bool) (bytes : List ℕ) (n : Number) : Type 0 where
  pub spelling : Spelling
  pub token : IsNumberToken bytes spelling
  pub value : SameValue n (number_of negative spelling)
