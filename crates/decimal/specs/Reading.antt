-- What reading bytes as a decimal gives.
use Rattle.std.specs.Prelude.{◌≡◌, ◌↔◌, ℕ, ◌/◌, ◌^◌, ◌<◌, ◌≤◌, ◌%◌, ◌≢◌, ◌==◌, nat_le, int_le, not, ◌&&◌, Bool, List}
use Rattle.std.specs.Prelude.{length, drop, ℤ, pos, negsuc, ◌+ℤ◌, ◌-ℤ◌, unsigned_abs, Result, Ok, Err, if◌then◌else◌}
use Rattle.std.specs.List.{suffix_len}
use Rattle.std.specs.Str.Parse.{digits_value}
use Rattle.decimal.specs.Number.{Number, IsInRange, IsDecimal}
use Rattle.decimal.specs.Spelling.{Spelling, IsNumberToken, Writes, is_numeral, is_exponent, digits_of, power_of}
use Rattle.decimal.specs.Spelling.{signed}
use Rattle.decimal.specs.Cutting.{cut, is_zero}
use Rattle.decimal.specs.declared.fault.DecimalFault.{DecimalFault}
use Rattle.decimal.specs.declared.fault.DecimalFault.TheVariants.{NotNumber, TooManyDigits, ExponentRange}

-- a number other than zero whose mantissa has no zero at its end
pub record IsStripped (n : Number) : Type 0 where
  pub stripped : unsigned_abs n.mantissa % 10 ≢ 0

-- The answers: a decimal of the token's value; no number token; a value other than zero with more than 36
-- digits once zeros at both ends are stripped; and one with at most 36 and an exponent out of range.
abbrev pub ReadsNumber : Bool → List ℕ → Result Number DecimalFault → Type 0
ReadsNumber negative bytes (Ok n) = Writes negative bytes n × IsDecimal n
ReadsNumber negative bytes (Err NotNumber) = (s : Spelling) → ¬ (IsNumberToken bytes s)
ReadsNumber negative bytes (Err TooManyDigits) = (n : Number) × Writes negative bytes n × IsStripped n
    × (10 ^ 36 ≤ unsigned_abs n.mantissa)
ReadsNumber negative bytes (Err ExponentRange) = (n : Number) × Writes negative bytes n × IsStripped n
    × (unsigned_abs n.mantissa < 10 ^ 36) × ¬ (IsInRange n.exponent)

-- the exponent that a spelling's digits have without the zeros at their end
abbrev pub stripped_exponent : Spelling → ℕ → ℤ
stripped_exponent s zeros = power_of (drop 1 s.exponent) -ℤ pos (length (drop 1 s.fraction)) +ℤ pos zeros

abbrev pub is_in_range : ℤ → Bool
is_in_range e = int_le (negsuc 399) e && int_le e (pos 400)

-- the answer at a mantissa without its sign that has no zero at its end, or 0, and an exponent
abbrev pub reading_of : Bool → ℕ → ℤ → Result Number DecimalFault
reading_of negative n e =
    if n == 0 then Ok (record { mantissa = pos 0; exponent = pos 0 })
    else (if nat_le (10 ^ 36) n then Err TooManyDigits
    else (if not (is_in_range e) then Err ExponentRange
    else Ok (record { mantissa = signed negative n; exponent = e })))

-- the answer at the parts of a number token
abbrev pub reading_parts : Bool → Spelling → Result Number DecimalFault
reading_parts negative s =
    let zeros = suffix_len is_zero (digits_of s) in
    reading_of negative (digits_value 10 (digits_of s) / 10 ^ zeros) (stripped_exponent s zeros)

-- The same answer computed, for whoever parses by a function.
unfoldable pub reading : Bool → List ℕ → Result Number DecimalFault
reading negative bytes =
    let s = cut bytes in
    if is_numeral s.whole && is_exponent s.exponent then reading_parts negative s else Err NotNumber

-- The answer by the equation of values is the computed one, and no other.
abbrev pub ReadingsAreComputed : Type 0
ReadingsAreComputed =
    (negative : Bool) (bytes : List ℕ) (answer : Result Number DecimalFault)
    → ReadsNumber negative bytes answer ↔ (reading negative bytes ≡ answer)
