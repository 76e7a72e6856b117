-- The text of a decimal.
use Rattle.std.specs.Prelude.{ℕ, suc, ◌-◌, ◌/◌, ◌%◌, ◌^◌, List, [], ◌∷◌, ◌++◌, length, replicate, ℤ, pos, negsuc}
use Rattle.std.specs.Prelude.{unsigned_abs, int_le, ◌&&◌, if◌then◌else◌, Ok}
use Rattle.std.specs.Int.{is_negative}
use Rattle.std.specs.Fmt.{decimal, signed_decimal}
use Rattle.decimal.specs.Number.{Number}
use Rattle.decimal.specs.Reading.{ReadsNumber}

-- the digits of n, with leading zeros up to k digits
abbrev pub zero_padded : ℕ → ℕ → List ℕ
zero_padded k n = replicate (k - length (decimal n)) 48 ++ decimal n

-- n with a point before its last k digits, and at least one digit before the point
abbrev pub with_point : ℕ → ℕ → List ℕ
with_point k n = decimal (n / 10 ^ k) ++ 46 ∷ zero_padded k (n % 10 ^ k)

-- plain digits: a zero for each power of ten, or a point
abbrev pub plain_text : ℕ → ℤ → List ℕ
plain_text n (pos k) = decimal n ++ replicate k 48
plain_text n (negsuc k) = with_point (suc k) n

-- A mantissa without its sign, and an exponent: plain digits for the exponents -20 to 20, and otherwise the
-- mantissa, E and the exponent.
unfoldable pub unsigned_text : ℕ → ℤ → List ℕ
unsigned_text n e =
    if int_le (negsuc 19) e && int_le e (pos 20) then plain_text n e else decimal n ++ 69 ∷ signed_decimal e

-- a minus before a negative mantissa
abbrev pub sign_text : ℤ → List ℕ
sign_text z = if is_negative z then 45 ∷ [] else []

abbrev pub text_of : Number → List ℕ
text_of n = sign_text n.mantissa ++ unsigned_text (unsigned_abs n.mantissa) n.exponent

-- Without its sign, the text of a decimal reads as that decimal again.
abbrev pub ReadsBack : Number → Type 0
ReadsBack n = ReadsNumber (is_negative n.mantissa) (unsigned_text (unsigned_abs n.mantissa) n.exponent) (Ok n)
