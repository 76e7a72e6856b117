-- The text of a decimal is read as that decimal, and has no `:`.
use Rattle.desk_send.proofs.Common.{◌≡◌, ◌==◌, not, ℕ, Bool, true, false, List, [], ◌∷◌, ◌++◌, length, Some, Ok, refl}
use Rattle.desk_send.proofs.Common.{ap, arith, is_ascii_digit, list_all, and_parts, false≢true, nat_tests}
use Rattle.desk_send.proofs.Common.{list_all-append, IsDecimal, Number, all_weaker}
use Rattle.std.proofs.Common.{◌||◌, cond, unsigned_abs}
use Rattle.std.specs.Prelude.{if◌then◌else◌}
use Rattle.std.specs.Int.{is_negative}
use Rattle.std.specs.Result.{result_ok}
use Rattle.decimal.specs.Printing.{text_of, unsigned_text}
use Rattle.decimal.specs.Reading.{ReadsNumber, reading}
use Rattle.decimal.specs.Spelling.{IsNumberToken, Spelling, are_digits, is_exponent, is_fraction, is_letter_e}
use Rattle.decimal.specs.Spelling.{is_numeral, is_power, is_sign}
use Rattle.decimal.proofs.Computed.{readings_are_computed}
use Rattle.decimal.proofs.ReadsBack.{text_reads}
use Rattle.office_fields.specs.Value.{decimal_of}

-- ---- the bytes of a number token, with a sign or without

abbrev pub is_decimal_byte : ℕ → Bool
is_decimal_byte b = is_ascii_digit b || (b == 43) || (b == 45) || (b == 46) || (b == 69) || (b == 101)

abbrev Passes : List ℕ → Type 0
Passes bytes = list_all is_decimal_byte bytes ≡ true

digit_byte : (b : ℕ) → is_ascii_digit b ≡ true → is_decimal_byte b ≡ true
digit_byte b h = grind (arith, nat_tests, h)

digits_pass : (bytes : List ℕ) → are_digits bytes ≡ true → Passes bytes
digits_pass bytes h = all_weaker is_ascii_digit is_decimal_byte digit_byte bytes h

numeral_digits : (bytes : List ℕ) → is_numeral bytes ≡ true → are_digits bytes ≡ true
numeral_digits bytes h = (and_parts (not (length bytes == 0)) (are_digits bytes) h).1

point_byte : (b : ℕ) → (b == 46) ≡ true → is_decimal_byte b ≡ true
point_byte b h = grind (arith, nat_tests, h)

fraction_passes : (bytes : List ℕ) → is_fraction bytes ≡ true → Passes bytes
fraction_passes [] h = refl
fraction_passes (b ∷ bytes) h =
    let parts = and_parts (b == 46) (are_digits bytes) h in
    rw (point_byte b parts.0) (digits_pass bytes parts.1)

sign_byte : (b : ℕ) → is_sign b ≡ true → is_decimal_byte b ≡ true
sign_byte b h = grind (arith, nat_tests, h)

power_by : (sign : Bool) (b : ℕ) (bytes : List ℕ) → is_sign b ≡ sign
    → cond sign (is_numeral bytes) (is_numeral (b ∷ bytes)) ≡ true → Passes (b ∷ bytes)
power_by true b bytes e h = rw (sign_byte b e) (digits_pass bytes (numeral_digits bytes h))
power_by false b bytes e h = digits_pass (b ∷ bytes) (numeral_digits (b ∷ bytes) h)

power_passes : (bytes : List ℕ) → is_power bytes ≡ true → Passes bytes
power_passes [] h = refl
power_passes (b ∷ bytes) h = power_by (is_sign b) b bytes refl h

letter_byte : (b : ℕ) → is_letter_e b ≡ true → is_decimal_byte b ≡ true
letter_byte b h = grind (arith, nat_tests, h)

exponent_passes : (bytes : List ℕ) → is_exponent bytes ≡ true → Passes bytes
exponent_passes [] h = refl
exponent_passes (b ∷ bytes) h =
    let parts = and_parts (is_letter_e b) (is_power bytes) h in
    rw (letter_byte b parts.0) (power_passes bytes parts.1)

both_pass : (a b : List ℕ) → Passes a → Passes b → Passes (a ++ b)
both_pass a b h k = rw (list_all-append is_decimal_byte a b, h) k

token_passes : (bytes : List ℕ) (s : Spelling) → IsNumberToken bytes s → Passes bytes
token_passes bytes s token =
    rw token.parts
    (both_pass s.whole (s.fraction ++ s.exponent) (digits_pass s.whole (numeral_digits s.whole token.whole))
    (both_pass s.fraction s.exponent (fraction_passes s.fraction token.fraction)
    (exponent_passes s.exponent token.exponent)))

-- ---- a token begins with a digit

begins : (b : ℕ) (bytes whole rest : List ℕ) → b ∷ bytes ≡ whole ++ rest → is_numeral whole ≡ true
    → is_ascii_digit b ≡ true
begins b bytes [] rest e h = absurd (false≢true h)
begins b bytes (d ∷ ds) rest e h =
    let same : b ≡ d = cc in
    rw same (and_parts (is_ascii_digit d) (are_digits ds) (numeral_digits (d ∷ ds) h)).0

never_empty : (whole rest : List ℕ) → [] ≡ whole ++ rest → is_numeral whole ≡ true → ⊥
never_empty [] rest e h = false≢true h
never_empty (d ∷ ds) rest e h = cc

no_minus : (b : ℕ) → is_ascii_digit b ≡ true → (b == 45) ≡ false
no_minus b h = grind (arith, nat_tests, h)

-- ---- with its sign

abbrev signed_text : Bool → List ℕ → List ℕ
signed_text negative token = (if negative then 45 ∷ [] else []) ++ token

computed : (negative : Bool) (token : List ℕ) (n : Number) → ReadsNumber negative token (Ok n)
    → result_ok (reading negative token) ≡ Some n
computed negative token n h = ap result_ok ((readings_are_computed negative token (Ok n)).0 h)

read_back : (negative : Bool) (token : List ℕ) (n : Number) → ReadsNumber negative token (Ok n)
    → decimal_of (signed_text negative token) ≡ Some n
read_back true token n h = computed true token n h
read_back false [] n h =
    let w = h.0 in
    absurd (never_empty w.spelling.whole (w.spelling.fraction ++ w.spelling.exponent) w.token.parts w.token.whole)
read_back false (b ∷ token) n h =
    let w = h.0 in
    let digit = begins b token w.spelling.whole (w.spelling.fraction ++ w.spelling.exponent) w.token.parts
    w.token.whole in
    rw (no_minus b digit) (computed false (b ∷ token) n h)

signed_passes : (negative : Bool) (token : List ℕ) → Passes token → Passes (signed_text negative token)
signed_passes true token h = h
signed_passes false token h = h

-- ---- all decimals

pub decimal_back : (n : Number) → IsDecimal n → decimal_of (text_of n) ≡ Some n
decimal_back n is =
    read_back (is_negative n.mantissa) (unsigned_text (unsigned_abs n.mantissa) n.exponent) n (text_reads n is)

pub decimal_passes : (n : Number) → IsDecimal n → list_all is_decimal_byte (text_of n) ≡ true
decimal_passes n is =
    let w = (text_reads n is).0 in
    signed_passes (is_negative n.mantissa) (unsigned_text (unsigned_abs n.mantissa) n.exponent)
    (token_passes (unsigned_text (unsigned_abs n.mantissa) n.exponent) w.spelling w.token)
