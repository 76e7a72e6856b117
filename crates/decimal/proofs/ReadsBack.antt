-- The text of a decimal reads as that decimal.
use Rattle.decimal.proofs.Common.{◌≡◌, ℕ, zero, suc, ◌+◌, ◌-◌, ◌*◌, ◌/◌, ◌%◌, ◌^◌, ◌<◌, ◌≤◌, inl, inr, true, false, not}
use Rattle.decimal.proofs.Common.{eqb, List, [], ◌∷◌, ◌++◌, length, replicate, refl, sym, ap, subst, ◌∙◌, arith, ℤ, pos}
use Rattle.decimal.proofs.Common.{negsuc, neg_ℤ, unsigned_abs, Ok, mul-one, int_le, pow-suc, zero-mul, is_ascii_digit}
use Rattle.decimal.proofs.Common.{digit_value, decimal, signed_decimal, digits_value, digits_value_after, and_from}
use Rattle.decimal.proofs.Common.{and_parts, ne_eqb, leb-true, nat_tests, ints, append-nil}
use Rattle.std.proofs.Common.{div-add-mod'}
use Rattle.std.specs.Int.{is_negative}
use Rattle.std.specs.Str.Parse.{AllDigits}
use Rattle.std.proofs.lemmas.Bool.{cases_Bool, le-ltb, false≢true}
use Rattle.std.proofs.lemmas.Fmt.{decimal_is_IsNumeral_wide}
use Rattle.std.proofs.lemmas.List.{length-append, length-replicate, get_or-replicate}
use Rattle.std.proofs.lemmas.Str.Parse.{digit_from_value}
use Rattle.decimal.specs.Number.{Number, IsDecimal, IsInRange}
use Rattle.decimal.specs.Spelling.{Spelling, IsNumberToken, Writes, are_digits, is_numeral, is_power, digits_of}
use Rattle.decimal.specs.Spelling.{power_of, signed}
use Rattle.decimal.specs.Printing.{zero_padded, with_point, plain_text, unsigned_text}
use Rattle.decimal.specs.Reading.{ReadsNumber, stripped_exponent}
use Rattle.decimal.proofs.DigitLists.{ten_le, digit_range}
use Rattle.decimal.proofs.Significant.{digits_after_append, digits_after_zeros, AreZeros}
use Rattle.decimal.proofs.Readings.{both_digits, writes}
use Rattle.decimal.proofs.Tokens.{numeral_from}
use Rattle.decimal.proofs.Texts.{decimal_short, rest_small, whole_small, at_plain, at_far, is_plain}

-- ---- the digits of a number

from_all_digits : (ds : List ℕ) → AllDigits 10 ds → are_digits ds ≡ true
from_all_digits [] h = refl
from_all_digits (c ∷ cs) h =
    let range = digit_from_value c h.0 in
    and_from (is_ascii_digit c) (are_digits cs) (grind (arith, nat_tests)) (from_all_digits cs h.1)

-- a number that `decimal` writes
abbrev pub IsSmall : ℕ → Type 0
IsSmall n = n < 10 ^ 64

pub decimal_digits : (n : ℕ) → IsSmall n → are_digits (decimal n) ≡ true
decimal_digits n small = from_all_digits (decimal n) (decimal_is_IsNumeral_wide n small).0.1

decimal_value : (n : ℕ) → IsSmall n → digits_value 10 (decimal n) ≡ n
decimal_value n small = (decimal_is_IsNumeral_wide n small).1

pub decimal_numeral : (n : ℕ) → IsSmall n → is_numeral (decimal n) ≡ true
decimal_numeral n small = numeral_from (decimal n) (decimal_is_IsNumeral_wide n small).0.0 (decimal_digits n small)

zeros_are_zeros : (k : ℕ) → AreZeros (replicate k 48)
zeros_are_zeros k = λ i lt. get_or-replicate k i 48 0 (omega (arith, rw length-replicate at lt))

zeros_digits : (k : ℕ) → are_digits (replicate k 48) ≡ true
zeros_digits zero = refl
zeros_digits (suc k) = zeros_digits k

-- ---- signs

sign_back : (z : ℤ) → signed (is_negative z) (unsigned_abs z) ≡ z
sign_back (pos n) = ap (λ b. signed b n) (le-ltb n 0 (omega arith))
sign_back (negsuc n) = refl

-- the parts write the number, once j zeros are taken from their digits
written : (n : Number) (bytes : List ℕ) (s : Spelling) → IsNumberToken bytes s → (j : ℕ)
    → digits_value 10 (digits_of s) ≡ unsigned_abs n.mantissa * 10 ^ j → n.exponent ≡ stripped_exponent s j
    → Writes (is_negative n.mantissa) bytes n
written n bytes s token j value e =
    let same : record { mantissa = signed (is_negative n.mantissa) (unsigned_abs n.mantissa); exponent = n.exponent }
    ≡ n = λ t. record { mantissa = sign_back n.mantissa t; exponent = n.exponent } in
    subst (λ (m : Number). Writes (is_negative n.mantissa) bytes m) same
    (writes (is_negative n.mantissa) bytes s token (unsigned_abs n.mantissa) j n.exponent value e)

is_small : (n : ℕ) → n < 10 ^ 36 → IsSmall n
is_small n lt = omega (arith, lt)

-- ---- zeros after the digits

zeros_value : (n k : ℕ) → IsSmall n → digits_value 10 ((decimal n ++ replicate k 48) ++ []) ≡ n * 10 ^ k
zeros_value n k small =
    ap (digits_value 10) (append-nil (decimal n ++ replicate k 48))
    ∙ digits_after_append 0 (decimal n) (replicate k 48)
    ∙ digits_after_zeros (digits_value 10 (decimal n)) (replicate k 48) (zeros_are_zeros k)
    ∙ ap (λ l. digits_value 10 (decimal n) * 10 ^ l) (length-replicate k 48)
    ∙ ap (λ m. m * 10 ^ k) (decimal_value n small)

zeros_written : (n : Number) (k : ℕ) → n.exponent ≡ pos k → unsigned_abs n.mantissa < 10 ^ 36
    → Writes (is_negative n.mantissa) (decimal (unsigned_abs n.mantissa) ++ replicate k 48) n
zeros_written n k e lt =
    let a = unsigned_abs n.mantissa in
    let small = is_small (unsigned_abs n.mantissa) lt in
    let text = decimal a ++ replicate k 48 in
    let some = (decimal_is_IsNumeral_wide a small).0.0 in
    let size = length-append (decimal a) (replicate k 48) in
    written n text (record { whole = text; fraction = []; exponent = [] })
    (record {
      parts = sym (append-nil text);
      whole = numeral_from text (omega (arith, some, size))
          (both_digits (decimal a) (replicate k 48) (decimal_digits a small) (zeros_digits k));
      fraction = refl;
      exponent = refl;
    })
    k (zeros_value a k small) (omega (arith, ints, e))

-- ---- a point

after_split : (n : ℕ) (ds : List ℕ) → digits_value_after 10 n ds ≡ n * 10 ^ length ds + digits_value 10 ds
after_split n [] = omega arith
after_split n (c ∷ cs) =
    let one = after_split (n * 10 + digit_value c) cs in
    let two = after_split (0 * 10 + digit_value c) cs in
    let turn : n * 10 ^ suc (length cs) ≡ n * (10 ^ length cs * 10) = ap (λ x. n * x) (pow-suc 10 (length cs)) in
    omega (arith, one, two, turn)

zero_padded_length : (k n : ℕ) → length (decimal n) ≤ k → length (zero_padded k n) ≡ k
zero_padded_length k n le =
    omega (
      arith,
      length-append {A = ℕ} (replicate (k - length (decimal n)) 48) (decimal n),
      length-replicate {A = ℕ} (k - length (decimal n)) 48,
    )

zero_padded_value : (k n : ℕ) → IsSmall n → digits_value 10 (zero_padded k n) ≡ n
zero_padded_value k n small =
    digits_after_append 0 (replicate (k - length (decimal n)) 48) (decimal n)
    ∙ ap (λ m. digits_value_after 10 m (decimal n))
    (digits_after_zeros 0 (replicate (k - length (decimal n)) 48) (zeros_are_zeros (k - length (decimal n)))
    ∙ zero-mul (10 ^ length (replicate (k - length (decimal n)) 48)))
    ∙ decimal_value n small

zero_padded_digits : (k n : ℕ) → IsSmall n → are_digits (zero_padded k n) ≡ true
zero_padded_digits k n small =
    both_digits (replicate (k - length (decimal n)) 48) (decimal n) (zeros_digits (k - length (decimal n)))
    (decimal_digits n small)

with_point_value : (k n : ℕ) → IsSmall (n / 10 ^ k) → IsSmall (n % 10 ^ k) → length (decimal (n % 10 ^ k)) ≤ k
    → digits_value 10 (decimal (n / 10 ^ k) ++ zero_padded k (n % 10 ^ k)) ≡ n * 10 ^ 0
with_point_value k n high low le =
    digits_after_append 0 (decimal (n / 10 ^ k)) (zero_padded k (n % 10 ^ k))
    ∙ after_split (digits_value 10 (decimal (n / 10 ^ k))) (zero_padded k (n % 10 ^ k))
    ∙ ap (λ l. digits_value 10 (decimal (n / 10 ^ k)) * 10 ^ l + digits_value 10 (zero_padded k (n % 10 ^ k)))
    (zero_padded_length k (n % 10 ^ k) le)
    ∙ ap (λ m. m * 10 ^ k + digits_value 10 (zero_padded k (n % 10 ^ k))) (decimal_value (n / 10 ^ k) high)
    ∙ ap (λ m. n / 10 ^ k * 10 ^ k + m) (zero_padded_value k (n % 10 ^ k) low)
    ∙ div-add-mod' n (10 ^ k)
    ∙ sym (mul-one n)

with_point_written : (n : Number) (k : ℕ) → n.exponent ≡ negsuc k → suc k ≤ 20 → unsigned_abs n.mantissa < 10 ^ 36
    → Writes (is_negative n.mantissa) (with_point (suc k) (unsigned_abs n.mantissa)) n
with_point_written n k e few lt =
    let a = unsigned_abs n.mantissa in
    let q = unsigned_abs n.mantissa / 10 ^ suc k in
    let r = unsigned_abs n.mantissa % 10 ^ suc k in
    let high = is_small (unsigned_abs n.mantissa / 10 ^ suc k) (whole_small (suc k) (unsigned_abs n.mantissa) lt) in
    let below = rest_small (suc k) (unsigned_abs n.mantissa) in
    let top = ten_le (suc k) 64 (omega arith) in
    let low : IsSmall (unsigned_abs n.mantissa % 10 ^ suc k) = omega (arith, below, top) in
    let le = decimal_short (suc k) (unsigned_abs n.mantissa % 10 ^ suc k) (omega arith) (omega arith) below in
    let size = zero_padded_length (suc k) (unsigned_abs n.mantissa % 10 ^ suc k) le in
    written n (with_point (suc k) a)
    (record { whole = decimal q; fraction = 46 ∷ zero_padded (suc k) r; exponent = [] })
    (record {
      parts = ap (λ ds. decimal q ++ 46 ∷ ds) (sym (append-nil (zero_padded (suc k) r)));
      whole = decimal_numeral q high;
      fraction = zero_padded_digits (suc k) r low;
      exponent = refl;
    })
    0 (with_point_value (suc k) a high low le) (omega (arith, ints, e, size))

-- ---- an exponent

numeral_power : (ds : List ℕ) → is_numeral ds ≡ true → (is_power ds ≡ true) × (power_of ds ≡ pos (digits_value 10 ds))
numeral_power [] h = absurd (false≢true h)
numeral_power (b ∷ bs) h =
    let digit = (and_parts (is_ascii_digit b) (are_digits bs)
    (and_parts (not (eqb (length (b ∷ bs)) 0)) (are_digits (b ∷ bs)) h).1).0 in
    let (low, high) = digit_range b digit in
    let plus : eqb b 43 ≡ false = ne_eqb b 43 (λ e. omega (arith, low, e)) in
    let minus : eqb b 45 ≡ false = ne_eqb b 45 (λ e. omega (arith, low, e)) in
    (rw (plus, minus) h, rw (minus, plus) refl)

power_back : (e : ℤ) → unsigned_abs e < 10 ^ 36 → (is_power (signed_decimal e) ≡ true)
    × (power_of (signed_decimal e) ≡ e)
power_back (pos k) lt =
    let small = is_small k lt in
    let (power, value) = numeral_power (decimal k) (decimal_numeral k small) in
    (power, value ∙ ap pos (decimal_value k small))
power_back (negsuc k) lt =
    let small = is_small (suc k) lt in
    (decimal_numeral (suc k) small, ap (λ m. neg_ℤ (pos m)) (decimal_value (suc k) small))

range_small : (e : ℤ) → IsInRange e → unsigned_abs e < 10 ^ 36
range_small (pos k) range = let h = range.high in omega (arith, ints, h)
range_small (negsuc k) range = let h = range.low in omega (arith, ints, h)

far_written : (n : Number) → IsInRange n.exponent → unsigned_abs n.mantissa < 10 ^ 36
    → Writes (is_negative n.mantissa) (decimal (unsigned_abs n.mantissa) ++ 69 ∷ signed_decimal n.exponent) n
far_written n range lt =
    let a = unsigned_abs n.mantissa in
    let small = is_small (unsigned_abs n.mantissa) lt in
    let (power, value) = power_back n.exponent (range_small n.exponent range) in
    written n (decimal a ++ 69 ∷ signed_decimal n.exponent)
    (record { whole = decimal a; fraction = []; exponent = 69 ∷ signed_decimal n.exponent })
    (record { parts = refl; whole = decimal_numeral a small; fraction = refl; exponent = power })
    0 (ap (digits_value 10) (append-nil (decimal a)) ∙ decimal_value a small ∙ sym (mul-one a))
    (omega (arith, ints, value))

plain_written : (n : Number) (e : ℤ) → n.exponent ≡ e → is_plain e ≡ true → unsigned_abs n.mantissa < 10 ^ 36
    → Writes (is_negative n.mantissa) (plain_text (unsigned_abs n.mantissa) e) n
plain_written n (pos k) is plain lt = zeros_written n k is lt
plain_written n (negsuc k) is plain lt =
    let few = leb-true k 19 (and_parts (int_le (negsuc 19) (negsuc k)) (int_le (negsuc k) (pos 20)) plain).0 in
    with_point_written n k is (omega (arith, few)) lt

pub text_reads : (n : Number) → IsDecimal n
    → ReadsNumber (is_negative n.mantissa) (unsigned_text (unsigned_abs n.mantissa) n.exponent) (Ok n)
text_reads n d =
    elim (cases_Bool (is_plain n.exponent)) [
      | inl plain ↦ (
        subst (λ (bs : List ℕ). Writes (is_negative n.mantissa) bs n)
            (sym (at_plain (unsigned_abs n.mantissa) n.exponent plain))
            (plain_written n n.exponent refl plain d.digits),
        d,
      )
      | inr far ↦ (
        subst (λ (bs : List ℕ). Writes (is_negative n.mantissa) bs n)
            (sym (at_far (unsigned_abs n.mantissa) n.exponent far)) (far_written n d.range d.digits),
        d,
      )
    ]
