-- The computed answer of reading is the one that the bytes have.
use Rattle.decimal.proofs.Common.{◌≡◌, ◌≢◌, ◌↔◌, ℕ, zero, suc, ◌+◌, ◌-◌, ◌*◌, ◌/◌, ◌%◌, ◌^◌, Bool, true, false, not}
use Rattle.decimal.proofs.Common.{eqb, ◌&&◌, List, length, refl, sym, ap, subst, ◌∙◌, arith, ℤ, pos, negsuc, int_le}
use Rattle.decimal.proofs.Common.{Result, Err, zero-mul, ◌≤ℤ◌, suffix_len, digits_value, and_parts, and_from, both_ways}
use Rattle.decimal.proofs.Common.{eqb-true, leb-true, ints}
use Rattle.std.proofs.Common.{leb, mul-div_cancel}
use Rattle.std.proofs.Math.Nat.{zero-div}
use Rattle.std.proofs.lemmas.Bool.{cond_both, leb-false, not-true, not-false}
use Rattle.std.proofs.lemmas.List.Sums.{suffix_len-le-length}
use Rattle.decimal.specs.Number.{Number, IsInRange}
use Rattle.decimal.specs.Spelling.{Spelling, IsNumberToken, is_numeral, is_exponent, digits_of, signed}
use Rattle.decimal.specs.Cutting.{cut, is_zero}
use Rattle.decimal.specs.Reading.{ReadsNumber, reading, reading_of, reading_parts, stripped_exponent, is_in_range}
use Rattle.decimal.specs.declared.fault.DecimalFault.{DecimalFault}
use Rattle.decimal.specs.declared.fault.DecimalFault.TheVariants.{NotNumber}
use Rattle.decimal.proofs.Values.{ten_pos}
use Rattle.decimal.proofs.Significant.{core, core_value, core_stripped, front_before_end, back_zeros}
use Rattle.decimal.proofs.Significant.{digits_after_zeros}
use Rattle.decimal.proofs.Readings.{writes, stripped, size_signed, token_digits, reads_zero, zero_decimal}
use Rattle.decimal.proofs.Readings.{decimal_from_stripped}
use Rattle.decimal.proofs.Tokens.{cut_is_token, token_is_cut}
use Rattle.decimal.proofs.OneReading.{reads_once}

le_true : (a b : ℤ) → a ≤ℤ b → int_le a b ≡ true
le_true a b h = grind (arith, ints)

le_from_true : (a b : ℤ) → int_le a b ≡ true → a ≤ℤ b
le_from_true a b h = grind (arith, ints)

in_range : (e : ℤ) → is_in_range e ≡ true → IsInRange e
in_range e h =
    let parts = and_parts (int_le (negsuc 399) e) (int_le e (pos 400)) h in
    record { low = le_from_true (negsuc 399) e parts.0; high = le_from_true e (pos 400) parts.1 }

out_of_range : (e : ℤ) → is_in_range e ≡ false → IsInRange e → ⊥
out_of_range e h range =
    both_ways (is_in_range e) h
    (and_from (int_le (negsuc 399) e) (int_le e (pos 400)) (le_true (negsuc 399) e range.low)
    (le_true e (pos 400) range.high))

-- a number without a zero at its end, times a power of ten
reads_of : (negative : Bool) (bytes : List ℕ) (s : Spelling) → IsNumberToken bytes s → (n z : ℕ) (e : ℤ)
    → digits_value 10 (digits_of s) ≡ n * 10 ^ z → e ≡ stripped_exponent s z → n % 10 ≢ 0
    → ReadsNumber negative bytes (reading_of negative n e)
reads_of negative bytes s token n z e value at some =
    let w = writes negative bytes s token n z e value at in
    let h = stripped negative n e some in
    cond_both (eqb n 0) _ _ (ReadsNumber negative bytes)
    (λ none. absurd (some (ap (λ m. m % 10) (eqb-true n 0 none))))
    (λ _. cond_both (leb (10 ^ 36) n) _ _ (ReadsNumber negative bytes)
    (λ long. (record { mantissa = signed negative n; exponent = e }, w, h, rw size_signed (leb-true (10 ^ 36) n long)))
    (λ short. cond_both (not (is_in_range e)) _ _ (ReadsNumber negative bytes)
    (λ far. (
      record { mantissa = signed negative n; exponent = e },
      w,
      h,
      rw size_signed (leb-false (10 ^ 36) n short),
      out_of_range e (not-true (is_in_range e) far),
    ))
    (λ near. (
      w,
      decimal_from_stripped negative n e (leb-false (10 ^ 36) n short) some
          (in_range e (not-false (is_in_range e) near)),
    ))))

all_zeros : (xs : List ℕ) → 0 + suffix_len is_zero xs ≡ length xs → digits_value 10 xs / 10 ^ suffix_len is_zero xs ≡ 0
all_zeros xs e =
    ap (λ n. n / 10 ^ suffix_len is_zero xs) (digits_after_zeros 0 xs (back_zeros xs 0 e) ∙ zero-mul (10 ^ length xs))
    ∙ zero-div (10 ^ suffix_len is_zero xs)

some_left : (xs : List ℕ) (end : ℕ) → suc end + suffix_len is_zero xs ≡ length xs
    → digits_value 10 xs / 10 ^ suffix_len is_zero xs ≡ digits_value 10 (core xs (suc end))
some_left xs end e =
    let le = front_before_end xs end e in
    ap (λ n. n / 10 ^ suffix_len is_zero xs) (core_value xs (suc end) (omega (arith, le)) e)
    ∙ mul-div_cancel (digits_value 10 (core xs (suc end))) (ten_pos (suffix_len is_zero xs))

reads_parts_at : (negative : Bool) (bytes : List ℕ) (s : Spelling) → IsNumberToken bytes s → (end : ℕ)
    → end + suffix_len is_zero (digits_of s) ≡ length (digits_of s)
    → ReadsNumber negative bytes (reading_parts negative s)
reads_parts_at negative bytes s token zero e =
    subst (λ (n : ℕ). ReadsNumber negative bytes
    (reading_of negative n (stripped_exponent s (suffix_len is_zero (digits_of s)))))
    (sym (all_zeros (digits_of s) e)) (reads_zero negative bytes s token 0 refl e, zero_decimal)
reads_parts_at negative bytes s token (suc end) e =
    let le = front_before_end (digits_of s) end e in
    subst (λ (n : ℕ). ReadsNumber negative bytes
    (reading_of negative n (stripped_exponent s (suffix_len is_zero (digits_of s)))))
    (sym (some_left (digits_of s) end e))
    (reads_of negative bytes s token (digits_value 10 (core (digits_of s) (suc end))) (suffix_len is_zero (digits_of s))
    (stripped_exponent s (suffix_len is_zero (digits_of s)))
    (core_value (digits_of s) (suc end) (omega (arith, le)) e) refl
    (core_stripped (digits_of s) end (token_digits bytes s token) le e))

reads_parts : (negative : Bool) (bytes : List ℕ) (s : Spelling) → IsNumberToken bytes s
    → ReadsNumber negative bytes (reading_parts negative s)
reads_parts negative bytes s token =
    let le = suffix_len-le-length is_zero (digits_of s) in
    reads_parts_at negative bytes s token (length (digits_of s) - suffix_len is_zero (digits_of s)) (omega (arith, le))

reads_reading : (negative : Bool) (bytes : List ℕ) → ReadsNumber negative bytes (reading negative bytes)
unfolding reading
reads_reading negative bytes =
    cond_both (is_numeral (cut bytes).whole && is_exponent (cut bytes).exponent) (reading_parts negative (cut bytes))
    (Err NotNumber) (ReadsNumber negative bytes)
    (λ h. let parts = and_parts (is_numeral (cut bytes).whole) (is_exponent (cut bytes).exponent) h in
    reads_parts negative bytes (cut bytes) (cut_is_token bytes parts.0 parts.1))
    (λ h s token. both_ways _ h (and_from (is_numeral (cut bytes).whole) (is_exponent (cut bytes).exponent)
    (subst (λ (t : Spelling). is_numeral t.whole ≡ true) (token_is_cut bytes s token) token.whole)
    (subst (λ (t : Spelling). is_exponent t.exponent ≡ true) (token_is_cut bytes s token) token.exponent)))

pub read_is_reading : (negative : Bool) (bytes : List ℕ) (r : Result Number DecimalFault) → ReadsNumber negative bytes r
    → r ≡ reading negative bytes
read_is_reading negative bytes r h =
    reads_once negative bytes r (reading negative bytes) h (reads_reading negative bytes)

pub readings_are_computed : (negative : Bool) (bytes : List ℕ) (r : Result Number DecimalFault)
    → ReadsNumber negative bytes r ↔ (reading negative bytes ≡ r)
readings_are_computed negative bytes r = (
  λ h. sym (read_is_reading negative bytes r h),
  λ e. subst (λ (q : Result Number DecimalFault). ReadsNumber negative bytes q) e (reads_reading negative bytes),
)
