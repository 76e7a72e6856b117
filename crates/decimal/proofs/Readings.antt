-- What each answer of reading says of the bytes.
use Rattle.decimal.proofs.Common.{◌≡◌, ◌≢◌, ℕ, zero, suc, ◌+◌, ◌-◌, ◌*◌, ◌^◌, ◌%◌, ◌<◌, ◌≤◌, Bool, true, false, not}
use Rattle.decimal.proofs.Common.{eqb, List, [], ◌∷◌, ◌++◌, length, take, drop, refl, sym, ap, subst, ◌∙◌, arith, ℤ}
use Rattle.decimal.proofs.Common.{pos, ◌+ℤ◌, ◌-ℤ◌, ◌*ℤ◌, unsigned_abs, mul-one, zero-mul, Ok, Err, is_ascii_digit}
use Rattle.decimal.proofs.Common.{prefix_len, suffix_len, and_parts, and_from, digits_value, ints}
use Rattle.decimal.specs.Number.{Number, IsInRange, IsDecimal}
use Rattle.decimal.specs.Spelling.{Spelling, IsNumberToken, Writes, are_digits, is_fraction, digits_of, number_of}
use Rattle.decimal.specs.Spelling.{power_of, signed}
use Rattle.decimal.specs.Cutting.{is_zero}
use Rattle.decimal.specs.Reading.{IsStripped, ReadsNumber, stripped_exponent}
use Rattle.decimal.specs.declared.fault.DecimalFault.TheVariants.{TooManyDigits, ExponentRange}
use Rattle.decimal.proofs.Values.{same_from_meet, same_trans, neg-times, zero_same}
use Rattle.decimal.proofs.Significant.{core_value, core_stripped, core_long, front_before_end, back_zeros}
use Rattle.decimal.proofs.Significant.{digits_after_zeros}

pub size_signed : (b : Bool) (n : ℕ) → unsigned_abs (signed b n) ≡ n
size_signed true zero = refl
size_signed true (suc n) = refl
size_signed false n = refl

pub signed-times : (b : Bool) (n k : ℕ) → signed b n *ℤ pos k ≡ signed b (n * k)
signed-times true n k = neg-times n k
signed-times false n k = refl

signed_zero : (b : Bool) → signed b 0 ≡ pos 0
signed_zero true = refl
signed_zero false = refl

pub writes : (negative : Bool) (bytes : List ℕ) (s : Spelling) → IsNumberToken bytes s → (v z : ℕ) (e : ℤ)
    → digits_value 10 (digits_of s) ≡ v * 10 ^ z → e ≡ stripped_exponent s z
    → Writes negative bytes (record { mantissa = signed negative v; exponent = e })
writes negative bytes s token v z e value is = record {
  spelling = s;
  token = token;
  value = same_from_meet (record { mantissa = signed negative v; exponent = e }) (number_of negative s) z 0 (record {
    mantissas = signed-times negative v (10 ^ z)
        ∙ ap (signed negative) (sym value ∙ sym (mul-one (digits_value 10 (digits_of s))))
        ∙ sym (signed-times negative (digits_value 10 (digits_of s)) 1);
    exponents = omega (arith, ints, is);
  });
}

pub stripped : (b : Bool) (v : ℕ) (e : ℤ) → v % 10 ≢ 0 → IsStripped (record { mantissa = signed b v; exponent = e })
stripped b v e h = record { stripped = rw size_signed h }

pub zero_number : Number
zero_number = record { mantissa = pos 0; exponent = pos 0 }

-- only zeros
pub reads_zero : (negative : Bool) (bytes : List ℕ) (s : Spelling) → IsNumberToken bytes s → (end : ℕ) → end ≡ 0
    → end + suffix_len is_zero (digits_of s) ≡ length (digits_of s)
    → Writes negative bytes (record { mantissa = pos 0; exponent = pos 0 })
reads_zero negative bytes s token end none e =
    let all : 0 + suffix_len is_zero (digits_of s) ≡ length (digits_of s) = omega (arith, e, none) in
    let value : digits_value 10 (digits_of s) ≡ 0 = digits_after_zeros 0 (digits_of s) (back_zeros (digits_of s) 0 all)
    ∙ zero-mul (10 ^ length (digits_of s)) in
    record {
      spelling = s;
      token = token;
      value = zero_same _ (number_of negative s) refl (ap (signed negative) value ∙ signed_zero negative);
    }

pub zero_decimal : IsDecimal (record { mantissa = pos 0; exponent = pos 0 })
zero_decimal = record {
  digits = omega arith;
  range = record { low = omega (arith, ints); high = omega (arith, ints) };
  stripped = λ _. (refl, refl);
}

fraction_digits : (bs : List ℕ) → is_fraction bs ≡ true → are_digits (drop 1 bs) ≡ true
fraction_digits [] h = refl
fraction_digits (b ∷ bs) h = (and_parts (eqb b 46) (are_digits bs) h).1

pub both_digits : (xs ys : List ℕ) → are_digits xs ≡ true → are_digits ys ≡ true → are_digits (xs ++ ys) ≡ true
both_digits [] ys p q = q
both_digits (x ∷ xs) ys p q =
    let parts = and_parts (is_ascii_digit x) (are_digits xs) p in
    and_from (is_ascii_digit x) (are_digits (xs ++ ys)) parts.0 (both_digits xs ys parts.1 q)

pub token_digits : (bytes : List ℕ) (s : Spelling) → IsNumberToken bytes s → are_digits (digits_of s) ≡ true
token_digits bytes s token =
    both_digits s.whole (drop 1 s.fraction)
    (and_parts (not (eqb (length s.whole) 0)) (are_digits s.whole) token.whole).1
    (fraction_digits s.fraction token.fraction)

-- where the digits between the zeros begin and end
pub record AreEnds (xs : List ℕ) (start end : ℕ) : Type 0 where
  pub front : start ≡ prefix_len is_zero xs
  pub back : end + suffix_len is_zero xs ≡ length xs
  pub some : end ≢ 0

pub ends_ordered : (xs : List ℕ) (start end : ℕ) → AreEnds xs start end → start < end
ends_ordered xs start zero ends = absurd (ends.some refl)
ends_ordered xs start (suc end) ends = let le = front_before_end xs end ends.back in omega (arith, ends.front, le)

abbrev pub between : List ℕ → ℕ → ℕ → ℕ
between xs start end = digits_value 10 (take (end - start) (drop start xs))

pub between_value : (xs : List ℕ) (start end : ℕ) → AreEnds xs start end
    → digits_value 10 xs ≡ between xs start end * 10 ^ (length xs - end)
between_value xs start end ends =
    let lt = ends_ordered xs start end ends in
    let le : prefix_len is_zero xs ≤ end = omega (arith, ends.front, lt) in
    let zeros : suffix_len is_zero xs ≡ length xs - end = let h = ends.back in omega (arith, h) in
    core_value xs end le ends.back ∙ ap (λ a. digits_value 10 (take (end - a) (drop a xs)) * 10 ^ suffix_len is_zero xs)
    (sym ends.front) ∙ ap (λ z. between xs start end * 10 ^ z) zeros

pub between_stripped : (xs : List ℕ) (start end : ℕ) → are_digits xs ≡ true → AreEnds xs start end
    → between xs start end % 10 ≢ 0
between_stripped xs start zero digits ends = absurd (ends.some refl)
between_stripped xs start (suc end) digits ends =
    subst (λ (a : ℕ). between xs a (suc end) % 10 ≢ 0) (sym ends.front)
    (core_stripped xs end digits (front_before_end xs end ends.back) ends.back)

pub between_long : (xs : List ℕ) (start end : ℕ) → are_digits xs ≡ true → AreEnds xs start end → 36 < end - start
    → 10 ^ 36 ≤ between xs start end
between_long xs start end digits ends long =
    let lt = ends_ordered xs start end ends in
    let e = ends.back in
    let is = ends.front in
    subst (λ (a : ℕ). 10 ^ 36 ≤ between xs a end) (sym ends.front)
    (core_long xs end digits (omega (arith, is, lt)) (omega (arith, e)) (omega (arith, is, long)))

pub reads_long : (negative : Bool) (bytes : List ℕ) (s : Spelling) → IsNumberToken bytes s → (start end : ℕ)
    → are_digits (digits_of s) ≡ true → AreEnds (digits_of s) start end → 36 < end - start
    → ReadsNumber negative bytes (Err TooManyDigits)
reads_long negative bytes s token start end digits ends long =
    let v = between (digits_of s) start end in
    let z = length (digits_of s) - end in (
      record { mantissa = signed negative v; exponent = stripped_exponent s z },
      writes negative bytes s token v z (stripped_exponent s z) (between_value (digits_of s) start end ends) refl,
      stripped negative v (stripped_exponent s z) (between_stripped (digits_of s) start end digits ends),
      rw size_signed (between_long (digits_of s) start end digits ends long),
    )

pub reads_far : (negative : Bool) (bytes : List ℕ) (s : Spelling) → IsNumberToken bytes s → (start end : ℕ)
    → are_digits (digits_of s) ≡ true → AreEnds (digits_of s) start end → between (digits_of s) start end < 10 ^ 36
    → ¬ (IsInRange (stripped_exponent s (length (digits_of s) - end))) → ReadsNumber negative bytes (Err ExponentRange)
reads_far negative bytes s token start end digits ends short far =
    let v = between (digits_of s) start end in
    let z = length (digits_of s) - end in (
      record { mantissa = signed negative v; exponent = stripped_exponent s z },
      writes negative bytes s token v z (stripped_exponent s z) (between_value (digits_of s) start end ends) refl,
      stripped negative v (stripped_exponent s z) (between_stripped (digits_of s) start end digits ends),
      rw size_signed short,
      far,
    )

pub decimal_from_stripped : (b : Bool) (v : ℕ) (e : ℤ) → v < 10 ^ 36 → v % 10 ≢ 0 → IsInRange e
    → IsDecimal (record { mantissa = signed b v; exponent = e })
decimal_from_stripped b v e short some range = record {
  digits = rw size_signed short;
  range = range;
  stripped = λ h. absurd (some (sym (ap (λ n. n % 10) (size_signed b v)) ∙ h));
}

pub decimal_between : (negative : Bool) (s : Spelling) (start end v : ℕ) (e : ℤ) → are_digits (digits_of s) ≡ true
    → AreEnds (digits_of s) start end → v ≡ between (digits_of s) start end → v < 10 ^ 36 → IsInRange e
    → IsDecimal (record { mantissa = signed negative v; exponent = e })
decimal_between negative s start end v e digits ends is short range =
    decimal_from_stripped negative v e short
    (subst (λ (n : ℕ). n % 10 ≢ 0) (sym is) (between_stripped (digits_of s) start end digits ends)) range

pub reads_decimal : (negative : Bool) (bytes : List ℕ) (s : Spelling) → IsNumberToken bytes s
    → (start end v : ℕ) (e : ℤ) → are_digits (digits_of s) ≡ true → AreEnds (digits_of s) start end
    → v ≡ between (digits_of s) start end → v < 10 ^ 36 → e ≡ stripped_exponent s (length (digits_of s) - end)
    → IsInRange e → ReadsNumber negative bytes (Ok (record { mantissa = signed negative v; exponent = e }))
reads_decimal negative bytes s token start end v e digits ends is short at range =
    let z = length (digits_of s) - end in (
      writes negative bytes s token v z e (between_value (digits_of s) start end ends ∙ ap (λ n. n * 10 ^ z) (sym is))
          at,
      decimal_between negative s start end v e digits ends is short range,
    )

pub stripped_exponent_at : (s : Spelling) (f k end : ℕ) → f ≡ length (drop 1 s.fraction) → k ≡ length (digits_of s)
    → power_of (drop 1 s.exponent) -ℤ pos f +ℤ pos (k - end) ≡ stripped_exponent s (length (digits_of s) - end)
stripped_exponent_at s f k end p q = rw (p, q) refl

-- a number that the bytes write, once the zeros at its end are taken
pub reads_stripped : (negative : Bool) (bytes : List ℕ) (n v z : ℕ) (k e : ℤ)
    → Writes negative bytes (record { mantissa = signed negative n; exponent = k }) → n ≡ v * 10 ^ z → e ≡ k +ℤ pos z
    → v % 10 ≢ 0 → v < 10 ^ 36 → IsInRange e
    → ReadsNumber negative bytes (Ok (record { mantissa = signed negative v; exponent = e }))
reads_stripped negative bytes n v z k e w is at last short range =
    let same = same_from_meet (record { mantissa = signed negative v; exponent = e })
    (record { mantissa = signed negative n; exponent = k }) z 0 (record {
      mantissas = signed-times negative v (10 ^ z) ∙ ap (signed negative) (sym is ∙ sym (mul-one n))
          ∙ sym (signed-times negative n 1);
      exponents = omega (arith, ints, at);
    }) in (
      record {
        spelling = w.spelling;
        token = w.token;
        value =
            same_trans _ _ (number_of negative w.spelling) same w.value;
      },
      decimal_from_stripped negative v e short last range,
    )

pub reads_nothing : (negative : Bool) (bytes : List ℕ) (n : ℕ) (k : ℤ)
    → Writes negative bytes (record { mantissa = signed negative n; exponent = k }) → n ≡ 0
    → ReadsNumber negative bytes (Ok (record { mantissa = pos 0; exponent = pos 0 }))
reads_nothing negative bytes n k w none =
    let same = zero_same (record { mantissa = pos 0; exponent = pos 0 })
    (record { mantissa = signed negative n; exponent = k }) refl
    (ap (signed negative) none ∙ signed_zero negative) in (
      record {
        spelling = w.spelling;
        token = w.token;
        value =
            same_trans _ _ (number_of negative w.spelling) same w.value;
      },
      zero_decimal,
    )
